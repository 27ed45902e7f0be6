-- What one happening does to each incarnation.
use Rattle.dist_world_model.proofs.Words.{◌≡◌, ℕ, ◌+◌, true, List, [], ◌∷◌, length, IfSome, slice_get, Some, None, Ok, Option, sym, refl, ap, ◌∙◌, subst}
use Rattle.dist_world_model.proofs.Words.{Creation, Setup, after_change, change, after, effect_of, step, Change, Effect, Event, applied_at, happens, life_after}
use Rattle.dist_world_model.proofs.Words.{life_after_end, new_life, reached_life, ticked_on, with_node, without_closing, AllLives, run, Conn, Life, World}
use Rattle.dist_world_model.proofs.Words.{empty, runs, Happening}
use Rattle.dist_world_model.proofs.HappeningEffects.{Act, Acted, Begins, Comes, Ends, Reaches, Reports, Resets, acts, where-applied}
use Rattle.dist_world_model.proofs.{Lookups.far, Places.at-more, Places.at-one}

-- WHAT HAPPENS TO AN INCARNATION at number t: l is what place i has afterwards
pub data Turn (ls : List Life) (t i : ℕ) (l : Life) : Type 0 where
  Stays : slice_get ls i ≡ Some l → Turn ls t i l
  Starts : (who : ℕ) → (s : Setup) → (c : Creation) → i ≡ length ls → l ≡ new_life who t s c → Turn ls t i l
  Stops : (old : Life) → slice_get ls i ≡ Some old → runs old ≡ true → l ≡ life_after_end t old → Turn ls t i l
  Links : (old : Life) → (id c : ℕ) → slice_get ls i ≡ Some old → runs old ≡ true → l ≡ reached_life id c old → Turn ls t i l
  Lives : (old : Life) → (v : Event) → (fresh : ℕ) → (f : Effect) → slice_get ls i ≡ Some old → runs old ≡ true → effect_of old.node v fresh ≡ Ok f → l ≡ life_after t v f.reply (after old.node v f) old → Turn ls t i l
  Changes : (old : Life) → (v : Change) → slice_get ls i ≡ Some old → runs old ≡ true → change old.node v ≡ Ok (after_change old.node v) → l ≡ with_node (after_change old.node v) old → Turn ls t i l

same : (ls : List Life) (t : ℕ) (i : ℕ) (l : Life) → slice_get ls i ≡ Some l → Turn ls t i l
same ls t i l h = Stays h

pub alike : (xs : List Life) (i : ℕ) (x y : Life) → slice_get xs i ≡ Some x → slice_get xs i ≡ Some y → x ≡ y
alike xs i x y h g = let e : Some x ≡ Some y = sym h ∙ g in cc

turned-by : {hap : Happening} (w : World) (ls : List Life) (cs : List Conn) → Act hap w ls cs → (i : ℕ) (l : Life) → slice_get ls i ≡ Some l → Turn w.lives w.clock i l
turned-by w ls cs (Begins who s base c fc at nm keep r is k) i l h = at-more (Turn w.lives w.clock) w.lives _ (Starts who s c refl refl) (same w.lives w.clock) i l (ap (λ xs. slice_get xs i) (sym is) ∙ h)
turned-by w ls cs (Ends j old at live is k) i l h = at-one (Turn w.lives w.clock) j _ w.lives (λ x e. Stops x e (ap runs (alike w.lives j x old e at) ∙ live) refl) (same w.lives w.clock) i l (ap (λ xs. slice_get xs i) (sym is) ∙ h)
turned-by w ls cs (Reaches j id k old far at live atf livef d n few is ks) i l h = at-one (Turn w.lives w.clock) j _ w.lives (λ x e. Links x id _ e (ap runs (alike w.lives j x old e at) ∙ live) refl) (same w.lives w.clock) i l (ap (λ xs. slice_get xs i) (sym is) ∙ h)
turned-by w ls cs (Comes side c n is k) i l h = Stays (ap (λ xs. slice_get xs i) (sym is) ∙ h)
turned-by w ls cs (Reports j old v fresh f ds fits at live ok ready is k) i l h = at-one (Turn w.lives w.clock) j _ w.lives (λ x e. Lives old v fresh f at live ok refl) (same w.lives w.clock) i l (ap (λ xs. slice_get xs i) (sym is) ∙ h)
turned-by w ls cs (Resets a j old v r at live ok is k) i l h = at-one (Turn w.lives w.clock) j _ w.lives (λ x e. Changes old v at live ok (ap (with_node (after_change old.node v)) (alike w.lives j x old e at))) (same w.lives w.clock) i l (ap (λ xs. slice_get xs i) (sym is) ∙ h)

-- WHAT A STATEMENT ABOUT ONE INCARNATION AND THE CLOCK HAS TO KEEP
pub record Keeps (P : ℕ → Life → Type 0) : Type 0 where
  pub stays : (t : ℕ) (l : Life) → P t l → P (t + 1) l
  pub begins : (t : ℕ) (who : ℕ) (s : Setup) (c : Creation) → P (t + 1) (new_life who t s c)
  pub ends : (t : ℕ) (l : Life) → runs l ≡ true → P t l → P (t + 1) (life_after_end t l)
  pub reaches : (t : ℕ) (l : Life) (id c : ℕ) → runs l ≡ true → P t l → P (t + 1) (reached_life id c l)
  pub lives : (t : ℕ) (l : Life) (v : Event) (fresh : ℕ) (f : Effect) → runs l ≡ true → effect_of l.node v fresh ≡ Ok f → P t l → P (t + 1) (life_after t v f.reply (after l.node v f) l)
  pub resets : (t : ℕ) (l : Life) (v : Change) → runs l ≡ true → change l.node v ≡ Ok (after_change l.node v) → P t l → P (t + 1) (with_node (after_change l.node v) l)

-- what each happening keeps holds after each list of them
pub kept-by-all : (I : World → Type 0) (F : Happening → Type 0)
    → ((w x : World) (h : Happening) → F h → Acted h w x → I w → I (record x { clock = x.clock + 1 }))
    → ((w : World) → I w → I (without_closing w))
    → (hs : List Happening) (w : World) → Rattle.std.specs.List.AllByRecursion F hs → I w → I (run hs w)
kept-by-all I F step clear [] w fs i = i
kept-by-all I F step clear (h ∷ hs) w fs i = kept-by-all I F step clear hs (happens w h) fs.1 (one (applied_at w h) (where-applied (Acted h (without_closing w)) w h (acts (without_closing w) h)))
  where
    one : (o : Option World) → IfSome o (Acted h (without_closing w)) → I (ticked_on w o)
    one None g = i
    one (Some x) g = let P : ℕ → Type 0 = λ k. I (record x { clock = k + 1 }) in subst P g.clock (step (without_closing w) x h fs.0 g (clear w i))

-- nothing is asked of happenings
pub all-free : (hs : List Happening) → Rattle.std.specs.List.AllByRecursion (λ h. Unit {0}) hs
all-free [] = tt
all-free (h ∷ hs) = (tt, all-free hs)

-- so it holds of each incarnation of every world
module _ (P : ℕ → Life → Type 0) (k : Keeps P) where
  turned : (ls : List Life) (t i : ℕ) (l : Life) → ((j : ℕ) (old : Life) → slice_get ls j ≡ Some old → P t old) → Turn ls t i l → P (t + 1) l
  turned ls t i l h (Stays at) = k.stays t l (h i l at)
  turned ls t i l h (Starts who s c e is) = subst (P (t + 1)) (sym is) (k.begins t who s c)
  turned ls t i l h (Stops old at live is) = subst (P (t + 1)) (sym is) (k.ends t old live (h i old at))
  turned ls t i l h (Links old id c at live is) = subst (P (t + 1)) (sym is) (k.reaches t old id c live (h i old at))
  turned ls t i l h (Lives old v fresh f at live s is) = subst (P (t + 1)) (sym is) (k.lives t old v fresh f live s (h i old at))
  turned ls t i l h (Changes old v at live ok is) = subst (P (t + 1)) (sym is) (k.resets t old v live ok (h i old at))

  pub one-step : {hap : Happening} (w x : World) → Acted hap w x → AllLives (P w.clock) w → AllLives (P (w.clock + 1)) x
  one-step w x g a i l at = turned w.lives w.clock i l a (turned-by w x.lives x.conns g.act i l at)

  pub always : (ss : List Setup) (hs : List Happening) → (let x = run hs (empty ss) in AllLives (P x.clock) x)
  always ss hs = kept-by-all (λ w. AllLives (P w.clock) w) (λ h. Unit {0}) (λ w x h u g a. let Q : ℕ → Type 0 = λ n. AllLives (P (n + 1)) x in subst Q (sym g.clock) (one-step w x g a)) (λ w a. a) hs (empty ss) (all-free hs) (λ i l at. absurd cc)
