-- WHAT IS KEPT OF EVERY WORLD.
use Rattle.dist_world_model.proofs.Words.{◌≡◌, ℕ, zero, suc, ◌+◌, ◌^◌, ◌<◌, Bool, true, false, cond, not, ◌&&◌, eqb, ◌⊎◌, List, [], ◌∷◌, ◌++◌, length, is_some}
use Rattle.dist_world_model.proofs.Words.{slice_get, Some, None, Option, option_map, sym, refl, ap, ◌∙◌, subst, inl, inr, arith, ne_eqb, false≢true}
use Rattle.dist_world_model.proofs.Words.{slice_get_within, IsNodeName, Creation, Setup, after_change, Fits, AllFit, AreSetups, bare, life_after_end, new_life}
use Rattle.dist_world_model.proofs.Words.{with_node, AllLives, at_place, first_where, NodeLaws, run, Conn, Life, World, empty, running, runs, runs_for}
use Rattle.dist_world_model.proofs.Words.{Happening}
use Rattle.dist_world_model.proofs.{AcceptedWires.notified-kept, AllWires.AreWired, AllWires.row-refl, DialledWires.reached-wired, IncarnationFacts.IsLife}
use Rattle.dist_world_model.proofs.HappeningEffects.{Act, Acted, Begins, Comes, Ends, Reaches, Reports, Resets}
use Rattle.dist_world_model.proofs.IncarnationEffects.{alike, all-free, kept-by-all, one-step}
use Rattle.dist_world_model.proofs.{LastingFacts.IsWhole, LastingFacts.whole_keeps, Lookups.decide, SentFrames.IsFit}
use Rattle.dist_world_model.proofs.Places.{at-more, at-one, eqb-self, get-more}
use Rattle.dist_world_model.proofs.WireSteps.{bare-stays, begun-wired, come-wired, shut-kept, turned-wired}
use Rattle.dist_core_setup.specs.Rules.{announced_by}

-- the incarnation has its node's name
pub record Owns (setups : List Setup) (l : Life) : Type 0 where
  pub setup : Setup
  pub there : slice_get setups l.who ≡ Some setup
  pub name : l.node.setup.name ≡ setup.name

-- ALL NUMBERS OF A LATER INCARNATION are above those of an earlier one of the same node, and only the last runs
abbrev pub InOrder : List Life → Type 0
InOrder ls = (i j : ℕ) (a b : Life) → i < j → slice_get ls i ≡ Some a → slice_get ls j ≡ Some b → a.who ≡ b.who → (n : ℕ) × (a.over ≡ Some n) × (n < b.begun)

pub record IsKept (w : World) : Type 0 where
  pub setups : AreSetups w.setups
  pub seen : AllLives (IsWhole w.clock) w
  pub fits : AllLives (λ l. IsFit l.node.setup) w
  pub owns : AllLives (Owns w.setups) w
  pub wired : AreWired w.lives w.conns
  pub order : InOrder w.lives

-- ---- what happenings leave of an incarnation

pub record SameHead (t : ℕ) (old l : Life) : Type 0 where
  pub who : l.who ≡ old.who
  pub begun : l.begun ≡ old.begun
  pub setup : bare l.node.setup ≡ bare old.node.setup
  pub over : (l.over ≡ old.over) ⊎ (old.over ≡ None)

abbrev Heads : ℕ → List Life → List Life → Type 0
Heads t ls xs = (i : ℕ) (l : Life) → slice_get xs i ≡ Some l → (old : Life) × (slice_get ls i ≡ Some old) × SameHead t old l

head-refl : (t : ℕ) (l : Life) → SameHead t l l
head-refl t l = record { who = refl; begun = refl; setup = refl; over = inl refl }

heads-at : (t i : ℕ) (g : Life → Life) (ls : List Life) → ((l : Life) → slice_get ls i ≡ Some l → SameHead t l (g l)) → Heads t ls (at_place i g ls)
heads-at t i g ls h = at-one (λ j l. (old : Life) × (slice_get ls j ≡ Some old) × SameHead t old l) i g ls (λ l at. (l, at, h l at)) (λ j l at. (l, at, head-refl t l))

runs-none : (l : Life) → runs l ≡ true → l.over ≡ None
runs-none l h = by l.over h
  where
    by : (o : Option ℕ) → not (is_some o) ≡ true → o ≡ None
    by None e = refl
    by (Some n) e = absurd cc

-- whether a setup is fit says nothing of cookies and allow list
fit-same : (s r : Setup) → bare r ≡ bare s → IsFit s → IsFit r
unfolding announced_by
fit-same s r e f = record {
  name = subst IsNodeName (sym (ap (λ (z : Setup). z.name) e)) f.name;
  flags = subst (λ n. n < 2 ^ 64) (sym (ap announced_by e)) f.flags;
  creation = subst (λ (c : Creation). c.0 < 2 ^ 32) (sym (ap (λ (z : Setup). z.creation) e)) f.creation;
}

heads-fit : (t : ℕ) (ls xs : List Life) → Heads t ls xs → ((i : ℕ) (l : Life) → slice_get ls i ≡ Some l → IsFit l.node.setup) → (i : ℕ) (l : Life) → slice_get xs i ≡ Some l → IsFit l.node.setup
heads-fit t ls xs h f i l at = let g = h i l at in let s = g.2 in fit-same g.0.node.setup l.node.setup s.setup (f i g.0 g.1)

heads-own : (t : ℕ) (ss : List Setup) (ls xs : List Life) → Heads t ls xs → ((i : ℕ) (l : Life) → slice_get ls i ≡ Some l → Owns ss l) → (i : ℕ) (l : Life) → slice_get xs i ≡ Some l → Owns ss l
heads-own t ss ls xs h f i l at =
    let g = h i l at in let s = g.2 in let o = f i g.0 g.1 in
    record { setup = o.setup; there = ap (slice_get ss) s.who ∙ o.there; name = ap (λ (z : Setup). z.name) s.setup ∙ o.name }

heads-order : (t : ℕ) (ls xs : List Life) → Heads t ls xs → InOrder ls → InOrder xs
heads-order t ls xs h o i j a b lt ax bx same =
    let ga = h i a ax in let sa = ga.2 in
    let gb = h j b bx in let sb = gb.2 in
    let g = o i j ga.0 gb.0 lt ga.1 gb.1 (sym sa.who ∙ same ∙ sb.who) in
    (g.0, by g.0 sa.over g.1, subst (λ k. g.0 < k) (sym sb.begun) g.2)
  where
    by : (n : ℕ) → (a.over ≡ (h i a ax).0.over) ⊎ ((h i a ax).0.over ≡ None) → (h i a ax).0.over ≡ Some n → a.over ≡ Some n
    by n (inl e) q = e ∙ q
    by n (inr e) q = absurd (let z : None ≡ Some n = sym e ∙ q in cc)

-- ---- a node begins

map-none : (o : Option ℕ) → option_map suc o ≡ None → o ≡ None
map-none None e = refl
map-none (Some k) e = absurd cc

none-passes : {A : Type 0} (test : A → Bool) (xs : List A) → first_where test xs ≡ None → (i : ℕ) (x : A) → slice_get xs i ≡ Some x → test x ≡ false
none-passes test [] h i x at = absurd cc
none-passes test (y ∷ xs) h zero x at =
    elim (test y) as (λ b. test y ≡ b → cond b (Some 0) (option_map suc (first_where test xs)) ≡ None → test x ≡ false) [
      | true ↦ λ b e. absurd cc
      | false ↦ λ b e. let z : y ≡ x = cc in ap test (sym z) ∙ b
    ] refl h
none-passes test (y ∷ xs) h (suc i) x at =
    elim (test y) as (λ b. cond b (Some 0) (option_map suc (first_where test xs)) ≡ None → test x ≡ false) [
      | true ↦ λ e. absurd cc
      | false ↦ λ e. none-passes test xs (map-none (first_where test xs) e) i x at
    ] h

over-of : (l : Life) (a : ℕ) → l.who ≡ a → runs_for a l ≡ false → (n : ℕ) × (l.over ≡ Some n)
over-of l a e h = by l.over refl
  where
    by : (o : Option ℕ) → l.over ≡ o → (n : ℕ) × (l.over ≡ Some n)
    by (Some n) q = (n, q)
    by None q = absurd (false≢true (sym h ∙ (λ i. eqb (e i) a && not (is_some (q i))) ∙ ap (λ b. b && true) (eqb-self a)))

-- ---- the order of incarnations

-- an incarnation is as it was, but for what a happening changes of it, or begins
pub data Heading (hap : Happening) (w : World) (ls : List Life) : Type 0 where
  One_more : (who : ℕ) → (s base : Setup) → (c : Creation) → (Fits hap → c.0 < 2 ^ 32) → slice_get w.setups who ≡ Some base → s.name ≡ base.name → running w who ≡ None → ls ≡ w.lives ++ new_life who w.clock s c ∷ [] → Heading hap w ls
  All_there : Heads w.clock w.lives ls → Heading hap w ls

heading : (hap : Happening) (w : World) (ls : List Life) (cs : List Conn) → Act hap w ls cs → Heading hap w ls
heading hap w ls cs act = by act
  where
    at : (i : ℕ) (g : Life → Life) → ls ≡ at_place i g w.lives → ((l : Life) → slice_get w.lives i ≡ Some l → SameHead w.clock l (g l)) → Heading hap w ls
    at i g is h = All_there (subst (Heads w.clock w.lives) (sym is) (heads-at w.clock i g w.lives h))

    by : Act hap w ls cs → Heading hap w ls
    by (Begins who s base c fc at nm keep none is k) = One_more who s base c fc at nm none is
    by (Ends i old there live is k) = at i _ is (λ l e. record { who = refl; begun = refl; setup = refl; over = inr (runs-none l (ap runs (alike w.lives i l old e there) ∙ live)) })
    by (Reaches i id j old away there live ata livea d n few is k) = at i _ is (λ l e. record { who = refl; begun = refl; setup = refl; over = inl refl })
    by (Comes side c n is k) = All_there (subst (Heads w.clock w.lives) (sym is) (λ i l there. (l, there, head-refl w.clock l)))
    by (Reports i old v fresh f ds fits there live ok ready is k) = at i _ is (λ l e. let z = alike w.lives i old l there e in record { who = ap (λ (l : Life). l.who) z; begun = ap (λ (l : Life). l.begun) z; setup = ap (λ (l : Life). bare l.node.setup) z; over = inl (ap (λ (l : Life). l.over) z) })
    by (Resets a i old v r there live ok is k) = at i _ is (λ l e. record { who = refl; begun = refl; setup = bare-stays old.node.setup v ∙ ap (λ (l : Life). bare l.node.setup) (alike w.lives i old l there e); over = inl refl })

module _ (w : World) (seen : AllLives (IsWhole w.clock) w) (order : InOrder w.lives) where
  begun-order : (who : ℕ) (s : Setup) (c : Creation) → running w who ≡ None → InOrder (w.lives ++ new_life who w.clock s c ∷ [])
  begun-order who s c none i j a b lt ax bx same =
      decide ((n : ℕ) × (a.over ≡ Some n) × (n < b.begun)) (length w.lives) j
      (λ q.
      let ao = earlier i a (omega (arith, q, lt)) ax in
      let z : Some (new_life who w.clock s c) ≡ Some b = sym (last j q) ∙ bx in
      let y : new_life who w.clock s c ≡ b = cc in
      let o = over-of a who (same ∙ ap (λ (l : Life). l.who) (sym y)) (none-passes (runs_for who) w.lives none i a ao) in
      let g = seen i a ao in
      let v = g.1.over o.0 o.1 in
      (o.0, o.1, subst (λ k. o.0 < k) (ap (λ (l : Life). l.begun) y) v.0))
      (λ n.
      let bo : slice_get w.lives j ≡ Some b = ap (λ t. cond t (Some (new_life who w.clock s c)) (slice_get w.lives j)) (sym (ne_eqb (length w.lives) j n)) ∙ sym (get-more w.lives (new_life who w.clock s c) j) ∙ bx in
      let k = slice_get_within w.lives j b bo in
      order i j a b lt (earlier i a (omega (arith, k, lt)) ax) bo same)
    where
      earlier : (i : ℕ) (a : Life) → i < length w.lives → slice_get (w.lives ++ new_life who w.clock s c ∷ []) i ≡ Some a → slice_get w.lives i ≡ Some a
      earlier i a lt ax = ap (λ t. cond t (Some (new_life who w.clock s c)) (slice_get w.lives i)) (sym (ne_eqb (length w.lives) i (λ e. absurd (omega (arith, lt, e))))) ∙ sym (get-more w.lives (new_life who w.clock s c) i) ∙ ax

      last : (j : ℕ) → length w.lives ≡ j → slice_get (w.lives ++ new_life who w.clock s c ∷ []) j ≡ Some (new_life who w.clock s c)
      last j e = get-more w.lives (new_life who w.clock s c) j ∙ ap (λ t. cond t (Some (new_life who w.clock s c)) (slice_get w.lives j)) (ap (eqb (length w.lives)) (sym e) ∙ eqb-self (length w.lives))

  order-after : {hap : Happening} (ls : List Life) → Heading hap w ls → InOrder ls
  order-after ls (One_more who s base c fc at nm none is) = subst InOrder (sym is) (begun-order who s c none)
  order-after ls (All_there h) = heads-order w.clock w.lives ls h order

-- in every world, whatever its setups and numbers
pub record IsTimely (w : World) : Type 0 where
  pub seen : AllLives (IsWhole w.clock) w
  pub order : InOrder w.lives

module _ (laws : NodeLaws) where
  seen-after : {hap : Happening} (w x : World) → Acted hap w x → AllLives (IsWhole w.clock) w → AllLives (IsWhole (x.clock + 1)) x
  seen-after w x a h = let Q : ℕ → Type 0 = λ n. AllLives (IsWhole (n + 1)) x in subst Q (sym a.clock) (one-step IsWhole (whole_keeps laws) w x a h)

  pub timely : (ss : List Setup) (hs : List Happening) → IsTimely (run hs (empty ss))
  timely ss hs = kept-by-all IsTimely (λ h. Unit {0}) (λ w x h u a k. record { seen = seen-after w x a k.seen; order = order-after w k.seen k.order x.lives (heading h w x.lives x.conns a.act) }) (λ w k. record { seen = k.seen; order = k.order }) hs (empty ss) (all-free hs) (record { seen = λ i l at. absurd cc; order = λ i j a b lt at. absurd cc })

  -- ---- EVERY HAPPENING KEEPS IT

  module _ (hap : Happening) (w : World) (known : Fits hap) (h : IsKept w) where
    lives : (i : ℕ) (l : Life) → slice_get w.lives i ≡ Some l → IsLife w.clock l
    lives i l at = let s = h.seen i l at in s.0

    owned : (ls : List Life) → Heading hap w ls → (i : ℕ) (l : Life) → slice_get ls i ≡ Some l → IsFit l.node.setup × Owns w.setups l
    owned ls (All_there g) i l at = (heads-fit w.clock w.lives ls g h.fits i l at, heads-own w.clock w.setups w.lives ls g h.owns i l at)
    owned ls (One_more who s base c fc at nm none is) i l al =
        at-more (λ i l. IsFit l.node.setup × Owns w.setups l) w.lives (new_life who w.clock s c)
        (let k = h.setups in let g = k.each who base at in (record { name = subst IsNodeName (sym nm) g.name; flags = laws.sayings.announced (record s { creation = c }); creation = fc known }, record { setup = base; there = at; name = nm }))
        (λ i l al. (h.fits i l al, h.owns i l al)) i l (ap (λ xs. slice_get xs i) (sym is) ∙ al)

    wired : (ls : List Life) (cs : List Conn) → Act hap w ls cs → AreWired ls cs
    wired ls cs act = by act
      where
        to : (xs : List Life) (ds : List Conn) → ls ≡ xs → cs ≡ ds → AreWired xs ds → AreWired ls cs
        to xs ds e d k = let P : List Life → List Conn → Type 0 = λ x y. AreWired x y in subst (λ x. P x cs) (sym e) (subst (P xs) (sym d) k)

        by : Act hap w ls cs → AreWired ls cs
        by (Begins who s base c fc at nm keep none is k) = to _ _ is k (begun-wired w.lives (new_life who w.clock s c) refl refl w.conns h.wired)
        by (Ends i old at live is k) = to _ _ is k (turned-wired i (life_after_end w.clock) w.lives old at refl refl (shut-kept w.clock old.rows) w.conns h.wired)
        by (Reaches i id j old away at live ata livea dialing free few is k) = let l = lives i old at in to _ _ is k (reached-wired i id j w.lives w.conns old away at ata (l.beside live) dialing free few h.wired)
        by (Comes side c n is k) = to _ _ is k (come-wired side c n w.lives w.conns h.wired)
        by (Reports i old v fresh f ds fits at live ok ready is k) =
            to _ _ is k (notified-kept laws (record { w = w; lives = lives; fit = h.fits; wired = h.wired; i = i; old = old; v = v; fresh = fresh; f = f; small = fits known; at = at; live = live; ok = ok }) ds ready)
        by (Resets a i old v r at live ok is k) = to _ _ is k (turned-wired i (with_node (after_change old.node v)) w.lives old at (bare-stays old.node.setup v) refl (λ p. row-refl (slice_get old.rows p)) w.conns h.wired)

    pub happening-keeps : (x : World) → Acted hap w x → IsKept (record x { clock = x.clock + 1 })
    happening-keeps x a =
        let hd = heading hap w x.lives x.conns a.act in
        record {
          setups = subst AreSetups (sym a.setups) h.setups;
          seen = seen-after w x a h.seen;
          fits = λ i l at. (owned x.lives hd i l at).0;
          owns = λ i l at. (let o = owned x.lives hd i l at in subst (λ ss. Owns ss l) (sym a.setups) o.1);
          wired = wired x.lives x.conns a.act;
          order = order-after w h.seen h.order x.lives hd;
        }

pub kept-empty : (ss : List Setup) → AreSetups ss → IsKept (empty ss)
kept-empty ss h = record {
  setups = h;
  seen = λ i l at. absurd cc;
  fits = λ i l at. absurd cc;
  owns = λ i l at. absurd cc;
  wired = (record { dialled = λ c k at. absurd cc; target = λ c k at. absurd cc; accepted = λ c y k at. absurd cc; only = λ i p c x at. absurd cc; behind = λ c k at. absurd cc }, λ c k at. absurd cc);
  order = λ i j a b lt at. absurd cc;
}

module _ (laws : NodeLaws) where
  -- EVERY WORLD IS KEPT
  pub kept : (ss : List Setup) (hs : List Happening) → AreSetups ss → AllFit hs → IsKept (run hs (empty ss))
  kept ss hs h f = kept-by-all IsKept Fits (λ w x h g a k. (happening-keeps laws) h w g k x a) (λ w k. record { setups = k.setups; seen = k.seen; fits = k.fits; owns = k.owns; wired = k.wired; order = k.order }) hs (empty ss) f (kept-empty ss h)
