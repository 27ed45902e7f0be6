-- Each incarnation has the setup with which it began, with the changes of its own resets.
use Rattle.dist_world_model.proofs.Words.{◌≡◌, ℕ, Bool, true, false, cond, eqb, List, [], ◌∷◌, ◌++◌, is_some, IfSome, slice_get, Some, None, Ok, Err, Option}
use Rattle.dist_world_model.proofs.Words.{option_map, sym, refl, ap, ◌∙◌, subst, eqb-true, Creation, names, same_bytes, Setup, after_change, change}
use Rattle.dist_world_model.proofs.Words.{finds_no_room, is_in_use, setup_after, NodeState, opening, after, Change, applied_at, happens, life_after}
use Rattle.dist_world_model.proofs.Words.{life_after_end, new_life, reached_life, ticked_on, with_node, without_closing, world_after, AllLives, at_place}
use Rattle.dist_world_model.proofs.Words.{NodeLaws, run, Conn, Life, World, empty, running, Happening, ◌⊎◌, inl, inr, AllByRecursion, bare}
use Rattle.dist_world_model.proofs.Words.{◌&&◌, ◌+◌, ◌≤◌, arith}
use Rattle.dist_world_model.proofs.{Conditions.if_ok, Conditions.if_there, Digests.digest_lives, Lookups.changed-at, Lookups.more-at, Places.eqb-self, Places.get-place}
use Rattle.dist_world_model.proofs.HappeningEffects.{Act, Acted, Begins, Comes, Ends, Reaches, Reports, Resets, acts, change-ok, is-running, where-applied}
use Rattle.dist_world_model.proofs.WireSteps.{bare-stays}
use Rattle.dist_core_setup.specs.Rules.{own_digest}
use Rattle.dist_core.specs.declared.changing.Change.TheVariants as changes
use Rattle.dist_core.specs.declared.changing.ChangeError.TheVariants as change_error
use Rattle.dist_world_model.specs.OwnSetups.{changes_at, setup_by, AreAsBegun, AreNoResets, BeginsWith, HasBegunSetup, HasSetDigests, IsNoReset, IsSetUp}
use Rattle.dist_world_model.specs.OwnSetups.{applied_as, change_by, is_place}
use Rattle.dist_world_model.specs.declared.happening.Happening.TheVariants as happening

-- ---- changes, one after another

by-append : (vs ws : List Change) (s : Setup) → setup_by (vs ++ ws) s ≡ setup_by ws (setup_by vs s)
by-append [] ws s = refl
by-append (v ∷ vs) ws s = by-append vs ws (setup_after s v)

-- changes leave all but the cookies and the list
bare-by : (vs : List Change) (s : Setup) → bare (setup_by vs s) ≡ bare s
bare-by [] s = refl
bare-by (v ∷ vs) s = bare-by vs (setup_after s v) ∙ bare-stays s v

pub name-by : (vs : List Change) (s : Setup) → (setup_by vs s).name ≡ s.name
name-by vs s = ap (λ (r : Setup). r.name) (bare-by vs s)

-- each of these changes, in turn, finds room in the setup
abbrev pub AllFindRoom : List Change → Setup → Type 0
AllFindRoom [] s = Unit {0}
AllFindRoom (v ∷ vs) s = (finds_no_room (opening s) v ≡ false) × AllFindRoom vs (setup_after s v)

-- t is s after these changes, each of which finds room
abbrev pub Makes : List Change → Setup → Setup → Type 0
Makes vs s t = (t ≡ setup_by vs s) × AllFindRoom vs s

makes-none : (s : Setup) → Makes [] s s
makes-none s = (refl, tt)

rooms-both : (vs ws : List Change) (s : Setup) → AllFindRoom vs s → AllFindRoom ws (setup_by vs s) → AllFindRoom (vs ++ ws) s
rooms-both [] ws s a b = b
rooms-both (v ∷ vs) ws s a b = (a.0, rooms-both vs ws (setup_after s v) a.1 b)

makes-both : (vs ws : List Change) (s u t : Setup) → Makes vs s u → Makes ws u t → Makes (vs ++ ws) s t
makes-both vs ws s u t a b = (b.0 ∙ ap (setup_by ws) a.0 ∙ sym (by-append vs ws s), rooms-both vs ws s a.1 (subst (AllFindRoom ws) a.0 b.1))

-- whether a change finds room is a matter of the setup
room-of : (n : NodeState) (v : Change) → finds_no_room n v ≡ finds_no_room (opening n.setup) v
room-of n (changes.Cookie p own) = refl
room-of n (changes.UsualCookie cookie) = refl
room-of n (changes.Allow names) = refl

found-room : (n : NodeState) (v : Change) (m : NodeState) → change n v ≡ Ok m → finds_no_room n v ≡ false
found-room n v m e = by (is_in_use n v) (finds_no_room n v) e
  where
    by : (b c : Bool) → cond b (Err change_error.InUse) (cond c (Err change_error.Full) (Ok (after_change n v))) ≡ Ok m → c ≡ false
    by true c e = absurd cc
    by false true e = absurd cc
    by false false e = refl

-- it is no reset
abbrev ResetsNone : Happening → Type 0
ResetsNone (happening.Reset a v) = ⊥
ResetsNone h = Unit {0}

-- ---- with which setup an incarnation goes on, or begins

-- one of this node that began as number t and goes on with this setup, or that begins with it, where P says so
abbrev Starts : (ℕ → ℕ → Setup → Type 0) → Option Life → ℕ → ℕ → Setup → Type 0
Starts P None t who s = P t who s
Starts P (Some l) t who s = (l.begun ≡ t) × (l.who ≡ who) × (l.node.setup ≡ s)

-- whoever goes on so afterwards did before, or begins so
abbrev Goes : (ℕ → ℕ → Setup → Type 0) → Option Life → Option Life → Type 0
Goes P o u = (t who : ℕ) (s : Setup) → Starts P u t who s → Starts P o t who s

-- a happening with this number begins nodes so
abbrev Opens : List Setup → (ℕ → ℕ → Setup → Type 0) → Happening → ℕ → Type 0
Opens ss P h t =
    (who : ℕ) (s base : Setup) (c : Creation) → slice_get ss who ≡ Some base → s.name ≡ base.name
    → ((h ≡ happening.Begin who c) × (s ≡ base)) ⊎ ((h ≡ happening.BeginAs who s) × (c ≡ s.creation)) → P t who (record s { creation = c })

module _ (ss : List Setup) (P : ℕ → ℕ → Setup → Type 0) where
  goes-refl : (o : Option Life) → Goes P o o
  goes-refl o t who s h = h

  abbrev AllGo : List Life → List Life → Type 0
  AllGo ls xs = (i : ℕ) → Goes P (slice_get ls i) (slice_get xs i)

  go-at : (j : ℕ) (g : Life → Life) (ls : List Life) (old : Life) → slice_get ls j ≡ Some old → Goes P (Some old) (Some (g old)) → AllGo ls (at_place j g ls)
  go-at j g ls old at h i = changed-at (λ (o : Option Life). o) (Goes P) goes-refl j g ls old at i (λ e. h)

  -- no reset changes a setup
  module _ (h : Happening) (plain : ResetsNone h) (w : World) (opens : Opens ss P h w.clock) (own : w.setups ≡ ss) where
    not-reset : {A : Type 0} (a : ℕ) (v : Change) → h ≡ happening.Reset a v → A
    not-reset a v e = absurd (subst ResetsNone e plain)

    go-on : (ls : List Life) (cs : List Conn) → Act h w ls cs → AllGo w.lives ls
    go-on ls cs (Begins who s base c fc at nm keep none is k) =
        let so : P w.clock who (record s { creation = c }) = opens who s base c (ap (λ xs. slice_get xs who) (sym own) ∙ at) nm keep in
        subst (AllGo w.lives) (sym is) (more-at (λ (o : Option Life). o) (Goes P) goes-refl w.lives (new_life who w.clock s c)
        (λ t a r g. subst (λ n. P n a r) g.0 (subst (λ n. P w.clock n r) g.1 (subst (P w.clock who) g.2 so))))
    go-on ls cs (Ends i old at live is k) = subst (AllGo w.lives) (sym is) (go-at i (life_after_end w.clock) w.lives old at (λ t who s g. g))
    go-on ls cs (Reaches i id j old away at live ata livea d n few is k) = subst (AllGo w.lives) (sym is) (go-at i (reached_life id _) w.lives old at (λ t who s g. g))
    go-on ls cs (Comes side c n is k) = subst (AllGo w.lives) (sym is) (λ i. goes-refl (slice_get w.lives i))
    go-on ls cs (Reports i old v fresh f ds fits at live ok ready is k) =
        subst (AllGo w.lives) (sym is) (go-at i (λ l. life_after w.clock v f.reply (after old.node v f) old) w.lives old at (λ t who s g. g))
    go-on ls cs (Resets a i old v r at live ok is k) = not-reset a v r

  -- ---- one happening

  -- what an incarnation goes on with after a happening is what it went on with before, and the happening's own change
  abbrev Changed : World → Happening → World → Type 0
  Changed w h x =
      (i t who : ℕ) (r : Setup) → Starts P (slice_get x.lives i) t who r → (s : Setup) × Starts P (slice_get w.lives i) t who s × Makes (change_by w h i) s r

  plainly : (w : World) (h : Happening) → w.setups ≡ ss → ResetsNone h → Opens ss P h w.clock → ((i : ℕ) → change_by w h i ≡ []) → IfSome (world_after w h) (Changed w h)
  plainly w h own plain opens none = by (world_after w h) (acts w h)
    where
      by : (o : Option World) → IfSome o (Acted h w) → IfSome o (Changed w h)
      by None g = tt
      by (Some x) g = λ i t who r st. (r, go-on h plain w opens own x.lives x.conns g.act i t who r st, subst (λ vs. Makes vs r r) (sym (none i)) (makes-none r))

  -- a reset changes the setup of its node's incarnation
  module _ (w : World) (v : Change) (j : ℕ) (l : Life) (at : slice_get w.lives j ≡ Some l) (n : NodeState) (ok : change l.node v ≡ Ok n) where
    reset-at : (i : ℕ) (b : Bool) → eqb j i ≡ b → (t who : ℕ) (r : Setup) → Starts P (cond b (option_map (with_node n) (slice_get w.lives i)) (slice_get w.lives i)) t who r
        → (s : Setup) × Starts P (slice_get w.lives i) t who s × Makes (cond b (v ∷ []) []) s r
    reset-at i false e t who r st = (r, st, makes-none r)
    reset-at i true e t who r st =
        let here : slice_get w.lives i ≡ Some l = ap (slice_get w.lives) (sym (eqb-true j i e)) ∙ at in
        let now : (l.begun ≡ t) × (l.who ≡ who) × (n.setup ≡ r) = subst (λ (o : Option Life). Starts P (option_map (with_node n) o) t who r) here st in
        let old : NodeState = l.node in
        let is : n ≡ after_change old v = change-ok old v n ok in (
          old.setup,
          subst (λ (o : Option Life). Starts P o t who old.setup) (sym here) (now.0, now.1, refl),
          (sym now.2 ∙ ap (λ (m : NodeState). m.setup) is, (sym (room-of old v) ∙ found-room old v n ok, tt)),
        )

  changed : (w : World) (h : Happening) → w.setups ≡ ss → Opens ss P h w.clock → IfSome (world_after w h) (Changed w h)
  changed w (happening.Reset a v) own opens =
      let Q = Changed w (happening.Reset a v) in
      if_there Q (running w a) _ (λ j e.
      if_there Q (slice_get w.lives j) _ (λ l at.
      if_ok Q (change l.node v) _ (λ n is. λ i t who r st.
      let g = reset-at w v j l at n is i (eqb j i) refl t who r (subst (λ (o : Option Life). Starts P o t who r) (get-place j (with_node n) w.lives i) st) in
      (g.0, g.1, subst (λ o. Makes (cond (is_place o i) (v ∷ []) []) g.0 r) (sym e) g.2))))
  changed w h own opens = plainly w h own tt opens (λ i. refl)

  -- what is not known of the last step changes nothing
  unclosed : (w : World) (h : Happening) (i : ℕ) → change_by (without_closing w) h i ≡ change_by w h i
  unclosed w (happening.Reset a v) i = refl
  unclosed w h i = refl

  one-more : (w : World) (h : Happening) → w.setups ≡ ss → (is_some (applied_at w h) ≡ true → Opens ss P h w.clock) → (i t who : ℕ) (r : Setup) → Starts P (slice_get (happens w h).lives i) t who r
      → (s : Setup) × Starts P (slice_get w.lives i) t who s × Makes (cond (is_some (applied_at w h)) (change_by w h i) []) s r
  one-more w h own opens i t who r = by (applied_at w h) refl
    where
      by : (o : Option World) → applied_at w h ≡ o → Starts P (slice_get (ticked_on w o).lives i) t who r
          → (s : Setup) × Starts P (slice_get w.lives i) t who s × Makes (cond (is_some o) (change_by w h i) []) s r
      by None e st = (r, st, makes-none r)
      by (Some x) e st =
          let all = where-applied (Changed (without_closing w) h) w h (changed (without_closing w) h own (opens (ap is_some e))) in
          let g : Changed (without_closing w) h x = subst (λ o. IfSome o (Changed (without_closing w) h)) e all in
          let c = g i t who r st in
          (c.0, c.1, subst (λ vs. Makes vs c.0 r) (unclosed w h i) c.2)

-- the setups of the nodes stay
pub setups-stay : (w : World) (h : Happening) → (happens w h).setups ≡ w.setups
setups-stay w h = by (applied_at w h) (where-applied (Acted h (without_closing w)) w h (acts (without_closing w) h))
  where
    by : (o : Option World) → IfSome o (Acted h (without_closing w)) → (ticked_on w o).setups ≡ w.setups
    by None g = refl
    by (Some x) g = g.setups

pub run-setups : (hs : List Happening) (w : World) → (run hs w).setups ≡ w.setups
run-setups [] w = refl
run-setups (h ∷ hs) w = run-setups hs (happens w h) ∙ setups-stay w h

-- ---- which happening applied as which number

clock-after : (w : World) (h : Happening) → w.clock ≤ (happens w h).clock
clock-after w h = by (applied_at w h)
  where
    by : (o : Option World) → w.clock ≤ (ticked_on w o).clock
    by None = omega arith
    by (Some x) = omega arith

applied-late : (hs : List Happening) (w : World) (t : ℕ) (x : Happening) → applied_as hs w t ≡ Some x → w.clock ≤ t
applied-late [] w t x e = absurd cc
applied-late (h ∷ hs) w t x e = by (λ k. applied-late hs (happens w h) t x k) (is_some (applied_at w h)) (eqb w.clock t) refl e
  where
    by : (applied_as hs (happens w h) t ≡ Some x → (happens w h).clock ≤ t) → (a b : Bool) → eqb w.clock t ≡ b → cond (a && b) (Some h) (applied_as hs (happens w h) t) ≡ Some x → w.clock ≤ t
    by behind true true is k = let q = eqb-true w.clock t is in omega (arith, q)
    by behind true false is k = let a = clock-after w h in let b = behind k in omega (arith, a, b)
    by behind false b is k = let a = clock-after w h in let b = behind k in omega (arith, a, b)

-- what is asked of all happenings is asked of that
pub applied-kind : (F : Happening → Type 0) (hs : List Happening) (w : World) (t : ℕ) (x : Happening) → AllByRecursion F hs → applied_as hs w t ≡ Some x → F x
applied-kind F [] w t x f e = absurd cc
applied-kind F (h ∷ hs) w t x f e = by (λ k. applied-kind F hs (happens w h) t x f.1 k) (is_some (applied_at w h) && eqb w.clock t) e
  where
    by : (applied_as hs (happens w h) t ≡ Some x → F x) → (b : Bool) → cond b (Some h) (applied_as hs (happens w h) t) ≡ Some x → F x
    by behind true k = let same : h ≡ x = cc in subst F same f.0
    by behind false k = behind k

applied-first : (h : Happening) (hs : List Happening) (w : World) → is_some (applied_at w h) ≡ true → applied_as (h ∷ hs) w w.clock ≡ Some h
applied-first h hs w e = λ i. cond (e i && eqb-self w.clock i) (Some h) (applied_as hs (happens w h) w.clock)

applied-then : (h : Happening) (hs : List Happening) (w : World) (t : ℕ) (x : Happening) → applied_as hs (happens w h) t ≡ Some x → applied_as (h ∷ hs) w t ≡ Some x
applied-then h hs w t x e = by (applied_at w h) refl (eqb w.clock t) refl
  where
    by : (o : Option World) → applied_at w h ≡ o → (b : Bool) → eqb w.clock t ≡ b → cond (is_some o && b) (Some h) (applied_as hs (happens w h) t) ≡ Some x
    by None q b is = e
    by (Some y) q false is = e
    by (Some y) q true is =
        let late : (happens w h).clock ≤ t = applied-late hs (happens w h) t x e in
        let next : (happens w h).clock ≡ w.clock + 1 = ap (λ (o : Option World). (ticked_on w o).clock) q in
        let now : w.clock ≡ t = eqb-true w.clock t is in
        absurd (omega (arith, late, next, now))

-- ---- all happenings

module _ (ss : List Setup) (all : List Happening) where
  abbrev Began : ℕ → ℕ → Setup → Type 0
  Began t who s = BeginsWith ss (applied_as all (empty ss) t) who s

  opens-so : (h : Happening) (t : ℕ) → applied_as all (empty ss) t ≡ Some h → Opens ss Began h t
  opens-so h t is who s base c at nm (inl how) = (base, at, inl (c, is ∙ ap Some how.0, ap (λ (r : Setup). record r { creation = c }) how.1))
  opens-so h t is who s base c at nm (inr how) =
      let same : s ≡ record s { creation = c } = ap (λ (d : Creation). record s { creation = d }) (sym how.1) in
      (base, at, inr (is ∙ ap Some how.0 ∙ ap (λ (r : Setup). Some (happening.BeginAs who r)) same, nm))

  all-changed : (hs : List Happening) (w : World) → w.setups ≡ ss → ((t : ℕ) (x : Happening) → applied_as hs w t ≡ Some x → applied_as all (empty ss) t ≡ Some x)
      → (i t who : ℕ) (r : Setup) → Starts Began (slice_get (run hs w).lives i) t who r → (s : Setup) × Starts Began (slice_get w.lives i) t who s × Makes (changes_at hs w i) s r
  all-changed [] w own known i t who r st = (r, st, makes-none r)
  all-changed (h ∷ hs) w own known i t who r st =
      let later = all-changed hs (happens w h) (setups-stay w h ∙ own) (λ t x e. known t x (applied-then h hs w t x e)) i t who r st in
      let first = one-more ss Began w h own (λ e. opens-so h w.clock (known w.clock h (applied-first h hs w e))) i t who later.0 later.1 in
      (first.0, first.1, makes-both (cond (is_some (applied_at w h)) (change_by w h i) []) (changes_at hs (happens w h) i) first.0 later.0 r first.2 later.2)

module _ (ss : List Setup) where
  -- that with which it began, and what was made of it
  pub began-with : (hs : List Happening) (i : ℕ) (l : Life) → slice_get (let x = run hs (empty ss) in x.lives) i ≡ Some l
      → (s : Setup) × BeginsWith ss (applied_as hs (empty ss) l.begun) l.who s × Makes (changes_at hs (empty ss) i) s l.node.setup
  began-with hs i l at =
      all-changed ss hs hs (empty ss) refl (λ t x e. e) i l.begun l.who l.node.setup
      (subst (λ (o : Option Life). Starts (Began ss hs) o l.begun l.who l.node.setup) (sym at) (refl, refl, refl))

  pub begun-setup : (hs : List Happening) (i : ℕ) (l : Life) → slice_get (let x = run hs (empty ss) in x.lives) i ≡ Some l → HasBegunSetup ss hs (changes_at hs (empty ss) i) l
  begun-setup hs i l at = let g = began-with hs i l at in let m = g.2 in (g.0, g.1, m.0)

  -- but for the cookies and the allow list
  pub bare-begun : (hs : List Happening) (i : ℕ) (l : Life) → slice_get (let x = run hs (empty ss) in x.lives) i ≡ Some l
      → (s : Setup) × BeginsWith ss (applied_as hs (empty ss) l.begun) l.who s × (bare l.node.setup ≡ bare s)
  bare-begun hs i l at = let g = began-with hs i l at in let m = g.2 in (g.0, g.1, ap bare m.0 ∙ bare-by (changes_at hs (empty ss) i) g.0)

  -- so it is with a node that runs
  pub as-begun : (hs : List Happening) → AreAsBegun ss hs (run hs (empty ss))
  as-begun hs node place l runs-at at =
      let g = bare-begun hs place l at in
      let live = is-running (run hs (empty ss)) node place l runs-at at in
      (g.0, subst (λ n. BeginsWith ss (applied_as hs (empty ss) l.begun) n g.0) live.0 g.1, g.2)

  -- the setup has the name of its node
  pub begun-name : (o : Option Happening) (who : ℕ) (s : Setup) (g : BeginsWith ss o who s) → s.name ≡ g.0.name
  begun-name o who s (own, at, inl how) = ap (λ (r : Setup). r.name) how.2
  begun-name o who s (own, at, inr how) = how.1

  -- there is such a happening
  pub begun-by : (o : Option Happening) (who : ℕ) (s : Setup) → BeginsWith ss o who s → (h : Happening) × (o ≡ Some h)
  begun-by o who s (own, at, inl how) = (happening.Begin who how.0, how.1)
  begun-by o who s (own, at, inr how) = (happening.BeginAs who s, how.0)

  -- ---- where no setup is changed

  none-by : (w : World) (h : Happening) (i : ℕ) → IsNoReset h → change_by w h i ≡ []
  none-by w (happening.Reset a v) i plain = absurd plain
  none-by w h i plain = refl

  none-where : (o : Option World) → cond {A = List Change} (is_some o) [] [] ≡ []
  none-where None = refl
  none-where (Some x) = refl

  none-at : (hs : List Happening) (w : World) (i : ℕ) → AreNoResets hs → changes_at hs w i ≡ []
  none-at [] w i plain = refl
  none-at (h ∷ hs) w i plain =
      ap (λ vs. cond (is_some (applied_at w h)) vs [] ++ changes_at hs (happens w h) i) (none-by w h i plain.0)
      ∙ ap (λ vs. vs ++ changes_at hs (happens w h) i) (none-where (applied_at w h))
      ∙ none-at hs (happens w h) i plain.1

  pub unchanged : (hs : List Happening) → AreNoResets hs → AllLives (IsSetUp ss) (run hs (empty ss))
  unchanged hs plain i l at = let g = begun-setup hs i l at in by g.0 g.1 (g.2 ∙ ap (λ vs. setup_by vs g.0) (none-at hs (empty ss) i plain))
    where
      by : (s : Setup) → BeginsWith ss (applied_as hs (empty ss) l.begun) l.who s → l.node.setup ≡ s → IsSetUp ss l
      by s (own, there, inr how) is = absurd (applied-kind IsNoReset hs (empty ss) l.begun (happening.BeginAs l.who s) plain how.0)
      by s (own, there, inl how) is =
          let so : l.node.setup ≡ record own { creation = how.0 } = is ∙ how.2 in
          (own, there, so ∙ ap (λ (c : Creation). record own { creation = c }) (sym (ap (λ (r : Setup). r.creation) so)))

-- the digest does not depend on the creation
same-digest : (s : Setup) (c : Creation) (p : List ℕ) (n : ℕ) → own_digest (record s { creation = c }) p n ≡ own_digest s p n
unfolding own_digest
same-digest s c p n = refl

module _ (laws : NodeLaws) where
  pub set-digests : (ss : List Setup) (hs : List Happening) → AreNoResets hs → AllLives (HasSetDigests ss) (run hs (empty ss))
  set-digests ss hs plain k l at s there i r up =
      let g = unchanged ss hs plain k l at in
      let z : Some g.0 ≡ Some s = sym g.1 ∙ there in
      let same : g.0 ≡ s = cc in
      let own : Setup = l.node.setup in
      let digest : own_digest own r.peer r.challenge ≡ own_digest s r.peer r.challenge =
      ap (λ (x : Setup). own_digest x r.peer r.challenge) g.2 ∙ same-digest g.0 own.creation r.peer r.challenge ∙ ap (λ (x : Setup). own_digest x r.peer r.challenge) same in
      ap (same_bytes r.digest_received) (sym digest) ∙ digest_lives laws ss hs k l at i r up
