-- The ends of a node that hold a peer are lost, one after the other, and then there is room for that peer.
use Rattle.dist_world_model.specs.declared.happening.Happening.{Happening}
use Rattle.dist_world_model.proofs.Words.{◌≡◌, ℕ, zero, suc, ◌+◌, ◌<◌, ◌≤◌, ◌⊎◌, not, Bool, true, false, cond, eqb, ltb, List, [], ◌∷◌, ◌++◌, length, slice_get, Some, None, Option, sym, refl, ap, ◌∙◌}
use Rattle.dist_world_model.proofs.Words.{subst, inl, inr, arith, lt-ltb, eqb-true, false≢true, false_from_ne_true, length-append, Name, AllByRecursion, AllFit, Fits, Setup, NodeLaws, AreLegal}
use Rattle.dist_world_model.proofs.Words.{End, Entry, Kind, In, Out, Up, entry_in, holds_at, is_held, names, table_of, ends_after}
use Rattle.dist_world_model.proofs.Words.{conns_after_saying, spoken_on, says, most_applied, at_place, run, Conn, Life, World, EndRow, running}
use Rattle.dist_world_model.proofs.{Conditions.there, HappeningEffects.is-running, HappeningEffects.run-append, HappeningEffects.fit-append, IncarnationEffects.kept-by-all}
use Rattle.dist_world_model.proofs.{Places.eqb-self, WorldFacts.IsKept, WorldFacts.happening-keeps}
use Rattle.dist_world_model.specs.declared.happening.Happening.TheVariants as happening
use Rattle.dist_peers.specs.declared.entry.Entry.TheVariants as entry
use Rattle.dist_core_ends.specs.Ends.{end_id, is_open}
use Rattle.dist_core_ends.specs.declared.why.Why.TheVariants as why
use Rattle.dist_core_ends.proofs.{Agreement.entry-from_agree, Agreement.no-names}
use Rattle.dist_core.specs.{Node.is_crowded, Node.is_full_for, Node.limits_of}
use Rattle.dist_core_laws.specs.Laws.{IsWithinLimits}
use Rattle.std.specs.FinMap as map
use Rattle.std.specs.Prelude.{count_by}
use Rattle.dist_world_progress.specs.Connecting.{HasRoomFor, IsLossOf}
use Rattle.dist_world_progress.proofs.Events.{Went, spoke, went-none, went-then}
use Rattle.dist_world_progress.proofs.Losses.{IsRoomy, closing, emptier, few-then, held-open, held-then, less-then, long-then, loss-ok, lost, open-then, roomier}

-- ---- every happening keeps what is kept of a world

pub kept-on : NodeLaws → (hs : List Happening) (w : World) → AllFit hs → IsKept w → IsKept (run hs w)
kept-on laws hs w fit h = kept-by-all IsKept Fits (λ w x hap g a k. (happening-keeps laws) hap w g k x a)
    (λ w k. record { setups = k.setups; seen = k.seen; fits = k.fits; owns = k.owns; wired = k.wired; order = k.order }) hs w fit h

pub legal-in : (w : World) → IsKept w → (i : ℕ) (l : Life) → slice_get w.lives i ≡ Some l → AreLegal l.node.ends
legal-in w h i l at = let s = h.seen i l at in let k = s.0 in k.legal

-- ---- losses of a world

length-place : {A : Type 0} (i : ℕ) (f : A → A) (xs : List A) → length (at_place i f xs) ≡ length xs
length-place i f [] = refl
length-place zero f (x ∷ xs) = refl
length-place (suc i) f (x ∷ xs) = ap suc (length-place i f xs)

pub length-said : (cs : List Conn) (o : Option EndRow) (s : List ℕ) → length (conns_after_saying cs o s) ≡ length cs
length-said cs None s = refl
length-said cs (Some row) s = by row.conn
  where
    by : (o : Option ℕ) → length (spoken_on cs o row.side s) ≡ length cs
    by None = refl
    by (Some c) = length-place c (says row.side s) cs

-- WHAT AT MOST t LOSSES LEAVE of ends of the incarnation l, at this place, that hold p
pub record Losses (w : World) (place node : ℕ) (l : Life) (p : Name) (t : ℕ) : Type 0 where
  pub hs : List Happening
  pub few : length hs ≤ t
  pub fit : AllFit hs
  pub lost : AllByRecursion (IsLossOf node p l.node) hs
  pub life : Life
  pub went : Went w (run hs w) place life t
  pub conns : length (run hs w).conns ≡ length w.conns
  pub setup : life.node.setup ≡ l.node.setup
  pub steps : life.node.steps ≡ l.node.steps
  pub long : length life.node.ends ≡ length l.node.ends
  pub opens : count_by is_open life.node.ends ≤ count_by is_open l.node.ends
  pub entries : map.len (table_of life.node.ends) ≤ map.len (table_of l.node.ends)
  pub fewer : (k : Kind) (i : ℕ) → holds_at life.node.ends p k i ≡ true → holds_at l.node.ends p k i ≡ true
  -- where p has no entry any more, there is one open end less, and one entry
  pub drops : entry_in life.node.ends p ≡ None → (entry_in l.node.ends p ≡ None) ⊎ ((count_by is_open life.node.ends + 1 ≤ count_by is_open l.node.ends) × (map.len (table_of life.node.ends) + 1 ≤ map.len (table_of l.node.ends)))

no-loss : (w : World) (place node : ℕ) (l : Life) (p : Name) → slice_get w.lives place ≡ Some l → Losses w place node l p 1
no-loss w place node l p at = let g = went-none w place l at in record {
  hs = [];
  few = omega arith;
  fit = tt;
  lost = tt;
  life = l;
  went = record { own = at; others = g.others; runs = g.runs; setups = refl; clock = omega arith };
  conns = refl;
  setup = refl;
  steps = refl;
  long = refl;
  opens = omega arith;
  entries = omega arith;
  fewer = λ k i h. h;
  drops = λ h. inl h;
}

pub all-append : (P : Happening → Type 0) (hs gs : List Happening) → AllByRecursion P hs → AllByRecursion P gs → AllByRecursion P (hs ++ gs)
all-append P [] gs a b = b
all-append P (h ∷ hs) gs a b = (a.0, all-append P hs gs a.1 b)

pub all-map : (P Q : Happening → Type 0) → ((h : Happening) → P h → Q h) → (hs : List Happening) → AllByRecursion P hs → AllByRecursion Q hs
all-map P Q f [] a = tt
all-map P Q f (h ∷ hs) a = (f h a.0, all-map P Q f hs a.1)

losses-then : (w : World) (place node : ℕ) (l : Life) (p : Name) (s t : ℕ) → (a : Losses w place node l p s) → Losses (run a.hs w) place node a.life p t → Losses w place node l p (s + t)
losses-then w place node l p s t a b =
    let e : run (a.hs ++ b.hs) w ≡ run b.hs (run a.hs w) = run-append a.hs b.hs w in
    let i = a.few in let j = b.few in
    let ao = a.opens in let bo = b.opens in
    let ae = a.entries in let be = b.entries in
    record {
      hs = a.hs ++ b.hs;
      few = omega (arith, length-append a.hs b.hs, i, j);
      fit = fit-append a.hs b.hs a.fit b.fit;
      lost = all-append (IsLossOf node p l.node) a.hs b.hs a.lost (all-map (IsLossOf node p a.life.node) (IsLossOf node p l.node) wider b.hs b.lost);
      life = b.life;
      went = subst (λ z. Went w z place b.life (s + t)) (sym e) (went-then w (run a.hs w) (run b.hs (run a.hs w)) place a.life b.life s t a.went b.went);
      conns = ap (λ (z : World). length z.conns) e ∙ b.conns ∙ a.conns;
      setup = b.setup ∙ a.setup;
      steps = b.steps ∙ a.steps;
      long = b.long ∙ a.long;
      opens = omega (arith, ao, bo);
      entries = omega (arith, ae, be);
      fewer = λ k i h. a.fewer k i (b.fewer k i h);
      drops = λ h. first (b.drops h);
    }
  where
    wider : (h : Happening) → IsLossOf node p a.life.node h → IsLossOf node p l.node h
    wider (happening.Lose c id y) q = let k = q.1 in (q.0, (k.0, a.fewer k.0 id.0 k.1))
    wider h q = absurd q

    second : (entry_in l.node.ends p ≡ None) ⊎ ((count_by is_open a.life.node.ends + 1 ≤ count_by is_open l.node.ends) × (map.len (table_of a.life.node.ends) + 1 ≤ map.len (table_of l.node.ends)))
        → (entry_in l.node.ends p ≡ None) ⊎ ((count_by is_open b.life.node.ends + 1 ≤ count_by is_open l.node.ends) × (map.len (table_of b.life.node.ends) + 1 ≤ map.len (table_of l.node.ends)))
    second (inl z) = inl z
    second (inr q) = let bo = b.opens in let be = b.entries in let x = q.0 in let y = q.1 in inr (omega (arith, bo, x), omega (arith, be, y))

    first : (entry_in a.life.node.ends p ≡ None) ⊎ ((count_by is_open b.life.node.ends + 1 ≤ count_by is_open a.life.node.ends) × (map.len (table_of b.life.node.ends) + 1 ≤ map.len (table_of a.life.node.ends)))
        → (entry_in l.node.ends p ≡ None) ⊎ ((count_by is_open b.life.node.ends + 1 ≤ count_by is_open l.node.ends) × (map.len (table_of b.life.node.ends) + 1 ≤ map.len (table_of l.node.ends)))
    first (inl z) = second (a.drops z)
    first (inr q) = let ao = a.opens in let ae = a.entries in let x = q.0 in let y = q.1 in inr (omega (arith, ao, x), omega (arith, ae, y))

module _ (laws : NodeLaws) (w : World) (kept : IsKept w) (node place : ℕ) (l : Life) (p : Name) (at-node : running w node ≡ Some place) (at : slice_get w.lives place ≡ Some l) (few : w.clock < most_applied) where
  legal : AreLegal l.node.ends
  legal = legal-in w kept place l at

  -- an end that holds p is lost
  lose : (k : Kind) (x : ℕ) (e : End) → slice_get l.node.ends x ≡ Some e → is_open e ≡ true → holds_at l.node.ends p k x ≡ true → (a : Losses w place node l p 1) × (holds_at a.life.node.ends p k x ≡ false)
  lose k x e is open_ holds =
      let hap : Happening = happening.Lose node (end_id x) why.Ended in
      let ok = loss-ok l.node x e is open_ in
      let live = (is-running w node place l at-node at).1 in
      let g = spoke w place l (lost x) 0 (closing x) at live ok hap w.conns few (there (running w node) place _ at-node) in
      let held = held-then laws l.node legal x e is open_ in
      let less = open-then laws l.node legal x e is open_ in (
        record {
          hs = hap ∷ [];
          few = omega arith;
          fit = (tt, tt);
          lost = ((refl, (k, holds)), tt);
          life = _;
          went = g.went;
          conns = ap (λ cs. length cs) g.conns ∙ length-said w.conns _ [];
          setup = refl;
          steps = omega arith;
          long = long-then laws l.node legal x e is open_;
          opens = omega (arith, less);
          entries = few-then laws l.node legal x e is open_;
          fewer = λ k i h. held-was k i (eqb x i) (sym (held p k i) ∙ h);
          drops = λ gone. dropped gone less (entry_in l.node.ends p) refl;
        },
        held p k x ∙ ap (λ b. cond b false (holds_at l.node.ends p k x)) (eqb-self x),
      )
    where
      held-was : (k : Kind) (i : ℕ) (b : Bool) → cond b false (holds_at l.node.ends p k i) ≡ true → holds_at l.node.ends p k i ≡ true
      held-was k i true h = absurd (false≢true h)
      held-was k i false h = h

      dropped : entry_in (ends_after l.node.ends (closing x)) p ≡ None → count_by is_open (ends_after l.node.ends (closing x)) + 1 ≡ count_by is_open l.node.ends → (o : Option Entry) → entry_in l.node.ends p ≡ o
          → (entry_in l.node.ends p ≡ None) ⊎ ((count_by is_open (ends_after l.node.ends (closing x)) + 1 ≤ count_by is_open l.node.ends) × (map.len (table_of (ends_after l.node.ends (closing x))) + 1 ≤ map.len (table_of l.node.ends)))
      dropped gone less None q = inl q
      dropped gone less (Some d) q = inr (omega (arith, less), less-then laws l.node legal x e is open_ p k (sym (ap (is_held p k) is) ∙ holds) gone d q)

  -- it is lost if it holds p in this way
  clear : (k : Kind) (x : ℕ) → (a : Losses w place node l p 1) × (holds_at a.life.node.ends p k x ≡ false)
  unfolding no-loss
  clear k x = by (holds_at l.node.ends p k x) refl
    where
      by : (b : Bool) → holds_at l.node.ends p k x ≡ b → (a : Losses w place node l p 1) × (holds_at a.life.node.ends p k x ≡ false)
      by true h = let e = held-open p k (slice_get l.node.ends x) h in lose k x e.0 e.1 e.2 h
      by false h = (no-loss w place node l p at, h)

-- ---- the two ends that an entry can have

abbrev HeldBy : Option Entry → Kind → ℕ → Kind → ℕ → Type 0
HeldBy o j a m b = (k : Kind) (i : ℕ) → names k i o ≡ true → ((j ≡ k) × (a ≡ i)) ⊎ ((m ≡ k) × (b ≡ i))

held-by : (o : Option Entry) → (j : Kind) × (a : ℕ) × (m : Kind) × (b : ℕ) × HeldBy o j a m b
held-by None = (Out, 0, Out, 0, λ k i h. absurd (false≢true (sym (no-names k i) ∙ h)))
held-by (Some (entry.Out x)) = (Out, x.0, Out, x.0, by)
  where
    by : HeldBy (Some (entry.Out x)) Out x.0 Out x.0
    by Out i h = inl (refl, eqb-true x.0 i h)
    by In i h = absurd (false≢true h)
    by Up i h = absurd (false≢true h)
held-by (Some (entry.In x)) = (In, x.0, In, x.0, by)
  where
    by : HeldBy (Some (entry.In x)) In x.0 In x.0
    by Out i h = absurd (false≢true h)
    by In i h = inl (refl, eqb-true x.0 i h)
    by Up i h = absurd (false≢true h)
held-by (Some (entry.Up x)) = (Up, x.0, Up, x.0, by)
  where
    by : HeldBy (Some (entry.Up x)) Up x.0 Up x.0
    by Out i h = absurd (false≢true h)
    by In i h = absurd (false≢true h)
    by Up i h = inl (refl, eqb-true x.0 i h)
held-by (Some (entry.Challenged u x)) = (Up, u.0, In, x.0, by)
  where
    by : HeldBy (Some (entry.Challenged u x)) Up u.0 In x.0
    by Out i h = absurd (false≢true h)
    by In i h = inr (refl, eqb-true x.0 i h)
    by Up i h = inl (refl, eqb-true u.0 i h)

-- a peer that no end holds is idle
pub idle-when : (es : List End) (p : Name) → ((k : Kind) (i : ℕ) → holds_at es p k i ≡ true → ⊥) → entry_in es p ≡ None
idle-when es p h = entry-from_agree es p None (λ k i. false_from_ne_true (holds_at es p k i) (h k i) ∙ sym (no-names k i))

-- what is left once no end holds p any more
pub record Freed (w : World) (place node : ℕ) (l : Life) (p : Name) : Type 0 where
  pub losses : Losses w place node l p 2
  pub idle : entry_in losses.life.node.ends p ≡ None
  pub room : IsRoomy losses.life.node

-- then there is room for p
room-for : (w : World) (place node : ℕ) (l : Life) (p : Name) (a : Losses w place node l p 2) → IsWithinLimits l.node → HasRoomFor p l.node → entry_in a.life.node.ends p ≡ None → IsRoomy a.life.node
room-for w place node l p a within h gone =
    let s = h.steps in
    let e = a.steps in
    let same-steps : (let k = limits_of l.node in k.steps) ≡ (let k = limits_of a.life.node in k.steps) = ap (λ (z : Setup). let k = z.limits in k.steps) (sym a.setup) in
    let r = by (a.drops gone) in
    record {
      steps = omega (arith, s, e, same-steps);
      numbers = (λ i. not (ltb (a.long i) (let k = limits i in k.ends))) ∙ h.numbers;
      open_ends = r.0;
      entries = r.1;
    }
  where
    limits : limits_of a.life.node ≡ limits_of l.node
    limits = ap (λ (z : Setup). z.limits) a.setup

    to : not (ltb (count_by is_open a.life.node.ends) (let k = limits_of l.node in k.open_ends)) ≡ false → cond (ltb (map.len (table_of a.life.node.ends)) (let k = limits_of l.node in k.entries)) false true ≡ false → (is_crowded a.life.node ≡ false) × (is_full_for a.life.node None ≡ false)
    to x y = ((λ i. not (ltb (count_by is_open a.life.node.ends) (let k = limits i in k.open_ends))) ∙ x, (λ i. cond (ltb (map.len (table_of a.life.node.ends)) (let k = limits i in k.entries)) false true) ∙ y)

    by : (entry_in l.node.ends p ≡ None) ⊎ ((count_by is_open a.life.node.ends + 1 ≤ count_by is_open l.node.ends) × (map.len (table_of a.life.node.ends) + 1 ≤ map.len (table_of l.node.ends))) → (is_crowded a.life.node ≡ false) × (is_full_for a.life.node None ≡ false)
    by (inl z) = let q = h.idle z in let k = limits_of l.node in to (roomier (count_by is_open l.node.ends) (count_by is_open a.life.node.ends) k.open_ends a.opens q.0) (emptier (map.len (table_of l.node.ends)) (map.len (table_of a.life.node.ends)) k.entries a.entries q.1)
    by (inr q) =
        let k = limits_of l.node in
        let x = q.0 in let y = q.1 in
        let m = within.open_ends in let n = within.entries in
        to (ap not (lt-ltb (count_by is_open a.life.node.ends) k.open_ends (omega (arith, x, m)))) (ap (λ b. cond b false true) (lt-ltb (map.len (table_of a.life.node.ends)) k.entries (omega (arith, y, n))))

-- AT MOST TWO LOSSES leave the peer p idle
pub freed : (laws : NodeLaws) (w : World) → IsKept w → (node place : ℕ) (l : Life) → running w node ≡ Some place → slice_get w.lives place ≡ Some l → IsWithinLimits l.node → (p : Name) → HasRoomFor p l.node → w.clock + 2 ≤ most_applied → Freed w place node l p
unfolding losses-then
freed laws w kept node place l at-node at within p room few =
    let h = held-by (entry_in l.node.ends p) in
    let one = clear laws w kept node place l p at-node at (omega (arith, few)) h.0 h.1 in
    let a = one.0 in
    let g = a.went in
    let later = g.clock in
    let two = clear laws (run a.hs w) (kept-on laws a.hs w a.fit kept) node place a.life p (g.runs node ∙ at-node) g.own (omega (arith, few, later)) h.2 h.3 in
    let b = two.0 in
    let gone : entry_in b.life.node.ends p ≡ None = idle-when b.life.node.ends p (λ k i held.
    let was = b.fewer k i held in
    none-left k i h.0 h.1 h.2 h.3 a.life.node.ends b.life.node.ends one.1 two.1 was held (h.4 k i (sym (legal-in w kept place l at p k i) ∙ a.fewer k i was))) in
    record {
      losses = losses-then w place node l p 1 1 a b;
      idle = gone;
      room = room-for w place node l p (losses-then w place node l p 1 1 a b) within room gone;
    }
  where
    none-left : (k : Kind) (i : ℕ) (j : Kind) (x : ℕ) (m : Kind) (y : ℕ) (cs ds : List End) → holds_at cs p j x ≡ false → holds_at ds p m y ≡ false → holds_at cs p k i ≡ true → holds_at ds p k i ≡ true → ((j ≡ k) × (x ≡ i)) ⊎ ((m ≡ k) × (y ≡ i)) → ⊥
    none-left k i j x m y cs ds c d was held (inl e) = false≢true (sym c ∙ (λ n. holds_at cs p (e.0 n) (e.1 n)) ∙ was)
    none-left k i j x m y cs ds c d was held (inr e) = false≢true (sym d ∙ (λ n. holds_at ds p (e.0 n) (e.1 n)) ∙ held)
