-- The two ends of a connection at their nodes, with their rows.
use Rattle.dist_world_model.proofs.Words.{◌≡◌, ℕ, ◌+◌, ◌<◌, true, false, ◌||◌, ◌≢◌, ◌⊎◌, is_some, slice_get, Some, None, Option, sym, ap, ◌∙◌, inl, inr, arith}
use Rattle.dist_world_model.proofs.Words.{cases_order, Name, Side, Acceptor, Dialler, AreApart, NodeLaws, Numbers, EndRow, past, entered_before, left_before}
use Rattle.dist_world_model.proofs.Words.{Life, World, runs}
use Rattle.dist_world_model.proofs.{EndStates.Below, LastingFacts.IsWhole, RowChanges.IsRow, RowChanges.Lasts, RowChanges.Timed, WithoutEvent.not-over}
use Rattle.dist_world_model.proofs.PastMoments.{contra, entered-later, is-past, past-is, past-later}
use Rattle.dist_world_model.proofs.{SoleHolders.in-alone, SoleHolders.out-alone, SoleHolders.up-alone, WorldFacts.IsKept}

-- ---- the two ends of a connection

pub record Seat (w : World) (side : Side) (c : ℕ) : Type 0 where
  pub place : ℕ
  pub id : ℕ
  pub life : Life
  pub row : EndRow
  pub at_ : slice_get w.lives place ≡ Some life
  pub there : slice_get life.rows id ≡ Some row
  pub side_is : row.side ≡ side
  pub conn : row.conn ≡ Some c

-- the end never left
pub record IsOpen (row : EndRow) : Type 0 where
  pub doomed : row.doomed ≡ None
  pub closed : row.closed ≡ None

pub stays-in : (t : ℕ) (row : EndRow) → IsOpen row → left_before t row ≡ false
stays-in t row o = λ i. past t (o.doomed i) || past t (o.closed i)

-- the order of a connection's numbers, and its peers
pub record Line (w : World) (c : ℕ) : Type 0 where
  pub dialled : Seat w Dialler c
  pub accepted : Seat w Acceptor c
  pub named : ℕ
  pub replied : ℕ
  pub named_is : accepted.row.named ≡ Some named
  pub replied_is : dialled.row.replied ≡ Some replied
  pub first : named < replied
  pub rises : (u : ℕ) → accepted.row.rose ≡ Some u → replied < u
  pub peer_back : dialled.row.peer ≡ Some accepted.life.node.setup.name
  pub peer_there : accepted.row.peer ≡ Some dialled.life.node.setup.name

module _ (laws : NodeLaws) (w : World) (h : IsKept w) where
  whole : {side : Side} {c : ℕ} (s : Seat w side c) → IsWhole w.clock s.life
  whole s = h.seen s.place s.life s.at_

  row : {side : Side} {c : ℕ} (s : Seat w side c) → (let l = s.life in IsRow l.begun s.row)
  row s = let g = whole s in g.1.rows s.id s.row s.there

  pub timed : {side : Side} {c : ℕ} (s : Seat w side c) → Timed s.row
  timed s = let r = row s in r.timed

  apart : {side : Side} {c : ℕ} (s : Seat w side c) → (let l = s.life in AreApart l.rows)
  apart s = let g = whole s in g.0.apart

  lasts : {side : Side} {c : ℕ} (s : Seat w side c) → Lasts s.row
  lasts s = let r = row s in r.lasts

  pub since : {side : Side} {c : ℕ} (s : Seat w side c) → (let l = s.life in Numbers (λ n. l.begun < n) s.row)
  since s = let r = row s in r.since

  -- in the same incarnation, or in an earlier one
  pub record Older {sa sb : Side} {c d : ℕ} (s : Seat w sa c) (u : Seat w sb d) : Type 0 where
    pub end_ : ℕ
    pub over : s.life.over ≡ Some end_
    pub before : end_ < u.life.begun

  pub same-or-older : {sa sb : Side} {c d : ℕ} (s : Seat w sa c) (u : Seat w sb d) → s.life.who ≡ u.life.who → runs u.life ≡ true → (s.place ≡ u.place) ⊎ Older s u
  same-or-older s u who live = by (cases_order s.place u.place)
    where
      by : (s.place ≡ u.place) ⊎ ((s.place < u.place) ⊎ (u.place < s.place)) → (s.place ≡ u.place) ⊎ Older s u
      by (inl e) = inl e
      by (inr (inl lt)) = let g = h.order s.place u.place s.life u.life lt s.at_ u.at_ who in inr (record { end_ = g.0; over = g.1; before = g.2 })
      by (inr (inr lt)) = let g = h.order u.place s.place u.life s.life lt u.at_ s.at_ (sym who) in absurd (not-over u.life g.0 live g.1)

  -- a number of an earlier incarnation is below each of a later one
  pub older-number : {sa sb : Side} {c d : ℕ} (s : Seat w sa c) (u : Seat w sb d) → Older s u → (o : EndRow → Option ℕ) → ((t : ℕ) (row : EndRow) → Below t row → past t (o row) ≡ is_some (o row)) → (n m : ℕ) → o s.row ≡ Some n → u.life.begun < m → n < m
  older-number s u g o below n m e lt =
      let z = whole s in
      let y = z.1.over g.end_ g.over in
      let b = below (g.end_ + 1) s.row (y.1 s.id s.row s.there) in
      let p : past (g.end_ + 1) (Some n) ≡ true = ap (past (g.end_ + 1)) (sym e) ∙ b ∙ ap is_some e in
      let k = past-is (g.end_ + 1) n p in
      let f = g.before in omega (arith, k, f, lt)

  same-life : {sa sb : Side} {c d : ℕ} (s : Seat w sa c) (u : Seat w sb d) → s.place ≡ u.place → (let l = u.life in slice_get l.rows s.id) ≡ Some s.row
  same-life s u e = let z : Some s.life ≡ Some u.life = sym s.at_ ∙ ap (slice_get w.lives) e ∙ u.at_ in let q : s.life ≡ u.life = cc in ap (λ (l : Life). slice_get l.rows s.id) (sym q) ∙ s.there

  differ : {sa sb : Side} {c d : ℕ} (s : Seat w sa c) (u : Seat w sb d) → c ≢ d → s.place ≡ u.place → s.id ≢ u.id
  differ {c = c} {d = d} s u n e q =
      let z : Some s.row ≡ Some u.row = sym (same-life s u e) ∙ (let l = u.life in ap (slice_get l.rows) q) ∙ u.there in
      let r : s.row ≡ u.row = cc in
      let k : Some c ≡ Some d = sym s.conn ∙ ap (λ (r : EndRow). r.conn) r ∙ u.conn in
      n (cc)

  -- ---- ends of one incarnation and one peer

  -- one that is dialled and on its way, and one that never left: the other entered later
  pub out-not : {sa sb : Side} {c d : ℕ} (s : Seat w sa c) (u : Seat w sb d) → c ≢ d → s.place ≡ u.place → (p : Name) → s.row.peer ≡ Some p → u.row.peer ≡ Some p → (t : ℕ)
      → s.row.side ≡ Dialler → entered_before t s.row ≡ true → left_before t s.row ≡ false → (let r = s.row in past t r.rose) ≡ false → entered_before t u.row ≡ true → left_before t u.row ≡ true
  out-not s u n e p ps pu t sd es ls rs eu = let l = u.life in out-alone laws l.rows (apart u) t p s.id u.id (differ s u n e) s.row u.row (same-life s u e) u.there ps pu sd es ls rs eu

  pub in-not : {sa sb : Side} {c d : ℕ} (s : Seat w sa c) (u : Seat w sb d) → c ≢ d → s.place ≡ u.place → (p : Name) → s.row.peer ≡ Some p → u.row.peer ≡ Some p → (t : ℕ)
      → s.row.side ≡ Acceptor → u.row.side ≡ Acceptor → entered_before t s.row ≡ true → left_before t s.row ≡ false → (let r = s.row in past t r.rose) ≡ false → entered_before t u.row ≡ true → (let r = u.row in past t r.rose) ≡ false → left_before t u.row ≡ true
  in-not s u n e p ps pu t sd ud es ls rs eu ru = let l = u.life in in-alone laws l.rows (apart u) t p s.id u.id (differ s u n e) s.row u.row (same-life s u e) u.there ps pu sd ud es ls rs eu ru

  up-not : {sa sb : Side} {c d : ℕ} (s : Seat w sa c) (u : Seat w sb d) → c ≢ d → s.place ≡ u.place → (p : Name) → s.row.peer ≡ Some p → u.row.peer ≡ Some p → (t : ℕ)
      → entered_before t s.row ≡ true → left_before t s.row ≡ false → (let r = s.row in past t r.rose) ≡ true → entered_before t u.row ≡ true → (let r = u.row in past t r.rose) ≡ true → left_before t u.row ≡ true
  up-not s u n e p ps pu t es ls rs eu ru = let l = u.life in up-alone laws l.rows (apart u) t p s.id u.id (differ s u n e) s.row u.row (same-life s u e) u.there ps pu es ls rs eu ru

  -- who has come up at u, and another that is open and had come up before: no
  pub rose-not : {sa sb : Side} {c d : ℕ} (s : Seat w sa c) (u : Seat w sb d) → c ≢ d → s.place ≡ u.place → (p : Name) → s.row.peer ≡ Some p → u.row.peer ≡ Some p → IsOpen u.row
      → (k : ℕ) → s.row.rose ≡ Some k → entered_before k u.row ≡ true → (let r = u.row in past k r.rose) ≡ true → ⊥
  rose-not s u n e p ps pu kept_open k rk eu ru =
      let ts = timed s in let q = ts.rose k rk in
      contra (left_before (k + 1) u.row) (stays-in (k + 1) u.row kept_open)
      (up-not s u n e p ps pu (k + 1) (entered-later k (k + 1) s.row (omega arith) q.0) (lasts s k rk).0 (ap (past (k + 1)) rk ∙ is-past (k + 1) k (omega arith)) (entered-later k (k + 1) u.row (omega arith) eu) (let r = u.row in past-later k (k + 1) r.rose (omega arith) ru))
