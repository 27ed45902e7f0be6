-- The order of numbers on a connection, and of incarnations, in the words of the definitions.
use Rattle.dist_world_model.proofs.Words.{◌≡◌, ℕ, ◌+◌, ◌<◌, ◌≤◌, true, not, List, is_some, slice_get, Some, None, Option, sym, refl, ap, ◌∙◌, arith, false≢true}
use Rattle.dist_world_model.proofs.Words.{Acceptor, Dialler, Setup, AllFit, AreSetups, NodeLaws, Accepted, AreAbove, AreInOrder, InOrder, Numbers, OnlyLastRuns}
use Rattle.dist_world_model.proofs.Words.{EndRow, past, run, Conn, Life, World, empty, row_of_life, Happening}
use Rattle.dist_world_model.proofs.{ConnectionRows.end_of, ConnectionRows.row_of, EndStates.Below, Lookups.far, Lookups.row_in, Lookups.voice_of}
use Rattle.dist_world_model.proofs.{PastMoments.past-is, PastMoments.past-some, WholeFrames.on_way, Wires.IsEnd, Wires.marks_of, Wires.peer_of, Wires.voice}
use Rattle.dist_world_model.proofs.WorldFacts.{IsKept, IsTimely, kept, timely}

-- ---- connections

module _ (w : World) (h : IsKept w) (c : ℕ) (k : Conn) (a b : Life) (x : EndRow) (ak : slice_get w.conns c ≡ Some k) (aa : slice_get w.lives k.life ≡ Some a) (ab : slice_get w.lives k.target ≡ Some b) (ax : slice_get a.rows k.dialler ≡ Some x) where
  dialled : IsEnd Dialler (voice a.node.setup) (voice b.node.setup) (on_way k.there) (row_of w.lives Dialler k) (row_of w.lives Acceptor k) (end_of w.lives Dialler k)
  dialled = let g = h.wired.1 c k ak in g.0 (voice a.node.setup) (voice b.node.setup) (ap voice_of aa) (ap voice_of ab)

  accepted : IsEnd Acceptor (voice b.node.setup) (voice a.node.setup) (on_way k.back) (row_of w.lives Acceptor k) (row_of w.lives Dialler k) (end_of w.lives Acceptor k)
  accepted = let g = h.wired.1 c k ak in g.1 (voice b.node.setup) (voice a.node.setup) (ap voice_of ab) (ap voice_of aa)

  near : row_in w.lives k.life k.dialler ≡ Some x
  near = ap (λ o. row_of_life o k.dialler) aa ∙ ax

  away : (o : Option ℕ) → k.accepted ≡ o → (e : Accepted k b) → far (row_in w.lives k.target) k.accepted ≡ Some e.row
  away o q e = ap (far (row_in w.lives k.target)) e.is ∙ ap (λ o. row_of_life o e.id) ab ∙ e.there

  -- the accepted end, where something is known of its row
  found : (f : Option EndRow → Option ℕ) → f None ≡ None → (t : ℕ) → past t (f (far (row_in w.lives k.target) k.accepted)) ≡ true → (e : Accepted k b) × (n : ℕ) × (f (Some e.row) ≡ Some n) × (n < t)
  found f none t p = by k.accepted refl p
    where
      by : (o : Option ℕ) → k.accepted ≡ o → past t (f (far (row_in w.lives k.target) o)) ≡ true → (e : Accepted k b) × (n : ℕ) × (f (Some e.row) ≡ Some n) × (n < t)
      by None q p = absurd (false≢true (ap (past t) (sym none) ∙ p))
      by (Some y) q p = at (slice_get b.rows y) refl
        where
          at : (o : Option EndRow) → slice_get b.rows y ≡ o → (e : Accepted k b) × (n : ℕ) × (f (Some e.row) ≡ Some n) × (n < t)
          at None r = absurd (false≢true (ap (past t) (sym none) ∙ ap (λ o. past t (f o)) (sym (ap (λ o. row_of_life o y) ab ∙ r)) ∙ p))
          at (Some row) r = let g = past-some t (f (Some row)) (ap (λ o. past t (f o)) (sym (ap (λ o. row_of_life o y) ab ∙ r)) ∙ p) in (record { id = y; row = row; is = q; there = r }, g.0, g.1, g.2)

  in-order : InOrder k a b x
  in-order = record {
    replies = λ r e. (
        let g = found (λ o. (marks_of o).named) refl r (dialled.follows.0 r (ap (λ o. (marks_of o).replied) near ∙ e)) in
        let f = away k.accepted refl g.0 in
        record {
          end_ = g.0;
          at_ = g.1;
          named = g.2;
          before = g.3;
          peer = ap peer_of (sym near) ∙ dialled.peer (ap (λ o. is_some (marks_of o).replied) near ∙ ap is_some e);
          other = ap peer_of (sym f) ∙ accepted.peer (ap (λ o. is_some (marks_of o).named) f ∙ ap is_some g.2);
        });
    rises = λ e u q. past-some u x.replied (ap (λ o. past u (marks_of o).replied) (sym near) ∙ accepted.follows u (ap (λ o. (marks_of o).rose) (away k.accepted refl e) ∙ q));
    follows = λ u e. (let g = found (λ o. (marks_of o).rose) refl u (dialled.follows.1 u (ap (λ o. (marks_of o).rose) near ∙ e)) in record { end_ = g.0; at_ = g.1; rose = g.2; before = g.3 });
  }

module _ (laws : NodeLaws) where
  pub in_order_worlds : (ss : List Setup) (hs : List Happening) → AreSetups ss → AllFit hs → AreInOrder (run hs (empty ss))
  in_order_worlds ss hs ok fit = in-order (run hs (empty ss)) (kept laws ss hs ok fit)

-- ---- incarnations

numbers-below : (n : ℕ) (row : EndRow) → Below (n + 1) row → Numbers (λ m. m ≤ n) row
numbers-below n row b = record {
  given = (let k = past-is (n + 1) row.given b.given in omega (arith, k));
  named = λ m e. under m row.named b.named e;
  doomed = λ m e. under m row.doomed b.doomed e;
  replied = λ m e. under m row.replied b.replied e;
  rose = λ m e. under m row.rose b.rose e;
  closed = λ m e. under m row.closed b.closed e;
}
  where
    under : (m : ℕ) (o : Option ℕ) → past (n + 1) o ≡ is_some o → o ≡ Some m → m ≤ n
    under m o b e = let k = past-is (n + 1) m (ap (past (n + 1)) (sym e) ∙ b ∙ ap is_some e) in omega (arith, k)

numbers-map : (P Q : ℕ → Type 0) → ((n : ℕ) → P n → Q n) → (row : EndRow) → Numbers P row → Numbers Q row
numbers-map P Q f row h = record { given = f row.given h.given; named = λ n e. f n (h.named n e); doomed = λ n e. f n (h.doomed n e); replied = λ n e. f n (h.replied n e); rose = λ n e. f n (h.rose n e); closed = λ n e. f n (h.closed n e) }

above : (w : World) → IsTimely w → AreAbove w
above w h i j a b p q x y lt aa ab who ax ay =
    let o = h.order i j a b lt aa ab who in
    let sa = h.seen i a aa in let sb = h.seen j b ab in
    let v = sa.1.over o.0 o.1 in
    let nx = numbers-below o.0 x (v.1 p x ax) in
    let ny = sb.1.rows q y ay in
    let gap = o.2 in
    numbers-map (λ m. b.begun < m) (λ m. Numbers (λ n. n < m) x) (λ m l. numbers-map (λ n. n ≤ o.0) (λ n. n < m) (λ n g. omega (arith, gap, l, g)) x nx) y ny.since

module _ (laws : NodeLaws) where
  pub above_worlds : (ss : List Setup) (hs : List Happening) → AreAbove (run hs (empty ss))
  above_worlds ss hs = above (run hs (empty ss)) (timely laws ss hs)

  pub only_last_runs : (ss : List Setup) (hs : List Happening) → OnlyLastRuns (run hs (empty ss))
  only_last_runs ss hs i j a b lt aa ab who = let t = timely laws ss hs in let o = t.order i j a b lt aa ab who in ap (λ x. not (is_some x)) o.1
