-- A connection that one side alone counts.
use Rattle.dist_world_model.specs.declared.happening.Happening.{Happening}
use Rattle.dist_world_model.proofs.Words.{◌≡◌, ℕ, true, ◌≢◌, ◌⊎◌, List, slice_get, Some, Option, sym, refl, ap, ◌∙◌, subst, inl, inr, or-true, false≢true}
use Rattle.dist_world_model.proofs.Words.{Side, Acceptor, Dialler, End, UpRecord, Setup, AreSetups, AllFit, IsUp, NodeLaws, EndRow}
use Rattle.dist_world_model.proofs.Words.{Conn, Life, World, empty, end_at, end_of_life, run, running}
use Rattle.dist_world_model.proofs.{AllWires.same-conn, ConnectionRows.IsEndOf}
use Rattle.dist_world_model.proofs.{EndPairs.Seat, EndStates.Beside, EndStates.Fits, EndStates.Stand, EndStates.open-row}
use Rattle.dist_world_progress.proofs.{FlowWorlds.IsFlowing, FlowWorlds.flowing, Handshakes.answered-in}
use Rattle.dist_world_model.proofs.{HappeningEffects.is-running, WorldFacts.IsKept, Lookups.end_in}
use Rattle.dist_world_model.proofs.UpEnds.{LineOf, On_accepted, On_dialled, Sits, Stands_on, conn-is, end-is, sits-life, stands-on}
use Rattle.dist_core_ends.specs.declared.known.End.TheVariants as ends
use Rattle.dist_core_ends.specs.declared.phase.Awaited.TheVariants as awaited
use Rattle.dist_core_ends.specs.Ends.{awaited_of, is_open}
use Rattle.std.specs.Prelude.{option_and_then}
use Rattle.dist_world_progress.specs.Progress.{OneSidedAwaitAck, end_on, incarnation_at, is_due, is_up}
use Rattle.dist_world_progress.proofs.Handshakes.{Acknowledging, Answered, Both_up}

module _ (laws : NodeLaws) (w : World) (flows : IsFlowing w) (a b c : ℕ) (apart : a ≢ b) (x : IsUp w a b c) where
  abbrev h : IsKept w
  h = flows.kept

  -- the incarnation of a has a's name
  own-setup : (s : Setup) × (slice_get w.setups a ≡ Some s) × (x.life.node.setup.name ≡ s.name)
  own-setup =
      let o = h.owns x.place x.life x.lives in
      let r = is-running w a x.place x.life x.runs x.lives in
      (o.setup, ap (slice_get w.setups) (sym r.0) ∙ o.there, o.name)

  -- the two nodes run different incarnations
  places-apart : running w b ≡ Some x.place → ⊥
  places-apart runs =
      let r = is-running w a x.place x.life x.runs x.lives in
      let s = is-running w b x.place x.life runs x.lives in
      apart (sym r.0 ∙ s.0)

  -- the seat of an end that is up, with a as its peer
  counts : {side : Side} (s : Seat w side c) (r : UpRecord) → running w b ≡ Some s.place → end_in w.lives s.place s.id ≡ Some (ends.Up r) → s.row.peer ≡ Some x.life.node.setup.name → IsUp w b a c
  counts s r runs up named =
      let is : slice_get s.life.node.ends s.id ≡ Some (ends.Up r) = sym (ap (λ o. end_of_life o s.id) s.at_) ∙ up in
      let k = h.seen s.place s.life s.at_ in let l = k.0 in
      let live = is-running w b s.place s.life runs s.at_ in
      let P : Option End → Option EndRow → Type 0 = λ o q. Beside o q in
      let beside : P (slice_get s.life.node.ends s.id) (slice_get s.life.rows s.id) = l.beside live.1 s.id in
      let fits : Fits (ends.Up r) s.row = subst (P (Some (ends.Up r))) s.there (subst (λ o. P o (slice_get s.life.rows s.id)) is beside) in
      let g = open-row _ s.row fits in
      let z : Some r.peer ≡ Some x.life.node.setup.name = ap (λ (s : Stand). s.peer) g.1 ∙ named in
      let q : r.peer ≡ x.life.node.setup.name = cc in
      let o = own-setup in
      record { place = s.place; life = s.life; id = s.id; kept = r; row = s.row; other = o.0; runs = runs; lives = s.at_; is_up = is; beside = s.there; on = s.conn; named = o.1; peer = q ∙ o.2 }

  name-of-x : {side : Side} (s : Seat w side c) → Sits laws w h x s → Some s.life.node.setup.name ≡ Some x.life.node.setup.name
  name-of-x s g = ap (λ (l : Life). Some l.node.setup.name) (sits-life laws w h x s g)

  -- the other end of connection k
  module _ (k : Conn) (ak : slice_get w.conns c ≡ Some k) (e : End) (opened : is_open e ≡ true) where
    abbrev Goal : Side → Type 0
    Goal side = IsUp w b a c ⊎ ((awaited_of (Some e) ≡ Some awaited.Ack) × (is_due side k e ≡ true))

    forth : x.place ≡ k.life → x.id ≡ k.dialler → (g : LineOf laws w h c k) → (let l = g.line in Sits laws w h x l.dialled) → running w b ≡ Some k.target → end_on w Acceptor k ≡ Some e → Goal Acceptor
    forth p i g s runs is = by (answered-in w flows c k (ends.Up x.kept) e (record { conn = ak; dialled = end-is laws w h x k.life k.dialler p i; accepted = is }) refl opened refl)
      where
        by : Answered k (ends.Up x.kept) e → Goal Acceptor
        by (Both_up r t d u) = let L = g.line in
            inl (counts L.accepted t (runs ∙ ap (λ (n : ℕ). Some n) (sym g.target_is))
            (ap (λ n. end_in w.lives n L.accepted.id) g.target_is ∙ sym (ap (option_and_then (end_at w k.target)) g.accepted_is) ∙ is ∙ ap (λ (d : End). Some d) u) (L.peer_there ∙ name-of-x L.dialled s))
        by (Acknowledging up ack due) = absurd (false≢true (sym up))

    back : x.place ≡ k.target → k.accepted ≡ Some x.id → (g : LineOf laws w h c k) → (let l = g.line in Sits laws w h x l.accepted) → running w b ≡ Some k.life → end_on w Dialler k ≡ Some e → Goal Dialler
    back p i g s runs is =
        by (answered-in w flows c k e (ends.Up x.kept) (record { conn = ak; dialled = is; accepted = ap (option_and_then (end_at w k.target)) i ∙ end-is laws w h x k.target x.id p refl }) opened refl (or-true (is_up e)))
      where
        by : Answered k e (ends.Up x.kept) → Goal Dialler
        by (Both_up r t d u) = let L = g.line in
            inl (counts L.dialled r (runs ∙ ap (λ (n : ℕ). Some n) (sym g.life_is)) ((λ n. end_in w.lives (g.life_is n) (g.id_is n)) ∙ is ∙ ap (λ (d : End). Some d) d) (L.peer_back ∙ name-of-x L.accepted s))
        by (Acknowledging up ack due) = inr (ack, due)

    one-sided : (side : Side) → running w b ≡ Some (incarnation_at side k) → end_on w side k ≡ Some e → Stands_on laws w h x k → Goal side
    one-sided Dialler runs is (On_dialled p i g s) = absurd (places-apart (runs ∙ ap (λ (n : ℕ). Some n) (sym p)))
    one-sided Acceptor runs is (On_dialled p i g s) = forth p i g s runs is
    one-sided Dialler runs is (On_accepted p i g s) = back p i g s runs is
    one-sided Acceptor runs is (On_accepted p i g s) = absurd (places-apart (runs ∙ ap (λ (n : ℕ). Some n) (sym p)))

module _ (laws : NodeLaws) where
  pub one_sided : (ss : List Setup) (hs : List Happening) → AreSetups ss → AllFit hs → OneSidedAwaitAck (run hs (empty ss))
  one_sided ss hs good fit a b c k side e apart x ak runs is opened =
      let w = run hs (empty ss) in
      let f = flowing laws ss hs good fit in
      let kx = conn-is laws w f.kept x in
      let same = same-conn w.conns c kx.conn k kx.there ak in
      one-sided laws w f a b c apart x k ak e opened side runs is (stands-on laws w f.kept x k ak (subst (λ k. IsEndOf x.row.side k x.place x.id) same kx.is_end))
