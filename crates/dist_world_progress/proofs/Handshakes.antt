-- No handshake hangs.
use Rattle.dist_world_model.specs.declared.happening.Happening.{Happening}
use Rattle.dist_world_model.proofs.Words.{false, ◌≡◌, ℕ, Bool, true, not, ◌&&◌, ◌||◌, List, [], ◌∷◌, is_some, Some, None, Option, sym, refl, ap, ◌∙◌, subst, inl, inr, and_parts}
use Rattle.dist_world_model.proofs.Words.{or-true, or_left, or_right, UpRecord, false≢true, Message, Acceptor, Dialler, Attempt, End, Phase, sender_in, sender_to, waits_in, Setup, AreSetups, AllFit}
use Rattle.dist_world_model.proofs.Words.{is_dialing, IsReached, NodeLaws, Conn, World, empty, end_at, run}
use Rattle.dist_world_model.proofs.{Lookups.end_in, Lookups.far, WholeFrames.on_way}
use Rattle.dist_world_progress.proofs.{FlowWorlds.IsFlowing, FlowWorlds.flowing}
use Rattle.dist_world_progress.proofs.Flows.{AckIn, ChallengeIn, Flow, FlowIn, Nameless, Pair, Rising, StatusIn}
use Rattle.dist_world_progress.proofs.Lines.{Line, Next, Replying, any, asks, lets, line-first}
use Rattle.dist_core.specs.Rows.{is_reply}
use Rattle.dist_core_ends.specs.Ends.{awaited_in, awaited_of, is_open}
use Rattle.dist_core_ends.specs.declared.phase.Awaited.TheVariants as awaited
use Rattle.std.specs.Prelude.{option_and_then}
use Rattle.dist_core_ends.specs.declared.known.End.TheVariants as ends
use Rattle.dist_core_ends.specs.declared.phase.Phase.TheVariants as phase
use Rattle.dist_world_progress.specs.Progress.{HasEnds, NoHandshakeHangs, is_due, is_over, is_up}

-- HOW A HANDSHAKE STANDS whose ends are both open
pub data Stands (k : Conn) (d a : End) : Type 0 where
  Succeeded : is_up d ≡ true → is_up a ≡ true → Stands k d a
  Unopened : is_dialing (Some d) ≡ true → Stands k d a
  To_dialler : is_due Dialler k d ≡ true → Stands k d a
  To_acceptor : is_due Acceptor k a ≡ true → Stands k d a

-- where one end is up and the other is open, that one is up too, or it was dialled and the acknowledgement is on its way to it
pub data Answered (k : Conn) (d a : End) : Type 0 where
  Both_up : (r s : UpRecord) → d ≡ ends.Up r → a ≡ ends.Up s → Answered k d a
  Acknowledging : is_up d ≡ false → awaited_of (Some d) ≡ Some awaited.Ack → is_due Dialler k d ≡ true → Answered k d a

module _ (k : Conn) where
  abbrev there : List ℕ
  there = on_way k.there

  abbrev back : List ℕ
  back = on_way k.back

  to-dialler : (test : Message → Bool) (P : List ℕ → Type 0) (d a : End) → is_some (sender_to d) ≡ true → Next Acceptor test P back → Stands k d a
  to-dialler test P d a h n = let g = line-first Acceptor test P back n in To_dialler (λ i. h i && is_some (g.1 i))

  to-acceptor : (test : Message → Bool) (P : List ℕ → Type 0) (d a : End) → is_some (sender_to a) ≡ true → Next Dialler test P there → Stands k d a
  to-acceptor test P d a h n = let g = line-first Dialler test P there n in To_acceptor (λ i. h i && is_some (g.1 i))

  -- two attempts: the dialled end awaits a message, and the accepted one is in phase p
  module _ (b c : Attempt) (awaits : is_some (sender_in b.phase) ≡ true) where
    abbrev d : End
    d = ends.Attempt b

    abbrev a : End
    a = ends.Attempt c

    its : (p : Phase) → c.phase ≡ p → is_some (sender_in p) ≡ true → is_some (sender_to a) ≡ true
    its p e h = ap (λ q. is_some (sender_in q)) e ∙ h

    status-stands : (p : Phase) → StatusIn there back p → Stands k d a
    status-stands phase.AwaitTrue h = to-dialler asks (Line Acceptor []) d a awaits h.1
    status-stands phase.AwaitComplement h = to-dialler lets (Line Acceptor (any ∷ [])) d a awaits h.1
    status-stands phase.AwaitReply h = to-dialler lets (Line Acceptor (any ∷ [])) d a awaits h.1
    status-stands p h = absurd h

    challenge-stands : (p : Phase) → c.phase ≡ p → ChallengeIn there back p → Stands k d a
    challenge-stands phase.AwaitTrue e h = to-acceptor any (Line Dialler []) d a (its phase.AwaitTrue e refl) h.0
    challenge-stands phase.AwaitComplement e h = to-dialler any (Line Acceptor []) d a awaits h.1
    challenge-stands phase.AwaitReply e h = to-dialler any (Line Acceptor []) d a awaits h.1
    challenge-stands p e h = absurd h

    replying-stands : is_some (sender_to a) ≡ true → Replying there → Stands k d a
    replying-stands e (inl h) = to-acceptor any (Line Dialler (is_reply ∷ [])) d a e h
    replying-stands e (inr h) = to-acceptor is_reply (Line Dialler []) d a e h

    ack-stands : (p : Phase) → c.phase ≡ p → AckIn there back p → Stands k d a
    ack-stands phase.AwaitComplement e h = replying-stands (its phase.AwaitComplement e refl) h.0
    ack-stands phase.AwaitReply e h = replying-stands (its phase.AwaitReply e refl) h.0
    ack-stands p e h = absurd h

    pair-stands : (q : Phase) → Pair there back q c.phase → Stands k d a
    pair-stands phase.AwaitStatus h = status-stands c.phase h
    pair-stands phase.Doomed h = status-stands c.phase h
    pair-stands phase.AwaitChallenge h = challenge-stands c.phase refl h
    pair-stands phase.AwaitAck h = ack-stands c.phase refl h
    pair-stands q h = absurd h

  nameless-stands : (b : Attempt) (q : Phase) → b.phase ≡ q → Nameless there back q → Stands k (ends.Attempt b) ends.Unnamed
  nameless-stands b phase.Dialing e h = Unopened (ap waits_in e)
  nameless-stands b phase.DoomedDialing e h = Unopened (ap waits_in e)
  nameless-stands b phase.AwaitStatus e h = to-acceptor any (Line Dialler []) (ends.Attempt b) ends.Unnamed refl h.0
  nameless-stands b phase.Doomed e h = to-acceptor any (Line Dialler []) (ends.Attempt b) ends.Unnamed refl h.0
  nameless-stands b q e h = absurd h

  attempt-stands : (b : Attempt) (a : End) (q : Phase) → b.phase ≡ q → is_open a ≡ true → FlowIn there back q (Some a) → Stands k (ends.Attempt b) a
  attempt-stands b ends.Unnamed q e o h = nameless-stands b q e h
  attempt-stands b (ends.Attempt c) q e o h = by q e h
    where
      by : (q : Phase) → b.phase ≡ q → Pair there back q c.phase → Stands k (ends.Attempt b) (ends.Attempt c)
      by phase.Dialing e h = absurd h
      by phase.DoomedDialing e h = absurd h
      by q e h = pair-stands b c (ap (λ z. is_some (sender_in z)) e) q h
  attempt-stands b (ends.Up r) q e o h = by q e h
    where
      by : (q : Phase) → b.phase ≡ q → Rising back q → Stands k (ends.Attempt b) (ends.Up r)
      by phase.AwaitAck e h = to-dialler any (λ r. Unit {0}) (ends.Attempt b) (ends.Up r) (ap (λ z. is_some (sender_in z)) e) h
      by q e h = absurd h
  attempt-stands b (ends.Closed w) q e o h = absurd (false≢true o)

  stands : (d a : End) → is_open d ≡ true → is_open a ≡ true → Flow there back (Some d) (Some a) → Stands k d a
  stands ends.Unnamed a x y h = absurd h
  stands (ends.Attempt b) a x y h = attempt-stands b a b.phase refl y h
  stands (ends.Up r) ends.Unnamed x y h = absurd h
  stands (ends.Up r) (ends.Attempt c) x y h = absurd h
  stands (ends.Up r) (ends.Up s) x y h = Succeeded refl refl
  stands (ends.Up r) (ends.Closed w) x y h = absurd (false≢true y)
  stands (ends.Closed w) a x y h = absurd (false≢true x)

  answered : (d a : End) → is_open d ≡ true → is_open a ≡ true → (is_up d || is_up a) ≡ true → Flow there back (Some d) (Some a) → Answered k d a
  answered ends.Unnamed a x y u h = absurd h
  answered (ends.Closed w) a x y u h = absurd (false≢true x)
  answered (ends.Up r) ends.Unnamed x y u h = absurd h
  answered (ends.Up r) (ends.Attempt c) x y u h = absurd h
  answered (ends.Up r) (ends.Up s) x y u h = Both_up r s refl refl
  answered (ends.Up r) (ends.Closed w) x y u h = absurd (false≢true y)
  answered (ends.Attempt b) ends.Unnamed x y u h = absurd (false≢true u)
  answered (ends.Attempt b) (ends.Attempt c) x y u h = absurd (false≢true u)
  answered (ends.Attempt b) (ends.Closed w) x y u h = absurd (false≢true u)
  answered (ends.Attempt b) (ends.Up s) x y u h = by b.phase refl h
    where
      by : (q : Phase) → b.phase ≡ q → Rising back q → Answered k (ends.Attempt b) (ends.Up s)
      by phase.AwaitAck e h = let g = line-first Acceptor any (λ r. Unit {0}) back h in Acknowledging refl (ap (λ z. Some (awaited_in z)) e) (λ i. is_some (sender_in (e i)) && is_some (g.1 i))
      by q e h = absurd h

-- the two ends of a connection of a world
flow-of : (w : World) → IsFlowing w → (c : ℕ) (k : Conn) (d a : End) → HasEnds w c k d a → Flow (on_way k.there) (on_way k.back) (Some d) (Some a)
flow-of w f c k d a o =
    let P : Option End → Option End → Type 0 = λ x y. Flow (on_way k.there) (on_way k.back) x y in
    let g : P (end_in w.lives k.life k.dialler) (far (end_in w.lives k.target) k.accepted) = f.flows c k o.conn in
    let e : P (end_in w.lives k.life k.dialler) (Some a) = subst (P (end_in w.lives k.life k.dialler)) (by k.accepted ∙ o.accepted) g in
    subst (λ x. P x (Some a)) o.dialled e
  where
    by : (n : Option ℕ) → far (end_in w.lives k.target) n ≡ option_and_then (end_at w k.target) n
    by None = refl
    by (Some y) = refl

pub answered-in : (w : World) → IsFlowing w → (c : ℕ) (k : Conn) (d a : End) → HasEnds w c k d a → is_open d ≡ true → is_open a ≡ true → (is_up d || is_up a) ≡ true → Answered k d a
answered-in w f c k d a o x y u = answered k d a x y u (flow-of w f c k d a o)

pub stands-in : (w : World) → IsFlowing w → (c : ℕ) (k : Conn) (d a : End) → HasEnds w c k d a → (is_open d && is_open a) ≡ true → Stands k d a
stands-in w f c k d a o e = let p = and_parts (is_open d) (is_open a) e in stands k d a p.0 p.1 (flow-of w f c k d a o)

goes-on : (k : Conn) (d a : End) → Stands k d a → (is_over d a || (is_dialing (Some d) || (is_due Dialler k d || is_due Acceptor k a))) ≡ true
goes-on k d a (Succeeded x y) = or_left (is_over d a) _ (or_left _ _ (λ i. x i && y i))
goes-on k d a (Unopened e) = or_right (is_over d a) _ (or_left _ _ e)
goes-on k d a (To_dialler e) = or_right (is_over d a) _ (or_right (is_dialing (Some d)) _ (or_left _ _ e))
goes-on k d a (To_acceptor e) = or_right (is_over d a) _ (or_right (is_dialing (Some d)) _ (or_right (is_due Dialler k d) _ e))

pub over-closed : (d a : End) → (is_open d && is_open a) ≡ false → is_over d a ≡ true
over-closed d a e = ap (λ b. (is_up d && is_up a) || not b) e ∙ or-true (is_up d && is_up a)

module _ (laws : NodeLaws) where
  pub none_hangs : (ss : List Setup) (hs : List Happening) → AreSetups ss → AllFit hs → NoHandshakeHangs (run hs (empty ss))
  none_hangs ss hs good fit c k d a o = ap not (elim (is_open d && is_open a) as (λ b. (is_open d && is_open a) ≡ b → (is_over d a || (is_dialing (Some d) || (is_due Dialler k d || is_due Acceptor k a))) ≡ true) [
    | true ↦ λ e. goes-on k d a (stands-in (run hs (empty ss)) (flowing laws ss hs good fit) c k d a o e)
    | false ↦ λ e. or_left (is_over d a) _ (over-closed d a e)
  ] refl)

-- what holds after all runs holds of every world that can be
pub on_reached : (P : World → Type 0) → ((ss : List Setup) (hs : List Happening) → AreSetups ss → AllFit hs → P (run hs (empty ss))) → (w : World) → IsReached w → P w
on_reached P h w r = subst P (sym r.is) (h r.setups r.happenings r.good r.fit)
