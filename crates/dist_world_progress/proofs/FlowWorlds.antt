-- How the two ends of each connection of a world stand to one another, whatever happens.
use Rattle.dist_world_model.specs.declared.happening.Happening.{Happening}
use Rattle.dist_world_model.proofs.Words.{◌≡◌, ℕ, true, false, cond, eqb, List, [], ◌∷◌, ◌++◌, length, slice_get, Some, None, Option, sym, refl, ap, ◌∙◌}
use Rattle.dist_world_model.proofs.Words.{subst, append_assoc, append-nil, arith, ne_eqb, eqb-true, false≢true, same_Some, slice_get_within, w16, first_body}
use Rattle.dist_world_model.proofs.Words.{Side, Acceptor, Dialler, EndId, End, Phase, is_dialing, waits_in, other_view, ends_after, Setup, after_change, StepRow, Effect}
use Rattle.dist_world_model.proofs.Words.{Event, after_delivery, body_taken, change_to, conns_after_saying, more_said, says, spoken_on, text_to, accepted_by, conn_of}
use Rattle.dist_world_model.proofs.Words.{life_after_end, new_conn, new_life, next_end, reached_life, with_node, at_place, NodeLaws, EndRow}
use Rattle.dist_world_model.proofs.Words.{given_by, mark, new_row, Conn, Life, Text, World, empty, end_of_life, row_at, row_of_life, run}
use Rattle.dist_world_model.proofs.Words.{AreSetups, AllFit, Fits, is_outside}
use Rattle.dist_world_model.proofs.AllWires.{same-conn}
use Rattle.dist_world_model.proofs.ConnectionRows.{IsEndOf, RowOf}
use Rattle.dist_world_model.proofs.{EndStates.Beside, EventEnds.frame-end, EventEnds.gives}
use Rattle.dist_world_progress.proofs.Flows.{Fades, Flow, Nameless, Stays, flow-accepted, flow-fades}
use Rattle.dist_world_progress.proofs.FlowSteps.{TakenOf, Took, Untaken, accepted-flows, dialled-flows, other-fades}
use Rattle.dist_world_model.proofs.HappeningEffects.{Accepts, Act, Begins, Comes, Ends, IsPlain, Plain, Reaches, Ready, Reports, Resets, Strange, Takes}
use Rattle.dist_world_model.proofs.IncarnationEffects.{kept-by-all}
use Rattle.dist_world_model.proofs.Lookups.{at-other, changed-at, end_in, far, more-at, place-twice, row_in}
use Rattle.dist_world_model.proofs.{OtherRows.end-after, OtherRows.own-after, Places.at-more, Places.at-one}
use Rattle.dist_world_model.proofs.{GrowingRows.spoken-none, SendingWires.Found, SendingWires.conn-not, SendingWires.dial-conn, SendingWires.found, SendingWires.new-row-at, SendingWires.strange-free, SendingWires.strange-given}
use Rattle.dist_world_model.proofs.SilentWires.{Notifying, beside, deed, get-now, life, ls', me, now, own-row, rows', the-row}
use Rattle.dist_world_model.proofs.{StepEffects.is_given, WholeFrames.on_way, WholeFrames.way-delivered}
use Rattle.dist_world_model.proofs.WorldFacts.{IsKept, happening-keeps, kept-empty}
use Rattle.dist_core_ends.specs.declared.known.End.TheVariants as ends
use Rattle.dist_core_ends.specs.declared.phase.Phase.TheVariants as phase
use Rattle.dist_core.specs.Rows as core
use Rattle.dist_core.specs.declared.event.Event.TheVariants as event

-- the ends of connection k
abbrev pub FlowAt : List Life → Conn → Type 0
FlowAt ls k = Flow (on_way k.there) (on_way k.back) (end_in ls k.life k.dialler) (far (end_in ls k.target) k.accepted)

abbrev pub AreFlowing : List Life → List Conn → Type 0
AreFlowing ls cs = (c : ℕ) (k : Conn) → slice_get cs c ≡ Some k → FlowAt ls k

-- ---- ends that stay

ends-stay : (ls ls' : List Life) (k : Conn) → ((i p : ℕ) → end_in ls i p ≡ end_in ls' i p) → FlowAt ls k → FlowAt ls' k
ends-stay ls ls' k h flow =
    let P : Option End → Option End → Type 0 = λ a b. Flow (on_way k.there) (on_way k.back) a b in
    subst (λ a. P a (far (end_in ls' k.target) k.accepted)) (h k.life k.dialler) (subst (P (end_in ls k.life k.dialler)) (far-stays k.accepted) flow)
  where
    far-stays : (o : Option ℕ) → far (end_in ls k.target) o ≡ far (end_in ls' k.target) o
    far-stays None = refl
    far-stays (Some y) = h k.target y

pub begun-ends : (ls : List Life) (new : Life) → new.node.ends ≡ [] → (i p : ℕ) → end_in ls i p ≡ end_in (ls ++ new ∷ []) i p
begun-ends ls new e i p = more-at (λ o. end_of_life o p) (λ a b. a ≡ b) (λ a. refl) ls new (sym (ap (λ es. slice_get es p) e)) i

pub turned-ends : (i : ℕ) (g : Life → Life) (ls : List Life) (old : Life) → slice_get ls i ≡ Some old → (g old).node.ends ≡ old.node.ends → (j p : ℕ) → end_in ls j p ≡ end_in (at_place i g ls) j p
turned-ends i g ls old at e j p = changed-at (λ o. end_of_life o p) (λ a b. a ≡ b) (λ a. refl) i g ls old at j (λ q. ap (λ es. slice_get es p) (sym e))

all-stay : (ls ls' : List Life) (cs : List Conn) → ((i p : ℕ) → end_in ls i p ≡ end_in ls' i p) → AreFlowing ls cs → AreFlowing ls' cs
all-stay ls ls' cs h flow c k at = ends-stay ls ls' k h (flow c k at)

-- bytes come
come-flows : (side : Side) (c n : ℕ) (ls : List Life) (cs : List Conn) → AreFlowing ls cs → AreFlowing ls (at_place c (change_to side (after_delivery n)) cs)
come-flows side c n ls cs flow = at-one (λ d h. FlowAt ls h) c (change_to side (after_delivery n)) cs (λ k at. by side k (flow c k at)) flow
  where
    by : (s : Side) (k : Conn) → FlowAt ls k → FlowAt ls (change_to s (after_delivery n) k)
    by Dialler k f = subst (λ t. Flow (on_way k.there) t (end_in ls k.life k.dialler) (far (end_in ls k.target) k.accepted)) (sym (way-delivered n k.back)) f
    by Acceptor k f = subst (λ t. Flow t (on_way k.back) (end_in ls k.life k.dialler) (far (end_in ls k.target) k.accepted)) (sym (way-delivered n k.there)) f

-- a dialled end gets a connection
new-flow : (o : Option End) → is_dialing o ≡ true → Flow [] [] o None
new-flow (Some (ends.Attempt a)) h = by a.phase h
  where
    by : (q : Phase) → waits_in q ≡ true → Nameless [] [] q
    by phase.Dialing e = (refl, refl)
    by phase.DoomedDialing e = (refl, refl)
    by q e = absurd (false≢true e)
new-flow o h = absurd (false≢true h)

reached-flows : (i id j : ℕ) (ls : List Life) (cs : List Conn) (old : Life) → slice_get ls i ≡ Some old → is_dialing (end_in ls i id) ≡ true → AreFlowing ls cs → AreFlowing (at_place i (reached_life id (length cs)) ls) (cs ++ new_conn i id j ∷ [])
reached-flows i id j ls cs old at dialing flow =
    let ls' = at_place i (reached_life id (length cs)) ls in
    let h = turned-ends i (reached_life id (length cs)) ls old at refl in
    at-more (λ d k. FlowAt ls' k) cs (new_conn i id j) (ends-stay ls ls' (new_conn i id j) h (new-flow (end_in ls i id) dialing)) (λ d k e. ends-stay ls ls' k h (flow d k e))

-- ---- an event that a running incarnation gets

module _ (laws : NodeLaws) (notifying : Notifying) (flowing : (let w = notifying.w in AreFlowing w.lives w.conns)) where
  open notifying use {w, lives, fit, wired, i, old, v, fresh, f, small, at, live, ok}

  -- a row that was there, and its end
  end-there : (p : ℕ) (x : EndRow) → slice_get old.rows p ≡ Some x → (e : End) × (slice_get old.node.ends p ≡ Some e)
  end-there p x ax = by (slice_get old.node.ends p) refl (let P : Option EndRow → Type 0 = λ o. Beside (slice_get old.node.ends p) o in subst P ax (beside laws notifying p))
    where
      by : (o : Option End) → slice_get old.node.ends p ≡ o → Beside o (Some x) → (e : End) × (slice_get old.node.ends p ≡ Some e)
      by None e b = absurd b
      by (Some d) e b = (d, e)

  -- an end that is not the event's own is closed or doomed at most
  fades-here : (p : ℕ) (x : EndRow) → slice_get old.rows p ≡ Some x → ((me laws notifying) ≡ p → is_given v ≡ true) → Fades (slice_get old.node.ends p) (slice_get (ends_after old.node.ends f) p)
  fades-here p x ax h =
      let l = life laws notifying in
      subst (Fades (slice_get old.node.ends p)) (sym (end-after laws old.node l.legal v fresh f ok p)) (by f.other refl)
    where
      not-me : (me laws notifying) ≡ p → ⊥
      not-me q = let g = gives old.node v f (deed laws notifying) (h q) in let e = end-there p x ax in let w = slice_get_within old.node.ends p e.0 e.1 in omega (arith, w, g.id, q)

      own : Fades (slice_get old.node.ends p) (cond (eqb (me laws notifying) p) (Some f.this) (slice_get old.node.ends p))
      own = Stays (sym (ap (λ b. cond b (Some f.this) (slice_get old.node.ends p)) (ne_eqb (me laws notifying) p not-me)))

      by : (o : Option (EndId × End)) → f.other ≡ o → Fades (slice_get old.node.ends p) (other_view o (λ i. cond (eqb (me laws notifying) i) (Some f.this) (slice_get old.node.ends i)) p)
      by None e = own
      by (Some x) e =
          let y = x.0 in
          elim (eqb y.0 p) as (λ b. eqb y.0 p ≡ b → Fades (slice_get old.node.ends p) (cond b (Some x.1) (cond (eqb (me laws notifying) p) (Some f.this) (slice_get old.node.ends p)))) [
            | true ↦ λ b. subst (λ k. Fades (slice_get old.node.ends k) (Some x.1)) (eqb-true y.0 p b) (other-fades old.node v fresh f y x.1 e (the-row laws notifying))
            | false ↦ λ b. own
          ] refl

  fades-at : (j p : ℕ) (x : EndRow) → row_in w.lives j p ≡ Some x → (i ≡ j → (me laws notifying) ≡ p → is_given v ≡ true) → Fades (end_in w.lives j p) (end_in (ls' laws notifying) j p)
  fades-at j p x ax h = changed-at (λ o. end_of_life o p) Fades (λ o. Stays refl) i (λ (l : Life). now laws notifying) w.lives old at j
      (λ e. fades-here p x (sym (ap (λ o. row_of_life o p) at) ∙ ap (λ k. row_in w.lives k p) e ∙ ax) (h e))

  -- both ends of a connection that is not the event's own
  other-flows : (d : ℕ) (k : Conn) → slice_get w.conns d ≡ Some k → ((x : EndRow) → slice_get old.rows (me laws notifying) ≡ Some x → x.conn ≡ Some d → is_given v ≡ true) → FlowAt (ls' laws notifying) k
  other-flows d k ak free = flow-fades (on_way k.there) (on_way k.back) _ _ _ _ dialled (accepted k.accepted (λ y e. e)) (flowing d k ak)
    where
      dialled : Fades (end_in w.lives k.life k.dialler) (end_in (ls' laws notifying) k.life k.dialler)
      dialled = let r = wired.0.dialled d k ak in fades-at k.life k.dialler r.row r.there (λ e q. free r.row (own-row laws notifying k.life k.dialler r.row e q r.there) r.conn)

      accepted : (o : Option ℕ) → ((y : ℕ) → o ≡ Some y → k.accepted ≡ Some y) → Fades (far (end_in w.lives k.target) o) (far (end_in (ls' laws notifying) k.target) o)
      accepted None h = Stays refl
      accepted (Some y) h = let r = wired.0.accepted d y k ak (h y refl) in fades-at k.target y r.row r.there (λ e q. free r.row (own-row laws notifying k.target y r.row e q r.there) r.conn)

  -- ---- the event's own end

  module _ (ng : is_given v ≡ false) (x0 : EndRow) (e0 : End) (at-x : slice_get old.rows (me laws notifying) ≡ Some x0) (at-e : slice_get old.node.ends (me laws notifying) ≡ Some e0) (c : ℕ) (on : x0.conn ≡ Some c) (k : Conn) (ak : slice_get w.conns c ≡ Some k) where
    end-then : end_in w.lives i (me laws notifying) ≡ Some e0
    end-then = ap (λ o. end_of_life o (me laws notifying)) at ∙ at-e

    end-here : end_in (ls' laws notifying) i (me laws notifying) ≡ Some f.this
    end-here = let l = life laws notifying in ap (λ o. end_of_life o (me laws notifying)) (get-now laws notifying) ∙ own-after laws old.node l.legal v fresh f ok

    the-side : IsEndOf x0.side k i (me laws notifying)
    the-side = let q = wired.0.only i (me laws notifying) c x0 (ap (λ o. row_of_life o (me laws notifying)) at ∙ at-x) on in subst (λ h. IsEndOf x0.side h i (me laws notifying)) (same-conn w.conns c q.conn k q.there ak) q.is_end

    -- the other end of this connection is another
    fades-away : (side : Side) (j p : ℕ) → RowOf w.lives side j p c → (x0.side ≡ side → ⊥) → Fades (end_in w.lives j p) (end_in (ls' laws notifying) j p)
    fades-away side j p r not = fades-at j p r.row r.there (λ e q. absurd (not (let z = same_Some x0 r.row (sym at-x ∙ own-row laws notifying j p r.row e q r.there) in ap (λ (r : EndRow). r.side) z ∙ r.side_is)))

    -- y is left of the text on its way to it
    dialled-own : x0.side ≡ Dialler → IsEndOf Dialler k i (me laws notifying) → (y : Text) → TakenOf v k.back y
        → Flow (on_way (more_said f.reply.say k.there)) (on_way y) (end_in (ls' laws notifying) k.life k.dialler) (far (end_in (ls' laws notifying) k.target) k.accepted)
    dialled-own sd e y taken =
        let a : Option End = far (end_in w.lives k.target) k.accepted in
        let was : Flow (on_way k.there) (on_way k.back) (Some e0) a = subst (λ o. Flow (on_way k.there) (on_way k.back) o a) ((λ n. end_in w.lives (sym e.0 n) (sym e.1 n)) ∙ end-then) (flowing c k ak) in
        let is : Flow (on_way k.there ++ f.reply.say) (on_way y) (Some f.this) a = dialled-flows laws old.node (fit i old at) v fresh small e0 (on_way k.there) k.back y taken a was f (the-row laws notifying) ng at-e in
        let t = k.there in
        let more : Flow (on_way (more_said f.reply.say k.there)) (on_way y) (Some f.this) a = subst (λ z. Flow z (on_way y) (Some f.this) a) (append_assoc t.come t.said f.reply.say) is in
        flow-fades (on_way (more_said f.reply.say k.there)) (on_way y) (Some f.this) _ a _ (Stays (sym ((λ n. end_in (ls' laws notifying) (sym e.0 n) (sym e.1 n)) ∙ end-here))) (away k.accepted (λ y e. e)) more
      where
        away : (o : Option ℕ) → ((y : ℕ) → o ≡ Some y → k.accepted ≡ Some y) → Fades (far (end_in w.lives k.target) o) (far (end_in (ls' laws notifying) k.target) o)
        away None h = Stays refl
        away (Some y) h = fades-away Acceptor k.target y (wired.0.accepted c y k ak (h y refl)) (λ s. let z : Dialler ≡ Acceptor = sym sd ∙ s in absurd cc)

    accepted-own : x0.side ≡ Acceptor → IsEndOf Acceptor k i (me laws notifying) → (y : Text) → TakenOf v k.there y
        → Flow (on_way y) (on_way (more_said f.reply.say k.back)) (end_in (ls' laws notifying) k.life k.dialler) (far (end_in (ls' laws notifying) k.target) k.accepted)
    accepted-own sd e y taken =
        let d : Option End = end_in w.lives k.life k.dialler in
        let was : Flow (on_way k.there) (on_way k.back) d (Some e0) = subst (λ o. Flow (on_way k.there) (on_way k.back) d o) ((λ n. far (end_in w.lives (sym e.0 n)) (e.1 n)) ∙ end-then) (flowing c k ak) in
        let is : Flow (on_way y) (on_way k.back ++ f.reply.say) d (Some f.this) = accepted-flows laws old.node (fit i old at) v fresh small e0 (on_way k.back) k.there y taken d was f (the-row laws notifying) ng at-e in
        let t = k.back in
        let more : Flow (on_way y) (on_way (more_said f.reply.say k.back)) d (Some f.this) = subst (λ z. Flow (on_way y) z d (Some f.this)) (append_assoc t.come t.said f.reply.say) is in
        flow-fades (on_way y) (on_way (more_said f.reply.say k.back)) d _ (Some f.this) _ (fades-away Dialler k.life k.dialler (wired.0.dialled c k ak) (λ s. let z : Acceptor ≡ Dialler = sym sd ∙ s in absurd cc))
        (Stays (sym ((λ n. far (end_in (ls' laws notifying) (sym e.0 n)) (e.1 n)) ∙ end-here))) more

    -- all connections, where the event's own is changed by g
    own-flows : (g : Conn → Conn) → FlowAt (ls' laws notifying) (g k) → AreFlowing (ls' laws notifying) (at_place c g w.conns)
    own-flows g own = at-other (λ d h. FlowAt (ls' laws notifying) h) c g w.conns
        (λ h ah. let z = same-conn w.conns c k h ak ah in let P : Conn → Type 0 = λ h. FlowAt (ls' laws notifying) (g h) in subst P z own)
        (λ d h n ah. other-flows d h ah (λ x ax ox. absurd (n (same_Some c d (sym on ∙ ap (λ (r : EndRow). r.conn) (same_Some x0 x (sym at-x ∙ ax)) ∙ ox)))))

    says-flows : IsPlain v → AreFlowing (ls' laws notifying) (at_place c (says x0.side f.reply.say) w.conns)
    says-flows plain = by x0.side refl the-side
      where
        untaken : (x : Text) → TakenOf v x x
        untaken x = Untaken (λ id body is. let Q : Event → Type 0 = λ u. IsPlain u in subst Q is plain) refl

        by : (s : Side) → x0.side ≡ s → IsEndOf s k i (me laws notifying) → AreFlowing (ls' laws notifying) (at_place c (says s f.reply.say) w.conns)
        by Dialler s e = own-flows (says Dialler f.reply.say) (dialled-own s e k.back (untaken k.back))
        by Acceptor s e = own-flows (says Acceptor f.reply.say) (accepted-own s e k.there (untaken k.there))

    takes-flows : (id : EndId) (body : List ℕ) → v ≡ event.Frame id body → first_body w16 (text_to x0.side k).come ≡ Some body → AreFlowing (ls' laws notifying) (at_place c (λ h. says x0.side f.reply.say (change_to x0.side body_taken h)) w.conns)
    takes-flows id body is = by x0.side refl the-side
      where
        by : (s : Side) → x0.side ≡ s → IsEndOf s k i (me laws notifying) → first_body w16 (text_to s k).come ≡ Some body → AreFlowing (ls' laws notifying) (at_place c (λ h. says s f.reply.say (change_to s body_taken h)) w.conns)
        by Dialler s e first = own-flows (λ h. says Dialler f.reply.say (change_to Dialler body_taken h)) (dialled-own s e (body_taken k.back) (Took id body is first refl))
        by Acceptor s e first = own-flows (λ h. says Acceptor f.reply.say (change_to Acceptor body_taken h)) (accepted-own s e (body_taken k.there) (Took id body is first refl))

  abbrev Spoken : List Conn → Type 0
  Spoken ds = AreFlowing (ls' laws notifying) (conns_after_saying ds (slice_get (rows' laws notifying) (me laws notifying)) f.reply.say)

  -- nothing is sent on a connection
  silent-flows : ((c : ℕ) (x : EndRow) → slice_get old.rows (me laws notifying) ≡ Some x → x.conn ≡ Some c → is_given v ≡ true) → AreFlowing (ls' laws notifying) w.conns
  silent-flows free c k ak = other-flows c k ak (free c)

  silent-spoken : (ds : List Conn) → ds ≡ w.conns → conn_of (slice_get (rows' laws notifying) (me laws notifying)) ≡ None → ((c : ℕ) (x : EndRow) → slice_get old.rows (me laws notifying) ≡ Some x → x.conn ≡ Some c → is_given v ≡ true) → Spoken ds
  silent-spoken ds e none free = subst (AreFlowing (ls' laws notifying)) (sym (spoken-none ds (slice_get (rows' laws notifying) (me laws notifying)) f.reply.say none ∙ e)) (silent-flows free)

  plain-flows : (ds : List Conn) → IsPlain v → ds ≡ w.conns → Spoken ds
  plain-flows ds plain e = elim (is_given v) as (λ b. is_given v ≡ b → Spoken ds) [
    | true ↦ λ g. silent-spoken ds e (dial-conn laws notifying g plain) (λ c x a b. g)
    | false ↦ λ ng. own ng (found laws notifying ng)
  ] refl
    where
      own : is_given v ≡ false → Found laws notifying → Spoken ds
      own ng q = by q.x0.conn refl
        where
          by : (o : Option ℕ) → q.x0.conn ≡ o → Spoken ds
          by None none = silent-spoken ds e (ap conn_of q.row-is ∙ none) (conn-not laws notifying q.x0 q.at-x none)
          by (Some c) on =
              let k = wired.0.only i (me laws notifying) c q.x0 (ap (λ o. row_of_life o (me laws notifying)) at ∙ q.at-x) on in
              subst (AreFlowing (ls' laws notifying)) (sym ((λ n. conns_after_saying (e n) (q.row-is n) f.reply.say) ∙ ap (λ o. spoken_on w.conns o q.x0.side f.reply.say) on))
              (says-flows ng q.x0 q.e0 q.at-x q.at-e c on k.conn k.there plain)

  take-flows : (ds : List Conn) (id : EndId) (row : EndRow) (c : ℕ) (k : Conn) (body : List ℕ) → v ≡ event.Frame id body → row_at w i id.0 ≡ Some row → row.conn ≡ Some c → slice_get w.conns c ≡ Some k → (let u = text_to row.side k in first_body w16 u.come) ≡ Some body
      → ds ≡ at_place c (change_to row.side body_taken) w.conns → Spoken ds
  take-flows ds id row c k body is ar on ak first e =
      let ng : is_given v ≡ false = ap is_given is in
      let q = found laws notifying ng in
      let own : (me laws notifying) ≡ id.0 = ap (λ (y : EndId). y.0) (frame-end old.node v f id body (deed laws notifying) is) in
      let z : Some q.x0 ≡ Some row = sym q.at-x ∙ ap (slice_get old.rows) own ∙ sym (ap (λ o. row_of_life o id.0) at) ∙ ar in
      let same : row ≡ q.x0 = cc in
      let on0 : q.x0.conn ≡ Some c = ap (λ (r : EndRow). r.conn) (sym same) ∙ on in
      let first0 : (let s = let x = q.x0 in x.side in let u = text_to s k in first_body w16 u.come) ≡ Some body = ap (λ (r : EndRow). let u = text_to r.side k in first_body w16 u.come) (sym same) ∙ first in
      let ds0 : ds ≡ at_place c (change_to q.x0.side body_taken) w.conns = e ∙ ap (λ (r : EndRow). at_place c (change_to r.side body_taken) w.conns) same in
      subst (AreFlowing (ls' laws notifying)) (sym ((λ n. conns_after_saying (ds0 n) (q.row-is n) f.reply.say) ∙ ap (λ o. spoken_on (at_place c (change_to q.x0.side body_taken) w.conns) o q.x0.side f.reply.say) on0
      ∙ place-twice c (change_to q.x0.side body_taken) (says q.x0.side f.reply.say) w.conns))
      (takes-flows ng q.x0 q.e0 q.at-x q.at-e c on0 k ak id body is first0)

  -- ---- a connection is accepted

  module _ (c : ℕ) (k : Conn) (is : v ≡ event.Incoming c) (ak : slice_get w.conns c ≡ Some k) (free : k.accepted ≡ None) (target : k.target ≡ i) where
    abbrev next : ℕ
    next = next_end (slice_get w.lives i)

    abbrev take_in : Conn → Conn
    take_in h = says Acceptor f.reply.say (accepted_by next h)

    given : is_given v ≡ true
    given = ap is_given is

    next-is : next ≡ (me laws notifying)
    next-is = let g = gives old.node v f (deed laws notifying) given in ap next_end at ∙ sym g.id

    -- the new end has no name
    unnamed : f.this ≡ ends.Unnamed
    unnamed = by (the-row laws notifying)
      where
        by : StepRow old.node v fresh f → f.this ≡ ends.Unnamed
        by (core.Comes_in link is' sp cr q) = ap (λ (f : Effect). f.this) q
        by (core.Dials p o is' idle sp full cr q) = absurd (let z : event.Incoming c ≡ event.Dial p o = sym is ∙ is' in cc)
        by (core.Begins id link b is' a ph sp q) = absurd (let z : event.Incoming c ≡ event.Opened id link = sym is ∙ is' in cc)
        by (core.Ceases id link b is' a ph sp q) = absurd (let z : event.Incoming c ≡ event.Opened id link = sym is ∙ is' in cc)
        by (core.Loses id y e is' a op q) = absurd (let z : event.Incoming c ≡ event.Lost id y = sym is ∙ is' in cc)
        by (core.Ticks id r is' a sp q) = absurd (let z : event.Incoming c ≡ event.Tick id = sym is ∙ is' in cc)
        by (core.Fails id body e side x is' a to sp says q) = absurd (let z : event.Incoming c ≡ event.Frame id body = sym is ∙ is' in cc)
        by (core.Hears id body e side m is' a to sp says q) = absurd (let z : event.Incoming c ≡ event.Frame id body = sym is ∙ is' in cc)

    end-new : end_in (ls' laws notifying) k.target next ≡ Some ends.Unnamed
    end-new = let l = life laws notifying in
        (λ n. end_in (ls' laws notifying) (target n) (next-is n)) ∙ ap (λ o. end_of_life o (me laws notifying)) (get-now laws notifying) ∙ own-after laws old.node l.legal v fresh f ok ∙ ap (λ (e : End). Some e) unnamed

    accepted-flow : FlowAt (ls' laws notifying) (take_in k)
    accepted-flow =
        let there : List ℕ = on_way k.there in
        let back : List ℕ = on_way k.back in
        let d : Option End = end_in (ls' laws notifying) k.life k.dialler in
        let was : Flow there back d (far (end_in (ls' laws notifying) k.target) k.accepted) = other-flows c k ak (λ x ax ox. given) in
        let free_was : Flow there back d None = subst (λ o. Flow there back d (far (end_in (ls' laws notifying) k.target) o)) free was in
        let b = k.back in
        let g = gives old.node v f (deed laws notifying) given in
        let same : on_way k.back ≡ on_way (more_said f.reply.say k.back) = sym (ap (λ s. b.come ++ (b.said ++ s)) g.say ∙ ap (λ s. b.come ++ s) (append-nil b.said)) in
        subst (λ o. Flow there (on_way (more_said f.reply.say k.back)) d o) (sym end-new) (subst (λ z. Flow there z d (Some ends.Unnamed)) same (flow-accepted there back d free_was))

    row-at : slice_get (rows' laws notifying) (me laws notifying) ≡ Some (mark w.clock f.reply (me laws notifying) (new_row Acceptor None (Some c) w.clock))
    row-at = new-row-at laws notifying (new_row Acceptor None (Some c) w.clock) given (ap (given_by w.clock) is ∙ ap (λ o. Some (new_row Acceptor None o w.clock)) (wired.0.behind c k ak))

    accept-flows : (ds : List Conn) → ds ≡ at_place c (accepted_by next) w.conns → Spoken ds
    accept-flows ds e = subst (AreFlowing (ls' laws notifying)) (sym ((λ n. conns_after_saying (e n) (row-at n) f.reply.say) ∙ place-twice c (accepted_by next) (says Acceptor f.reply.say) w.conns))
        (at-other (λ d h. FlowAt (ls' laws notifying) h) c take_in w.conns
        (λ h ah. let z = same-conn w.conns c k h ak ah in let P : Conn → Type 0 = λ h. FlowAt (ls' laws notifying) (take_in h) in subst P z accepted-flow)
        (λ d h n ah. other-flows d h ah (λ x a b. given)))

  -- something from outside
  strange-flows : (ds : List Conn) → is_outside w i v ≡ true → ds ≡ w.conns → Spoken ds
  strange-flows ds strange e = elim (is_given v) as (λ b. is_given v ≡ b → Spoken ds) [
    | true ↦ λ g. silent-spoken ds e (strange-given laws notifying strange g) (λ c x a b. g)
    | false ↦ λ ng. own (found laws notifying ng) (strange-free laws notifying strange ng)
  ] refl
    where
      own : Found laws notifying → conn_of (slice_get old.rows (me laws notifying)) ≡ None → Spoken ds
      own q none =
          let free : q.x0.conn ≡ None = ap conn_of (sym q.at-x) ∙ none in
          silent-spoken ds e (ap conn_of q.row-is ∙ free) (conn-not laws notifying q.x0 q.at-x free)

  pub notified-flows : {h : Happening} (ds : List Conn) → Ready h w i v fresh ds → Spoken ds
  notified-flows ds (Plain plain e) = plain-flows ds plain e
  notified-flows ds (Accepts c k is ak free target e) = accept-flows c k is ak free target ds e
  notified-flows ds (Strange a is runs strange e) = strange-flows ds strange e
  notified-flows ds (Takes id row c k body is ar on ak first e) = take-flows ds id row c k body is ar on ak first e

-- ---- EVERY HAPPENING KEEPS IT

module _ (laws : NodeLaws) (hap : Happening) (w : World) (known : Fits hap) (h : IsKept w) (flow : AreFlowing w.lives w.conns) where
  flows-after : (ls : List Life) (cs : List Conn) → Act hap w ls cs → AreFlowing ls cs
  flows-after ls cs act = by act
    where
      to : (xs : List Life) (ds : List Conn) → ls ≡ xs → cs ≡ ds → AreFlowing xs ds → AreFlowing ls cs
      to xs ds e d k = let P : List Life → List Conn → Type 0 = λ x y. AreFlowing x y in subst (λ x. P x cs) (sym e) (subst (P xs) (sym d) k)

      by : Act hap w ls cs → AreFlowing ls cs
      by (Begins who s base c fc at nm kind none is k) = to _ _ is k (all-stay w.lives _ w.conns (begun-ends w.lives (new_life who w.clock s c) refl) flow)
      by (Ends i old at live is k) = to _ _ is k (all-stay w.lives _ w.conns (turned-ends i (life_after_end w.clock) w.lives old at refl) flow)
      by (Reaches i id j old away at live ata livea dialing free few is k) = to _ _ is k (reached-flows i id j w.lives w.conns old at dialing flow)
      by (Comes side c n is k) = to _ _ is k (come-flows side c n w.lives w.conns flow)
      by (Reports i old v fresh f ds fits at live ok ready is k) =
          to _ _ is k (notified-flows laws (record { w = w; lives = λ i l at. (let s = h.seen i l at in s.0); fit = h.fits; wired = h.wired; i = i; old = old; v = v; fresh = fresh; f = f; small = fits known; at = at; live = live; ok = ok }) flow ds ready)
      by (Resets a i old v r at live ok is k) = to _ _ is k (all-stay w.lives _ w.conns (turned-ends i (with_node (after_change old.node v)) w.lives old at refl) flow)

-- in every world
pub record IsFlowing (w : World) : Type 0 where
  pub kept : IsKept w
  pub flows : AreFlowing w.lives w.conns

module _ (laws : NodeLaws) where
  pub flows-on : (hs : List Happening) (w : World) → AllFit hs → IsFlowing w → IsFlowing (run hs w)
  flows-on hs w f flows = kept-by-all IsFlowing Fits
      (λ w x hap g a k. record { kept = happening-keeps laws hap w g k.kept x a; flows = flows-after laws hap w g k.kept k.flows x.lives x.conns a.act })
      (λ w k. record { kept = (let q = k.kept in record { setups = q.setups; seen = q.seen; fits = q.fits; owns = q.owns; wired = q.wired; order = q.order }); flows = k.flows })
      hs w f flows

  pub flowing : (ss : List Setup) (hs : List Happening) → AreSetups ss → AllFit hs → IsFlowing (run hs (empty ss))
  flowing ss hs h f = flows-on hs (empty ss) f (record { kept = kept-empty ss h; flows = λ c k at. absurd cc })
