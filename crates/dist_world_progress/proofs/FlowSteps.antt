-- What a step does to how the ends of its connection stand to one another.
use Rattle.dist_world_model.proofs.Words.{◌≡◌, ℕ, ◌^◌, ◌<◌, Bool, true, false, List, [], ◌∷◌, ◌++◌, slice_get, Some, None, Ok, Option, sym, refl, ap, ◌∙◌, subst}
use Rattle.dist_world_model.proofs.Words.{UpRecord, complete_flags, held_back, inl, inr, append-nil, false≢true, both_ways, same_Some, some_pair_parts, w16, first_body, read, Form, Message, Side}
use Rattle.dist_world_model.proofs.Words.{Acceptor, Dialler, Status, is_said_by, EndId, Attempt, End, Phase, Why, replaced_by, entry_in, NodeState}
use Rattle.dist_world_model.proofs.Words.{Heard, StepRow, Taken, sender_in, sender_to, Effect, Event, body_taken, Text, NodeLaws, option_map, reply_phase}
use Rattle.dist_world_model.proofs.Words.{superseded_end, superseded_in, supersedes, named_attempt}
use Rattle.dist_world_model.proofs.{SentFrames.IsFit, StepEffects.is_given, WholeFrames.on_way}
use Rattle.dist_world_progress.proofs.Lines.{Line, Next, Replying, ack-next, any, asks, challenge-line, from-none, greeting-line, lets, line-taken, name-line, next-more}
use Rattle.dist_world_progress.proofs.Lines.{reply-line, status-line, way-empty}
use Rattle.dist_world_progress.proofs.Flows.{AckIn, ChallengeIn, Fades, Flow, FlowIn, IsRisen, Nameless, Naming, Pair, Rising, StatusIn, no-ack, no-challenge}
use Rattle.dist_world_progress.proofs.Flows.{no-dialing, no-pair, no-status, shut-there, Shut, Doomed_dialing, Doomed_named}
use Rattle.dist_messages.specs.declared.form.Form.TheVariants as form
use Rattle.dist_messages.specs.declared.message.Status.TheVariants as status
use Rattle.dist_core_ends.specs.declared.known.End.TheVariants as ends
use Rattle.dist_core_ends.specs.declared.phase.Phase.TheVariants as phase
use Rattle.dist_core_ends.specs.declared.why.Why.TheVariants as why
use Rattle.dist_core_setup.specs.Saying.{ack_text, challenge_text, greeting_text, name_text, reply_text, status_text, tick_text}
use Rattle.dist_core.specs.Rows as core
use Rattle.dist_core.specs.Rows.{is_alive, is_reply, lets_go_on}
use Rattle.dist_core.specs.declared.event.Event.TheVariants as event

-- y is left of the text x on its way to the event's end: its first body was taken, where the event is one
pub data TakenOf (v : Event) (x y : Text) : Type 0 where
  Untaken : ((id : EndId) (body : List ℕ) → v ≡ event.Frame id body → ⊥) → y ≡ x → TakenOf v x y
  Took : (id : EndId) → (body : List ℕ) → v ≡ event.Frame id body → first_body w16 x.come ≡ Some body → y ≡ body_taken x → TakenOf v x y

pub came : (v : Event) (x y : Text) → TakenOf v x y → (id : EndId) (body : List ℕ) → v ≡ event.Frame id body → (first_body w16 x.come ≡ Some body) × (y ≡ body_taken x)
came v x y (Untaken not q) id body is = absurd (not id body is)
came v x y (Took i b q first z) id body is = let w : event.Frame i b ≡ event.Frame id body = sym q ∙ is in let u : b ≡ body = cc in (first ∙ ap (λ (b : List ℕ). Some b) u, z)

pub stayed : (v : Event) (x y : Text) → TakenOf v x y → ((id : EndId) (body : List ℕ) → v ≡ event.Frame id body → ⊥) → y ≡ x
stayed v x y (Untaken unlike q) not = q
stayed v x y (Took i b q first z) not = absurd (not i b q)

not-both : (s : Status) → is_alive s ≡ true → lets_go_on s ≡ true → ⊥
not-both status.Alive a b = false≢true b
not-both s a b = false≢true a

none-left : (t : List ℕ) → t ≡ [] → t ++ [] ≡ []
none-left t e = append-nil t ∙ e

-- ---- the event's own end takes a message

module _ (v : Event) (x y : Text) (taken : TakenOf v x y) (e : End) (id : EndId) (body : List ℕ) (side : Side) (m : Message) (is : v ≡ event.Frame id body) (to : sender_to e ≡ Some side) (says : read side body ≡ Ok m) where
  -- nothing was on the way
  none : on_way x ≡ [] → ⊥
  none q = let c = came v x y taken id body is in way-empty x body q c.0

  -- the message was the first on the way
  pass : (s : Side) (test : Message → Bool) (P : List ℕ → Type 0) → sender_to e ≡ Some s → Next s test P (on_way x) → (test m ≡ true) × P (on_way y)
  pass s test P h n =
      let c = came v x y taken id body is in
      let g = line-taken s test P x body n c.0 in
      let same : side ≡ s = same_Some side s (sym to ∙ h) in
      (g.0 m (subst (λ z. read z body ≡ Ok m) same says), subst (λ (z : Text). P (on_way z)) (sym c.1) g.1)

  -- which side's message an attempt in this phase awaits
  sender : (b : Attempt) (q : Phase) → e ≡ ends.Attempt b → b.phase ≡ q → sender_to e ≡ sender_in q
  sender b q un ph = ap sender_to un ∙ ap sender_in ph

-- ---- a dialled end

module _ (laws : NodeLaws) (n : NodeState) (fit : IsFit n.setup) (v : Event) (fresh : ℕ) (small : fresh < 2 ^ 32) (e : End) (there : List ℕ) (x y : Text) (taken : TakenOf v x y) (o : Option End) (flow : Flow there (on_way x) (Some e) o) where
  abbrev Dialled : Effect → Type 0
  Dialled f = Flow (there ++ f.reply.say) (on_way y) (Some f.this) o

  flow-of : (b : Attempt) (q : Phase) → e ≡ ends.Attempt b → b.phase ≡ q → FlowIn there (on_way x) q o
  flow-of b q un ph = let h : FlowIn there (on_way x) b.phase o = subst (λ d. Flow there (on_way x) (Some d) o) un flow in subst (λ z. FlowIn there (on_way x) z o) ph h

  -- an attempt goes on from phase q to phase p
  goes : (q p : Phase) (say : List ℕ) → (Nameless there (on_way x) q → Nameless (there ++ say) (on_way y) p) → ((r : Phase) → Pair there (on_way x) q r → Pair (there ++ say) (on_way y) p r) → (Rising (on_way x) q → Rising (on_way y) p)
      → FlowIn there (on_way x) q o → FlowIn (there ++ say) (on_way y) p o
  goes q p say a b c h = by o h
    where
      by : (o : Option End) → FlowIn there (on_way x) q o → FlowIn (there ++ say) (on_way y) p o
      by None h = a h
      by (Some ends.Unnamed) h = a h
      by (Some (ends.Attempt d)) h = b d.phase h
      by (Some (ends.Up r)) h = c h
      by (Some (ends.Closed w)) h = tt

  -- or it comes up
  rises : (q : Phase) → (Nameless there (on_way x) q → ⊥) → ((r : Phase) → Pair there (on_way x) q r → ⊥) → FlowIn there (on_way x) q o → IsRisen o
  rises q a b h = by o h
    where
      by : (o : Option End) → FlowIn there (on_way x) q o → IsRisen o
      by None h = a h
      by (Some ends.Unnamed) h = a h
      by (Some (ends.Attempt d)) h = b d.phase h
      by (Some (ends.Up r)) h = tt
      by (Some (ends.Closed w)) h = tt

  module _ (id : EndId) (body : List ℕ) (side : Side) (m : Message) (is : v ≡ event.Frame id body) (to : sender_to e ≡ Some side) (says : read side body ≡ Ok m) where
    nothing : on_way x ≡ [] → ⊥
    nothing = none v x y taken e id body side m is to says

    first : (b : Attempt) (q : Phase) (test : Message → Bool) (P : List ℕ → Type 0) → e ≡ ends.Attempt b → b.phase ≡ q → sender_in q ≡ Some Acceptor → Next Acceptor test P (on_way x) → (test m ≡ true) × P (on_way y)
    first b q test P un ph s = pass v x y taken e id body side m is to says Acceptor test P (sender v x y taken e id body side m is to says b q un ph ∙ s)

    heard : (f : Effect) → Heard n id fresh e m f → Dialled f
    heard f (core.Closes say w cause k) = subst Dialled (sym k) tt
    heard f (core.Names u flags c p un mm ok t) = absurd (subst (λ d. Flow there (on_way x) (Some d) o) un flow)
    heard f (core.Goes_on s b un ph mm go k) = subst Dialled (sym k) (goes phase.AwaitStatus phase.AwaitChallenge [] (λ h. absurd (nothing h.1)) pair (λ h. h) (flow-of b phase.AwaitStatus un ph))
      where
        pair : (r : Phase) → StatusIn there (on_way x) r → ChallengeIn (there ++ []) (on_way y) r
        pair phase.AwaitTrue h = absurd (let p = first b phase.AwaitStatus asks (Line Acceptor []) un ph refl h.1 in not-both s (sym (ap asks mm) ∙ p.0) go)
        pair phase.AwaitComplement h = let p = first b phase.AwaitStatus lets (Line Acceptor (any ∷ [])) un ph refl h.1 in (none-left there h.0, p.1)
        pair phase.AwaitReply h = let p = first b phase.AwaitStatus lets (Line Acceptor (any ∷ [])) un ph refl h.1 in (none-left there h.0, p.1)
        pair r h = absurd h
    heard f (core.Insists b un ph mm k) = subst Dialled (sym k) (goes phase.AwaitStatus phase.AwaitChallenge (status_text status.True) (λ h. absurd (nothing h.1)) pair (λ h. h) (flow-of b phase.AwaitStatus un ph))
      where
        pair : (r : Phase) → StatusIn there (on_way x) r → ChallengeIn (there ++ status_text status.True) (on_way y) r
        pair phase.AwaitTrue h =
            let p = first b phase.AwaitStatus asks (Line Acceptor []) un ph refl h.1 in
            (from-none (Line Dialler (any ∷ [])) there (status_text status.True) h.0 (status-line laws Dialler any status.True refl refl), p.1)
        pair phase.AwaitComplement h = absurd (let p = first b phase.AwaitStatus lets (Line Acceptor (any ∷ [])) un ph refl h.1 in false≢true (sym (ap lets mm) ∙ p.0))
        pair phase.AwaitReply h = absurd (let p = first b phase.AwaitStatus lets (Line Acceptor (any ∷ [])) un ph refl h.1 in false≢true (sym (ap lets mm) ∙ p.0))
        pair r h = absurd h
    heard f (core.Replies u r flags challenge c p b un ph mm sn fl k) =
        subst Dialled (sym k) (goes phase.AwaitChallenge phase.AwaitAck (reply_text n.setup u b.peer fresh challenge) (λ h. absurd h) pair (λ h. absurd h) (flow-of b phase.AwaitChallenge un ph))
      where
        replied : (there ≡ []) × Line Acceptor (any ∷ []) (on_way x) → Replying (there ++ reply_text n.setup u b.peer fresh challenge) × (on_way y ≡ [])
        replied h =
            let p = first b phase.AwaitChallenge any (Line Acceptor []) un ph refl h.1 in
            (from-none Replying there (reply_text n.setup u b.peer fresh challenge) h.0 (reply-line laws n.setup fit u b.peer fresh challenge small), p.1)

        pair : (r : Phase) → ChallengeIn there (on_way x) r → AckIn (there ++ reply_text n.setup u b.peer fresh challenge) (on_way y) r
        pair phase.AwaitTrue h = absurd (nothing h.1)
        pair phase.AwaitComplement h = replied h
        pair phase.AwaitReply h = replied h
        pair r h = absurd h
    heard f (core.Challenges b un ph mm k) = subst Dialled (sym k) (goes phase.AwaitTrue (reply_phase b.form) (challenge_text n.setup b.form fresh) (λ h. absurd h) (λ r h. absurd h) (λ h. absurd h) (flow-of b phase.AwaitTrue un ph))
    heard f (core.Complements high c b un ph mm fl k) = subst Dialled (sym k) (goes phase.AwaitComplement phase.AwaitReply [] (λ h. absurd h) (λ r h. absurd h) (λ h. absurd h) (flow-of b phase.AwaitComplement un ph))
    heard f (core.Acknowledged digest b un ph mm right k) = subst Dialled (sym k) (rises phase.AwaitAck (λ h. h) pair (flow-of b phase.AwaitAck un ph))
      where
        pair : (r : Phase) → AckIn there (on_way x) r → ⊥
        pair phase.AwaitComplement h = nothing h.1
        pair phase.AwaitReply h = nothing h.1
        pair r h = h
    heard f (core.Replied challenge digest b un ph mm right k) = subst Dialled (sym k) (rises phase.AwaitReply (λ h. h) (λ r h. h) (flow-of b phase.AwaitReply un ph))

  pub dialled-flows : (f : Effect) → StepRow n v fresh f → is_given v ≡ false → slice_get n.ends f.reply.end_.0 ≡ Some e → Dialled f
  dialled-flows f row ng at = by row
    where
      here : (id : EndId) (d : End) → f.reply.end_ ≡ id → slice_get n.ends id.0 ≡ Some d → e ≡ d
      here id d q h = same_Some e d (sym at ∙ ap (λ (i : EndId). slice_get n.ends i.0) q ∙ h)

      by : StepRow n v fresh f → Dialled f
      by (core.Dials p u is idle sp full cr k) = absurd (both_ways (is_given v) ng (ap is_given is))
      by (core.Comes_in link is sp cr k) = absurd (both_ways (is_given v) ng (ap is_given is))
      by (core.Begins id link b is at' ph sp k) =
          let un = here id (ends.Attempt b) (ap (λ (f : Effect). f.reply.end_) k) at' in
          let q : y ≡ x = stayed v x y taken (λ i body w. let z : event.Opened id link ≡ event.Frame i body = sym is ∙ w in absurd cc) in
          subst Dialled (sym k) (goes phase.Dialing phase.AwaitStatus (name_text n.setup b.form)
          (λ h. (from-none (Line Dialler (any ∷ [])) there (name_text n.setup b.form) h.0 (name-line laws n.setup fit b.form), ap (λ (z : Text). on_way z) q ∙ h.1))
          (λ r h. absurd h) (λ h. h) (flow-of b phase.Dialing un ph))
      by (core.Ceases id link b is at' ph sp k) = subst Dialled (sym k) tt
      by (core.Loses id w d is at' op k) = subst Dialled (sym k) tt
      by (core.Ticks id r is at' sp k) =
          let un = here id (ends.Up r) (ap (λ (f : Effect). f.reply.end_) k) at' in
          let h : IsRisen o = subst (λ d. Flow there (on_way x) (Some d) o) un flow in
          subst Dialled (sym k) h
      by (core.Fails id body d side z is at' to sp says k) = subst Dialled (sym k) tt
      by (core.Hears id body d side m is at' to sp says h) =
          let un : e ≡ d = here id d (laws.own_end n id fresh d m f h) at' in
          heard id body side m is (ap sender_to un ∙ to) says f (subst (λ u. Heard n id fresh u m f) (sym un) h)

-- ---- an accepted end

module _ (laws : NodeLaws) (n : NodeState) (fit : IsFit n.setup) (v : Event) (fresh : ℕ) (small : fresh < 2 ^ 32) (e : End) (back : List ℕ) (x y : Text) (taken : TakenOf v x y) (o : Option End) (flow : Flow (on_way x) back o (Some e)) where
  abbrev Accepted : Effect → Type 0
  Accepted f = Flow (on_way y) (back ++ f.reply.say) o (Some f.this)

  shuts : (say : List ℕ) (w : Why) → Flow (on_way y) (back ++ say) o (Some (ends.Closed w))
  shuts say w = shut-there (on_way x) back (on_way y) (back ++ say) o (Some e) w flow

  flow-at : (d : End) → e ≡ d → Flow (on_way x) back o (Some d)
  flow-at d un = subst (λ d. Flow (on_way x) back o (Some d)) un flow

  -- it was in a phase of a dialled end, so that the other end is closed
  strays : (b : Attempt) (p : Phase) (say : List ℕ) (d : End) → e ≡ ends.Attempt b → b.phase ≡ p → ((q : Phase) → Pair (on_way x) back q p → ⊥) → Flow (on_way y) (back ++ say) o (Some d)
  strays b p say d un ph not = no-pair (on_way x) back (on_way y) (back ++ say) o b p (Some d) ph not (flow-at (ends.Attempt b) un)

  -- the accepted end is then d, by what that asks where the dialled end is an attempt, and where it is up
  becomes : (say : List ℕ) (d : End) → ((k : Attempt) → FlowIn (on_way x) back k.phase (Some e) → FlowIn (on_way y) (back ++ say) k.phase (Some d)) → (IsRisen (Some e) → IsRisen (Some d)) → Flow (on_way y) (back ++ say) o (Some d)
  becomes say d g up = by o flow
    where
      by : (o : Option End) → Flow (on_way x) back o (Some e) → Flow (on_way y) (back ++ say) o (Some d)
      by None h = tt
      by (Some ends.Unnamed) h = h
      by (Some (ends.Attempt k)) h = g k h
      by (Some (ends.Up r)) h = up h
      by (Some (ends.Closed w)) h = tt

  -- the same of what e is known to be
  it : (P : End → Type 0) (d : End) → e ≡ d → P e → P d
  it P d un h = subst P un h

  -- an attempt goes on
  moves-on : (b : Attempt) (p : Phase) (say : List ℕ) (d : Attempt) → e ≡ ends.Attempt b → b.phase ≡ p → ((q : Phase) → Pair (on_way x) back q p → Pair (on_way y) (back ++ say) q d.phase) → Flow (on_way y) (back ++ say) o (Some (ends.Attempt d))
  moves-on b p say d un ph g = becomes say (ends.Attempt d) (λ k h. g k.phase (subst (λ z. Pair (on_way x) back k.phase z) ph (it (λ u. FlowIn (on_way x) back k.phase (Some u)) (ends.Attempt b) un h))) (it (λ u. IsRisen (Some u)) (ends.Attempt b) un)

  -- or it comes up
  comes-up : (b : Attempt) (p : Phase) (say : List ℕ) (r : UpRecord) → e ≡ ends.Attempt b → b.phase ≡ p → ((q : Phase) → Pair (on_way x) back q p → Rising (back ++ say) q) → Flow (on_way y) (back ++ say) o (Some (ends.Up r))
  comes-up b p say r un ph g = becomes say (ends.Up r) (λ k h. g k.phase (subst (λ z. Pair (on_way x) back k.phase z) ph (it (λ u. FlowIn (on_way x) back k.phase (Some u)) (ends.Attempt b) un h))) (λ h. tt)

  -- a name is taken
  takes-name : (say : List ℕ) (d : Attempt) → e ≡ ends.Unnamed → ((q : Phase) → Nameless (on_way x) back q → Pair (on_way y) (back ++ say) q d.phase) → Flow (on_way y) (back ++ say) o (Some (ends.Attempt d))
  takes-name say d un g = becomes say (ends.Attempt d) (λ k h. g k.phase (it (λ u. FlowIn (on_way x) back k.phase (Some u)) ends.Unnamed un h)) (it (λ u. IsRisen (Some u)) ends.Unnamed un)

  ticks-on : (r : UpRecord) (say : List ℕ) → e ≡ ends.Up r → Flow (on_way y) (back ++ say) o (Some (ends.Up r))
  ticks-on r say un = becomes say (ends.Up r) (λ k h. rising k.phase (it (λ u. FlowIn (on_way x) back k.phase (Some u)) (ends.Up r) un h)) (λ h. tt)
    where
      rising : (p : Phase) → Rising back p → Rising (back ++ say) p
      rising phase.AwaitAck h = next-more Acceptor any back say h
      rising p h = h

  module _ (id : EndId) (body : List ℕ) (side : Side) (m : Message) (is : v ≡ event.Frame id body) (to : sender_to e ≡ Some side) (says : read side body ≡ Ok m) where
    mute : on_way x ≡ [] → ⊥
    mute = none v x y taken e id body side m is to says

    next-in : (b : Attempt) (q : Phase) (test : Message → Bool) (P : List ℕ → Type 0) → e ≡ ends.Attempt b → b.phase ≡ q → sender_in q ≡ Some Dialler → Next Dialler test P (on_way x) → (test m ≡ true) × P (on_way y)
    next-in b q test P un ph s = pass v x y taken e id body side m is to says Dialler test P (sender v x y taken e id body side m is to says b q un ph ∙ s)

    -- ---- a name passed all checks

    module _ (un : e ≡ ends.Unnamed) where
      name-gone : Line Dialler (any ∷ []) (on_way x) → on_way y ≡ []
      name-gone h = let p = pass v x y taken e id body side m is to says Dialler any (Line Dialler []) (ap sender_to un) h in p.1

      status-in : (k : Form) (t back : List ℕ) → t ≡ [] → Line Acceptor (lets ∷ any ∷ []) back → StatusIn t back (reply_phase k)
      status-in form.New t back a b = (a, b)
      status-in form.Old t back a b = (a, b)
      status-in form.Five t back a b = (a, b)

      greets : (k : Status) → is_said_by k Acceptor ≡ true → lets_go_on k ≡ true → (b : Attempt) → b.phase ≡ reply_phase b.form → Flow (on_way y) (back ++ greeting_text n.setup k b.form b.challenge) o (Some (ends.Attempt b))
      greets k s go b ph = takes-name (greeting_text n.setup k b.form b.challenge) b un (λ q h. subst (λ z. Pair (on_way y) (back ++ greeting_text n.setup k b.form b.challenge) q z) (sym ph) (pairs q h))
        where
          greeted : Naming (on_way x) back → StatusIn (on_way y) (back ++ greeting_text n.setup k b.form b.challenge) (reply_phase b.form)
          greeted h = status-in b.form (on_way y) _ (name-gone h.0) (from-none (Line Acceptor (lets ∷ any ∷ [])) back (greeting_text n.setup k b.form b.challenge) h.1 (greeting-line laws n.setup fit k b.form b.challenge s go))

          pairs : (q : Phase) → Nameless (on_way x) back q → Pair (on_way y) (back ++ greeting_text n.setup k b.form b.challenge) q (reply_phase b.form)
          pairs phase.Dialing h = absurd (mute h.0)
          pairs phase.DoomedDialing h = absurd (mute h.0)
          pairs phase.AwaitStatus h = greeted h
          pairs phase.Doomed h = greeted h
          pairs q h = absurd h

      asked : (d : Attempt) → d.phase ≡ phase.AwaitTrue → Flow (on_way y) (back ++ status_text status.Alive) o (Some (ends.Attempt d))
      asked d ph = takes-name (status_text status.Alive) d un (λ q h. subst (λ z. Pair (on_way y) (back ++ status_text status.Alive) q z) (sym ph) (pairs q h))
        where
          asking : Naming (on_way x) back → StatusIn (on_way y) (back ++ status_text status.Alive) phase.AwaitTrue
          asking h = (name-gone h.0, from-none (Line Acceptor (asks ∷ [])) back (status_text status.Alive) h.1 (status-line laws Acceptor asks status.Alive refl refl))

          pairs : (q : Phase) → Nameless (on_way x) back q → Pair (on_way y) (back ++ status_text status.Alive) q phase.AwaitTrue
          pairs phase.Dialing h = absurd (mute h.0)
          pairs phase.DoomedDialing h = absurd (mute h.0)
          pairs phase.AwaitStatus h = asking h
          pairs phase.Doomed h = asking h
          pairs q h = absurd h

      taken-by : (b : Attempt) → b.phase ≡ reply_phase b.form → (f : Effect) → Taken n id b f → Accepted f
      taken-by b ph f (core.Accepts en k) = subst Accepted (sym k) (greets status.Ok refl refl b ph)
      taken-by b ph f (core.Crosses z en g k) = crossed (superseded_end (slice_get n.ends z.0)) k
        where
          crossed : (s : End) → f ≡ supersedes id (greeting_text n.setup status.OkSimultaneous b.form b.challenge) b z s → Accepted f
          crossed (ends.Closed w) k = subst Accepted (sym k) (greets status.OkSimultaneous refl refl b ph)
          crossed s k = subst Accepted (sym k) (greets status.OkSimultaneous refl refl b ph)
      taken-by b ph f (core.Declines z en g k) = subst Accepted (sym k) (shuts (status_text status.Nok) why.Crossed)
      taken-by b ph f (core.Comes_again z en k) = subst Accepted (sym k) (greets status.Ok refl refl b ph)
      taken-by b ph f (core.Asks_alive z en k) = subst Accepted (sym k) (asked (held_back b) refl)
      taken-by b ph f (core.Asks_again u z en k) = subst Accepted (sym k) (asked (held_back b) refl)

    -- ---- what follows it

    challenged : (k : Form) (t back : List ℕ) → t ≡ [] → Line Acceptor (any ∷ []) back → ChallengeIn t back (reply_phase k)
    challenged form.New t back a b = (a, b)
    challenged form.Old t back a b = (a, b)
    challenged form.Five t back a b = (a, b)

    heard-there : (f : Effect) → Heard n id fresh e m f → Accepted f
    heard-there f (core.Closes say w cause k) = subst Accepted (sym k) (shuts say w)
    heard-there f (core.Names u flags c p un mm ok t) = taken-by un (named_attempt u flags c p fresh) refl f t
    heard-there f (core.Goes_on s b un ph mm go k) = subst Accepted (sym k) (strays b phase.AwaitStatus [] _ un ph (no-status (on_way x) back))
    heard-there f (core.Insists b un ph mm k) = subst Accepted (sym k) (strays b phase.AwaitStatus (status_text status.True) _ un ph (no-status (on_way x) back))
    heard-there f (core.Replies u r flags challenge c p b un ph mm sn fl k) = subst Accepted (sym k) (strays b phase.AwaitChallenge (reply_text n.setup u b.peer fresh challenge) _ un ph (no-challenge (on_way x) back))
    heard-there f (core.Acknowledged digest b un ph mm right k) = subst Accepted (sym k) (strays b phase.AwaitAck [] _ un ph (no-ack (on_way x) back))
    heard-there f (core.Challenges b un ph mm k) = subst Accepted (sym k) (moves-on b phase.AwaitTrue (challenge_text n.setup b.form fresh) (record b { phase = reply_phase b.form; challenge = fresh }) un ph pairs)
      where
        pairs : (q : Phase) → Pair (on_way x) back q phase.AwaitTrue → Pair (on_way y) (back ++ challenge_text n.setup b.form fresh) q (reply_phase b.form)
        pairs phase.AwaitStatus h = absurd (mute h.0)
        pairs phase.Doomed h = absurd (mute h.0)
        pairs phase.AwaitChallenge h =
            let p = next-in b phase.AwaitTrue any (Line Dialler []) un ph refl h.0 in
            challenged b.form (on_way y) _ p.1 (from-none (Line Acceptor (any ∷ [])) back (challenge_text n.setup b.form fresh) h.1 (challenge-line laws n.setup fit b.form fresh))
        pairs phase.AwaitAck h = absurd h
        pairs q h = absurd h
    heard-there f (core.Complements high c b un ph mm fl k) = subst Accepted (sym k) (moves-on b phase.AwaitComplement [] (record b { phase = phase.AwaitReply; flags = complete_flags b high; creation = Some c }) un ph pairs)
      where
        replying : Replying (on_way x) → Replying (on_way y)
        replying (inl h) = let p = next-in b phase.AwaitComplement any (Line Dialler (is_reply ∷ [])) un ph refl h in inr p.1
        replying (inr h) = absurd (let p = next-in b phase.AwaitComplement is_reply (Line Dialler []) un ph refl h in false≢true (sym (ap is_reply mm) ∙ p.0))

        pairs : (q : Phase) → Pair (on_way x) back q phase.AwaitComplement → Pair (on_way y) (back ++ []) q phase.AwaitReply
        pairs phase.AwaitStatus h = absurd (mute h.0)
        pairs phase.Doomed h = absurd (mute h.0)
        pairs phase.AwaitChallenge h = absurd (mute h.0)
        pairs phase.AwaitAck h = (replying h.0, none-left back h.1)
        pairs q h = absurd h
    heard-there f (core.Replied challenge digest b un ph mm right k) = subst Accepted (sym k) (comes-up b phase.AwaitReply (ack_text n.setup b.peer challenge) _ un ph pairs)
      where
        pairs : (q : Phase) → Pair (on_way x) back q phase.AwaitReply → Rising (back ++ ack_text n.setup b.peer challenge) q
        pairs phase.AwaitStatus h = absurd (mute h.0)
        pairs phase.Doomed h = absurd (mute h.0)
        pairs phase.AwaitChallenge h = absurd (mute h.0)
        pairs phase.AwaitAck h = from-none (Next Acceptor any (λ r. Unit {0})) back (ack_text n.setup b.peer challenge) h.1 (ack-next laws n.setup fit b.peer challenge)
        pairs q h = absurd h

  pub accepted-flows : (f : Effect) → StepRow n v fresh f → is_given v ≡ false → slice_get n.ends f.reply.end_.0 ≡ Some e → Accepted f
  accepted-flows f row ng at = by row
    where
      here : (id : EndId) (d : End) → f.reply.end_ ≡ id → slice_get n.ends id.0 ≡ Some d → e ≡ d
      here id d q h = same_Some e d (sym at ∙ ap (λ (i : EndId). slice_get n.ends i.0) q ∙ h)

      by : StepRow n v fresh f → Accepted f
      by (core.Dials p u is idle sp full cr k) = absurd (both_ways (is_given v) ng (ap is_given is))
      by (core.Comes_in link is sp cr k) = absurd (both_ways (is_given v) ng (ap is_given is))
      by (core.Begins id link b is at' ph sp k) =
          subst Accepted (sym k) (strays b phase.Dialing (name_text n.setup b.form) _ (here id (ends.Attempt b) (ap (λ (f : Effect). f.reply.end_) k) at') ph (no-dialing (on_way x) back))
      by (core.Ceases id link b is at' ph sp k) = subst Accepted (sym k) (shuts [] why.Crossed)
      by (core.Loses id w d is at' op k) = subst Accepted (sym k) (shuts [] w)
      by (core.Ticks id r is at' sp k) =
          let un = here id (ends.Up r) (ap (λ (f : Effect). f.reply.end_) k) at' in
          subst Accepted (sym k) (ticks-on r tick_text un)
      by (core.Fails id body d side z is at' to sp says k) = subst Accepted (sym k) (shuts [] why.Malformed)
      by (core.Hears id body d side m is at' to sp says h) =
          let un : e ≡ d = here id d (laws.own_end n id fresh d m f h) at' in
          heard-there id body side m is (ap sender_to un ∙ to) says f (subst (λ u. Heard n id fresh u m f) (sym un) h)

-- ---- the other end that a step changes is closed or doomed

module _ (n : NodeState) (v : Event) (fresh : ℕ) (f : Effect) (x : EndId) (s : End) (other : f.other ≡ Some (x, s)) where
  abbrev Faded : Type 0
  Faded = Fades (slice_get n.ends x.0) (Some s)

  not-other : (g : Effect) → f ≡ g → g.other ≡ None → Faded
  not-other g k q = absurd (let z : None ≡ Some (x, s) = sym q ∙ ap (λ (f : Effect). f.other) (sym k) ∙ other in cc)

  shut-other : (g : Effect) (z : EndId) (w : Why) → f ≡ g → g.other ≡ Some (z, ends.Closed w) → Faded
  shut-other g z w k q = let p = some_pair_parts z x (ends.Closed w) s (sym q ∙ ap (λ (f : Effect). f.other) (sym k) ∙ other) in Shut w (ap Some (sym p.1))

  up-other : (g : Effect) (z : Option EndId) → f ≡ g → g.other ≡ option_map (λ (y : EndId). (y, ends.Closed why.Replaced)) z → Faded
  up-other g None k q = not-other g k q
  up-other g (Some z) k q = shut-other g z why.Replaced k q

  crossed-other : (id : EndId) (say : List ℕ) (b : Attempt) (z : EndId) (o : Option End) → slice_get n.ends z.0 ≡ o → f ≡ supersedes id say b z (superseded_end o) → Faded
  crossed-other id say b z (Some (ends.Attempt a)) at k = by a.phase refl k
    where
      by : (q : Phase) → a.phase ≡ q → f ≡ supersedes id say b z (superseded_in a q) → Faded
      by phase.Dialing ph k =
          let p = some_pair_parts z x (ends.Attempt (record a { phase = phase.DoomedDialing })) s (ap (λ (f : Effect). f.other) (sym k) ∙ other) in
          Doomed_dialing a (record a { phase = phase.DoomedDialing }) (ap (λ (i : EndId). slice_get n.ends i.0) (sym p.0) ∙ at) ph (ap Some (sym p.1)) refl
      by phase.AwaitStatus ph k =
          let p = some_pair_parts z x (ends.Attempt (record a { phase = phase.Doomed })) s (ap (λ (f : Effect). f.other) (sym k) ∙ other) in
          Doomed_named a (record a { phase = phase.Doomed }) (ap (λ (i : EndId). slice_get n.ends i.0) (sym p.0) ∙ at) ph (ap Some (sym p.1)) refl
      by q ph k = shut-other _ z why.Crossed k refl
  crossed-other id say b z o at k = shut-other _ z why.Crossed k refl

  taken-other : (id : EndId) (b : Attempt) → Taken n id b f → Faded
  taken-other id b (core.Accepts en k) = not-other _ k refl
  taken-other id b (core.Crosses z en g k) = crossed-other id _ b z (slice_get n.ends z.0) refl k
  taken-other id b (core.Declines z en g k) = not-other _ k refl
  taken-other id b (core.Comes_again z en k) = shut-other _ z why.Replaced k refl
  taken-other id b (core.Asks_alive z en k) = not-other _ k refl
  taken-other id b (core.Asks_again u z en k) = shut-other _ z why.Replaced k refl

  heard-other : (id : EndId) (e : End) (m : Message) → Heard n id fresh e m f → Faded
  heard-other id e m (core.Closes say w cause k) = not-other _ k refl
  heard-other id e m (core.Names u flags c p un mm ok t) = taken-other id (named_attempt u flags c p fresh) t
  heard-other id e m (core.Goes_on st b un ph mm go k) = not-other _ k refl
  heard-other id e m (core.Insists b un ph mm k) = not-other _ k refl
  heard-other id e m (core.Replies u r flags challenge c p b un ph mm sn fl k) = not-other _ k refl
  heard-other id e m (core.Challenges b un ph mm k) = not-other _ k refl
  heard-other id e m (core.Complements high c b un ph mm fl k) = not-other _ k refl
  heard-other id e m (core.Acknowledged digest b un ph mm right k) = up-other _ (replaced_by (entry_in n.ends b.peer)) k refl
  heard-other id e m (core.Replied challenge digest b un ph mm right k) = up-other _ (replaced_by (entry_in n.ends b.peer)) k refl

  pub other-fades : StepRow n v fresh f → Faded
  other-fades (core.Dials p o is idle sp full cr k) = not-other _ k refl
  other-fades (core.Comes_in link is sp cr k) = not-other _ k refl
  other-fades (core.Begins id link b is at ph sp k) = not-other _ k refl
  other-fades (core.Ceases id link b is at ph sp k) = not-other _ k refl
  other-fades (core.Loses id w e is at op k) = not-other _ k refl
  other-fades (core.Ticks id r is at sp k) = not-other _ k refl
  other-fades (core.Fails id body e side z is at to sp says k) = not-other _ k refl
  other-fades (core.Hears id body e side m is at to sp says h) = heard-other id e m h
