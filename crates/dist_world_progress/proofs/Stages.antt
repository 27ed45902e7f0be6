-- Each frame that an end takes brings it forward, and nothing takes it back.
use Rattle.dist_world_model.proofs.Words.{◌≡◌, ℕ, ◌<◌, ◌≤◌, Bool, true, false, List, length, slice_get}
use Rattle.dist_world_model.proofs.Words.{Some, None, Option, sym, refl, ap, ◌∙◌, arith, false≢true, slice_get_past}
use Rattle.dist_world_model.proofs.Words.{Side, Form, Message, EndId, Attempt, End, Phase, NodeState, Heard, StepRow, Taken}
use Rattle.dist_world_model.proofs.Words.{sender_to, Effect, Event, named_attempt, reply_phase, superseded_end, supersedes, NodeLaws}
use Rattle.dist_world_progress.proofs.Flows.{Fades, Stays, Shut, Doomed_dialing, Doomed_named}
use Rattle.dist_messages.specs.declared.form.Form.TheVariants as form
use Rattle.dist_core_ends.specs.declared.known.End.TheVariants as ends
use Rattle.dist_core_ends.specs.declared.phase.Phase.TheVariants as phase
use Rattle.dist_core.specs.Rows as core
use Rattle.dist_core.specs.declared.event.Event.TheVariants as event

-- ---- the stages

-- how far an attempt has come
abbrev pub stage_in : Phase → ℕ
stage_in phase.Dialing = 0
stage_in phase.DoomedDialing = 0
stage_in phase.AwaitStatus = 1
stage_in phase.Doomed = 1
stage_in phase.AwaitChallenge = 2
stage_in phase.AwaitAck = 3
stage_in phase.AwaitTrue = 1
stage_in phase.AwaitComplement = 2
stage_in phase.AwaitReply = 3

-- HOW FAR AN END HAS COME: one that is up or closed is done
abbrev pub stage_of : Option End → ℕ
stage_of None = 0
stage_of (Some ends.Unnamed) = 0
stage_of (Some (ends.Attempt a)) = stage_in a.phase
stage_of (Some (ends.Up r)) = 4
stage_of (Some (ends.Closed w)) = 4

pub stage-low : (q : Phase) → stage_in q ≤ 3
stage-low phase.AwaitReply = omega arith
stage-low q = omega arith

pub stage-most : (o : Option End) → stage_of o ≤ 4
stage-most None = omega arith
stage-most (Some ends.Unnamed) = omega arith
stage-most (Some (ends.Attempt a)) = let s = stage-low a.phase in omega (arith, s)
stage-most (Some (ends.Up r)) = omega arith
stage-most (Some (ends.Closed w)) = omega arith

-- an end that awaits a message is not done
sender-early : (e : End) (s : Side) → sender_to e ≡ Some s → stage_of (Some e) < 4
sender-early ends.Unnamed s h = omega arith
sender-early (ends.Attempt a) s h = let s = stage-low a.phase in omega (arith, s)
sender-early (ends.Up r) s h = absurd cc
sender-early (ends.Closed w) s h = absurd cc

pub fades-stage : (o u : Option End) → Fades o u → stage_of o ≤ stage_of u
fades-stage o u (Stays e) = let q : stage_of o ≡ stage_of u = ap stage_of e in omega (arith, q)
fades-stage o u (Shut w e) = let q : stage_of u ≡ 4 = ap stage_of e in let m = stage-most o in omega (arith, q, m)
fades-stage o u (Doomed_dialing b d e p f q) = let x : stage_of o ≡ 0 = ap stage_of e ∙ ap stage_in p in let y : stage_of u ≡ 0 = ap stage_of f ∙ ap stage_in q in omega (arith, x, y)
fades-stage o u (Doomed_named b d e p f q) = let x : stage_of o ≡ 1 = ap stage_of e ∙ ap stage_in p in let y : stage_of u ≡ 1 = ap stage_of f ∙ ap stage_in q in omega (arith, x, y)

-- a frame, or an opened connection, brings an end on
abbrev pub brings_on : Event → Bool
brings_on (event.Frame id body) = true
brings_on (event.Opened id link) = true
brings_on v = false

-- ---- one step

-- the event's own end comes forward, by such an event at least one stage
pub record Moves (n : NodeState) (v : Event) (f : Effect) : Type 0 where
  pub not_back : stage_of (slice_get n.ends f.reply.end_.0) ≤ stage_of (Some f.this)
  pub forward : brings_on v ≡ true → stage_of (slice_get n.ends f.reply.end_.0) < stage_of (Some f.this)

module _ (laws : NodeLaws) (n : NodeState) (v : Event) (fresh : ℕ) (f : Effect) where
  abbrev stood : ℕ
  stood = stage_of (slice_get n.ends f.reply.end_.0)

  abbrev now : ℕ
  now = stage_of (Some f.this)

  this-stage : (g : Effect) → f ≡ g → now ≡ stage_of (Some g.this)
  this-stage g k = ap (λ (f : Effect). stage_of (Some f.this)) k

  moved : (a b : ℕ) → stood ≡ a → now ≡ b → a < b → Moves n v f
  moved a b p q h = record { not_back = omega (arith, p, q, h); forward = λ g. omega (arith, p, q, h) }

  stayed : (a b : ℕ) → stood ≡ a → now ≡ b → a ≤ b → brings_on v ≡ false → Moves n v f
  stayed a b p q h other = record { not_back = omega (arith, p, q, h); forward = λ g. absurd (false≢true (sym other ∙ g)) }

  taken-stage : (id : EndId) (o : Form) (b : Attempt) → b.phase ≡ reply_phase o → Taken n id b f → 0 < now
  taken-stage id o b ph = by
    where
      late : (o : Form) → 0 < stage_in (reply_phase o)
      late form.New = omega arith
      late form.Old = omega arith
      late form.Five = omega arith

      own : (s : ℕ) → now ≡ s → 0 < s → 0 < now
      own s e h = omega (arith, e, h)

      its : stage_in b.phase ≡ stage_in (reply_phase o)
      its = ap stage_in ph

      crossed : (z : EndId) (say : List ℕ) (s : End) → f ≡ supersedes id say b z s → 0 < now
      crossed z say (ends.Closed w) k = own (stage_in (reply_phase o)) (this-stage _ k ∙ its) (late o)
      crossed z say s k = own (stage_in (reply_phase o)) (this-stage _ k ∙ its) (late o)

      by : Taken n id b f → 0 < now
      by (core.Accepts en k) = own (stage_in (reply_phase o)) (this-stage _ k ∙ its) (late o)
      by (core.Crosses z en g k) = crossed z _ (superseded_end (slice_get n.ends z.0)) k
      by (core.Declines z en g k) = own 4 (this-stage _ k) (omega arith)
      by (core.Comes_again z en k) = own (stage_in (reply_phase o)) (this-stage _ k ∙ its) (late o)
      by (core.Asks_alive z en k) = own 1 (this-stage _ k) (omega arith)
      by (core.Asks_again u z en k) = own 1 (this-stage _ k) (omega arith)

  heard : (id : EndId) (e : End) (s : Side) (m : Message) → stood ≡ stage_of (Some e) → sender_to e ≡ Some s → Heard n id fresh e m f → Moves n v f
  heard id e s m be to = by
    where
      was : (b : Attempt) (q : Phase) → e ≡ ends.Attempt b → b.phase ≡ q → stood ≡ stage_in q
      was b q un ph = be ∙ ap (λ d. stage_of (Some d)) un ∙ ap stage_in ph

      reply-late : (o : Form) → 1 < stage_in (reply_phase o)
      reply-late form.New = omega arith
      reply-late form.Old = omega arith
      reply-late form.Five = omega arith

      by : Heard n id fresh e m f → Moves n v f
      by (core.Closes say w cause k) = moved (stage_of (Some e)) 4 be (this-stage _ k) (sender-early e s to)
      by (core.Names u flags c p un mm ok t) = let h = taken-stage id u (named_attempt u flags c p fresh) refl t in moved 0 now (be ∙ ap (λ d. stage_of (Some d)) un) refl h
      by (core.Goes_on st b un ph mm go k) = moved 1 2 (was b phase.AwaitStatus un ph) (this-stage _ k) (omega arith)
      by (core.Insists b un ph mm k) = moved 1 2 (was b phase.AwaitStatus un ph) (this-stage _ k) (omega arith)
      by (core.Replies u r flags challenge c p b un ph mm sn fl k) = moved 2 3 (was b phase.AwaitChallenge un ph) (this-stage _ k) (omega arith)
      by (core.Challenges b un ph mm k) = moved 1 (stage_in (reply_phase b.form)) (was b phase.AwaitTrue un ph) (this-stage _ k) (reply-late b.form)
      by (core.Complements high c b un ph mm fl k) = moved 2 3 (was b phase.AwaitComplement un ph) (this-stage _ k) (omega arith)
      by (core.Acknowledged digest b un ph mm right k) = moved 3 4 (was b phase.AwaitAck un ph) (this-stage _ k) (omega arith)
      by (core.Replied challenge digest b un ph mm right k) = moved 3 4 (was b phase.AwaitReply un ph) (this-stage _ k) (omega arith)

  pub step-moves : StepRow n v fresh f → Moves n v f
  step-moves row = by row
    where
      at-id : (id : EndId) (e : End) → f.reply.end_ ≡ id → slice_get n.ends id.0 ≡ Some e → stood ≡ stage_of (Some e)
      at-id id e q h = ap (λ (i : EndId). stage_of (slice_get n.ends i.0)) q ∙ ap stage_of h

      new : (g : Effect) → f ≡ g → g.reply.end_.0 ≡ length n.ends → stood ≡ 0
      new g k q = ap (λ (f : Effect). stage_of (slice_get n.ends f.reply.end_.0)) k ∙ ap (λ p. stage_of (slice_get n.ends p)) q ∙ ap stage_of (slice_get_past n.ends (length n.ends) (omega arith))

      by : StepRow n v fresh f → Moves n v f
      by (core.Dials p o is idle sp full cr k) = stayed 0 0 (new _ k refl) (this-stage _ k) (omega arith) (ap brings_on is)
      by (core.Comes_in link is sp cr k) = stayed 0 0 (new _ k refl) (this-stage _ k) (omega arith) (ap brings_on is)
      by (core.Begins id link b is at ph sp k) = moved 0 1 (at-id id (ends.Attempt b) (ap (λ (f : Effect). f.reply.end_) k) at ∙ ap stage_in ph) (this-stage _ k) (omega arith)
      by (core.Ceases id link b is at ph sp k) = moved 0 4 (at-id id (ends.Attempt b) (ap (λ (f : Effect). f.reply.end_) k) at ∙ ap stage_in ph) (this-stage _ k) (omega arith)
      by (core.Loses id w e is at op k) = stayed (stage_of (Some e)) 4 (at-id id e (ap (λ (f : Effect). f.reply.end_) k) at) (this-stage _ k) (stage-most (Some e)) (ap brings_on is)
      by (core.Ticks id r is at sp k) = stayed 4 4 (at-id id (ends.Up r) (ap (λ (f : Effect). f.reply.end_) k) at) (this-stage _ k) (omega arith) (ap brings_on is)
      by (core.Fails id body e side z is at to sp says k) = moved (stage_of (Some e)) 4 (at-id id e (ap (λ (f : Effect). f.reply.end_) k) at) (this-stage _ k) (sender-early e side to)
      by (core.Hears id body e side m is at to sp says h) = heard id e side m (at-id id e (laws.own_end n id fresh e m f h) at) to h
