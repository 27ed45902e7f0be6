-- What the laws of a step say.
use Rattle.std.specs.Prelude.{◌≡◌, ◌≢◌, ◌≤◌, ℕ, Bool, true, false, List, [], Option, Some, None, Ok, count_by, length, slice_get}
use Rattle.std.specs.FinMap as map
use Rattle.dist_names.specs.{Order.Name, declared.flags.Flags.Flags, declared.creation.Creation.Creation}
use Rattle.dist_messages.specs.{Reading.read, declared.message.Side.TheVariants.Acceptor, declared.message.Message.Message, declared.form.Form.Form}
use Rattle.dist_peers.specs.declared.entry.EndId.{EndId}
use Rattle.dist_peers.specs.declared.entry.Entry.TheVariants as entry
use Rattle.dist_core_ends.specs.Ends.{entry_in, holds, is_open, table_of}
use Rattle.dist_core_ends.specs.declared.{phase.Kind.Kind, phase.Phase.Phase, why.Why.Why, known.Attempt.Attempt, known.UpRecord.UpRecord, known.End.End}
use Rattle.dist_core_ends.specs.declared.phase.Phase.TheVariants as phase
use Rattle.dist_core_ends.specs.declared.why.Why.TheVariants as why
use Rattle.dist_core_ends.specs.declared.known.End.TheVariants as ends
use Rattle.dist_core_setup.specs.{declared.setup.Setup.Setup, Rules.own_digest, Rules.same_bytes}
use Rattle.dist_core.specs.{declared.event.Event.Event, declared.reply.Reply.Reply, declared.effect.Effect.Effect, Node.NodeState, Node.limits_of}
use Rattle.dist_core.specs.{Node.new_id, Effects.dooms_other, Effects.shuts_other, Rows.IsChallenge, Step.effect_of, Step.after}
use Rattle.dist_core.specs.declared.event.Event.TheVariants as event
use Rattle.dist_core.specs.declared.reply.Note.TheVariants as note

-- an open end of the node that holds a peer, and is not this one
pub record IsOther (n : NodeState) (id x : EndId) : Type 0 where
  pub kept : End
  pub there : slice_get n.ends x.0 ≡ Some kept
  pub opened : is_open kept ≡ true
  pub peer : Name
  pub kind : Kind
  pub held : holds peer kind kept ≡ true
  pub apart : x ≢ id

-- how many ends an event gives out
abbrev pub given_by : Event → ℕ
given_by (event.Dial p o) = 1
given_by (event.Incoming link) = 1
given_by v = 0

-- one end, or none
abbrev pub closed_of : Option (EndId × Why) → ℕ
closed_of None = 0
closed_of (Some x) = 1

-- how many ends a reply reports as closed
abbrev pub closed_by : Reply → ℕ
closed_by r = closed_of r.closed

-- the node made no more steps, gave out no more ends, and has no more open ends and entries than its limits allow
pub record IsWithinLimits (n : NodeState) : Type 0 where
  pub steps : n.steps ≤ (let l = limits_of n in l.steps)
  pub given_out : length n.ends ≤ (let l = limits_of n in l.ends)
  pub open_ends : count_by is_open n.ends ≤ (let l = limits_of n in l.open_ends)
  pub entries : map.len (table_of n.ends) ≤ (let l = limits_of n in l.entries)

-- the digest that came is that of the own cookie and the own challenge
abbrev pub IsRightRecord : Setup → UpRecord → Type 0
IsRightRecord s r = same_bytes r.digest_received (own_digest s r.peer r.challenge) ≡ true

-- the reply is of the end that the event names; where a new end is given out, the reply is of the next number and sends nothing
abbrev pub IsOfItsEnd : NodeState → Event → Reply → Type 0
IsOfItsEnd n (event.Dial p o) r = (r.end_ ≡ new_id n) × (r.say ≡ [])
IsOfItsEnd n (event.Incoming link) r = (r.end_ ≡ new_id n) × (r.say ≡ [])
IsOfItsEnd n (event.Opened id link) r = r.end_ ≡ id
IsOfItsEnd n (event.Frame id body) r = r.end_ ≡ id
IsOfItsEnd n (event.Lost id w) r = r.end_ ≡ id
IsOfItsEnd n (event.Tick id) r = r.end_ ≡ id

-- the effect of a step that gave this reply and this node
pub record HasEffect (n : NodeState) (v : Event) (fresh : ℕ) (r : Reply) (m : NodeState) : Type 0 where
  pub effect : Effect
  pub is : effect_of n v fresh ≡ Ok effect
  pub reply : effect.reply ≡ r
  pub node : m ≡ after n v effect

-- ---- ends that were superseded

abbrev pub doomed_in : Phase → Bool
doomed_in phase.DoomedDialing = true
doomed_in phase.Doomed = true
doomed_in _ = false

-- the end was superseded and is not closed yet
abbrev pub is_doomed : End → Bool
is_doomed (ends.Attempt a) = doomed_in a.phase
is_doomed _ = false

-- the doomed phase of a dialled end, by the phase in which it was superseded
abbrev pub doomed_as : Phase → Option Phase
doomed_as phase.Dialing = Some phase.DoomedDialing
doomed_as phase.AwaitStatus = Some phase.Doomed
doomed_as _ = None

-- a status has let the dialled end go on
abbrev pub was_let_on : Phase → Bool
was_let_on phase.AwaitChallenge = true
was_let_on phase.AwaitAck = true
was_let_on _ = false

-- what a crossing name, whose attempt is b, does to the dialled end x that it supersedes
pub data Supersedes (n : NodeState) (id : EndId) (say : List ℕ) (b : Attempt) (x : EndId) (f : Effect) : Type 0 where
  -- no status came on it yet: it is doomed
  Dooms : (d : Attempt) → (to : Phase) → slice_get n.ends x.0 ≡ Some (ends.Attempt d) → doomed_as d.phase ≡ Some to
      → f ≡ dooms_other id say (ends.Attempt b) b.peer x (ends.Attempt (record d { phase = to })) → Supersedes n id say b x f
  -- a status let it go on: it is closed
  Drops : (d : Attempt) → slice_get n.ends x.0 ≡ Some (ends.Attempt d) → was_let_on d.phase ≡ true
      → f ≡ shuts_other id say (ends.Attempt b) x why.Crossed (note.NameTaken b.peer None) → Supersedes n id say b x f

-- ---- replies to challenges

-- the event is a challenge of the name that was dialled, on the only end that holds that peer
pub record IsDialledChallenge (n : NodeState) (v : Event) : Type 0 where
  pub id : EndId
  pub body : List ℕ
  pub attempt : Attempt
  pub form : Form
  pub required : ℕ
  pub flags : Flags
  pub challenge : ℕ
  pub creation : Option Creation
  pub heard : Message
  pub came : v ≡ event.Frame id body
  pub there : slice_get n.ends id.0 ≡ Some (ends.Attempt attempt)
  pub awaited : attempt.phase ≡ phase.AwaitChallenge
  pub says : read Acceptor body ≡ Ok heard
  pub is : IsChallenge n.setup attempt form required flags challenge creation attempt.peer heard
  pub held : entry_in n.ends attempt.peer ≡ Some (entry.Out id)
