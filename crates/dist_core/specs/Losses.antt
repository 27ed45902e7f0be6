-- Events that report a loss.
use Rattle.std.specs.Prelude.{◌≡◌, Bool, true, false, [], Option, Some, None}
use Rattle.dist_core_ends.specs.declared.why.Why.{Why}
use Rattle.dist_core.specs.declared.{event.Event.Event, reply.Reply.Reply, step_error.StepError.StepError}
use Rattle.dist_core.specs.declared.event.Event.TheVariants as event
use Rattle.dist_core.specs.declared.reply.Note.TheVariants as note
use Rattle.dist_core.specs.declared.step_error.StepError.TheVariants as error

-- whether an event reports a loss
abbrev pub is_loss : Event → Bool
is_loss (event.Lost id w) = true
is_loss (event.Dial p o) = false
is_loss (event.Opened id link) = false
is_loss (event.Incoming link) = false
is_loss (event.Frame id body) = false
is_loss (event.Tick id) = false

-- the cause that a loss reports
abbrev pub cause_of_loss : Event → Option Why
cause_of_loss (event.Lost id w) = Some w
cause_of_loss e = None

-- The reply sends nothing, brings nothing up and notes nothing, like every reply to a loss.
abbrev pub IsSilent : Reply → Type 0
IsSilent r = (r.say ≡ []) × (r.up ≡ None) × (r.note ≡ note.Nothing)

-- the end is unknown, or closed
abbrev pub IsGone : StepError → Type 0
IsGone error.NoSuchEnd = Unit {0}
IsGone (error.Gone why) = Unit {0}
IsGone other = ⊥
