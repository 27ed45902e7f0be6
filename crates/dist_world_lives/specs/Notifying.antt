-- What giving an event to an incarnation makes of the lists of incarnations and connections.
use Rattle.std.specs.Prelude.{◌≡◌, ℕ, Bool, true, false, List, Option, Some, None, Ok, slice_get}
use Rattle.dist_messages.specs.declared.message.Side.{Side, TheVariants.Acceptor}
use Rattle.dist_core.specs.{declared.event.Event.Event, declared.reply.Reply.Reply, declared.step_error.StepError.StepError, Node.NodeState, Step.step}
use Rattle.dist_core.specs.declared.event.Event.TheVariants as event
use Rattle.dist_core.specs.declared.step_error.StepError.TheVariants as error
use Rattle.dist_world_model.specs.World.{World, Life, Conn, runs}
use Rattle.dist_world_model.specs.{Lists.at_place, Rows.EndRow, Rows.rows_after, Delivery.conns_after_saying, Happenings.life_after, Happenings.notify}
use Rattle.dist_world_lives.specs.{Stepping.life_step_of, Stepping.wire_of, declared.stepping.LifeStep.LifeStep}

-- which side of which connection the end of an event is
abbrev pub event_wire : List EndRow → Event → Option (Side × ℕ)
event_wire rows (event.Dial p o) = None
event_wire rows (event.Opened id link) = wire_of (slice_get rows id.0)
event_wire rows (event.Incoming link) = Some (Acceptor, link)
event_wire rows (event.Frame id body) = wire_of (slice_get rows id.0)
event_wire rows (event.Lost id w) = wire_of (slice_get rows id.0)
event_wire rows (event.Tick id) = wire_of (slice_get rows id.0)

-- incarnation i ran, and got the event
pub record HasNotified (who : ℕ) (h : LifeStep) (i t : ℕ) (v : Event) (fresh : ℕ) (lives new : List Life) (conns said : List Conn) : Type 0 where
  pub life : Life
  pub reply : Reply
  pub node : NodeState
  pub there : slice_get lives i ≡ Some life
  pub running : runs life ≡ true
  pub stepped : step life.node v fresh ≡ Ok (reply, node)
  pub whose : who ≡ life.who
  pub made : h ≡ life_step_of reply
  pub lived_ : new ≡ at_place i (λ old. life_after t v reply node life) lives
  pub spoken_ : said ≡ conns_after_saying conns (slice_get (rows_after t v reply life.rows) reply.end_.0) reply.say

-- no world in which these incarnations are lets incarnation i get the event
abbrev pub Declines : List Life → ℕ → Event → ℕ → Type 0
Declines lives i v fresh = (w : World) → w.lives ≡ lives → notify w i v fresh ≡ None

-- out of memory, and no refusal of the event
abbrev pub is_out_of_memory : StepError → Bool
is_out_of_memory error.NoMemory = true
is_out_of_memory e = false
