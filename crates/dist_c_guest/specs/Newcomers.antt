-- Newcomers, a connection that came and a dial: which end makes room for them, and their steps.
use Rattle.std.specs.{Prelude.◌≡◌, Prelude.ℕ, Prelude.◌⊎◌, Prelude.List, Prelude.Option, Prelude.Some, Prelude.None, Prelude.Result, Prelude.Ok, Prelude.Err}
use Rattle.std.specs.Option.{option_or}
use Rattle.dist_names.specs.declared.name_error.NameError.{NameError}
use Rattle.dist_messages.specs.declared.opening.Opening.{Opening}
use Rattle.dist_peers.specs.declared.entry.EndId.{EndId}
use Rattle.dist_core_ends.specs.{Ends.oldest_pending, Ends.oldest_unnamed, declared.known.End.End}
use Rattle.dist_core_ends.specs.declared.why.Why.TheVariants as why
use Rattle.dist_core.specs.{declared.event.Event.Event, declared.reply.Reply.Reply, declared.step_error.StepError.StepError, Node.NodeState, Step.step}
use Rattle.dist_core.specs.declared.event.Event.TheVariants as event
use Rattle.dist_core.specs.declared.step_error.StepError.TheVariants as error
use Rattle.dist_c_guest.specs.{Calls.IsCall, Codes.name_code, Codes.why_number, Steps.Keeps, Steps.Steps}
use Rattle.dist_c_guest.specs.declared.{guest.Guest.Guest, replies.DnReply.DnReply}

-- THE END THAT IS GIVEN UP FIRST: the oldest on which no name came, and where there is none the oldest that is not up
abbrev pub first_to_go : List End → Option EndId
first_to_go es = option_or (oldest_unnamed es) (oldest_pending es)

-- this end, where the definition refuses an event as full
abbrev pub gives_way : Result (Reply × NodeState) StepError → Option EndId → Option EndId
gives_way (Err error.Full) first = first
gives_way _ oldest = None

-- THE END THAT MAKES ROOM FOR AN EVENT, where the node refuses it as full
abbrev pub room_for : Event → NodeState → Option EndId
room_for v n = gives_way (step n v 0) (first_to_go n.ends)

-- this end was given up, by a step as any other; where there is none nothing changed
abbrev pub MakesRoom : Option EndId → Guest → Guest → Type 0
MakesRoom None old new = new ≡ old
MakesRoom (Some x) old new = IsCall (event.Lost x why.GaveUp) (Ok tt) (step old.node (event.Lost x why.GaveUp) 0) old new

-- a reply beside which it is reported which end made room, and why it was closed; 0 where none did
abbrev pub with_room : Option EndId → DnReply → DnReply
with_room None r = record r { closed = 0; closed_id = 0 }
with_room (Some x) r = record r { closed = why_number why.GaveUp; closed_id = x.0 }

-- nothing changed, no end made room, and the call answered so
abbrev pub Declines : ℕ → ℕ → Option Guest → Option Guest → DnReply → DnReply → Type 0
Declines wanted code old new was is = Keeps wanted code old new (with_room None was) is

-- THE STEP OF A NEWCOMER: first an end made room for it, where one has to; then its own step was made, or refused. Which end made
-- room is reported in any case.
abbrev pub ComesAt : Option EndId → Event → ℕ → Guest → Option Guest → DnReply → DnReply → Type 0
ComesAt lost v code s new was is = (mid : Guest) × (r : DnReply) × MakesRoom lost s mid × Steps v 0 code (Some mid) new was r × (is ≡ with_room lost r)

-- the same at a node that may hold no guest (1)
abbrev pub Comes : Event → ℕ → Option Guest → Option Guest → DnReply → DnReply → Type 0
Comes v code None new was is = Declines 1 code None new was is
Comes v code (Some s) new was is = ComesAt (room_for v s.node) v code s new was is

-- the step of a dial, or the reason why the bytes are no name; memory may run out for the name (3)
abbrev pub Dials : Result (List ℕ) NameError → Opening → ℕ → Option Guest → Option Guest → DnReply → DnReply → Type 0
Dials (Ok p) o code old new was is = Comes (event.Dial p o) code old new was is ⊎ Declines 3 code old new was is
Dials (Err e) o code old new was is = Declines (name_code e) code old new was is
