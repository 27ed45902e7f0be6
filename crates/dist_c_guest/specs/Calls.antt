-- What the calls of a guest do.
use Rattle.std.specs.Prelude.{◌≡◌, ℕ, List, Option, Some, None, Result, Ok, Err}
use Rattle.dist_names.specs.Order.{Name}
use Rattle.dist_peers.specs.declared.entry.EndId.{EndId}
use Rattle.dist_core_setup.specs.declared.setup.Setup.{Setup}
use Rattle.dist_core.specs.{Changing.after_change, Node.NodeState, Step.step, Runs.opening, Answers.Refuses}
use Rattle.dist_core.specs.declared.{event.Event.Event, reply.Reply.Reply, step_error.StepError.StepError, changing.Change.TheVariants.Allow}
use Rattle.dist_core.specs.declared.event.Event.TheVariants as event
use Rattle.dist_c_guest.specs.{Forms.allowed_names, Reading.expansion, Reading.plain, Statuses.status_received, declared.guest.Guest.Guest}

-- a guest whose node has made no step, and which reads bodies unchanged
abbrev pub first_guest : Setup → Guest
first_guest s = record { node = opening s; last = None; received_status = None; reading = plain }

-- the guest, restarted with the same setup and the same reading
abbrev pub restarted_guest : Guest → Guest
restarted_guest g = record (first_guest g.node.setup) { reading = g.reading }

-- the node that is asked: these names may connect, or all
abbrev pub node_letting : NodeState → Option (List Name) → NodeState
node_letting n names = after_change n (Allow names)

-- the answer, and the node after it, with its own allow list again
abbrev pub answer_after : NodeState → Result (Reply × NodeState) StepError → Result (Reply × NodeState) StepError
answer_after n (Ok x) = Ok (x.0, node_letting x.1 n.setup.allow)
answer_after n (Err e) = Err e

-- THE EVENT OF A BODY, as the guest reads it, and how the node's definition answers it; if the name in the body has one of the guest's
-- forms, that name may connect
abbrev pub frame_to : Guest → EndId → List ℕ → Event
frame_to g id body = event.Frame id (expansion g.reading.mandatory.0 body)

abbrev pub answer_to : Guest → EndId → List ℕ → ℕ → Result (Reply × NodeState) StepError
answer_to g id body fresh =
    let came = expansion g.reading.mandatory.0 body in
    answer_after g.node (step (node_letting g.node (allowed_names g.reading.forms came g.node.setup.allow)) (event.Frame id came) fresh)

-- The call with this event made this step of the definition, and kept its reply and the status that it received; or it refused as the
-- definition does, or ran out of memory if the definition does not refuse. A refusal changed nothing.
abbrev pub IsCall : Event → Result (Unit {0}) StepError → Result (Reply × NodeState) StepError → Guest → Guest → Type 0
IsCall v (Ok u) s old new = (r : Reply) × (s ≡ Ok (r, new.node)) × (new.last ≡ Some r) × (new.received_status ≡ status_received v) × (new.reading ≡ old.reading)
IsCall v (Err e) s old new = Refuses e s × (new ≡ old)
