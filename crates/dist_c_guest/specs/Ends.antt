-- What is reported to C of an end and of the oldest pending one, and the calls that forget causes and renew a node. The numbers
-- in brackets are return codes (src/codes.rt); a guest is a node with its newest reply.
use Rattle.std.specs.Prelude.{◌≡◌, ℕ, zero, suc, List, [], length, nat_le, Option, Some, None, count_by}
use Rattle.dist_names.specs.Order.{Name}
use Rattle.dist_peers.specs.declared.entry.EndId.{EndId}
use Rattle.dist_core_ends.specs.{declared.phase.Phase.Phase, declared.known.End.End, Ends.is_open, Forgetting.without_causes_below}
use Rattle.dist_core_ends.specs.declared.phase.Phase.TheVariants as phase
use Rattle.dist_core_ends.specs.declared.known.End.TheVariants as ends
use Rattle.dist_c_guest.specs.{Calls.restarted_guest, declared.guest.Guest.Guest, declared.ends.DnEnd.DnEnd, Codes.why_number, Steps.CopiesIf, Steps.Silent}

-- the number of the phase of an end that knows its peer and is not up
abbrev pub phase_number : Phase → ℕ
phase_number phase.Dialing = 2
phase_number phase.AwaitStatus = 4
phase_number phase.AwaitChallenge = 5
phase_number phase.AwaitAck = 6
phase_number phase.AwaitTrue = 7
phase_number phase.AwaitComplement = 8
phase_number phase.AwaitReply = 9
phase_number phase.DoomedDialing = 10
phase_number phase.Doomed = 11

-- the number of how an end stands: 0 where it was never given out
abbrev pub end_number : Option End → ℕ
end_number None = 0
end_number (Some (ends.Closed w)) = 1
end_number (Some ends.Unnamed) = 3
end_number (Some (ends.Attempt a)) = phase_number a.phase
end_number (Some (ends.Up r)) = 12

-- the number of the cause for which an end was closed, and 0 where it is not
abbrev pub end_why : Option End → ℕ
end_why (Some (ends.Closed w)) = why_number w
end_why _ = 0

-- the peer of an end, and no bytes where none is known
abbrev pub end_peer : Option End → Name
end_peer (Some (ends.Attempt a)) = a.peer
end_peer (Some (ends.Up r)) = r.peer
end_peer _ = []

-- how an end stands
abbrev pub end_report : Option End → DnEnd
end_report o = record { peer = length (end_peer o); phase = end_number o; why = end_why o }

-- an end is reported, and the name of its peer copied
abbrev pub ReportsEnd : Option End → ℕ → DnEnd → DnEnd → List ℕ → List ℕ → Type 0
ReportsEnd o code was is old new = (is ≡ end_report o) × CopiesIf (nat_le (length (end_peer o)) (length old)) (end_peer o) code old new

-- the number of an end is reported, or there is none (6)
abbrev pub ReportsId : Option EndId → ℕ → ℕ → ℕ → Type 0
ReportsId None code was is = Silent 6 code was is
ReportsId (Some x) code was is = (code ≡ 0) × (is ≡ x.0)

-- the guest, once its node has forgotten why the ends below a number were closed
abbrev pub forgetful : ℕ → Guest → Guest
forgetful below s = record s { node = record s.node { ends = without_causes_below below s.node.ends } }

-- a guest begins anew, or is left as it is while ends are open (16), of which there are this many
abbrev pub RenewsWith : ℕ → ℕ → Guest → Option Guest → Type 0
RenewsWith zero code s new = (code ≡ 0) × (new ≡ Some (restarted_guest s))
RenewsWith (suc open_ends) code s new = (code ≡ 16) × (new ≡ Some s)

-- the same, where there is a guest (1)
abbrev pub Renews : ℕ → Option Guest → Option Guest → Type 0
Renews code None new = (code ≡ 1) × (new ≡ None)
Renews code (Some s) new = RenewsWith (count_by is_open s.node.ends) code s new

-- the node forgets, where there is a guest (1)
abbrev pub Forgets : ℕ → ℕ → Option Guest → Option Guest → Type 0
Forgets below code None new = (code ≡ 1) × (new ≡ None)
Forgets below code (Some s) new = (code ≡ 0) × (new ≡ Some (forgetful below s))
