-- A slot may go to another thread: what it owns says the same in each.
use Rattle.dist_c_guest.proofs.Walks.{Keyless, lone, Ptr, fields, shape, to, Some, None, Option, chunk-Keyless, lies, quiet}
use denote.{Param.Send.IsSend, Param.Send.AllSend, Param.Send.owning_send, Param.Send.struct_send, Param.Send.sendable, Struct.Struct.exits_of}
use mir.Raw.{raw}
use Rattle.dist_c_guest.specs.{Kept.owns_guest, contracts.slot.Slot.the_row, contracts.slot.Slot.the_type, declared.guest.Guest.Guest}
use Rattle.dist_c_guest.specs.contracts.guest.Guest as guest
use Rattle.dist_c_guest.proofs.guest.Guest.TheSendSync.{the_send}

kept_crosses : (p : Ptr) (held : Option Guest) → Keyless (owns_guest p held)
kept_crosses p None = tt
kept_crosses p (Some x) = (lies guest.the_row the_send p x, chunk-Keyless (raw (lone guest.the_row.mir)) p)

pub send : IsSend the_row
send =
    let all : AllSend (fields the_type) = (search sendable, tt) in
    owning_send the_type all (λ d. kept_crosses d.at d.guest) (λ k. quiet (to the_type) (exits_of k (fields the_type)) ((struct_send (shape the_type) all).leaving k))
