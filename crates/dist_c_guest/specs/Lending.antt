-- What is lent of a node in C's memory.
use Rattle.std.specs.{Prelude.Some, Borrow.Lends, Borrow.MutBor, Borrow.Fml}
use Rattle.dist_c_guest.specs.{declared.guest.Guest.Guest, declared.slot.Slot.Slot, contracts.slot.Slot.the_row}
use Rattle.dist_c_guest.specs.contracts.guest.Guest as guest

-- the slot with this guest in it
abbrev pub holding : Slot → Guest → Slot
holding s g = record s { guest = Some g }

-- the slot holds in the end what the guest has become that was lent
abbrev pub LendsGuest : MutBor Slot → MutBor Guest → Fml
LendsGuest s g = Lends the_row guest.the_row s g (holding s.now)
