-- A slot's state as the value of a box.
use Rattle.dist_c_guest.proofs.Walks.{RattleType, [], Bx}
use mir.Syntax.{dnil, impl, tnil}
use Rattle.std_heap.specs.contracts.GlobalAllocator.TheImpl.{ghosts, dict}
use Rattle.std_heap.specs.contracts.Global as Heap
use Rattle.std_heap.proofs.Global.TheLaws as heap
use Rattle.dist_c_guest.specs.contracts.guest.Guest as Guest
use Rattle.dist_c_guest.specs.contracts.parts.Parts as Parts
use Rattle.dist_c_guest.proofs.guest.Guest.TheLaws as guest

abbrev pub E : Bx
E = record { row = Guest.the_row; laws = guest.the_row_laws; al = record { row = Heap.the_row; laws = heap.the_row_laws; g = ghosts; d = dict; drops = impl [] tnil dnil } }

abbrev pub Whole : RattleType
Whole = Parts.the_row Guest.the_row Heap.the_row ghosts
