-- A slot's state as the value of a box.
use mir.Syntax.{dnil, impl, tnil}
use Rattle.std_heap.specs.contracts.GlobalAllocator.TheImpl.{ghosts, dict}
use Rattle.std_heap.specs.contracts.Global as Heap
use Rattle.std_heap.proofs.Global.TheLaws as heap
use Rattle.dist_c_guest.specs.contracts.parts.Parts as Parts
use Rattle.dist_c_guest.proofs.Walks.{RattleType, [], Bx}
use Rattle.distnode_c.specs.contracts.desk.RegistryDesk as RegistryDesk
use Rattle.distnode_c.proofs.desk.RegistryDesk.TheLaws as desk

abbrev pub E : Bx
E = record { row = RegistryDesk.the_row; laws = desk.the_row_laws; al = record { row = Heap.the_row; laws = heap.the_row_laws; g = ghosts; d = dict; drops = impl [] tnil dnil } }

abbrev pub Whole : RattleType
Whole = Parts.the_row RegistryDesk.the_row Heap.the_row ghosts
