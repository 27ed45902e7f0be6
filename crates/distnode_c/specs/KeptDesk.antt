-- What a registry in C's memory owns.
use Rattle.std.specs.Prelude.{Option, Some, None}
use base.Fml.{Fml, ftrue}
use denote.RawPtr.{Ptr}
use Rattle.std.specs.Box.Ownership.{box_owns}
use Rattle.libc.specs.Heap.{chunk}
use Rattle.distnode_c.specs.{declared.desk.RegistryDesk.RegistryDesk, contracts.desk.RegistryDesk.the_row}

-- the desk at the pointer and the right to free its block, where there is one
abbrev pub kept_desk : Ptr → Option RegistryDesk → Fml
kept_desk p None = ftrue
kept_desk p (Some d) = box_owns chunk the_row p d
