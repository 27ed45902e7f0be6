-- How a fault of a script is reported, and how it ends the program.
use Rattle.std.specs.Prelude.{◌≡◌, ◌⊎◌, ◌<◌, ℕ, List, ◌++◌, length, codes, decimal, Option}
use Rattle.std.specs.Io.KnownBytes.{Consumes}
use Rattle.dist_script.specs.declared.fault.ScriptFault.{ScriptFault}
use Rattle.dist_script.specs.declared.fault.ScriptFault.TheVariants.{TooLong, BadLine, NoNode, SameName, ReadFailed, WriteFailed, NoMemory}

-- the exit status: 2 where the script is at fault, else 1
abbrev pub status_of : ScriptFault → ℕ
status_of TooLong = 2
status_of (BadLine number) = 2
status_of NoNode = 2
status_of SameName = 2
status_of ReadFailed = 1
status_of WriteFailed = 1
status_of NoMemory = 1

-- the words for a fault; behind those of a bad line stands its number
abbrev pub fault_text : ScriptFault → List ℕ
fault_text TooLong = codes "script too long"
fault_text (BadLine number) = codes "bad line " ++ decimal number
fault_text NoNode = codes "no node"
fault_text SameName = codes "same name"
fault_text ReadFailed = codes "ReadFailed"
fault_text WriteFailed = codes "WriteFailed"
fault_text NoMemory = codes "NoMemory"

-- THE LINE OF A FAULT on standard error
abbrev pub fault_line : ScriptFault → List ℕ
fault_line fault = codes "distnode: " ++ fault_text fault ++ codes "\n"

-- READING WAS STOPPED by a fault, once this was read: more than 1,048,576 bytes, or a read failed, or memory ran out
pub record StopsReading (before after : Option (List ℕ)) (fault : ScriptFault) : Type 0 where
  pub read : List ℕ
  pub taken : Consumes before after read
  pub cause : ((fault ≡ TooLong) × (1048576 < length read)) ⊎ ((fault ≡ ReadFailed) ⊎ (fault ≡ NoMemory))
