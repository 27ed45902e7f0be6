-- What is written, then the escapes of the bytes that are left: together the escapes of all.
use Rattle.std.proofs.Common.{◌≡◌, ◌++◌, drop, string_bytes}
use Rattle.dist_names.specs.Escaped.{escapes_of}
use Rattle.dist_names.proofs.escaping.escape.Given as goal

abbrev pub invariant-loop-byte : goal.invariant-loop-byte
invariant-loop-byte l = string_bytes l.text ++ escapes_of (drop l.byte-index l.bytes) ≡ escapes_of l.bytes
