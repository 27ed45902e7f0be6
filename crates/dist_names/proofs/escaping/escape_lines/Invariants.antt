-- What is written, then the escapes of the bytes that are left: together the escapes of all.
use Rattle.std.proofs.Common.{◌≡◌, ◌++◌, drop, string_bytes}
use Rattle.dist_names.specs.Escaped.{escaped_lines}
use Rattle.dist_names.proofs.escaping.escape_lines.Given as goal

abbrev pub invariant-loop-byte : goal.invariant-loop-byte
invariant-loop-byte l = string_bytes l.text ++ escaped_lines (drop l.byte-index l.bytes) ≡ escaped_lines l.bytes
