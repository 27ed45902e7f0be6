-- What is written, then the escapes of the bytes that are left: together a double quote and the escapes of all.
use Rattle.std.proofs.Common.{◌≡◌, ◌++◌, codes, drop, flat_map, string_bytes}
use Rattle.dist_names.specs.Escaped.{escape_in_quotes}
use Rattle.dist_names.proofs.escaping.quote.Given as goal

abbrev pub invariant-loop-byte : goal.invariant-loop-byte
invariant-loop-byte l = string_bytes l.text ++ flat_map escape_in_quotes (drop l.byte-index l.bytes) ≡ codes "\"" ++ flat_map escape_in_quotes l.bytes
