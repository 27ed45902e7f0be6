-- What the errors of a socket mean.
use Rattle.std.specs.Prelude.{ℕ, Bool, true, false, Result, Ok, Err, if◌then◌else◌}
use Rattle.std.specs.{IoError.error_kind, declared.io.Error.Error, declared.io.ErrorKind.ErrorKind}
use Rattle.std.specs.declared.io.ErrorKind.TheVariants as kind
use Rattle.dist_stream.specs.declared.stream.{Heard.Heard, Took.Took}
use Rattle.dist_stream.specs.declared.stream.Heard.TheVariants as heard
use Rattle.dist_stream.specs.declared.stream.Took.TheVariants as took

-- The socket is fine: a read found no bytes, or a write no room, so far.
abbrev pub is_quiet : ErrorKind → Bool
is_quiet kind.WouldBlock = true
is_quiet kind.TimedOut = true
is_quiet kind.Interrupted = true
is_quiet _ = false

-- what a read with this answer of the system gave
abbrev pub read_outcome : Result ℕ Error → Heard
read_outcome (Ok count) = heard.Bytes count
read_outcome (Err error) = if is_quiet (error_kind error) then heard.Quiet else heard.Failed

-- what a write with this answer of the system took
abbrev pub write_outcome : Result ℕ Error → Took
write_outcome (Ok count) = took.Bytes count
write_outcome (Err error) = if is_quiet (error_kind error) then took.Quiet else took.Failed
