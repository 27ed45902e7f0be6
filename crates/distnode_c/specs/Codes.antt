-- The numbers by which C knows why bytes are no message of the port mapper.
use Rattle.std.specs.Prelude.{ℕ}
use Rattle.dist_epmd.specs.declared.epmd_error.EpmdError.{EpmdError}
use Rattle.dist_epmd.specs.declared.epmd_error.EpmdError.TheVariants as epmd

-- of bytes that are no message of the port mapper
abbrev pub epmd_code : EpmdError → ℕ
epmd_code epmd.NoMemory = 3
epmd_code epmd.Malformed = 40
epmd_code epmd.Short = 41
epmd_code epmd.Trailing = 42
