-- The names of the refusals of the port mapper's calls, and where the refusals come from.
use Rattle.std.specs.Prelude.{ℕ, List, codes}
use Rattle.dist_stream.specs.declared.turn_error.TurnError.{TurnError}
use Rattle.dist_stream.specs.declared.turn_error.TurnError.TheVariants as fault
use Rattle.dist_epmd.specs.declared.epmd_error.EpmdError.{EpmdError}
use Rattle.dist_epmd.specs.declared.epmd_error.EpmdError.TheVariants as epmd
use Rattle.dist_epmd_calls.specs.declared.lookup_error.LookupError.{LookupError}
use Rattle.dist_epmd_calls.specs.declared.lookup_error.LookupError.TheVariants as error

-- the variant's name
abbrev pub lookup_error_name : LookupError → List ℕ
lookup_error_name error.NotThere = codes "NotThere"
lookup_error_name error.Malformed = codes "Malformed"
lookup_error_name error.ReadFailed = codes "ReadFailed"
lookup_error_name error.WriteFailed = codes "WriteFailed"
lookup_error_name error.Ended = codes "Ended"
lookup_error_name error.NoMemory = codes "NoMemory"
lookup_error_name error.Limit = codes "Limit"
lookup_error_name (error.Refused code) = codes "Refused"

-- a fault of the stream, as it is returned
abbrev pub lookup_error : TurnError → LookupError
lookup_error fault.ReadFailed = error.ReadFailed
lookup_error fault.WriteFailed = error.WriteFailed
lookup_error fault.Ended = error.Ended
lookup_error fault.Limit = error.Limit

-- why bytes that came whole, as in a frame, are not a message
abbrev pub whole_refusal : EpmdError → LookupError
whole_refusal epmd.NoMemory = error.NoMemory
whole_refusal other = error.Malformed

-- why bytes that came up to the end of the stream are not an answer
abbrev pub end_refusal : EpmdError → LookupError
end_refusal epmd.NoMemory = error.NoMemory
end_refusal epmd.Short = error.Ended
end_refusal other = error.Malformed
