-- HOW A CONNECT FAILED, by what the system answered, and what that means.
use Rattle.std.specs.{Prelude.ℕ, Prelude.List, Prelude.codes, Prelude.◌==◌, Prelude.◌||◌, Prelude.if◌then◌else◌, declared.io.ErrorKind.ErrorKind}
use Rattle.std.specs.declared.io.ErrorKind.TheVariants as kind
use Rattle.dist_talk.specs.declared.{unreached.Unreached.Unreached, verdict.HandshakeVerdict.HandshakeVerdict}
use Rattle.dist_talk.specs.declared.unreached.Unreached.TheVariants as unreached
use Rattle.dist_talk.specs.declared.verdict.HandshakeVerdict.TheVariants as verdict

-- by an error number that has no kind of its own (Linux): ENONET 64, EHOSTDOWN 112, ENOPROTOOPT 92, EAFNOSUPPORT 97,
-- ENFILE 23, EMFILE 24
abbrev pub unreached_by_number : ℕ → Unreached
unreached_by_number number =
    if (number == 64) || (number == 112) then unreached.HostDown else
    if number == 92 then unreached.Prohibited else
    if number == 97 then unreached.NoRoute else
    if (number == 23) || (number == 24) then unreached.NoDescriptors else unreached.Failed

-- by the kind of the error, and where that does not tell, by its number
abbrev pub unreached_of : ErrorKind → ℕ → Unreached
unreached_of kind.ConnectionRefused number = unreached.Refused
unreached_of kind.ConnectionReset number = unreached.Reset
unreached_of kind.ConnectionAborted number = unreached.Reset
unreached_of kind.BrokenPipe number = unreached.Reset
unreached_of kind.NetworkUnreachable number = unreached.NoRoute
unreached_of kind.NetworkDown number = unreached.NoRoute
unreached_of kind.AddrNotAvailable number = unreached.NoLocalPort
unreached_of kind.InvalidInput number = unreached.NoRoute
unreached_of kind.HostUnreachable number = unreached.HostDown
unreached_of kind.PermissionDenied number = unreached.Prohibited
unreached_of kind.TimedOut number = unreached.NoAnswer
unreached_of kind.WouldBlock number = unreached.NoAnswer
unreached_of kind.OutOfMemory number = unreached.NoMemory
unreached_of _ number = unreached_by_number number

-- its word
abbrev pub unreached_word : Unreached → List ℕ
unreached_word unreached.Refused = codes "Refused"
unreached_word unreached.Reset = codes "Reset"
unreached_word unreached.NoRoute = codes "NoRoute"
unreached_word unreached.NoLocalPort = codes "NoLocalPort"
unreached_word unreached.HostDown = codes "HostDown"
unreached_word unreached.Prohibited = codes "Prohibited"
unreached_word unreached.NoAnswer = codes "NoAnswer"
unreached_word unreached.NoMemory = codes "NoMemory"
unreached_word unreached.NoDescriptors = codes "NoDescriptors"
unreached_word unreached.Failed = codes "Failed"

-- the verdict where the port mapper's port was not reached
abbrev pub mapper_verdict : Unreached → HandshakeVerdict
mapper_verdict unreached.Refused = verdict.MapperRefused
mapper_verdict unreached.NoMemory = verdict.NoMemory
mapper_verdict unreached.NoDescriptors = verdict.NoDescriptors
mapper_verdict other = verdict.MapperUnreachable other

-- the verdict where the node's port was not reached
abbrev pub port_verdict : Unreached → HandshakeVerdict
port_verdict unreached.Refused = verdict.PortRefused
port_verdict unreached.NoMemory = verdict.NoMemory
port_verdict unreached.NoDescriptors = verdict.NoDescriptors
port_verdict other = verdict.PortUnreachable other
