-- The verdicts for a host without an address, and for a lookup that failed; and the port of a node.
use Rattle.std.specs.Prelude.{◌≡◌, ◌<◌, ℕ, Bool, Option, Some, None, if◌then◌else◌}
use Rattle.dist_epmd.specs.declared.message.NodeInfo.{NodeInfo}
use Rattle.dist_epmd_calls.specs.declared.lookup_error.LookupError.{LookupError}
use Rattle.dist_epmd_calls.specs.declared.lookup_error.LookupError.TheVariants as lookup
use Rattle.dist_talk.specs.declared.verdict.Unresolved.TheVariants as unresolved
use Rattle.dist_talk.specs.declared.verdict.HandshakeVerdict.{HandshakeVerdict}
use Rattle.dist_talk.specs.declared.verdict.HandshakeVerdict.TheVariants as verdict
use Rattle.dist_program.specs.declared.host_error.HostError.{HostError}
use Rattle.dist_program.specs.declared.host_error.HostError.TheVariants as host

-- the host has no address: that of `--address`, if it is given, or that of the node's name
abbrev pub host_verdict : Bool → HostError → HandshakeVerdict
host_verdict has_address host.NoName = verdict.NoHost (if has_address then unresolved.NoAddress else unresolved.NoName)
host_verdict has_address host.Failed = verdict.NoHost unresolved.Failed
host_verdict has_address host.Silent = verdict.ResolverSilent
host_verdict has_address host.NoDescriptors = verdict.NoDescriptors
host_verdict has_address host.NoMemory = verdict.NoMemory

-- the port mapper was reached, and gave no registration
abbrev pub lookup_verdict : LookupError → HandshakeVerdict
lookup_verdict lookup.NotThere = verdict.NotRegistered
lookup_verdict lookup.NoMemory = verdict.NoMemory
lookup_verdict other = verdict.MapperFault other

-- a registration says this port
abbrev pub IsRegistered : Option NodeInfo → ℕ → Type 0
IsRegistered None port = ⊥
IsRegistered (Some info) port = port ≡ info.port

-- THE PORT OF A NODE: the one that is given, or else that of its registration, which is not 0
abbrev pub IsPortOf : Option ℕ → Option NodeInfo → ℕ → Type 0
IsPortOf (Some given) registration port = port ≡ given
IsPortOf None registration port = IsRegistered registration port × (0 < port)
