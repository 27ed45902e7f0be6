-- The verdicts of the way to a node.
use Rattle.std.proofs.Common.{◌≡◌, Bool, true, Option, Some, None, Err, refl, sym, subst}
use Rattle.dist_epmd.specs.declared.message.NodeInfo.{NodeInfo}
use Rattle.dist_epmd_calls.specs.declared.lookup_error.LookupError.{LookupError}
use Rattle.dist_epmd_calls.specs.declared.lookup_error.LookupError.TheVariants as lookup
use Rattle.dist_program.specs.declared.host_error.HostError.{HostError}
use Rattle.dist_program.specs.declared.host_error.HostError.TheVariants as host
use Rattle.dist_talk.specs.Unreached.{mapper_verdict, port_verdict}
use Rattle.dist_talk.specs.declared.unreached.Unreached.{Unreached}
use Rattle.dist_talk.specs.declared.unreached.Unreached.TheVariants as unreached
use Rattle.dist_talk.specs.declared.{handshake.Handshake.Handshake, verdict.HandshakeVerdict.HandshakeVerdict}
use Rattle.distping.specs.{Coming.is_way, Coming.Comes, Coming.ComesBy, Coming.OutcomeComes, Coming.StopsOnWay, Coming.TalkKept, Coming.explanation, Coming.is_of_version_5, Places.host_verdict, Places.lookup_verdict}
use Rattle.distping.specs.declared.links.attempt.Stop.{Stop}
use Rattle.distping.specs.declared.links.attempt.Stop.TheVariants as stop
use Rattle.distping_report.specs.declared.{asked.Dial.Dial, found.Found.Found}

-- a port mapper that was not reached
pub way_of_mapper : (u : Unreached) → is_way (mapper_verdict u) ≡ true
way_of_mapper unreached.Refused = refl
way_of_mapper unreached.NoMemory = refl
way_of_mapper unreached.NoDescriptors = refl
way_of_mapper other = refl

-- a port that was not reached
pub way_of_port : (u : Unreached) → is_way (port_verdict u) ≡ true
way_of_port unreached.Refused = refl
way_of_port unreached.NoMemory = refl
way_of_port unreached.NoDescriptors = refl
way_of_port other = refl

-- a lookup that failed
pub way_of_lookup : (e : LookupError) → is_way (lookup_verdict e) ≡ true
way_of_lookup lookup.NotThere = refl
way_of_lookup lookup.NoMemory = refl
way_of_lookup other = refl

-- a host without an address
pub way_of_host : (has_address : Bool) (e : HostError) → is_way (host_verdict has_address e) ≡ true
way_of_host has_address host.NoName = refl
way_of_host has_address host.Failed = refl
way_of_host has_address host.Silent = refl
way_of_host has_address host.NoDescriptors = refl
way_of_host has_address host.NoMemory = refl

-- what stopped a probe before the talk
pub stop_comes : (d : Dial) (f : Found) (s : Stop) → f.handshake ≡ None → StopsOnWay s → OutcomeComes d f (Err s)
stop_comes d f (stop.Verdict v) e way = subst (λ h. ComesBy d f.registration h v) (sym e) way
stop_comes d f (stop.Fault fault) e way = tt

-- the verdict of a talk, explained
explained_by : (d : Dial) (r : Option NodeInfo) (h : Option Handshake) (came v : HandshakeVerdict) → TalkKept d h came
    → ((is_tls : Bool) × (v ≡ explanation (is_of_version_5 r) is_tls came)) → ComesBy d r h v
explained_by d r None came v kept why = absurd kept
explained_by d r (Some h) came v kept why = record { came = came; talk = kept; is_tls = why.0; is = why.1 }

-- the same of what was found out
pub explained_comes : (d : Dial) (f : Found) (came v : HandshakeVerdict) → TalkKept d f.handshake came
    → ((is_tls : Bool) × (v ≡ explanation (is_of_version_5 f.registration) is_tls came)) → Comes d f v
explained_comes d f came v kept why = explained_by d f.registration f.handshake came v kept why
