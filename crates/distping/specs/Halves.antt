-- WHAT IS KEPT OF A PROBE, to compare it with those of other nodes: the verdict, the flags that the node announced, and the kinds of address
-- by which it is reached.
use Rattle.std.specs.Prelude.{◌≡◌, ◌||◌, Bool, false, List, [], ◌∷◌, ℕ, Option, Some, None, Result, if◌then◌else◌}
use Rattle.std.specs.{Borrow.Bor, Net.Addr.is_ipv4, Net.Addr.is_ipv6, Net.Socket.socket_ip}
use Rattle.std.specs.declared.net.socket_addr.SocketAddr.{SocketAddr}
use Rattle.dist_names.specs.declared.flags.Flags.{Flags}
use Rattle.dist_cluster.specs.declared.pairs.{AddressKinds.AddressKinds, Half.Half}
use Rattle.dist_messages.specs.declared.message.Side.TheVariants.{Acceptor}
use Rattle.dist_talk.specs.{Described.Description, Reaching.is_found}
use Rattle.dist_talk.specs.declared.verdict.{HandshakeVerdict.HandshakeVerdict, NoCookie.NoCookie}
use Rattle.dist_talk.specs.declared.verdict.HandshakeVerdict.TheVariants as verdict
use Rattle.distping_report.specs.{Found.described_in, Results.IsNodeText, declared.asked.Dial.Dial, declared.found.ProbeOutcome.ProbeOutcome}
use Rattle.distping.specs.Coming.{Comes}

-- the flags of a node that said them whole: the older challenge has half of them, and no creation
abbrev pub whole_flags : Option Description → Option Flags
whole_flags (Some (name, flags, Some creation)) = Some flags
whole_flags other = None

-- those of a node with another name are ignored
abbrev pub flags_kept : HandshakeVerdict → Option Description → Option Flags
flags_kept (verdict.OtherName name) said = None
flags_kept v said = whole_flags said

-- with the kind of this address
abbrev pub with_kind : SocketAddr → AddressKinds → AddressKinds
with_kind a kinds = record { ipv4 = is_ipv4 (socket_ip a) || kinds.ipv4; ipv6 = is_ipv6 (socket_ip a) || kinds.ipv6 }

-- the kinds of those addresses at which the node was found, or which were not tried
abbrev pub kinds_of : List SocketAddr → List HandshakeVerdict → AddressKinds
kinds_of [] verdicts = record { ipv4 = false; ipv6 = false }
kinds_of (a ∷ others) [] = with_kind a (kinds_of others [])
kinds_of (a ∷ others) (v ∷ later) = if is_found v then with_kind a (kinds_of others later) else kinds_of others later

-- this is kept of the result of a probe
pub record IsKept (it : ProbeOutcome) (half : Half) : Type 0 where
  pub verdict : half.verdict ≡ it.verdict
  pub flags : half.flags ≡ flags_kept it.verdict (described_in Acceptor it.found.handshake)
  pub kinds : half.kinds ≡ kinds_of it.addresses.items it.verdicts.items

-- it is kept of the result of such a dial
pub record DialKeeps (d : Dial) (half : Half) : Type 0 where
  pub outcome : ProbeOutcome
  pub comes : Comes d outcome.found outcome.verdict
  pub kept : IsKept outcome half

-- the same, and this text is printed of that result
pub record DialShows (json : Bool) (d : Dial) (half : Half) (text : List ℕ) : Type 0 where
  pub keeps : DialKeeps d half
  pub shows : IsNodeText json d keeps.outcome text

-- THIS IS KEPT OF A NODE: of a probe of the node of this name, with this cookie
pub record HalfComes (cookie : Result (Bor (List ℕ)) NoCookie) (half : Half) : Type 0 where
  pub dial : Dial
  pub node_is : dial.node.now ≡ half.node.now
  pub cookie_is : dial.cookie ≡ cookie
  pub keeps : DialKeeps dial half

-- THIS IS KEPT AND PRINTED OF A NODE: the text is that of the result of that probe, with `--json` its object
pub record ResultComes (cookie : Result (Bor (List ℕ)) NoCookie) (json : Bool) (half : Half) (text : List ℕ) : Type 0 where
  pub comes : HalfComes cookie half
  pub shows : IsNodeText json comes.dial comes.keeps.outcome text
