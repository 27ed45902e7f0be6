-- HOW FAR A PROBE GOT on its way to a node, by its verdict.
use Rattle.std.specs.Prelude.{ℕ, ◌+◌, Bool, nat_le, nat_lt}
use Rattle.dist_talk.specs.declared.{unreached.Unreached.Unreached, verdict.AwaitedMessage.AwaitedMessage, verdict.HandshakeVerdict.HandshakeVerdict}
use Rattle.dist_talk.specs.declared.unreached.Unreached.TheVariants as unreached
use Rattle.dist_talk.specs.declared.verdict.AwaitedMessage.TheVariants as awaited
use Rattle.dist_messages.specs.declared.message.Side.TheVariants.{Dialler, Acceptor}
use Rattle.dist_talk.specs.declared.verdict.HandshakeVerdict.TheVariants as verdict

-- how far a connect got that made no connection: less far where this machine itself could not send
abbrev pub unreached_reach : Unreached → ℕ
unreached_reach unreached.NoRoute = 0
unreached_reach unreached.NoLocalPort = 0
unreached_reach unreached.NoMemory = 0
unreached_reach unreached.NoDescriptors = 0
unreached_reach unreached.Failed = 0
unreached_reach unreached.Refused = 1
unreached_reach unreached.Reset = 1
unreached_reach unreached.HostDown = 1
unreached_reach unreached.Prohibited = 1
unreached_reach unreached.NoAnswer = 1

-- how far a handshake got that ended where this was awaited
abbrev pub awaited_reach : AwaitedMessage → ℕ
awaited_reach awaited.Name = 0
awaited_reach awaited.Status = 0
awaited_reach awaited.Answer = 0
awaited_reach awaited.Challenge = 2
awaited_reach awaited.Reply = 3
awaited_reach awaited.Ack = 3

-- the order of the way: the host's name, the port mapper, the registration, the node's port, its status, its challenge, its
-- acknowledgement; a fault of this machine ends the way; a host without an address, and a verdict to which no probe comes, have the
-- first place
abbrev pub reach : HandshakeVerdict → ℕ
reach (verdict.MapperUnreachable unreached) = 1 + unreached_reach unreached
reach verdict.MapperRefused = 3
reach (verdict.MapperFault error) = 4
reach verdict.NotRegistered = 5
reach (verdict.PortUnreachable unreached) = 6 + unreached_reach unreached
reach verdict.PortRefused = 8
reach (verdict.Foreign side service) = 9
reach (verdict.Silent awaited count) = 9 + awaited_reach awaited
reach (verdict.Gone awaited) = 9 + awaited_reach awaited
reach (verdict.Reset awaited) = 9 + awaited_reach awaited
reach (verdict.Unexpected awaited) = 9 + awaited_reach awaited
reach verdict.OwnName = 10
reach verdict.Busy = 10
reach (verdict.LacksFlags Dialler flags) = 10
reach verdict.NotOnList = 10
reach verdict.AlreadyUp = 10
reach (verdict.OtherName style) = 11
reach verdict.Version5 = 11
reach (verdict.LacksFlags Acceptor flags) = 12
reach verdict.LongAndShort = 12
reach (verdict.Withdrawn Acceptor) = 12
reach (verdict.WrongCookie side) = 12
reach verdict.WrongAck = 12
reach verdict.Dropped = 13
reach (verdict.Reached cookie) = 13
reach verdict.Up = 13
reach verdict.NoMemory = 14
reach verdict.NoDescriptors = 14
reach (verdict.NoHost cause) = 0
reach verdict.ResolverSilent = 0
reach verdict.Finished = 0
reach (verdict.Answered cookie) = 0
reach verdict.NameInUse = 0
reach verdict.NoCaller = 0
reach verdict.NoName = 0
reach verdict.Left = 0
reach verdict.Stopped = 0
reach (verdict.Withdrawn Dialler) = 0
reach verdict.WantsName = 0
reach verdict.Dynamic = 0
reach verdict.Unfinished = 0
reach verdict.NothingFound = 0

-- the node itself was found, under its name, or a fault of this machine ended the way
abbrev pub is_found : HandshakeVerdict → Bool
is_found v = nat_le 12 (reach v)

-- the first of the two got further
abbrev pub is_further : HandshakeVerdict → HandshakeVerdict → Bool
is_further first second = nat_lt (reach second) (reach first)
