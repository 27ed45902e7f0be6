-- The words of verdicts, the exit status of each, and whose turn it is.
use Rattle.std.specs.Prelude.{ℕ, List, codes}
use Rattle.dist_messages.specs.declared.message.Side.{Side, TheVariants.Dialler, TheVariants.Acceptor}
use Rattle.dist_talk.specs.declared.verdict.{AwaitedMessage.AwaitedMessage, HandshakeVerdict.HandshakeVerdict}
use Rattle.dist_talk.specs.declared.verdict.AwaitedMessage.TheVariants as awaited
use Rattle.dist_talk.specs.declared.verdict.NoCookie.TheVariants as without
use Rattle.dist_talk.specs.declared.verdict.HandshakeVerdict.TheVariants as verdict

-- whose turn it is (ERTS User's Guide, Distribution Handshake: the two sides take turns)
abbrev pub side_of : AwaitedMessage → Side
side_of awaited.Name = Dialler
side_of awaited.Status = Acceptor
side_of awaited.Answer = Dialler
side_of awaited.Challenge = Acceptor
side_of awaited.Reply = Dialler
side_of awaited.Ack = Acceptor

-- the word of a verdict
abbrev pub verdict_word : HandshakeVerdict → List ℕ
verdict_word verdict.Up = codes "Up"
verdict_word verdict.Finished = codes "Finished"
verdict_word verdict.Dropped = codes "Dropped"
verdict_word (verdict.Reached cookie) = codes "Reached"
verdict_word (verdict.Answered cookie) = codes "Answered"
verdict_word (verdict.NoHost unresolved) = codes "NoHost"
verdict_word verdict.ResolverSilent = codes "ResolverSilent"
verdict_word verdict.MapperRefused = codes "MapperRefused"
verdict_word (verdict.MapperUnreachable unreached) = codes "MapperUnreachable"
verdict_word (verdict.MapperFault error) = codes "MapperFault"
verdict_word verdict.NotRegistered = codes "NotRegistered"
verdict_word verdict.NameInUse = codes "NameInUse"
verdict_word verdict.PortRefused = codes "PortRefused"
verdict_word (verdict.PortUnreachable unreached) = codes "PortUnreachable"
verdict_word verdict.NoCaller = codes "NoCaller"
verdict_word (verdict.Silent awaited count) = codes "Silent"
verdict_word (verdict.Gone awaited) = codes "Gone"
verdict_word (verdict.Reset awaited) = codes "Reset"
verdict_word verdict.NoName = codes "NoName"
verdict_word verdict.Left = codes "Left"
verdict_word verdict.Stopped = codes "Stopped"
verdict_word (verdict.Withdrawn side) = codes "Withdrawn"
verdict_word (verdict.Foreign side service) = codes "Foreign"
verdict_word (verdict.Unexpected awaited) = codes "Unexpected"
verdict_word verdict.OwnName = codes "OwnName"
verdict_word verdict.Busy = codes "Busy"
verdict_word (verdict.LacksFlags side flags) = codes "LacksFlags"
verdict_word verdict.NotOnList = codes "NotOnList"
verdict_word verdict.AlreadyUp = codes "AlreadyUp"
verdict_word (verdict.OtherName style) = codes "OtherName"
verdict_word verdict.LongAndShort = codes "LongAndShort"
verdict_word verdict.Version5 = codes "Version5"
verdict_word verdict.WantsName = codes "WantsName"
verdict_word verdict.Dynamic = codes "Dynamic"
verdict_word (verdict.WrongCookie side) = codes "WrongCookie"
verdict_word verdict.WrongAck = codes "WrongAck"
verdict_word verdict.Unfinished = codes "Unfinished"
verdict_word verdict.NothingFound = codes "NothingFound"
verdict_word verdict.NoMemory = codes "NoMemory"
verdict_word verdict.NoDescriptors = codes "NoDescriptors"

-- the exit status: the place to look at; 12 where a cookie was to be tried and there is none, or a capture has nothing to judge
abbrev pub status_of : HandshakeVerdict → ℕ
status_of verdict.Up = 0
status_of verdict.Finished = 0
status_of verdict.Dropped = 7
status_of (verdict.Reached without.Asked) = 0
status_of (verdict.Reached without.Missing) = 12
status_of (verdict.Answered without.Asked) = 0
status_of (verdict.Answered without.Missing) = 12
status_of (verdict.NoHost unresolved) = 3
status_of verdict.ResolverSilent = 3
status_of verdict.MapperRefused = 4
status_of (verdict.MapperUnreachable unreached) = 4
status_of (verdict.MapperFault error) = 4
status_of verdict.NotRegistered = 5
status_of verdict.NameInUse = 5
status_of verdict.PortRefused = 6
status_of (verdict.PortUnreachable unreached) = 6
status_of verdict.NoCaller = 6
status_of (verdict.Silent awaited count) = 7
status_of (verdict.Gone awaited) = 7
status_of (verdict.Reset awaited) = 7
status_of verdict.NoName = 7
status_of verdict.Left = 9
status_of verdict.Stopped = 0
status_of (verdict.Withdrawn side) = 7
status_of (verdict.Foreign side service) = 7
status_of (verdict.Unexpected awaited) = 7
status_of verdict.OwnName = 8
status_of verdict.Busy = 8
status_of (verdict.LacksFlags side flags) = 8
status_of verdict.NotOnList = 8
status_of verdict.AlreadyUp = 8
status_of (verdict.OtherName style) = 9
status_of verdict.LongAndShort = 9
status_of verdict.Version5 = 7
status_of verdict.WantsName = 9
status_of verdict.Dynamic = 0
status_of (verdict.WrongCookie side) = 10
status_of verdict.WrongAck = 10
status_of verdict.Unfinished = 0
status_of verdict.NothingFound = 12
status_of verdict.NoMemory = 1
status_of verdict.NoDescriptors = 1
