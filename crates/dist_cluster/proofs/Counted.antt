-- Each verdict is counted in a summary: its word is among the words of verdicts.
use Rattle.std.proofs.Common.{◌≡◌, true, refl}
use Rattle.std.specs.List.{list_any}
use Rattle.dist_names.specs.Order.{same_name}
use Rattle.dist_talk.specs.{Words.verdict_word, declared.verdict.HandshakeVerdict.HandshakeVerdict}
use Rattle.dist_talk.specs.declared.verdict.HandshakeVerdict.TheVariants as verdict
use Rattle.dist_cluster.specs.Summary.{verdict_words}

-- a new verdict has no case here before its word stands there
pub is_counted : (v : HandshakeVerdict) → list_any (same_name (verdict_word v)) verdict_words ≡ true
is_counted verdict.Up = refl
is_counted verdict.Finished = refl
is_counted verdict.Dropped = refl
is_counted (verdict.Reached cookie) = refl
is_counted (verdict.Answered cookie) = refl
is_counted (verdict.NoHost unresolved) = refl
is_counted verdict.ResolverSilent = refl
is_counted verdict.MapperRefused = refl
is_counted (verdict.MapperUnreachable unreached) = refl
is_counted (verdict.MapperFault error) = refl
is_counted verdict.NotRegistered = refl
is_counted verdict.NameInUse = refl
is_counted verdict.PortRefused = refl
is_counted (verdict.PortUnreachable unreached) = refl
is_counted verdict.NoCaller = refl
is_counted (verdict.Silent awaited count) = refl
is_counted (verdict.Gone awaited) = refl
is_counted (verdict.Reset awaited) = refl
is_counted verdict.NoName = refl
is_counted verdict.Left = refl
is_counted verdict.Stopped = refl
is_counted (verdict.Withdrawn side) = refl
is_counted (verdict.Foreign side service) = refl
is_counted (verdict.Unexpected awaited) = refl
is_counted verdict.OwnName = refl
is_counted verdict.Busy = refl
is_counted (verdict.LacksFlags side flags) = refl
is_counted verdict.NotOnList = refl
is_counted verdict.AlreadyUp = refl
is_counted (verdict.OtherName style) = refl
is_counted verdict.LongAndShort = refl
is_counted verdict.Version5 = refl
is_counted verdict.WantsName = refl
is_counted verdict.Dynamic = refl
is_counted (verdict.WrongCookie side) = refl
is_counted verdict.WrongAck = refl
is_counted verdict.Unfinished = refl
is_counted verdict.NothingFound = refl
is_counted verdict.NoMemory = refl
is_counted verdict.NoDescriptors = refl
