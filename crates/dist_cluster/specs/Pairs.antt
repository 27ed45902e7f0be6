-- What can be said of two nodes from outside.
use Rattle.std.specs.Prelude.{ℕ, ◌==◌, ◌&&◌, ◌||◌, Bool, not, List, Option, Some, codes, if◌then◌else◌}
use Rattle.dist_names.specs.{Order.same_name, declared.flags.Flags.Flags}
use Rattle.dist_flags.specs.Releases.{missing, release_of, required_by}
use Rattle.dist_talk.specs.{declared.verdict.HandshakeVerdict.HandshakeVerdict, Styles.is_long_and_short}
use Rattle.dist_talk.specs.declared.verdict.HandshakeVerdict.TheVariants as verdict
use Rattle.dist_cluster.specs.declared.pairs.{AddressKinds.AddressKinds, Half.Half, Pairing.Pairing}
use Rattle.dist_cluster.specs.declared.pairs.Pairing.TheVariants as pairing

-- which flags the first node lacks of those that the second node's release requires
abbrev pub lacks : Flags → Flags → Flags
lacks first second = record { 0 = missing first.0 (required_by (release_of second.0)) }

-- what the cookies show: both nodes accept the one that was tried, or one accepts and one refuses it, or nothing is known
abbrev pub behind_cookies : HandshakeVerdict → HandshakeVerdict → Pairing
behind_cookies verdict.Up verdict.Up = pairing.Agree
behind_cookies verdict.Up (verdict.WrongCookie side) = pairing.OtherCookies
behind_cookies (verdict.WrongCookie side) verdict.Up = pairing.OtherCookies
behind_cookies first second = pairing.Unsure

-- the two nodes are reached by one kind of address
abbrev pub share_kind : AddressKinds → AddressKinds → Bool
share_kind first second = (first.ipv4 && second.ipv4) || (first.ipv6 && second.ipv6)

-- what the addresses show, and where they show nothing, the cookies
abbrev pub behind_kinds : Half → Half → Pairing
behind_kinds first second = if share_kind first.kinds second.kinds then behind_cookies first.verdict second.verdict else pairing.OtherKinds

-- what the flags show, and where they show nothing, this
abbrev pub behind_flags : Option Flags → Option Flags → Pairing → Pairing
behind_flags (Some first) (Some second) others = if ((lacks first second).0 == 0) && ((lacks second first).0 == 0) then others
    else pairing.LacksFlags (lacks first second) (lacks second first)
behind_flags first second others = pairing.NotReached

-- the first that holds: the same name, a long and a short one, one node not reached, missing flags, different kinds of address, different cookies
abbrev pub pairing_of : Half → Half → Pairing
pairing_of first second =
    if same_name first.node.now second.node.now then pairing.SameName else
    if is_long_and_short first.node.now second.node.now then pairing.LongAndShort else
    behind_flags first.flags second.flags (behind_kinds first second)

-- the word of what can be said of two nodes
abbrev pub pair_word : Pairing → List ℕ
pair_word pairing.SameName = codes "SameName"
pair_word pairing.LongAndShort = codes "LongAndShort"
pair_word pairing.NotReached = codes "NotReached"
pair_word (pairing.LacksFlags first second) = codes "LacksFlags"
pair_word pairing.OtherKinds = codes "OtherKinds"
pair_word pairing.OtherCookies = codes "OtherCookies"
pair_word pairing.Unsure = codes "Unsure"
pair_word pairing.Agree = codes "Agree"

-- the exit status: the place to look at
abbrev pub pair_status : Pairing → ℕ
pair_status pairing.SameName = 8
pair_status pairing.LongAndShort = 9
pair_status (pairing.LacksFlags first second) = 8
pair_status pairing.OtherKinds = 3
pair_status pairing.OtherCookies = 10
pair_status pairing.NotReached = 0
pair_status pairing.Unsure = 0
pair_status pairing.Agree = 0

-- something is wrong with the pair, so that it has a status of its own
abbrev pub is_bad : Pairing → Bool
is_bad p = not (pair_status p == 0)
