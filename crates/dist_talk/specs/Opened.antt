-- HOW THE DIALLING SIDE OPENED a handshake (ERTS User's Guide, Distribution Protocol, Distribution Handshake: `send_name`, `send_complement`).
use Rattle.std.specs.Prelude.{ℕ, Bool, false, List, [], ◌∷◌, Option, Some, None}
use Rattle.dist_names.specs.{Flags.has_all, Flags.low_half, Flags.name_me, Flags.of_halves, declared.flags.Flags.Flags, declared.creation.Creation.Creation}
use Rattle.dist_flags.specs.Releases.{missing, required_by}
use Rattle.dist_flags.specs.declared.release.Release.TheVariants as release
use Rattle.dist_messages.specs.declared.message.Message.TheVariants as message
use Rattle.dist_messages.specs.declared.opening.Opening.TheVariants as opening
use Rattle.dist_talk.specs.{Handshake.complement_in, Terms.has_target, declared.opened.Opened.Opened, declared.terms.Terms.Terms}
use Rattle.dist_talk.specs.declared.handshake.{SentContent.SentContent, SentMessage.SentMessage}
use Rattle.dist_talk.specs.declared.handshake.SentContent.TheVariants as content

-- the flags that releases from 26 on require, and that are missing of these
abbrev pub lacking_new : Flags → Flags
lacking_new flags = record { 0 = missing flags.0 (required_by release.Otp28) }

-- the same behind an older name, which has the lower half alone; the upper half is in the complement
abbrev pub lacking_old : ℕ → Option (ℕ × Creation) → Flags
lacking_old low (Some (high, creation)) = lacking_new (record { 0 = of_halves high low })
lacking_old low None = record { 0 = low_half (missing low (required_by release.Otp28)) }

-- a complement: the first that is said behind the name, or behind the answer to `alive`
abbrev pub first_of : {X : Type 0} → Option X → Option X → Option X
first_of None other = other
first_of (Some x) other = Some x

abbrev pub complement_behind : List SentMessage → Option (ℕ × Creation)
complement_behind [] = None
complement_behind (s ∷ []) = complement_in s.content
complement_behind (s ∷ t ∷ rest) = first_of (complement_in s.content) (complement_in t.content)

-- HOW IT WAS OPENED: by a name, in either form
abbrev pub opened_by : Terms → SentContent → List SentMessage → Option Opened
opened_by t (content.Message (message.NewName flags creation name)) behind =
    Some (record { is_own = has_target t name; opening = opening.New; lacking = lacking_new flags })
opened_by t (content.Message (message.OldName low name)) behind =
    Some (record { is_own = has_target t name; opening = opening.Old; lacking = lacking_old low (complement_behind behind) })
opened_by t other behind = None

-- the dialling side asks for a name, instead of giving its own
abbrev pub asks_for_name : SentContent → Bool
asks_for_name (content.Message (message.NewName flags creation name)) = has_all flags.0 name_me
asks_for_name other = false
