-- WHAT ONE SIDE SAYS where its message is due (ERTS User's Guide, Distribution Protocol, Distribution Handshake), by its setup, its
-- cookie, its own challenge, and what both sides said before.
use Rattle.std.specs.Prelude.{ℕ, ◌-◌, ◌==◌, List, [], ◌∷◌, length, Option, Some, None, if◌then◌else◌, slice_get}
use Rattle.std.specs.Cmp.Lexicographic.{pointwise}
use Rattle.dist_names.specs.{Flags.handshake_23, Flags.has_all, Flags.low_half, declared.flags.Flags.Flags}
use Rattle.dist_secret.specs.Digest.{digest_of}
use Rattle.dist_core_setup.specs.Rules.{announced_by}
use Rattle.dist_messages.specs.declared.message.Message.{Message}
use Rattle.dist_messages.specs.declared.message.Message.TheVariants as message
use Rattle.dist_messages.specs.declared.message.Status.{Status}
use Rattle.dist_messages.specs.declared.message.Status.TheVariants as status
use Rattle.dist_talk.specs.{Ended.opener, Handshake.reply_in, Styles.is_long_and_short, Terms.cookie_of}
use Rattle.dist_talk.specs.declared.{handshake.SentContent.SentContent, handshake.SentMessage.SentMessage, own_side.OwnSide.OwnSide}
use Rattle.dist_talk.specs.declared.verdict.AwaitedMessage.{AwaitedMessage}
use Rattle.dist_talk.specs.declared.verdict.AwaitedMessage.TheVariants as awaited
use Rattle.dist_talk.specs.declared.handshake.SentContent.TheVariants as content

-- the name by which it opens the handshake: always the newer form
abbrev pub own_name : OwnSide → Message
own_name own = message.NewName (record { 0 = announced_by own.setup.now }) own.setup.now.creation own.setup.now.name

-- the status: a node does not take its own name of another one
abbrev pub status_due : OwnSide → List SentMessage → Status
status_due own ds = if pointwise ◌==◌ (opener ds) own.setup.now.name then status.NotAllowed else status.Ok

-- the flags in a name; of an older one their lower half
abbrev pub flags_in : SentContent → Flags
flags_in (content.Message (message.NewName flags creation name)) = flags
flags_in (content.Message (message.OldName low name)) = record { 0 = low }
flags_in other = record { 0 = 0 }

-- the flags by which the handshake was opened
abbrev pub opening_flags : List SentMessage → Flags
opening_flags [] = record { 0 = 0 }
opening_flags (first ∷ rest) = flags_in first.content

-- the challenge: in the older form for a node that knows version 5 alone
abbrev pub challenge_due : OwnSide → Flags → Message
challenge_due own theirs = if has_all theirs.0 handshake_23
    then message.NewChallenge (record { 0 = announced_by own.setup.now }) own.fresh own.setup.now.creation own.setup.now.name
    else message.OldChallenge (low_half (announced_by own.setup.now)) own.fresh own.setup.now.name

-- the reply to this challenge, if a cookie is tried
abbrev pub reply_with : OwnSide → ℕ → Option (List ℕ) → Option Message
reply_with own challenge None = None
reply_with own challenge (Some cookie) = Some (message.Reply own.fresh (digest_of cookie challenge))

-- the reply to the challenge of a node of this name: none if one of the two names is long and the other short, since then neither node
-- dials the other
abbrev pub reply_by : OwnSide → List ℕ → ℕ → Option Message
reply_by own name challenge = if is_long_and_short own.setup.now.name name then None else reply_with own challenge (cookie_of own.terms)

-- the reply to what the other side said
abbrev pub reply_to : OwnSide → SentContent → Option Message
reply_to own (content.Message (message.NewChallenge flags challenge creation name)) = reply_by own name challenge
reply_to own (content.Message (message.OldChallenge flags challenge name)) = reply_by own name challenge
reply_to own other = None

-- the acknowledgement of a reply with this challenge, if there is a cookie
abbrev pub ack_with : Option (ℕ × List ℕ) → Option (List ℕ) → Option Message
ack_with (Some reply) (Some cookie) = Some (message.Ack (digest_of cookie reply.0))
ack_with reply cookie = None

-- the last message of a side
abbrev pub last_of : List SentMessage → Option SentMessage
last_of said = slice_get said (length said - 1)

-- the reply to the last message of the other side
abbrev pub reply_due : OwnSide → Option SentMessage → Option Message
reply_due own None = None
reply_due own (Some sent) = reply_to own sent.content

-- the acknowledgement of it
abbrev pub ack_due : OwnSide → Option SentMessage → Option Message
ack_due own None = None
ack_due own (Some sent) = ack_with (reply_in sent.content) (cookie_of own.terms)

-- THE MESSAGE THAT IS DUE of the own side, where the dialling side had said `ds`, and the accepting side `ns`; none if it ends the
-- handshake there. It answers `alive` by `false`, so that the other node keeps the connection that it has.
abbrev pub message_due : OwnSide → List SentMessage → List SentMessage → AwaitedMessage → Option Message
message_due own ds ns awaited.Name = Some (own_name own)
message_due own ds ns awaited.Status = Some (message.Status (status_due own ds))
message_due own ds ns awaited.Answer = Some (message.Status status.False)
message_due own ds ns awaited.Challenge = Some (challenge_due own (opening_flags ds))
message_due own ds ns awaited.Reply = reply_due own (last_of ns)
message_due own ds ns awaited.Ack = ack_due own (last_of ds)
