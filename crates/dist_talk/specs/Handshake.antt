-- WHAT WAS SAID in a handshake (ERTS User's Guide, Distribution Protocol, Distribution Handshake).
use Rattle.std.specs.Prelude.{◌≡◌, ℕ, List, [], ◌∷◌, ◌++◌, Option, Some, None, IsErr, Ok}
use Rattle.dist_messages.specs.Reading.{read}
use Rattle.dist_messages.specs.declared.message.Side.{Side, TheVariants.Dialler, TheVariants.Acceptor}
use Rattle.dist_messages.specs.declared.message.Message.TheVariants as message
use Rattle.dist_names.specs.declared.creation.Creation.{Creation}
use Rattle.dist_talk.specs.declared.handshake.{Handshake.Handshake, HandshakeEnd.HandshakeEnd, SentContent.SentContent, SentMessage.SentMessage}
use Rattle.dist_talk.specs.declared.handshake.SentContent.TheVariants as content

-- what one side said, in order
abbrev pub said_by : Side → Handshake → List SentMessage
said_by Dialler h = h.dialler.items
said_by Acceptor h = h.acceptor.items

-- A BODY OF A SIDE SAYS THIS: the message that it spells, or, where it spells none, only its bytes
abbrev pub Says : Side → List ℕ → SentContent → Type 0
Says side body (content.Message m) = read side body ≡ Ok m
Says side body (content.Other bytes) = IsErr (read side body) × (bytes ≡ body)

-- the name of the dialling side, in a body that is its name
abbrev pub name_in : SentContent → List ℕ
name_in (content.Message (message.NewName flags creation name)) = name
name_in (content.Message (message.OldName flags name)) = name
name_in other = []

-- the challenge, in either form
abbrev pub challenge_in : SentContent → Option ℕ
challenge_in (content.Message (message.NewChallenge flags challenge creation name)) = Some challenge
challenge_in (content.Message (message.OldChallenge flags challenge name)) = Some challenge
challenge_in other = None

-- the upper half of the flags and the creation, in a complement
abbrev pub complement_in : SentContent → Option (ℕ × Creation)
complement_in (content.Message (message.Complement high creation)) = Some (high, creation)
complement_in other = None

-- the digest in an acknowledgement
abbrev pub ack_in : SentContent → Option (List ℕ)
ack_in (content.Message (message.Ack digest)) = Some digest
ack_in other = None

-- the challenge and the digest, in a reply
abbrev pub reply_in : SentContent → Option (ℕ × List ℕ)
reply_in (content.Message (message.Reply challenge digest)) = Some (challenge, digest)
reply_in other = None

-- a side said this at this time, behind all that it had said; nothing else changed
abbrev pub Takes : Side → SentContent → ℕ → Handshake → Handshake → Type 0
Takes Dialler c at h k = (sent : SentMessage) × (sent.content ≡ c) × (sent.at ≡ at)
    × (k.dialler.items ≡ h.dialler.items ++ sent ∷ []) × (k.acceptor.items ≡ h.acceptor.items) × (k.ending ≡ h.ending) × (k.missing ≡ h.missing)
Takes Acceptor c at h k = (sent : SentMessage) × (sent.content ≡ c) × (sent.at ≡ at)
    × (k.acceptor.items ≡ h.acceptor.items ++ sent ∷ []) × (k.dialler.items ≡ h.dialler.items) × (k.ending ≡ h.ending) × (k.missing ≡ h.missing)

-- both sides said the same, and the handshake ended in the same way
abbrev pub SameHandshake : Handshake → Handshake → Type 0
SameHandshake h k = (k.dialler.items ≡ h.dialler.items) × (k.acceptor.items ≡ h.acceptor.items) × (k.ending ≡ h.ending) × (k.missing ≡ h.missing)

-- the first end counts
abbrev pub or_first : Option HandshakeEnd → HandshakeEnd → Option HandshakeEnd
or_first None e = Some e
or_first (Some first) e = Some first
