-- THE TABLE OF VERDICTS: what it means that this was said where that was due.
use Rattle.std.specs.Prelude.{ℕ, Bool, false, ◌==◌, List, Option, Some, None, if◌then◌else◌}
use Rattle.std.specs.Cmp.Lexicographic.{pointwise}
use Rattle.dist_names.specs.declared.flags.Flags.{Flags}
use Rattle.dist_secret.specs.Digest.{digest_of}
use Rattle.dist_flags.specs.Releases.{is_refused_by_all, objection}
use Rattle.dist_flags.specs.declared.release.Release.TheVariants as release
use Rattle.dist_messages.specs.declared.message.Message.TheVariants as message
use Rattle.dist_messages.specs.declared.message.Side.{TheVariants.Dialler, TheVariants.Acceptor}
use Rattle.dist_messages.specs.declared.message.Status.TheVariants as status
use Rattle.dist_messages.specs.declared.opening.Opening.{Opening}
use Rattle.dist_messages.specs.declared.opening.Opening.TheVariants as opening
use Rattle.dist_talk.specs.{Styles.style_of, Terms.cookie_of, Terms.is_other, declared.opened.Opened.Opened, declared.standing.ReplyMade.ReplyMade}
use Rattle.dist_talk.specs.{declared.terms.Terms.Terms}
use Rattle.dist_talk.specs.declared.{handshake.SentContent.SentContent, verdict.HandshakeVerdict.HandshakeVerdict}
use Rattle.dist_talk.specs.declared.handshake.SentContent.TheVariants as content
use Rattle.dist_talk.specs.declared.verdict.AwaitedMessage.TheVariants as awaited
use Rattle.dist_talk.specs.declared.verdict.HandshakeVerdict.TheVariants as verdict

-- `not_allowed`: the name is the node's own, or a flag that releases from 26 on require is missing, or the name is not on the
-- node's list
abbrev pub not_allowed : Bool → Flags → HandshakeVerdict
not_allowed is_own lacking = if is_own then verdict.OwnName else if lacking.0 == 0 then verdict.NotOnList else verdict.LacksFlags Dialler lacking

-- upon the name; `nok`: the name is the node's own, or the node is dialling it just now
abbrev pub status_verdict : Opened → SentContent → Option HandshakeVerdict
status_verdict o (content.Message (message.Status status.Ok)) = None
status_verdict o (content.Message (message.Status status.OkSimultaneous)) = None
status_verdict o (content.Message (message.Status status.Nok)) = Some (if o.is_own then verdict.OwnName else verdict.Busy)
status_verdict o (content.Message (message.Status status.NotAllowed)) = Some (not_allowed o.is_own o.lacking)
status_verdict o other = Some (verdict.Unexpected awaited.Status)

-- the flags of the node that was dialled: each release refuses them, and OTP 23 requires the least; or some release accepts them
abbrev pub flags_verdict : Flags → Option HandshakeVerdict
flags_verdict flags =
    if is_refused_by_all flags.0 then Some (verdict.LacksFlags Acceptor (record { 0 = objection release.Otp23 flags.0 })) else None

-- the name in a challenge is that of the node that was to be dialled, where that is known
abbrev pub name_verdict : Terms → List ℕ → Option HandshakeVerdict
name_verdict t name = if is_other t name then Some (verdict.OtherName (style_of name)) else None

-- an older challenge fits an older name
abbrev pub old_verdict : Terms → Opening → List ℕ → Option HandshakeVerdict
old_verdict t opening.New name = Some verdict.Version5
old_verdict t opening.Old name = name_verdict t name

-- the first objection, where there is one
abbrev pub or_else : Option HandshakeVerdict → Option HandshakeVerdict → Option HandshakeVerdict
or_else None second = second
or_else first second = first

-- where the challenge is due
abbrev pub challenge_verdict : Terms → Opened → SentContent → Option HandshakeVerdict
challenge_verdict t o (content.Message (message.NewChallenge flags challenge creation name)) = or_else (name_verdict t name) (flags_verdict flags)
challenge_verdict t o (content.Message (message.OldChallenge flags challenge name)) = old_verdict t o.opening name
challenge_verdict t o (content.Message (message.Status status.NotAllowed)) = Some (not_allowed false o.lacking)
challenge_verdict t o other = Some (verdict.Unexpected awaited.Challenge)

-- the digest is that of this cookie and challenge
abbrev pub is_of : List ℕ → ℕ → List ℕ → Bool
is_of cookie challenge digest = pointwise ◌==◌ (digest_of cookie challenge) digest

-- BOTH DIGESTS are those of the cookie that is known, if that of the reply is. Where that one is not, or no cookie is known, it is not
-- known whether the two sides have one cookie.
abbrev pub digests_of : Option (List ℕ) → ReplyMade → List ℕ → HandshakeVerdict
digests_of None r ack = verdict.Finished
digests_of (Some cookie) r ack =
    if is_of cookie r.challenge r.digest then (if is_of cookie r.fresh ack then verdict.Up else verdict.WrongAck) else verdict.Finished

abbrev pub digests_verdict : Terms → ReplyMade → List ℕ → HandshakeVerdict
digests_verdict t r ack = digests_of (cookie_of t) r ack

-- upon the reply
abbrev pub ack_verdict : Terms → Opened → ReplyMade → SentContent → HandshakeVerdict
ack_verdict t o r (content.Message (message.Ack digest)) = digests_verdict t r digest
ack_verdict t o r (content.Message (message.Status status.NotAllowed)) = not_allowed false o.lacking
ack_verdict t o r other = verdict.Unexpected awaited.Ack
