-- WHAT A HANDSHAKE CAME TO, with the way in which it ended.
use Rattle.std.specs.Prelude.{ℕ, Bool, true, false, ◌&&◌, not, List, [], ◌∷◌, Option, Some, None, if◌then◌else◌, is_some}
use Rattle.std.specs.List.{list_any}
use Rattle.dist_messages.specs.declared.message.Side.{Side, TheVariants.Dialler, TheVariants.Acceptor}
use Rattle.dist_talk.specs.{Handshake.ack_in, Handshake.name_in, Handshake.reply_in}
use Rattle.dist_talk.specs.{Services.service_of, Standing.standing, Styles.is_long_and_short, Styles.is_probe_name}
use Rattle.dist_talk.specs.{Terms.target_of, Terms.without_of, Words.side_of}
use Rattle.dist_talk.specs.declared.handshake.{Handshake.Handshake, HandshakeEnd.HandshakeEnd, HowEnded.HowEnded, Missing.Missing}
use Rattle.dist_talk.specs.declared.handshake.{SentMessage.SentMessage}
use Rattle.dist_talk.specs.declared.{standing.Standing.Standing, terms.Terms.Terms, terms.Viewpoint.Viewpoint, verdict.AwaitedMessage.AwaitedMessage}
use Rattle.dist_talk.specs.declared.{verdict.NoCookie.NoCookie, verdict.HandshakeVerdict.HandshakeVerdict}
use Rattle.dist_talk.specs.declared.handshake.HowEnded.TheVariants as ended
use Rattle.dist_talk.specs.declared.standing.Standing.TheVariants.{Due, Decided}
use Rattle.dist_talk.specs.declared.terms.Viewpoint.TheVariants as viewpoint
use Rattle.dist_talk.specs.declared.verdict.AwaitedMessage.TheVariants as awaited
use Rattle.dist_talk.specs.declared.verdict.NoCookie.TheVariants as without
use Rattle.dist_talk.specs.declared.verdict.HandshakeVerdict.TheVariants as verdict

-- ---- the side whose turn it was ended the handshake

-- the name that opened the handshake
abbrev pub opener : List SentMessage → List ℕ
opener [] = []
opener (first ∷ rest) = name_in first.content

-- why a probe tries no cookie
abbrev pub untried : Option NoCookie → HandshakeVerdict
untried None = verdict.Reached without.Asked
untried (Some cause) = verdict.Reached cause

-- one of two names is long and the other short, where both are known
abbrev pub mismatch : List ℕ → Option (List ℕ) → Bool
mismatch own None = false
mismatch own (Some target) = is_long_and_short own target

-- a probe ended the handshake at the node's challenge: one name is long and the other short, or no cookie is tried
abbrev pub probe_verdict : Terms → List ℕ → HandshakeVerdict
probe_verdict t own = if mismatch own (target_of t) then verdict.LongAndShort else untried (without_of t)

-- the dialling side ended it upon the challenge
abbrev pub left_by : Viewpoint → Terms → List ℕ → HandshakeVerdict
left_by viewpoint.Dialler t own = probe_verdict t own
left_by other t own = if is_probe_name own then verdict.Stopped else verdict.Left

abbrev pub left_verdict : Terms → List ℕ → HandshakeVerdict
left_verdict t own = left_by t.viewpoint t own

-- it closed the connection; a node that has another cookie does so upon the reply
abbrev pub closed_verdict : Terms → List ℕ → AwaitedMessage → HandshakeVerdict
closed_verdict t own awaited.Name = verdict.NoName
closed_verdict t own awaited.Answer = verdict.Withdrawn Dialler
closed_verdict t own awaited.Reply = left_verdict t own
closed_verdict t own awaited.Ack = verdict.WrongCookie Acceptor
closed_verdict t own due = verdict.Gone due

-- it reset the connection, or that broke
abbrev pub reset_by : Side → Terms → List ℕ → AwaitedMessage → HandshakeVerdict
reset_by Dialler t own due = closed_verdict t own due
reset_by Acceptor t own due = verdict.Reset due

abbrev pub reset_verdict : Terms → List ℕ → AwaitedMessage → HandshakeVerdict
reset_verdict t own due = reset_by (side_of due) t own due

abbrev pub turn_verdict : Terms → List ℕ → AwaitedMessage → HowEnded → HandshakeVerdict
turn_verdict t own due ended.Closed = closed_verdict t own due
turn_verdict t own due ended.Reset = reset_verdict t own due
turn_verdict t own due ended.Unread = verdict.Withdrawn (side_of due)
turn_verdict t own due (ended.Quiet count) = verdict.Silent due count
turn_verdict t own due (ended.Foreign front) = verdict.Foreign (side_of due) (service_of front)
turn_verdict t own due ended.NoMemory = verdict.NoMemory

-- ---- either side ended it

-- the two sides are one
abbrev pub same_side : Side → Side → Bool
same_side Dialler Dialler = true
same_side Acceptor Acceptor = true
same_side other another = false

-- memory ran out here
abbrev pub lacks_memory : HowEnded → Bool
lacks_memory ended.NoMemory = true
lacks_memory other = false

-- a side ended it where this was due
abbrev pub ended_by : Terms → List ℕ → AwaitedMessage → HandshakeEnd → HandshakeVerdict
ended_by t own due e =
    if lacks_memory e.how then verdict.NoMemory else
    if same_side e.side (side_of due) then turn_verdict t own due e.how else verdict.Withdrawn e.side

-- it ended so, or its end was not seen
abbrev pub ended_verdict : Terms → List ℕ → AwaitedMessage → Option HandshakeEnd → HandshakeVerdict
ended_verdict t own due None = verdict.Unfinished
ended_verdict t own due (Some e) = ended_by t own due e

-- ---- bytes are missing

-- bytes of this side are missing behind what it said
abbrev pub is_missing : Side → Missing → Bool
is_missing Dialler m = m.dialler
is_missing Acceptor m = m.acceptor

-- an acknowledgement was said
abbrev pub has_ack : List SentMessage → Bool
has_ack said = list_any (λ s. is_some (ack_in s.content)) said

-- an acknowledgement shows that the handshake was made, and nothing else does
abbrev pub unfinished_verdict : Handshake → HandshakeVerdict
unfinished_verdict h = if has_ack h.acceptor.items then verdict.Finished else verdict.Unfinished

abbrev pub is_close : Side → HowEnded → Bool
is_close Acceptor ended.Closed = true
is_close other how = false

-- the accepting side closed the connection, and had received all that the other side said
abbrev pub is_closed : Option HandshakeEnd → Bool
is_closed None = false
is_closed (Some e) = is_close e.side e.how

-- a reply was said
abbrev pub has_reply : List SentMessage → Bool
has_reply said = list_any (λ s. is_some (reply_in s.content)) said

-- a side said the last message of its part: a reply, an acknowledgement; packets follow
abbrev pub is_done : Side → List SentMessage → Bool
is_done Dialler said = has_reply said
is_done Acceptor said = has_ack said

-- the beginning is missing, where only a reply that was refused and an acknowledgement say something
abbrev pub without_beginning : Handshake → HandshakeVerdict
without_beginning h = if (is_closed h.ending && has_reply h.dialler.items) && (not (has_ack h.acceptor.items) && not h.missing.acceptor)
    then verdict.WrongCookie Acceptor else unfinished_verdict h

-- ---- the verdict

-- this was due
abbrev pub due_verdict : Terms → Handshake → AwaitedMessage → HandshakeVerdict
due_verdict t h due =
    if is_missing (side_of due) h.missing then unfinished_verdict h else ended_verdict t (opener h.dialler.items) due h.ending

-- it was made, and ended at once behind that: of a probe that dials that is no fault
abbrev pub ended_at_once : Viewpoint → List ℕ → HandshakeVerdict
ended_at_once viewpoint.Dialler own = verdict.Dropped
ended_at_once other own = if is_probe_name own then verdict.Up else verdict.Dropped

-- it was made; a side that took part sees whether the connection ended at once behind that
abbrev pub made_verdict : Viewpoint → List ℕ → Option HandshakeEnd → HandshakeVerdict
made_verdict viewpoint.Capture own e = verdict.Up
made_verdict other own None = verdict.Up
made_verdict other own (Some e) = ended_at_once other own

abbrev pub standing_verdict : Terms → Handshake → Standing → HandshakeVerdict
standing_verdict t h (Due due) = due_verdict t h due
standing_verdict t h (Decided verdict.Up) = made_verdict t.viewpoint (opener h.dialler.items) h.ending
standing_verdict t h (Decided other) = other

-- WHAT IT CAME TO
abbrev pub verdict_of : Terms → Handshake → HandshakeVerdict
verdict_of t h = if h.missing.beginning then without_beginning h else standing_verdict t h (standing t h)
