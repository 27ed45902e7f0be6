-- WHERE A HANDSHAKE STANDS: which message is due, or what was said decides. Each line takes the next message of the side whose turn it is
-- (ERTS User's Guide, Distribution Protocol, Distribution Handshake): name, status, the answer to `alive`, challenge, complement, reply,
-- acknowledgement. Only the order of what one side said counts, not which of the two was seen first.
use Rattle.std.specs.Prelude.{ℕ, List, [], ◌∷◌, Option, Some, None, if◌then◌else◌, is_some, Bool, false, not}
use Rattle.std.specs.List.{list_all}
use Rattle.dist_names.specs.Bytes.{is_visible}
use Rattle.dist_messages.specs.declared.message.Message.TheVariants as message
use Rattle.dist_messages.specs.declared.message.Side.{TheVariants.Dialler}
use Rattle.dist_messages.specs.declared.message.Status.TheVariants as status
use Rattle.dist_talk.specs.{Handshake.challenge_in, Handshake.complement_in, Handshake.name_in, Opened.asks_for_name, Opened.opened_by}
use Rattle.dist_talk.specs.{Terms.cookie_of, Terms.without_of}
use Rattle.dist_talk.specs.Verdicts.{ack_verdict, challenge_verdict, is_of, or_else, status_verdict}
use Rattle.dist_talk.specs.declared.{opened.Opened.Opened, standing.ReplyMade.ReplyMade, standing.Standing.Standing, terms.Terms.Terms}
use Rattle.dist_talk.specs.declared.{terms.Viewpoint.Viewpoint}
use Rattle.dist_talk.specs.declared.{handshake.Handshake.Handshake, handshake.SentContent.SentContent, handshake.SentMessage.SentMessage}
use Rattle.dist_talk.specs.declared.{verdict.NoCookie.NoCookie, verdict.HandshakeVerdict.HandshakeVerdict}
use Rattle.dist_talk.specs.declared.handshake.SentContent.TheVariants as content
use Rattle.dist_talk.specs.declared.standing.Standing.TheVariants.{Due, Decided}
use Rattle.dist_talk.specs.declared.terms.Viewpoint.TheVariants as viewpoint
use Rattle.dist_talk.specs.declared.verdict.AwaitedMessage.TheVariants as awaited
use Rattle.dist_talk.specs.declared.verdict.HandshakeVerdict.TheVariants as verdict

-- ---- `ds` is what the dialling side said behind what was taken, `ns` what the node said that was dialled

-- after the reply the acknowledgement decides
abbrev pub behind_reply : Terms → Opened → ReplyMade → List SentMessage → Standing
behind_reply t o r [] = Due awaited.Ack
behind_reply t o r (ack ∷ rest) = Decided (ack_verdict t o r ack.content)

-- the side that was dialled has no cookie
abbrev pub answered : Option NoCookie → Option HandshakeVerdict
answered None = None
answered (Some cause) = Some (verdict.Answered cause)

-- it compares the reply with its cookie
abbrev pub compared : Option (List ℕ) → ReplyMade → Option HandshakeVerdict
compared None r = None
compared (Some cookie) r = if is_of cookie r.challenge r.digest then None else Some (verdict.WrongCookie Dialler)

-- the side that was dialled ends the handshake at a reply that it cannot compare, or that is not that of its cookie
abbrev pub objection_to : Viewpoint → Terms → ReplyMade → Option HandshakeVerdict
objection_to viewpoint.Acceptor t r = or_else (answered (without_of t)) (compared (cookie_of t) r)
objection_to other t r = None

-- a verdict, where there is one, else how it goes on
abbrev pub decided_or : Option HandshakeVerdict → Standing → Standing
decided_or None goes_on = goes_on
decided_or (Some v) goes_on = Decided v

-- upon the reply
abbrev pub upon_reply : Terms → Opened → ReplyMade → List SentMessage → Standing
upon_reply t o r ns = decided_or (objection_to t.viewpoint t r) (behind_reply t o r ns)

-- what came where the reply was due
abbrev pub replied : Terms → Opened → ℕ → SentContent → List SentMessage → Standing
replied t o challenge (content.Message (message.Reply fresh digest)) ns =
    upon_reply t o (record { challenge = challenge; fresh = fresh; digest = digest }) ns
replied t o challenge other ns = Decided (verdict.Unexpected awaited.Reply)

-- after the challenge, and a complement behind it, the reply is due
abbrev pub behind_complement : Terms → Opened → ℕ → List SentMessage → List SentMessage → Standing
behind_complement t o challenge [] ns = Due awaited.Reply
behind_complement t o challenge (sent ∷ rest) ns = replied t o challenge sent.content ns

-- after the challenge
abbrev pub behind_challenge : Terms → Opened → ℕ → List SentMessage → List SentMessage → Standing
behind_challenge t o challenge [] ns = Due awaited.Reply
behind_challenge t o challenge (sent ∷ rest) ns =
    if is_some (complement_in sent.content) then behind_complement t o challenge rest ns else behind_complement t o challenge (sent ∷ rest) ns

-- a challenge that the dialling side went on behind was accepted by it
abbrev pub objection_or : Option HandshakeVerdict → Option ℕ → Terms → Opened → List SentMessage → List SentMessage → Standing
objection_or None None t o ds ns = Decided (verdict.Unexpected awaited.Challenge)
objection_or None (Some challenge) t o ds ns = behind_challenge t o challenge ds ns
objection_or (Some v) (Some challenge) t o (d ∷ ds) ns = behind_challenge t o challenge (d ∷ ds) ns
objection_or (Some v) other t o ds ns = Decided v

-- after a status that lets the handshake go on the challenge is due
abbrev pub behind_status : Terms → Opened → List SentMessage → List SentMessage → Standing
behind_status t o ds [] = Due awaited.Challenge
behind_status t o ds (sent ∷ rest) = objection_or (challenge_verdict t o sent.content) (challenge_in sent.content) t o ds rest

-- the answer to `alive`: `true` lets the handshake go on, `false` keeps the old connection
abbrev pub answered_alive : Terms → Opened → SentContent → List SentMessage → List SentMessage → Standing
answered_alive t o (content.Message (message.Status status.True)) ds ns = behind_status t o ds ns
answered_alive t o (content.Message (message.Status status.False)) ds ns = Decided verdict.AlreadyUp
answered_alive t o other ds ns = Decided (verdict.Unexpected awaited.Answer)

-- after `alive` the answer is due
abbrev pub behind_alive : Terms → Opened → List SentMessage → List SentMessage → Standing
behind_alive t o [] ns = Due awaited.Answer
behind_alive t o (sent ∷ rest) ns = answered_alive t o sent.content rest ns

-- what came where the status was due
abbrev pub upon_status : Terms → Opened → SentContent → List SentMessage → List SentMessage → Standing
upon_status t o (content.Message (message.Status status.Alive)) ds ns = behind_alive t o ds ns
upon_status t o other ds ns = decided_or (status_verdict o other) (behind_status t o ds ns)

-- after the name the status is due
abbrev pub behind_name : Terms → Opened → List SentMessage → List SentMessage → Standing
behind_name t o ds [] = Due awaited.Status
behind_name t o ds (sent ∷ rest) = upon_status t o sent.content ds rest

-- a node that asks for a name: a capture does not judge that
abbrev pub upon_dynamic : Viewpoint → HandshakeVerdict
upon_dynamic viewpoint.Capture = verdict.Dynamic
upon_dynamic other = verdict.WantsName

-- what came where the name was due
abbrev pub upon_opened : Terms → Option Opened → List SentMessage → List SentMessage → Standing
upon_opened t None ds ns = Decided (verdict.Unexpected awaited.Name)
upon_opened t (Some o) ds ns = behind_name t o ds ns

-- the side that is dialled cannot take this for a name: a byte of it is none of a name
abbrev pub is_bad_name : Viewpoint → List ℕ → Bool
is_bad_name viewpoint.Acceptor name = not (list_all is_visible name)
is_bad_name other name = false

abbrev pub upon_name : Terms → SentMessage → List SentMessage → List SentMessage → Standing
upon_name t first ds ns =
    if asks_for_name first.content then Decided (upon_dynamic t.viewpoint) else
    if is_bad_name t.viewpoint (name_in first.content) then Decided (verdict.Unexpected awaited.Name) else
    upon_opened t (opened_by t first.content ds) ds ns

-- WHERE IT STANDS
abbrev pub standing_of : Terms → List SentMessage → List SentMessage → Standing
standing_of t [] ns = Due awaited.Name
standing_of t (first ∷ rest) ns = upon_name t first rest ns

abbrev pub standing : Terms → Handshake → Standing
standing t h = standing_of t h.dialler.items h.acceptor.items
