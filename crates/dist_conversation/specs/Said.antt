-- WHAT BOTH SIDES OF A CONVERSATION SAID, by the bytes with which each began: a handshake (ERTS User's Guide, Distribution Handshake), or a request to
-- a port mapper, and its answer.
use Rattle.std.specs.Prelude.{ℕ, zero, suc, ◌+◌, Bool, true, if◌then◌else◌, List, [], ◌∷◌, length, drop, Option, Some, None, is_some}
use Rattle.std.specs.Prelude.{option_and_then, Result, Ok, Err}
use Rattle.std.specs.{Int.w16, Option.option_map_or, Result.result_ok}
use Rattle.dist_frames.specs.Stream.{first_body}
use Rattle.dist_messages.specs.{Reading.read, declared.message.Message.Message, declared.message_error.MessageError.MessageError}
use Rattle.dist_messages.specs.declared.message.Side.{Side, TheVariants.Dialler, TheVariants.Acceptor}
use Rattle.dist_talk.specs.{Bodies.begins_with_one, Bodies.tags_of, Handshake.ack_in, Handshake.reply_in}
use Rattle.dist_talk.specs.declared.handshake.{SentContent.SentContent, SentMessage.SentMessage}
use Rattle.dist_talk.specs.declared.handshake.SentContent.TheVariants as content
use Rattle.dist_epmd.specs.Reading.{read_answer, read_request}
use Rattle.dist_epmd.specs.declared.{epmd_error.EpmdError.EpmdError, message.Answer.Answer, message.Request.Request}
use Rattle.dist_epmd.specs.declared.message.Asked.TheVariants as asked
use Rattle.dist_epmd.specs.declared.message.Request.TheVariants as request
use Rattle.dist_conversation.specs.{Conversations.flow_of, Flows.bytes_of, Pieces.place_in, Pieces.time_in}
use Rattle.dist_conversation.specs.declared.{conversation.Conversation.Conversation, pieces.Arrival.Arrival, mapper.MapperTalk.MapperTalk}

-- the body of the first frame, if it is empty, or a tag of this side begins it
abbrev pub is_body_of : Side → List ℕ → Bool
is_body_of side [] = true
is_body_of side (tag ∷ rest) = begins_with_one (tags_of side) (tag ∷ rest)

abbrev pub body_in : Side → List ℕ → Option (List ℕ)
body_in side bytes = option_and_then (λ body. if is_body_of side body then Some body else None) (first_body w16 bytes)

-- the message of a body, or else its bytes
abbrev pub content_of : List ℕ → Result Message MessageError → SentContent
content_of body (Ok m) = content.Message m
content_of body (Err fault) = content.Other body

-- the last message of a side's part: a reply, an acknowledgement; packets follow
abbrev pub ends_part : Side → SentContent → Bool
ends_part Dialler said = is_some (reply_in said)
ends_part Acceptor said = is_some (ack_in said)

-- THE MESSAGE OF A BODY, which is whole with so many bytes of its side: at the time of the piece with which these were there
abbrev pub sent_by : Side → List Arrival → List ℕ → ℕ → SentMessage
sent_by side pieces body count = record {
  at = time_in side count pieces;
  number = place_in side count pieces;
  content = content_of body (read side body);
}

-- what was said, and the bytes behind that
pub record Said : Type 0 where
  pub messages : List SentMessage
  pub left : List ℕ

abbrev pub with_first : SentMessage → Said → Said
with_first m said = record { messages = m ∷ said.messages; left = said.left }

-- WHAT A SIDE SAID behind its first bytes, in so many messages at most: those of its frames, up to one that is not whole or begins with no tag of this
-- side, and up to the last of its part
unfoldable pub said_from : ℕ → Side → List Arrival → List ℕ → ℕ → Said
said_from zero side pieces bytes count = record { messages = []; left = [] }
said_from (suc n) side pieces bytes count = option_map_or
    (λ body. let m = sent_by side pieces body (count + (length body + 2)) in
    with_first m (if ends_part side m.content then record { messages = []; left = [] } else said_from n side pieces bytes (count + (length body + 2))))
    (body_in side (drop count bytes)) (record { messages = []; left = drop count bytes })

-- WHAT A SIDE SAID: 8 messages at most (our own choice: a handshake has at most four of a side)
abbrev pub said_by : Side → Conversation → Said
said_by side c = said_from 8 side c.pieces (bytes_of (flow_of side c)) 0

-- ---- a port mapper

-- the answer to a registration or a lookup, once these bytes are one
abbrev pub answered_by : Request → List ℕ → Option Answer
answered_by (request.Alive info) bytes = result_ok (read_answer asked.Alive bytes)
answered_by (request.PortPlease name) bytes = result_ok (read_answer asked.Port bytes)
answered_by request.Names bytes = None

-- it is asked that, and these bytes came back
abbrev pub talk_asked : List ℕ → Result Request EpmdError → Option MapperTalk
talk_asked bytes (Ok question) = Some (record { request = Some question; answer = answered_by question bytes; fault = None })
talk_asked bytes (Err fault) = None

-- WHAT IS SAID TO A PORT MAPPER in these bytes of both sides, if they may be a request
abbrev pub talk_in : List ℕ → List ℕ → Option MapperTalk
talk_in dialler acceptor = option_map_or (λ body. talk_asked acceptor (read_request body))
    (first_body w16 dialler) (Some (record { request = None; answer = None; fault = None }))
