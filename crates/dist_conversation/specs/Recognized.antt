-- WHAT A CONVERSATION CARRIES, by the first bytes of its two sides: a handshake of Erlang's distribution, TLS, or anything else.
use Rattle.std.specs.Prelude.{ℕ, Bool, true, false, not, ◌&&◌, ◌||◌, ◌==◌, if◌then◌else◌, nat_le, List, ◌∷◌, length, Option, Some, None, Result, Ok}
use Rattle.std.specs.{Int.w16, List.list_all}
use Rattle.dist_names.specs.{Bytes.is_visible, Flags.has_all, Flags.name_me, NodeName.has_two_parts, declared.flags.Flags.Flags}
use Rattle.dist_frames.specs.Stream.{first_body}
use Rattle.dist_messages.specs.Reading.{read}
use Rattle.dist_messages.specs.declared.{message.Message.Message, message_error.MessageError.MessageError}
use Rattle.dist_messages.specs.declared.message.Message.TheVariants as message
use Rattle.dist_messages.specs.declared.message.Side.{TheVariants.Dialler, TheVariants.Acceptor}
use Rattle.dist_talk.specs.Bodies.{is_one_of, tags_of}
use Rattle.dist_conversation.specs.declared.looks.{Look.Look, Shown.Shown}
use Rattle.dist_conversation.specs.declared.looks.Look.TheVariants as look
use Rattle.dist_conversation.specs.declared.looks.Shown.TheVariants as shown

-- ---- what the first bytes of a side look like

-- a node's name as far as a capture shows it: one separator, no empty part, at most 255 bytes, and all of them visible
abbrev pub is_good_name : List ℕ → Bool
is_good_name name = has_two_parts name && (nat_le (length name) 255 && list_all is_visible name)

-- a node with these flags has this name, or asks for one (DFLAG_NAME_ME)
abbrev pub names_node : Flags → List ℕ → Bool
names_node flags name = has_all flags.0 name_me || is_good_name name

-- a body of the side that dialled says its name, with which a handshake begins
abbrev pub is_name : Result Message MessageError → Bool
is_name (Ok (message.NewName flags creation name)) = names_node flags name
is_name (Ok (message.OldName flags name)) = is_good_name name
is_name other = false

-- a body of the accepting side says a status, a challenge of the new form, or an acknowledgement
abbrev pub is_of_acceptor : Result Message MessageError → Bool
is_of_acceptor (Ok (message.Status status)) = true
is_of_acceptor (Ok (message.NewChallenge flags challenge creation name)) = names_node flags name
is_of_acceptor (Ok (message.Ack digest)) = true
is_of_acceptor other = false

-- a body of the side that dialled says a status, a complement or a reply
abbrev pub is_later_of_dialler : Result Message MessageError → Bool
is_later_of_dialler (Ok (message.Status status)) = true
is_later_of_dialler (Ok (message.Complement high creation)) = true
is_later_of_dialler (Ok (message.Reply challenge digest)) = true
is_later_of_dialler other = false

-- what a whole body looks like
unfoldable pub look_of_body : List ℕ → Look
look_of_body body =
    if is_name (read Dialler body) then look.Name else (
    if is_of_acceptor (read Acceptor body) then look.Later Acceptor else (
    if is_later_of_dialler (read Dialler body) then look.Later Dialler else look.Other))

-- what the first body looks like; nothing yet where none is whole
abbrev pub look_of_first : Option (List ℕ) → Look
look_of_first None = look.Open
look_of_first (Some body) = look_of_body body

-- so a record of TLS begins that is one of a handshake (RFC 5246, 6.2.1)
abbrev pub is_tls : List ℕ → Bool
is_tls (first ∷ second ∷ rest) = (first == 22) && (second == 3)
is_tls other = false

-- behind two bytes stands no tag of a message of either side
abbrev pub is_foreign : List ℕ → Bool
is_foreign (high ∷ low ∷ tag ∷ rest) = not (is_one_of (tags_of Dialler) tag) && not (is_one_of (tags_of Acceptor) tag)
is_foreign other = false

-- WHAT THE FIRST BYTES OF A SIDE LOOK LIKE
unfoldable pub look_of : List ℕ → Look
look_of bytes = if is_tls bytes then look.Tls else (if is_foreign bytes then look.Other else look_of_first (first_body w16 bytes))

-- ---- what both sides show

-- WHAT THE LOOKS OF TWO SIDES SHOW, that of the side that is taken for the one that dialled, and that of the other one; and whether they are
-- exchanged, which may be where it is not certain who dialled. The first line that fits holds.
unfoldable pub shown_of : Bool → Look → Look → Shown × Bool
shown_of certain look.Name any = (shown.Handshake, false)
shown_of false one look.Name = (shown.Handshake, true)
shown_of certain (look.Later Dialler) any = (shown.Handshake, false)
shown_of certain look.Open (look.Later Acceptor) = (shown.Handshake, false)
shown_of false (look.Later Acceptor) any = (shown.Handshake, true)
shown_of false look.Open (look.Later Dialler) = (shown.Handshake, true)
shown_of certain look.Open look.Open = (shown.Nothing, false)
shown_of certain look.Tls any = (shown.Tls, false)
shown_of certain one any = (shown.Other, false)
