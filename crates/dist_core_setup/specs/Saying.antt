-- What a node sends, as messages and as the frames in which they go.
use Rattle.std.specs.Prelude.{◌≡◌, ℕ, ◌<◌, ◌^◌, if◌then◌else◌, List, [], ◌∷◌, ◌++◌, length, Ok}
use Rattle.std.specs.Int.{w16, w32}
use Rattle.dist_names.specs.Flags.{low_half, high_half}
use Rattle.dist_frames.specs.Stream.{body_frame}
use Rattle.dist_messages.specs.Canonical.{canonical, own_spelling}
use Rattle.dist_messages.specs.declared.{message.Side.Side, message.Status.Status, message.Message.Message, form.Form.Form}
use Rattle.dist_messages.specs.declared.message.Message.TheVariants as message
use Rattle.dist_messages.specs.declared.form.Form.TheVariants as form
use Rattle.dist_core_setup.specs.{declared.setup.Setup.Setup, Rules.announced_by, Rules.opens_new, Rules.own_digest}

-- the frame of the one spelling in which a message is sent
unfoldable pub frame_of : Message → List ℕ
frame_of m = body_frame w16 (canonical m)

-- the message has a spelling of this side, and it fits a frame
abbrev pub CanBeSaid : Side → Message → Type 0
CanBeSaid side m = (own_spelling side m ≡ Ok (canonical m)) × (length (canonical m) < 2 ^ 16)

-- these messages, one frame after another
abbrev pub frames_of_messages : List Message → List ℕ
frames_of_messages [] = []
frames_of_messages (m ∷ []) = frame_of m
frames_of_messages (m ∷ n ∷ ms) = frame_of m ++ frames_of_messages (n ∷ ms)

-- ---- the messages of a node with this setup

abbrev pub new_name_message : Setup → Message
new_name_message s = message.NewName (record { 0 = announced_by s }) s.creation s.name

abbrev pub old_name_message : Setup → Message
old_name_message s = message.OldName (low_half (announced_by s)) s.name

abbrev pub name_message : Setup → Form → Message
name_message s o = if opens_new s o then new_name_message s else old_name_message s

abbrev pub new_challenge_message : Setup → ℕ → Message
new_challenge_message s fresh = message.NewChallenge (record { 0 = announced_by s }) fresh s.creation s.name

abbrev pub old_challenge_message : Setup → ℕ → Message
old_challenge_message s fresh = message.OldChallenge (low_half (announced_by s)) fresh s.name

abbrev pub challenge_message : Setup → Form → ℕ → Message
challenge_message s form.New fresh = new_challenge_message s fresh
challenge_message s form.Old fresh = new_challenge_message s fresh
challenge_message s form.Five fresh = old_challenge_message s fresh

abbrev pub complement_message : Setup → Message
complement_message s = message.Complement (high_half (announced_by s)) s.creation

-- the reply to a peer's challenge, with the node's own challenge
abbrev pub reply_message : Setup → List ℕ → ℕ → ℕ → Message
reply_message s peer fresh challenge = message.Reply fresh (own_digest s peer challenge)

abbrev pub ack_message : Setup → List ℕ → ℕ → Message
ack_message s peer challenge = message.Ack (own_digest s peer challenge)

-- ---- what is sent

abbrev pub status_text : Status → List ℕ
status_text s = frames_of_messages (message.Status s ∷ [])

abbrev pub name_text : Setup → Form → List ℕ
name_text s o = frames_of_messages (name_message s o ∷ [])

abbrev pub challenge_text : Setup → Form → ℕ → List ℕ
challenge_text s o fresh = frames_of_messages (challenge_message s o fresh ∷ [])

-- a status, and the challenge after it
abbrev pub greeting_text : Setup → Status → Form → ℕ → List ℕ
greeting_text s status o fresh = frames_of_messages (message.Status status ∷ challenge_message s o fresh ∷ [])

-- the reply, after the complement in a handshake that has one
abbrev pub reply_text : Setup → Form → List ℕ → ℕ → ℕ → List ℕ
reply_text s form.New peer fresh challenge = frames_of_messages (reply_message s peer fresh challenge ∷ [])
reply_text s form.Old peer fresh challenge = frames_of_messages (complement_message s ∷ reply_message s peer fresh challenge ∷ [])
reply_text s form.Five peer fresh challenge = frames_of_messages (reply_message s peer fresh challenge ∷ [])

abbrev pub ack_text : Setup → List ℕ → ℕ → List ℕ
ack_text s peer challenge = frames_of_messages (ack_message s peer challenge ∷ [])

-- a packet of no bytes
abbrev pub tick_text : List ℕ
tick_text = body_frame w32 []
