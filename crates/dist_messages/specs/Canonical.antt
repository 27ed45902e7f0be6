-- The one spelling that is written: version 5 in the old forms, and no bytes after a name.
use Rattle.std.specs.Prelude.{ℕ, List, ◌∷◌, ◌++◌, length, Result, Ok, Err, nat_lt, if◌then◌else◌}
use Rattle.std.specs.Int.{w16, w32, w64, to_be_bytes}
use Rattle.dist_messages.specs.{declared.message.Side.Side, declared.message.Side.TheVariants.Dialler, declared.message.Side.TheVariants.Acceptor}
use Rattle.dist_messages.specs.{declared.message.Message.Message, declared.message_error.MessageError.MessageError, Spelling.text_of, Spelling.is_said_by}
use Rattle.dist_messages.specs.declared.message.Message.TheVariants as message
use Rattle.dist_messages.specs.declared.message_error.MessageError.TheVariants as errors

-- the version that is written
abbrev pub written_version : ℕ
written_version = 5

-- the canonical spelling of a message
abbrev pub canonical : Message → List ℕ
canonical (message.OldName flags name) = 0x6e ∷ to_be_bytes w16 written_version ++ to_be_bytes w32 flags ++ name
canonical (message.NewName flags creation name) = 0x4e ∷ to_be_bytes w64 flags.0 ++ to_be_bytes w32 creation.0 ++ to_be_bytes w16 (length name) ++ name
canonical (message.Status s) = 0x73 ∷ text_of s
canonical (message.OldChallenge flags challenge name) = 0x6e ∷ to_be_bytes w16 written_version ++ to_be_bytes w32 flags ++ to_be_bytes w32 challenge ++ name
canonical (message.NewChallenge flags challenge creation name) =
    0x4e ∷ to_be_bytes w64 flags.0 ++ to_be_bytes w32 challenge ++ to_be_bytes w32 creation.0 ++ to_be_bytes w16 (length name) ++ name
canonical (message.Complement high creation) = 0x63 ∷ to_be_bytes w32 high ++ to_be_bytes w32 creation.0
canonical (message.Reply challenge digest) = 0x72 ∷ to_be_bytes w32 challenge ++ digest
canonical (message.Ack digest) = 0x61 ∷ digest

-- the spelling of a message with this name, which has at most 255 bytes
abbrev pub spelling_with_name : List ℕ → Message → Result (List ℕ) MessageError
spelling_with_name name m = if nat_lt 255 (length name) then Err errors.BadName else Ok (canonical m)

-- What this side writes for a message, or the first reason why it writes none. Writing.antt has the same in words.
abbrev pub own_spelling : Side → Message → Result (List ℕ) MessageError
own_spelling Dialler (message.OldName flags name) = spelling_with_name name (message.OldName flags name)
own_spelling Dialler (message.NewName flags creation name) = spelling_with_name name (message.NewName flags creation name)
own_spelling Dialler (message.Complement high creation) = Ok (canonical (message.Complement high creation))
own_spelling Dialler (message.Reply challenge digest) = Ok (canonical (message.Reply challenge digest))
own_spelling Acceptor (message.OldChallenge flags challenge name) = spelling_with_name name (message.OldChallenge flags challenge name)
own_spelling Acceptor (message.NewChallenge flags challenge creation name) = spelling_with_name name (message.NewChallenge flags challenge creation name)
own_spelling Acceptor (message.Ack digest) = Ok (canonical (message.Ack digest))
own_spelling side (message.Status s) = if is_said_by s side then Ok (canonical (message.Status s)) else Err errors.UnknownStatus
own_spelling _ _ = Err errors.UnknownTag
