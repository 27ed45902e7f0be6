-- How the messages of the handshake are spelled: a row for each message of each side.
-- Numbers are big-endian (ERTS User's Guide, Distribution Protocol, Distribution Handshake).
use Rattle.std.specs.Prelude.{◌≡◌, ℕ, ◌^◌, ◌<◌, Bool, true, false, List, ◌∷◌, ◌++◌, length, codes, IsTrue}
use Rattle.std.specs.Int.{w16, w32, w64, to_be_bytes}
use Rattle.dist_messages.specs.declared.message.{Side.Side, Side.TheVariants.Dialler, Side.TheVariants.Acceptor, Status.Status, Message.Message}
use Rattle.dist_messages.specs.declared.message.Status.TheVariants as status
use Rattle.dist_messages.specs.declared.message.Message.TheVariants as message

-- the side that sends a status
abbrev pub is_said_by : Status → Side → Bool
is_said_by status.True Dialler = true
is_said_by status.True Acceptor = false
is_said_by status.False Dialler = true
is_said_by status.False Acceptor = false
is_said_by _ Dialler = false
is_said_by _ Acceptor = true

-- the text of a status
abbrev pub text_of : Status → List ℕ
text_of status.True = codes "true"
text_of status.False = codes "false"
text_of status.Ok = codes "ok"
text_of status.OkSimultaneous = codes "ok_simultaneous"
text_of status.Nok = codes "nok"
text_of status.NotAllowed = codes "not_allowed"
text_of status.Alive = codes "alive"

-- The body spells the message, as this side sends it: a row for each message of the side.
abbrev pub Spells : Side → Message → List ℕ → Type 0
Spells Dialler (message.OldName flags name) body = (version : ℕ) × (version < 2 ^ 16) × (body ≡ 0x6e ∷ to_be_bytes w16 version ++ to_be_bytes w32 flags ++ name)
Spells Dialler (message.NewName flags creation name) body =
    (ignored : List ℕ) × (length name < 2 ^ 16)
    × (body ≡ 0x4e ∷ to_be_bytes w64 flags.0 ++ to_be_bytes w32 creation.0 ++ to_be_bytes w16 (length name) ++ name ++ ignored)
Spells Dialler (message.Complement high creation) body = body ≡ 0x63 ∷ to_be_bytes w32 high ++ to_be_bytes w32 creation.0
Spells Dialler (message.Reply challenge digest) body = body ≡ 0x72 ∷ to_be_bytes w32 challenge ++ digest
Spells Acceptor (message.OldChallenge flags challenge name) body =
    (version : ℕ) × (version < 2 ^ 16)
    × (body ≡ 0x6e ∷ to_be_bytes w16 version ++ to_be_bytes w32 flags ++ to_be_bytes w32 challenge ++ name)
Spells Acceptor (message.NewChallenge flags challenge creation name) body =
    (ignored : List ℕ) × (length name < 2 ^ 16)
    × (body ≡ 0x4e ∷ to_be_bytes w64 flags.0 ++ to_be_bytes w32 challenge ++ to_be_bytes w32 creation.0
    ++ to_be_bytes w16 (length name) ++ name ++ ignored)
Spells Acceptor (message.Ack digest) body = body ≡ 0x61 ∷ digest
Spells side (message.Status s) body = IsTrue (is_said_by s side) × (body ≡ 0x73 ∷ text_of s)
Spells _ _ body = ⊥

-- the values that the fields can have
abbrev pub Fits : Message → Type 0
Fits (message.OldName flags name) = flags < 2 ^ 32
Fits (message.NewName flags creation name) = (flags.0 < 2 ^ 64) × (creation.0 < 2 ^ 32)
Fits (message.Status s) = Unit {0}
Fits (message.OldChallenge flags challenge name) = (flags < 2 ^ 32) × (challenge < 2 ^ 32)
Fits (message.NewChallenge flags challenge creation name) = (flags.0 < 2 ^ 64) × (challenge < 2 ^ 32) × (creation.0 < 2 ^ 32)
Fits (message.Complement high creation) = (high < 2 ^ 32) × (creation.0 < 2 ^ 32)
Fits (message.Reply challenge digest) = (challenge < 2 ^ 32) × (length digest ≡ 16)
Fits (message.Ack digest) = length digest ≡ 16
