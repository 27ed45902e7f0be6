-- Why a body of a side is not a message, in the words of the layouts.
use Rattle.std.specs.Prelude.{◌≡◌, ℕ, List, [], ◌∷◌, ◌++◌, IsTrue}
use Rattle.dist_names.specs.Bytes.{IsBytes}
use Rattle.dist_messages.specs.Spelling.{Spells, Fits, text_of, is_said_by}
use Rattle.dist_messages.specs.declared.{message.Side.Side, message.Status.Status, message.Message.Message, message_error.MessageError.MessageError}
use Rattle.dist_messages.specs.declared.message_error.MessageError.TheVariants as errors

-- the body spells a message of this side
pub record IsMessage (side : Side) (body : List ℕ) : Type 0 where
  pub message : Message
  pub fits : Fits message
  pub spelled : Spells side message body

-- the first byte of a status, the one message that has a text and no fields
abbrev pub status_tag : ℕ
status_tag = 0x73

-- No message of this side begins as the body does.
pub record HasUnknownTag (side : Side) (body : List ℕ) : Type 0 where
  pub tag : ℕ
  pub rest : List ℕ
  pub parts : body ≡ tag ∷ rest
  pub no_row : (others : List ℕ) → IsMessage side (tag ∷ others) → ⊥

-- The body ends inside a field: it is not a message, and some more bytes make it one.
pub record IsShort (side : Side) (body : List ℕ) : Type 0 where
  pub tag : ℕ
  pub rest : List ℕ
  pub parts : body ≡ tag ∷ rest
  pub no_status : tag ≡ status_tag → ⊥
  pub no_message : IsMessage side body → ⊥
  pub more : List ℕ
  pub more_bytes : IsBytes more
  pub whole : IsMessage side (body ++ more)

-- Bytes stand after the last field: the body is not a message, and a prefix of it is one.
pub record IsLong (side : Side) (body : List ℕ) : Type 0 where
  pub tag : ℕ
  pub rest : List ℕ
  pub next : ℕ
  pub more : List ℕ
  pub parts : body ≡ (tag ∷ rest) ++ (next ∷ more)
  pub no_status : tag ≡ status_tag → ⊥
  pub no_message : IsMessage side body → ⊥
  pub front : IsMessage side (tag ∷ rest)

-- The body is the tag of a status, and its text is not that of any status of this side.
pub record HasUnknownStatus (side : Side) (body : List ℕ) : Type 0 where
  pub text : List ℕ
  pub parts : body ≡ status_tag ∷ text
  pub no_status : (s : Status) → IsTrue (is_said_by s side) → text ≡ text_of s → ⊥

-- Why a body is refused. Memory is needed only for a message, and a name that is read may have any length.
unfoldable pub IsCause : Side → List ℕ → MessageError → Type 0
IsCause side body errors.Empty = body ≡ []
IsCause side body errors.UnknownTag = HasUnknownTag side body
IsCause side body errors.Short = IsShort side body
IsCause side body errors.Long = IsLong side body
IsCause side body errors.BadName = ⊥
IsCause side body errors.UnknownStatus = HasUnknownStatus side body
IsCause side body errors.NoMemory = IsMessage side body
