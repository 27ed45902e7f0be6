-- Why bytes are refused, in the words of the layouts.
use Rattle.std.specs.Prelude.{◌≡◌, ℕ, ◌<◌, List, ◌++◌, length}
use Rattle.dist_epmd.specs.declared.epmd_error.EpmdError.TheVariants.{Malformed, Short, Trailing, NoMemory}
use Rattle.dist_epmd.specs.Layout.{SpellsRequest, SpellsAnswer, RequestFits, AnswerFits}
use Rattle.dist_epmd.specs.declared.{message.Asked.Asked, epmd_error.EpmdError.EpmdError}

-- of messages, which bytes spell which, and whose values fit their fields
module _ {M : Type 0} (Spells : M → List ℕ → Type 0) (Fits : M → Type 0) (bytes : List ℕ) where
  -- With some more bytes behind them, the bytes spell a message.
  abbrev pub LacksBytes : Type 0
  LacksBytes = (m : M) × (more : List ℕ) × (0 < length more) × Fits m × Spells m (bytes ++ more)

  -- A first part of the bytes spells a message, and more bytes stand behind it.
  abbrev pub ExceedsMessage : Type 0
  ExceedsMessage = (m : M) × (front : List ℕ) × (rest : List ℕ) × (0 < length rest) × (bytes ≡ front ++ rest) × Fits m × Spells m front

  -- Whatever stands behind the bytes, they spell no message.
  abbrev pub BeginsNone : Type 0
  BeginsNone = (m : M) (more : List ℕ) → Spells m (bytes ++ more) → ⊥

  -- what each refusal of the bytes means
  abbrev pub RefusesBytes : EpmdError → Type 0
  RefusesBytes Malformed = BeginsNone
  RefusesBytes Short = LacksBytes
  RefusesBytes Trailing = ExceedsMessage
  RefusesBytes NoMemory = Unit {0}

-- what each refusal of a body means
abbrev pub RefusesRequest : List ℕ → EpmdError → Type 0
RefusesRequest body error = RefusesBytes SpellsRequest RequestFits body error

-- what each refusal of bytes means that were to answer what was asked
abbrev pub RefusesAnswer : Asked → List ℕ → EpmdError → Type 0
RefusesAnswer asked bytes error = RefusesBytes (SpellsAnswer asked) AnswerFits bytes error
