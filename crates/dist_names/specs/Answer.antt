-- What a call that may run out of memory returns.
use Rattle.std.specs.Prelude.{◌≡◌, Bool, true, false, Result, Ok, Err, IsOk}
use Rattle.dist_names.specs.declared.name_error.NameError.{NameError, TheVariants.NoMemory}

-- A refusal is the one expected. Memory runs out only where no refusal is expected.
abbrev pub RefusedBut : {E Y : Type 0} → Bool → E → Result Y E → Type 0
RefusedBut true error expected = IsOk expected
RefusedBut false error expected = expected ≡ Err error

-- By its view, the answer is the one expected, or an error that the test recognizes as out of memory.
abbrev pub AnswersBut : {E X Y : Type 0} → (E → Bool) → (X → Y) → Result X E → Result Y E → Type 0
AnswersBut is_name_memory_error view (Ok value) expected = expected ≡ Ok (view value)
AnswersBut is_name_memory_error view (Err error) expected = RefusedBut (is_name_memory_error error) error expected

-- memory ran out
abbrev pub is_name_memory_error : NameError → Bool
is_name_memory_error NoMemory = true
is_name_memory_error _ = false

-- the same for a call that returns a name
abbrev pub AnswersName : {Y : Type 0} → Result Y NameError → Result Y NameError → Type 0
AnswersName result expected = AnswersBut is_name_memory_error (λ value. value) result expected
