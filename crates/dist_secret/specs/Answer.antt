-- What a call that may run out of memory returns.
use Rattle.std.specs.Prelude.{ℕ, Bool, true, false, List, codes, Result}
use Rattle.dist_names.specs.Answer.{AnswersBut}
use Rattle.dist_secret.specs.declared.cookie_error.CookieError.{CookieError}
use Rattle.dist_secret.specs.declared.cookie_error.CookieError.TheVariants.{Empty, BadByte, TooLong, ReadFailed, NoMemory}

-- memory ran out
abbrev pub is_cookie_memory_error : CookieError → Bool
is_cookie_memory_error NoMemory = true
is_cookie_memory_error _ = false

-- The answer is the one expected, or out of memory.
abbrev pub AnswersCookie : {Y : Type 0} → Result Y CookieError → Result Y CookieError → Type 0
AnswersCookie result expected = AnswersBut is_cookie_memory_error (λ value. value) result expected

-- the word that a program prints for a refusal
abbrev pub error_name : CookieError → List ℕ
error_name Empty = codes "Empty"
error_name BadByte = codes "BadByte"
error_name TooLong = codes "TooLong"
error_name ReadFailed = codes "ReadFailed"
error_name NoMemory = codes "NoMemory"
