-- Parts of a packet.
use Rattle.std.specs.Prelude.{ℕ, List, length, take, drop, Result, Ok, Err, nat_lt, if◌then◌else◌}
use Rattle.std.specs.{Int.w16, Int.w32, Int.from_be_bytes, Borrow.Bor}
use Rattle.dist_capture.specs.declared.skipped.Skipped.{Skipped, TheVariants.CutShort}

-- so many bytes from a place on
abbrev pub part : ℕ → ℕ → List ℕ → List ℕ
part at count bytes = take count (drop at bytes)

-- the number in two bytes, the greater first; and in four
abbrev pub two : ℕ → List ℕ → ℕ
two at bytes = from_be_bytes w16 (part at 2 bytes)

abbrev pub four : ℕ → List ℕ → ℕ
four at bytes = from_be_bytes w32 (part at 4 bytes)

-- a step that a packet may not pass, and what follows it
infixl 10 ◌>>=◌
abbrev pub ◌>>=◌ : {A B : Type 0} → Result A Skipped → (A → Result B Skipped) → Result B Skipped
(Ok x) >>= f = f x
(Err e) >>= f = Err e

-- what stands behind so many bytes
abbrev pub behind : ℕ → List ℕ → Result (List ℕ) Skipped
behind count bytes = if nat_lt (length bytes) count then Err CutShort else Ok (drop count bytes)

-- the bytes that a function returned
abbrev pub view : Result (Bor (List ℕ)) Skipped → Result (List ℕ) Skipped
view (Ok x) = Ok x.now
view (Err e) = Err e
