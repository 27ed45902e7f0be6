-- The words of codes and causes.
use Rattle.std.specs.Prelude.{◌≡◌, ℕ, ◌==◌, ◌⊎◌, if◌then◌else◌, List, codes}
use Rattle.dist_core_ends.specs.{declared.why.Why.Why, Words.why_word}
use Rattle.dist_c_guest.specs.{Codes.why_number, Steps.Copies}

abbrev pub code_word : ℕ → List ℕ
code_word n =
    if n == 0 then codes "Ok" else if n == 1 then codes "NotANode" else if n == 2 then codes "InUse" else if n == 3 then codes "NoMemory"
    else if n == 4 then codes "NoRoom" else if n == 5 then codes "Awaits" else if n == 6 then codes "NoSuch" else if n == 8 then codes "TooLong"
    else if n == 9 then codes "PeerInUse" else if n == 10 then codes "NoSuchEnd"
    else if n == 11 then codes "Gone" else if n == 12 then codes "WrongPhase" else if n == 13 then codes "Busy" else if n == 14 then codes "Spent"
    else if n == 15 then codes "Full" else if n == 16 then codes "OpenEnds" else if n == 17 then codes "ShownEnd"
    else if n == 20 then codes "NameTooShort" else if n == 21 then codes "NameTooLong" else if n == 22 then codes "NameBadByte"
    else if n == 23 then codes "NameBadAt" else if n == 30 then codes "CookieEmpty" else if n == 31 then codes "CookieBadByte"
    else if n == 32 then codes "CookieTooLong"
    else if n == 40 then codes "Malformed" else if n == 41 then codes "Short" else if n == 42 then codes "Trailing"
    else if n == 50 then codes "HalfFlags" else codes "Unknown"

-- the word of the cause of this number is copied, or there is no such cause (6)
abbrev pub IsWordOf : ℕ → ℕ → ℕ → ℕ → List ℕ → List ℕ → Type 0
IsWordOf number code had len old new =
    ((w : Why) × (why_number w ≡ number) × Copies (why_word w) code len old new) ⊎ ((code ≡ 6) × (len ≡ had) × (new ≡ old))
