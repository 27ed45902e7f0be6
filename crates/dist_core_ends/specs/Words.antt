-- The words for causes, as programs print them.
use Rattle.std.specs.Prelude.{ℕ, ◌==◌, Bool, List, [], ◌∷◌, Option, codes}
use Rattle.std.specs.{List.find, Cmp.Lexicographic.pointwise}
use Rattle.dist_core_ends.specs.declared.why.Why.{Why}
use Rattle.dist_core_ends.specs.declared.why.Why.TheVariants as why

-- the word of a cause
abbrev pub why_word : Why → List ℕ
why_word why.Ended = codes "Ended"
why_word why.ReadFailed = codes "ReadFailed"
why_word why.WriteFailed = codes "WriteFailed"
why_word why.GaveUp = codes "GaveUp"
why_word why.DialFailed = codes "DialFailed"
why_word why.Malformed = codes "Malformed"
why_word why.Unexpected = codes "Unexpected"
why_word why.WrongName = codes "WrongName"
why_word why.WrongFlags = codes "WrongFlags"
why_word why.WrongDigest = codes "WrongDigest"
why_word why.StatusRefused = codes "StatusRefused"
why_word why.Refused = codes "Refused"
why_word why.Crossed = codes "Crossed"
why_word why.Replaced = codes "Replaced"
why_word why.NoMemory = codes "NoMemory"

-- all causes
abbrev pub all_whys : List Why
all_whys =
    why.Ended ∷ why.ReadFailed ∷ why.WriteFailed ∷ why.GaveUp ∷ why.DialFailed ∷ why.Malformed ∷ why.Unexpected ∷ why.WrongName
    ∷ why.WrongFlags ∷ why.WrongDigest ∷ why.StatusRefused ∷ why.Refused ∷ why.Crossed ∷ why.Replaced ∷ why.NoMemory ∷ []

-- the word is that of this cause
abbrev pub has_word : List ℕ → Why → Bool
has_word word w = pointwise ◌==◌ (why_word w) word

-- the cause that has this word
unfoldable pub why_of : List ℕ → Option Why
why_of word = find (has_word word) all_whys
