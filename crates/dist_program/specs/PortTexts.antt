-- A port that a text names, as that of ERL_EPMD_PORT and the word behind an option.
use Rattle.std.specs.Prelude.{◌≡◌, ℕ, ◌<◌, ◌^◌, List, ◌++◌, codes, Option, Some, None, Result, Ok, Err, string_bytes}
use Rattle.std.specs.{Borrow.Bor, Str.Parse.IsNumeral, Str.Parse.digits_value}
use Rattle.dist_names.specs.Escaped.{in_double_quotes}
use Rattle.dist_program.specs.{declared.word_fault.WordFault.WordFault, Sentences.number_sentence}
use Rattle.dist_program.specs.declared.word_fault.WordFault.TheVariants as fault

-- decimal digits, at least one, of a number from 1 to 65,535; leading zeros are allowed, signs and blanks are not
abbrev pub NamesPort : List ℕ → Type 0
NamesPort text = IsNumeral 10 text × (0 < digits_value 10 text) × (digits_value 10 text < 2 ^ 16)

-- the sentence that refuses a text, with the text in it between double quotes, safe to print
abbrev pub port_sentence : List ℕ → List ℕ
port_sentence text = codes "ERL_EPMD_PORT is no port number from 1 to 65535: " ++ in_double_quotes text

-- what is printed of a text that names no port: this sentence, unless memory runs out
abbrev pub Refuses : List ℕ → WordFault → Type 0
Refuses sentence (fault.Bad printed) = string_bytes printed ≡ sentence
Refuses sentence fault.NoMemory = Unit {0}

-- WHAT A TEXT GIVES: the number that it writes, exactly where it names a port, else its refusal
abbrev pub GivesPort : List ℕ → Result ℕ WordFault → Type 0
GivesPort text (Ok port) = NamesPort text × (port ≡ digits_value 10 text)
GivesPort text (Err f) = (NamesPort text → ⊥) × Refuses (port_sentence text) f

-- what the word behind an option gives, if there is one: the same number, else its own refusal
abbrev pub GivesNumber : List ℕ → List ℕ → Option (Bor (List ℕ)) → Result (Option ℕ) WordFault → Type 0
GivesNumber program id None gives = gives ≡ Ok None
GivesNumber program id (Some word) (Ok (Some number)) = NamesPort word.now × (number ≡ digits_value 10 word.now)
GivesNumber program id (Some word) (Ok None) = ⊥
GivesNumber program id (Some word) (Err f) = (NamesPort word.now → ⊥) × Refuses (number_sentence program id word.now) f
