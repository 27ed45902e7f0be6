-- Why a word of the command line, or a variable, is refused.
use Rattle.std.specs.{Prelude.◌≡◌, Prelude.ℕ, Prelude.List, Prelude.[], Prelude.◌∷◌, Prelude.◌++◌, Prelude.codes, Prelude.Result, Prelude.Ok, Prelude.Err}
use Rattle.std.specs.{Prelude.string_bytes, List.concat}
use Rattle.dist_names.specs.{Escaped.escapes_of, Escaped.in_double_quotes, NodeName.IsNodeName}
use Rattle.dist_program.specs.declared.word_fault.WordFault.{WordFault}
use Rattle.dist_program.specs.declared.word_fault.WordFault.TheVariants as fault

-- the text that is printed
abbrev pub word_fault_text : WordFault → List ℕ
word_fault_text (fault.Bad sentence) = string_bytes sentence
word_fault_text fault.NoMemory = codes "NoMemory"

-- the exit status: 2 where whoever wrote the word is to blame
abbrev pub word_fault_status : WordFault → ℕ
word_fault_status (fault.Bad sentence) = 2
word_fault_status fault.NoMemory = 1

-- the sentence that refuses a word that should be a node's name, with the word in it between double quotes, safe to print
abbrev pub name_sentence : List ℕ → List ℕ
name_sentence word = codes "a node's name has one @, something on both sides, and 3 to 255 bytes: " ++ in_double_quotes word

-- WHAT A WORD GIVES: its name, exactly where it is one, else that sentence, unless memory runs out
abbrev pub GivesName : List ℕ → Result (List ℕ) WordFault → Type 0
GivesName word (Ok name) = IsNodeName word × (name ≡ word)
GivesName word (Err (fault.Bad sentence)) = (IsNodeName word → ⊥) × (string_bytes sentence ≡ name_sentence word)
GivesName word (Err fault.NoMemory) = Unit {0}

-- the sentence that refuses a word that should be a number, behind the option of this name
abbrev pub number_sentence : List ℕ → List ℕ → List ℕ → List ℕ
number_sentence program id word = concat (
    codes "bad command line: --" ∷ id ∷ codes " takes a number from 1 to 65535: " ∷ in_double_quotes word
    ∷ codes " (" ∷ program ∷ codes " --help)" ∷ [])

-- the sentence that refuses words, with what the parser says of them, escaped, so that it is safe to print
abbrev pub parser_sentence : List ℕ → List ℕ → List ℕ
parser_sentence program reason = concat (codes "bad command line: " ∷ escapes_of reason ∷ codes " (" ∷ program ∷ codes " --help)" ∷ [])
