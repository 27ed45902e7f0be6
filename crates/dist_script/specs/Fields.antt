-- What the words of a line say.
use Rattle.std.specs.Prelude.{◌≡◌, ℕ, ◌&&◌, ◌^◌, nat_lt, if◌then◌else◌, List, [], ◌∷◌, drop, codes, Option, Some, None, option_map, option_and_then, Result}
use Rattle.std.specs.Prelude.{MatchResult}
use Rattle.std.specs.{Result.result_ok, Str.Parse.digits_value}
use Rattle.hex.specs.Hex.{decode_of}
use Rattle.dist_names.specs.{Digits.is_numeral, NodeName.name_of_bytes, Order.same_name, declared.creation.Creation.Creation}
use Rattle.dist_messages.specs.declared.opening.Opening.{Opening}
use Rattle.dist_messages.specs.declared.opening.Opening.TheVariants as opening
use Rattle.dist_peers.specs.declared.entry.EndId.{EndId}
use Rattle.dist_core_ends.specs.{declared.why.Why.Why, Words.why_of}
use Rattle.dist_script.specs.declared.words.LineFault.{LineFault, TheVariants.Bad}

-- ---- what a call that reads something returns

-- Unless memory runs out, the answer is what is there, and Bad comes exactly where nothing is.
abbrev pub Reads : {T : Type 0} → Result T LineFault → Option T → Type 0
Reads result there = MatchResult result (λ value. there ≡ Some value) (λ fault. fault ≡ Bad → there ≡ None)

-- The same of a call that changes what it is given: it is then what is there.
abbrev pub Makes : {A T : Type 0} → Result A LineFault → T → Option T → Type 0
Makes result new there = MatchResult result (λ _. there ≡ Some new) (λ fault. fault ≡ Bad → there ≡ None)

-- what the first words say, and the words behind them
abbrev pub Read : Type 0 → Type 0
Read T = Option (T × List (List ℕ))

-- The same of a call that reads some words, with those that it leaves.
abbrev pub ReadsUpTo : {T : Type 0} → Result T LineFault → List (List ℕ) → Read T → Type 0
ReadsUpTo result left there = MatchResult result (λ value. there ≡ Some (value, left)) (λ fault. fault ≡ Bad → there ≡ None)

-- ---- words in a row

-- the second, applied to the value of the first; nothing if the first has none
infixl 10 ◌>>=◌
abbrev pub ◌>>=◌ : {A B : Type 0} → Option A → (A → Option B) → Option B
o >>= f = option_and_then f o

-- what the first word says, where one is left
abbrev pub first_in : {T : Type 0} → (List ℕ → Option T) → List (List ℕ) → Option T
first_in says [] = None
first_in says (word ∷ words) = says word

-- what the first word says, and then the words behind it
abbrev pub next : {A B : Type 0} → (List ℕ → Option A) → (A → List (List ℕ) → Option B) → List (List ℕ) → Option B
next says others words = first_in says words >>= (λ x. others x (drop 1 words))

-- this, whatever words are left
abbrev pub give : {T : Type 0} → T → List (List ℕ) → Read T
give x words = Some (x, words)

-- no word is left
abbrev pub if_done : {T : Type 0} → List (List ℕ) → T → Option T
if_done [] x = Some x
if_done (word ∷ words) x = None

-- what a word stands for, by the first row of a table that has it
abbrev pub meaning_in : {T : Type 0} → List (List ℕ × T) → List ℕ → Option T
meaning_in [] word = None
meaning_in (row ∷ rows) word = if same_name row.0 word then Some row.1 else meaning_in rows word

-- a line of one of several kinds: the first word of one, what stands behind it, and no word more
abbrev pub whole_line : {K T : Type 0} → List (List ℕ × K) → (K → List (List ℕ) → Read T) → List (List ℕ) → Option T
whole_line kinds behind words = next (meaning_in kinds) (λ kind others. behind kind others >>= (λ x. if_done x.1 x.0)) words

-- ---- single words

-- the number below 2^bits that decimal digits write
abbrev pub number_in : ℕ → List ℕ → Option ℕ
number_in bits word = if is_numeral 10 word && nat_lt (digits_value 10 word) (2 ^ bits) then Some (digits_value 10 word) else None

-- the place of a node, the number of a connection, or how many
abbrev pub count_in : List ℕ → Option ℕ
count_in word = number_in 32 word

-- a creation
abbrev pub creation_in : List ℕ → Option Creation
creation_in word = option_map (λ number. record { 0 = number }) (number_in 32 word)

-- the number of an end
abbrev pub end_in : List ℕ → Option EndId
end_in word = option_map (λ number. record { 0 = number }) (number_in 32 word)

-- bytes, two hexadecimal digits for each, at least one
abbrev pub bytes_in : List ℕ → Option (List ℕ)
bytes_in [] = None
bytes_in (digit ∷ digits) = result_ok (decode_of (digit ∷ digits))

-- the name of a node
abbrev pub name_in : List ℕ → Option (List ℕ)
name_in word = result_ok (name_of_bytes word)

-- the two forms of a name message
abbrev pub openings : List (List ℕ × Opening)
openings = (codes "new", opening.New) ∷ (codes "old", opening.Old) ∷ []

-- a form of a name message
abbrev pub opening_in : List ℕ → Option Opening
opening_in word = meaning_in openings word

-- a cause, by its word
abbrev pub why_in : List ℕ → Option Why
why_in word = why_of word
