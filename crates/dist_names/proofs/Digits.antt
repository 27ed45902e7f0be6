-- Which words are numbers in digits, and that sixteen hexadecimal digits write a number of 64 bits.
use Rattle.std.proofs.Common.{◌≡◌, ℕ, ◌^◌, ◌<◌, ◌≤◌, Bool, true, false, ◌&&◌, nat_le, nat_lt, cond, List, [], ◌∷◌, length, Option, Some, None, refl, ap, arith}
use Rattle.std.proofs.Common.{SomeIff, if◌then◌else◌}
use Rattle.std.proofs.{Math.Nat.pow-le-pow_right, lemmas.Bool.and_parts, lemmas.Bool.false≢true, lemmas.Bool.Decides.nat_tests}
use Rattle.std.proofs.lemmas.Int.Digits.{digits_value-lt}
use Rattle.std.specs.{Char.digit_value, List.list_all, Str.Parse.AllDigits, Str.Parse.IsNumeral, Str.Parse.digits_value}
use Rattle.dist_names.specs.Digits.{is_numeral}

pub below : (m n : ℕ) → nat_lt m n ≡ true → m < n
below m n h = grind (arith, nat_tests)

pub is_below : (m n : ℕ) → m < n → nat_lt m n ≡ true
is_below m n h = grind (arith, nat_tests)

is_within : (m n : ℕ) → m ≤ n → nat_le m n ≡ true
is_within m n h = grind (arith, nat_tests)

pub both : (a b : Bool) → a ≡ true → b ≡ true → (a && b) ≡ true
both true true p q = refl
both true false p q = q
both false b p q = p

all_digits : (radix : ℕ) (word : List ℕ) → list_all (λ byte. nat_lt (digit_value byte) radix) word ≡ true → AllDigits radix word
all_digits radix [] h = tt
all_digits radix (c ∷ cs) h =
    let p = and_parts (nat_lt (digit_value c) radix) (list_all (λ byte. nat_lt (digit_value byte) radix) cs) h in
    (below (digit_value c) radix p.0, all_digits radix cs p.1)

are_digits : (radix : ℕ) (word : List ℕ) → AllDigits radix word → list_all (λ byte. nat_lt (digit_value byte) radix) word ≡ true
are_digits radix [] h = refl
are_digits radix (c ∷ cs) h = both (nat_lt (digit_value c) radix) (list_all (λ byte. nat_lt (digit_value byte) radix) cs) (is_below (digit_value c) radix h.0) (are_digits radix cs h.1)

-- the test says which words are numerals
pub numeral : (radix : ℕ) (word : List ℕ) → is_numeral radix word ≡ true → IsNumeral radix word
numeral radix word h =
    let p = and_parts (nat_lt 0 (length word)) (list_all (λ byte. nat_lt (digit_value byte) radix) word) h in
    (below 0 (length word) p.0, all_digits radix word p.1)

pub a_numeral : (radix : ℕ) (word : List ℕ) → IsNumeral radix word → is_numeral radix word ≡ true
a_numeral radix word h = both (nat_lt 0 (length word)) (list_all (λ byte. nat_lt (digit_value byte) radix) word) (is_below 0 (length word) h.0) (are_digits radix word h.1)

-- an answer that is there exactly where a test holds
pub by_test : {T : Type 0} (P : Type 0) (b : Bool) (v : T) → (b ≡ true → P) → (P → b ≡ true) → (r : Option T) → SomeIff r P v → r ≡ cond b (Some v) None
by_test P true v f g (Some x) h = ap Some h.1
by_test P true v f g None h = absurd (h (f refl))
by_test P false v f g (Some x) h = absurd (false≢true (g h.0))
by_test P false v f g None h = refl

short_numeral : (word : List ℕ) → AllDigits 16 word → length word ≤ 16 → digits_value 16 word < 2 ^ 64
short_numeral word digits short = let most : 16 ^ length word ≤ 16 ^ 16 = pow-le-pow_right {n = 16} (omega arith) short in omega (arith, digits_value-lt 16 word digits, most)

-- flags are read exactly where the word has 1 to 16 hexadecimal digits
pub flags_read : (word : List ℕ) (r : Option ℕ) → length word ≤ 16 → SomeIff r (IsNumeral 16 word × (digits_value 16 word < 2 ^ 64)) (digits_value 16 word)
    → r ≡ (if is_numeral 16 word && nat_le (length word) 16 then Some (digits_value 16 word) else None)
flags_read word r short =
    by_test (IsNumeral 16 word × (digits_value 16 word < 2 ^ 64)) (is_numeral 16 word && nat_le (length word) 16) (digits_value 16 word)
    (λ e. let n = numeral 16 word (and_parts (is_numeral 16 word) (nat_le (length word) 16) e).0 in (n, short_numeral word n.1 short))
    (λ p. both (is_numeral 16 word) (nat_le (length word) 16) (a_numeral 16 word p.0) (is_within (length word) 16 short)) r
