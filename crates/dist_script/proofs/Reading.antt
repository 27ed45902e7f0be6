-- What single words say.
use Rattle.std.proofs.Common.{◌&&◌, nat_lt, SomeIff, if◌then◌else◌}
use Rattle.std.specs.{Result.result_ok, Str.Parse.IsNumeral, Str.Parse.digits_value}
use Rattle.hex.specs.Hex.{decode_of}
use Rattle.dist_names.specs.{Digits.is_numeral, Order.same_name}
use Rattle.dist_names.proofs.{Digits.below, Digits.is_below, Digits.both, Digits.numeral, Digits.a_numeral, Digits.by_test, Orders.one_lem, Orders.itself_lem}
use Rattle.dist_messages.proofs.Words.{◌≡◌, ℕ, ◌<◌, true, false, List, [], ◌∷◌, length, IfSome, Some, None, Option, sym, refl, ap, subst, arith, and_parts}
use Rattle.dist_core_ends.specs.{Words.why_word, Words.why_of, declared.why.Why.Why}
use Rattle.dist_core_ends.proofs.Naming as naming
use Rattle.dist_script.specs.{Fields.if_done, Fields.bytes_in, Nodes.begins}

pub number_read : (most : ℕ) (word : List ℕ) (r : Option ℕ) → SomeIff r (IsNumeral 10 word × (digits_value 10 word < most)) (digits_value 10 word) → r ≡ (if is_numeral 10 word && nat_lt (digits_value 10 word) most then Some (digits_value 10 word) else None)
number_read most word =
    by_test (IsNumeral 10 word × (digits_value 10 word < most)) (is_numeral 10 word && nat_lt (digits_value 10 word) most) (digits_value 10 word)
    (λ e. let p = and_parts (is_numeral 10 word) (nat_lt (digits_value 10 word) most) e in (numeral 10 word p.0, below (digits_value 10 word) most p.1))
    (λ p. both (is_numeral 10 word) (nat_lt (digits_value 10 word) most) (a_numeral 10 word p.0) (is_below (digits_value 10 word) most p.1))

no_cause : (word : List ℕ) (o : Option Why) → IfSome o (λ why. why_word why ≡ word) → ((why : Why) → why_word why ≡ word → None ≡ Some why) → None ≡ o
no_cause word None f g = refl
no_cause word (Some why) f g = g why f

pub why_read : (word : List ℕ) (r : Option Why) → IfSome r (λ why. why_word why ≡ word) → ((why : Why) → why_word why ≡ word → r ≡ Some why) → r ≡ why_of word
why_read word (Some w) f g = sym (naming.every word w f)
why_read word None f g = no_cause word (why_of word) (naming.found word) g

-- some word is left
pub not_done : {T : Type 0} (words : List (List ℕ)) (x : T) → (words ≡ [] → ⊥) → if_done words x ≡ None
not_done [] x h = absurd (h refl)
not_done (word ∷ words) x h = refl

-- the first word is this one
pub begun : (wanted : List ℕ) (words rest : List (List ℕ)) → words ≡ wanted ∷ rest → begins wanted words ≡ true
begun wanted words rest e = subst (λ ws. begins wanted ws ≡ true) (sym e) (itself_lem wanted)

different : (word wanted : List ℕ) → (word ≡ wanted → ⊥) → same_name word wanted ≡ false
different word wanted h = elim (same_name word wanted) as (λ b. same_name word wanted ≡ b → b ≡ false) [ true ↦ λ e. absurd (h (one_lem word wanted e)) | false ↦ λ e. refl ] refl

-- the first word is not this one
pub not_begun : (wanted : List ℕ) (words : List (List ℕ)) → ((rest : List (List ℕ)) → words ≡ wanted ∷ rest → ⊥) → begins wanted words ≡ false
not_begun wanted [] h = refl
not_begun wanted (word ∷ words) h = different word wanted (λ e. h words (ap (λ w. w ∷ words) e))

-- no digit writes nothing
pub no_digits : (word : List ℕ) → length word ≡ 0 → bytes_in word ≡ None
no_digits [] e = refl
no_digits (digit ∷ digits) e = absurd (omega arith)

-- some write what they are decoded to
pub some_digits : (word : List ℕ) → (length word ≡ 0 → ⊥) → bytes_in word ≡ result_ok (decode_of word)
some_digits [] h = absurd (h refl)
some_digits (digit ∷ digits) h = refl
