-- Digits are read one at a time, and the number that they write grows.
use Rattle.std.proofs.Common.{◌≡◌, ℕ, suc, ◌+◌, ◌*◌, ◌^◌, ◌<◌, ◌≤◌, List, [], ◌∷◌, length, drop, get_or, refl, ap, subst, ◌∙◌, arith, drop-cons}
use Rattle.std.proofs.Common.{drop_of_length-le, le-mul_of_pos_right}
use Rattle.std.specs.{Char.digit_value, Str.Parse.AllDigits, Str.Parse.IsNumeral, Str.Parse.digits_value, Str.Parse.digits_value_after}

-- of the digits `all`, those before `rest` write n
pub record SoFar (radix : ℕ) (all rest : List ℕ) (n : ℕ) : Type 0 where
  pub some : 0 < length all
  pub fits : n < 2 ^ 64
  pub same : digits_value_after radix n rest ≡ digits_value radix all
  pub back : AllDigits radix rest → AllDigits radix all
  pub on : AllDigits radix all → AllDigits radix rest

pub begun : (radix : ℕ) (all : List ℕ) → 0 < length all → SoFar radix all all 0
begun radix all some = record { some = some; fits = omega arith; same = refl; back = λ h. h; on = λ h. h }

grows : (radix n : ℕ) (ds : List ℕ) → 0 < radix → n ≤ digits_value_after radix n ds
grows radix n [] h = omega arith
grows radix n (c ∷ cs) h = omega (arith, grows radix (n * radix + digit_value c) cs h, le-mul_of_pos_right n h)

module _ (radix : ℕ) (all : List ℕ) (at n : ℕ) (s : SoFar radix all (drop at all) n) where
  module _ (h : at < length all) where
    opened : SoFar radix all (get_or all at 0 ∷ drop (at + 1) all) n
    opened = let e : suc at ≡ at + 1 = omega arith in subst (λ l. SoFar radix all l n) (drop-cons all at 0 h ∙ ap (λ k. get_or all at 0 ∷ drop k all) e) s

    pub one_more : (m : ℕ) → digit_value (get_or all at 0) < radix → m ≡ n * radix + digit_value (get_or all at 0) → m < 2 ^ 64 → SoFar radix all (drop (at + 1) all) m
    one_more m d e fits = record { some = s.some; fits = fits; same = ap (λ k. digits_value_after radix k (drop (at + 1) all)) e ∙ opened.same; back = λ r. opened.back (d, r); on = λ r. (opened.on r).1 }

    pub stopped : 0 < radix → ((digit_value (get_or all at 0) < radix) × (n * radix + digit_value (get_or all at 0) < 2 ^ 64) → ⊥) → IsNumeral radix all × (digits_value radix all < 2 ^ 64) → ⊥
    stopped z off p = off ((opened.on p.0.1).0, omega (arith, opened.same, p.1, grows radix (n * radix + digit_value (get_or all at 0)) (drop (at + 1) all) z))

  pub all_read : length all ≤ at → (IsNumeral radix all × (digits_value radix all < 2 ^ 64)) × (n ≡ digits_value radix all)
  all_read h =
      let t : SoFar radix all [] n = subst (λ l. SoFar radix all l n) (drop_of_length-le all h) s in
      (((s.some, t.back tt), omega (arith, t.same, s.fits)), t.same)
