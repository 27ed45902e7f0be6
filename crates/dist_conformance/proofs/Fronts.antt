-- Bytes in front of others.
use Rattle.std.proofs.Common.{◌≡◌, ℕ, ◌-◌, ◌≤◌, Bool, true, false, List, [], ◌∷◌, ◌++◌, length, take, drop, max, Option, Some, None, refl, sym, ap, ◌∙◌, arith}
use Rattle.std.proofs.Common.{length-append}
use Rattle.std.proofs.lemmas.{Bool.and_parts, Bool.and_from, Bool.Decides.Decides-eqb, List.take-append-le, List.drop-append-le}
use Rattle.std.specs.{Prelude.◌==◌, Prelude.◌&&◌, Prelude.nat_lt, Prelude.if◌then◌else◌, Prelude.option_and_then, Int.Width, Int.w16, Int.w32, Int.byte_len, Int.from_be_bytes}
use Rattle.dist_names.specs.Fields.{number_at, bytes_at}
use Rattle.dist_conformance.specs.Bodies.{begins_with, sized_at, behind_ticks, whole}
use Rattle.dist_conformance.specs.declared.shapes.Framing.{Framing}
use Rattle.dist_conformance.specs.declared.shapes.Framing.TheVariants as framing

same_byte : (x y : ℕ) → (x == y) ≡ true → (y == x) ≡ true
same_byte x y e = let same : x ≡ y = (Decides-eqb x y).0 e in (Decides-eqb y x).1 (sym same)

-- ---- a key in front

pub begins_more : (key text more : List ℕ) → begins_with key text ≡ true → begins_with key (text ++ more) ≡ true
begins_more [] text more e = refl
begins_more (k ∷ ks) [] more e = absurd cc
begins_more (k ∷ ks) (c ∷ cs) more e =
    let p = and_parts (c == k) (begins_with ks cs) e in and_from (c == k) (begins_with ks (cs ++ more)) p.0 (begins_more ks cs more p.1)

pub begins_within : (key text : List ℕ) → begins_with key text ≡ true → length key ≤ length text
begins_within [] text e = omega arith
begins_within (k ∷ ks) [] e = absurd cc
begins_within (k ∷ ks) (c ∷ cs) e = let p = and_parts (c == k) (begins_with ks cs) e in let rest = begins_within ks cs p.1 in omega (arith, rest)

-- neither stands in front of the other: so it stays, whatever comes behind the second
pub begins_never : (key text more : List ℕ) → begins_with key text ≡ false → begins_with text key ≡ false → begins_with key (text ++ more) ≡ false
begins_never [] text more = λ e f. absurd cc
begins_never (k ∷ ks) [] more = λ e f. absurd cc
begins_never (k ∷ ks) (c ∷ cs) more =
    elim (c == k) as (λ b. (c == k) ≡ b → (b && begins_with ks cs) ≡ false → begins_with (c ∷ cs) (k ∷ ks) ≡ false → (b && begins_with ks (cs ++ more)) ≡ false) [
      | true ↦ λ is e f. begins_never ks cs more e (let back : begins_with (c ∷ cs) (k ∷ ks) ≡ begins_with cs ks = ap (λ b. b && begins_with cs ks) (same_byte c k is) in sym back ∙ f)
      | false ↦ λ is e f. refl
    ] refl

-- a longer text stands in front of no more
pub begins_longer : (text more key : List ℕ) → begins_with text key ≡ false → begins_with (text ++ more) key ≡ false
begins_longer [] more key = λ e. absurd cc
begins_longer (c ∷ cs) more [] = λ e. refl
begins_longer (c ∷ cs) more (k ∷ ks) =
    elim (k == c) as (λ b. (b && begins_with cs ks) ≡ false → (b && begins_with (cs ++ more) ks) ≡ false) [ true ↦ λ e. begins_longer cs more ks e | false ↦ λ e. refl ]

-- ---- a message in front

-- what is taken from the front stays there, whatever comes behind

by_length : (n : ℕ) (s more : List ℕ) (t : List ℕ × List ℕ) (b : Bool) → nat_lt (length s) n ≡ b → (if b then None else Some (take n s, drop n s)) ≡ Some t → bytes_at n (s ++ more) ≡ Some (t.0, t.1 ++ more)
by_length n s more t true is e = absurd cc
by_length n s more t false is e =
    let long : n ≤ length s = grind (arith, is) in
    let longer : nat_lt (length (s ++ more)) n ≡ false = grind (arith, length-append s more, long) in
    let same : (take n s, drop n s) ≡ t = cc in
    rw (longer, take-append-le n s more long, drop-append-le n s more long) (ap (λ (x : List ℕ × List ℕ). Some (x.0, x.1 ++ more)) same)

pub bytes_more : (n : ℕ) (s more : List ℕ) (t : List ℕ × List ℕ) → bytes_at n s ≡ Some t → bytes_at n (s ++ more) ≡ Some (t.0, t.1 ++ more)
bytes_more n s more t e = by_length n s more t (nat_lt (length s) n) refl e

by_number : (w : Width) (s more : List ℕ) (t : ℕ × List ℕ) (b : Bool) → nat_lt (length s) (byte_len w) ≡ b
    → (if b then None else Some (from_be_bytes w (take (byte_len w) s), drop (byte_len w) s)) ≡ Some t → number_at w (s ++ more) ≡ Some (t.0, t.1 ++ more)
by_number w s more t true is e = absurd cc
by_number w s more t false is e =
    let long : byte_len w ≤ length s = grind (arith, is) in
    let longer : nat_lt (length (s ++ more)) (byte_len w) ≡ false = grind (arith, length-append s more, long) in
    let same : (from_be_bytes w (take (byte_len w) s), drop (byte_len w) s) ≡ t = cc in
    rw (longer, take-append-le (byte_len w) s more long, drop-append-le (byte_len w) s more long) (ap (λ (x : ℕ × List ℕ). Some (x.0, x.1 ++ more)) same)

pub number_more : (w : Width) (s more : List ℕ) (t : ℕ × List ℕ) → number_at w s ≡ Some t → number_at w (s ++ more) ≡ Some (t.0, t.1 ++ more)
number_more w s more t e = by_number w s more t (nat_lt (length s) (byte_len w)) refl e

sized_from : (w : Width) (s more : List ℕ) (t : List ℕ × List ℕ) (x : Option (ℕ × List ℕ)) → number_at w s ≡ x → option_and_then (λ (n : ℕ × List ℕ). bytes_at n.0 n.1) x ≡ Some t → sized_at w (s ++ more) ≡ Some (t.0, t.1 ++ more)
sized_from w s more t None is e = absurd cc
sized_from w s more t (Some n) is e = ap (option_and_then (λ (m : ℕ × List ℕ). bytes_at m.0 m.1)) (number_more w s more n is) ∙ bytes_more n.0 n.1 more t e

pub sized_more : (w : Width) (s more : List ℕ) (t : List ℕ × List ℕ) → sized_at w s ≡ Some t → sized_at w (s ++ more) ≡ Some (t.0, t.1 ++ more)
sized_more w s more t e = sized_from w s more t (number_at w s) refl e

-- a number of 4 bytes needs 4 bytes
long_from : (s : List ℕ) (t : List ℕ × List ℕ) (b : Bool) → nat_lt (length s) 4 ≡ b
    → option_and_then (λ (n : ℕ × List ℕ). bytes_at n.0 n.1) (if b then None else Some (from_be_bytes w32 (take 4 s), drop 4 s)) ≡ Some t → 4 ≤ length s
long_from s t true is e = absurd cc
long_from s t false is e = grind (arith, is)

sized_is_long : (s : List ℕ) (t : List ℕ × List ℕ) → sized_at w32 s ≡ Some t → 4 ≤ length s
sized_is_long s t e = long_from s t (nat_lt (length s) 4) refl e

ticks_more : (s more : List ℕ) → 4 ≤ length (behind_ticks s) → behind_ticks (s ++ more) ≡ behind_ticks s ++ more
ticks_more [] more = λ h. absurd (omega arith)
ticks_more (a ∷ []) more = λ h. absurd (omega arith)
ticks_more (a ∷ b ∷ []) more = λ h. absurd (omega arith)
ticks_more (a ∷ b ∷ c ∷ []) more = λ h. absurd (omega arith)
ticks_more (a ∷ b ∷ c ∷ d ∷ rest) more =
    elim ((a == 0 && b == 0) && (c == 0 && d == 0)) as (λ x. 4 ≤ length (if x then behind_ticks rest else a ∷ b ∷ c ∷ d ∷ rest)
    → (if x then behind_ticks (rest ++ more) else a ∷ b ∷ c ∷ d ∷ (rest ++ more)) ≡ (if x then behind_ticks rest else a ∷ b ∷ c ∷ d ∷ rest) ++ more) [
      | true ↦ λ h. ticks_more rest more h
      | false ↦ λ h. refl
    ]

pub whole_more : (f : Framing) (s more : List ℕ) (t : List ℕ × List ℕ) → whole f s ≡ Some t → whole f (s ++ more) ≡ Some (t.0, t.1 ++ more)
whole_more framing.Frame s more t e = sized_more w16 s more t e
whole_more framing.Packet s more t e = ap (sized_at w32) (ticks_more s more (sized_is_long (behind_ticks s) t e)) ∙ sized_more w32 (behind_ticks s) more t e
whole_more (framing.Bare n) s more t e = bytes_more (max n 1) s more t e

-- as many bytes as it took at first
pub same_count : (s more rest : List ℕ) → length (s ++ more) - length (rest ++ more) ≡ length s - length rest
same_count s more rest = omega (arith, length-append s more, length-append rest more)
