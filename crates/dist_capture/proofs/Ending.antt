-- The last place is of a byte that is known.
use Rattle.std.proofs.Common.{◌≡◌, ℕ, zero, suc, ◌+◌, ◌-◌, ◌<◌, Bool, true, false, ◌||◌, ◌==◌, not, List, [], ◌∷◌, length, drop, max, Option, Some, None, refl, sym, ap, ◌∙◌}
use Rattle.std.proofs.Common.{arith, inl, inr, slice_get, is_some, position, nat_lt, lt-ltb, le-leb, length-drop}
use Rattle.std.proofs.lemmas.{Bool.cases_lt, Bool.Decides.eqb_tells, Bool.lt-leb, List.get_or-drop}
use Rattle.std.specs.List.{prefix_len}
use Rattle.dist_capture.specs.Streams.{known_at, byte_at, first_of, laid, ends_known}
use Rattle.dist_capture.proofs.{Known.known_laid, Known.first_by, Laying.length-laid}

or_by : (a b : Bool) → (a ≡ false → b ≡ true) → (a || b) ≡ true
or_by true b h = refl
or_by false b h = h refl

or_right : (a b : Bool) → (a || b) ≡ true → a ≡ false → b ≡ true
or_right true b e f = absurd cc
or_right false b e f = e

some_length : (n : ℕ) → (n == 0) ≡ false → 0 < n
some_length zero e = absurd cc
some_length (suc n) e = omega arith

not_none : (n : ℕ) → 0 < n → (n == 0) ≡ false
not_none n lt = elim (eqb_tells n 0) [ inl is ↦ absurd (omega (arith, is.1)) | inr is ↦ is.0 ]

last_known : (known : List (Option ℕ)) → ends_known known ≡ true → 0 < length known → is_some (known_at known (length known - 1)) ≡ true
last_known known e lt = or_right (length known == 0) (is_some (known_at known (length known - 1))) e (not_none (length known) lt)

by_last : (known : List (Option ℕ)) → (0 < length known → is_some (known_at known (length known - 1)) ≡ true) → ends_known known ≡ true
by_last known h = or_by (length known == 0) (is_some (known_at known (length known - 1))) (λ e. h (some_length (length known) e))

first_known : (a b : Option ℕ) → is_some a ≡ true → is_some (first_of a b) ≡ true
first_known (Some x) b e = refl
first_known None b e = absurd cc

later_known : (a b : Option ℕ) → is_some b ≡ true → is_some (first_of a b) ≡ true
later_known (Some x) b e = refl
later_known None b e = e

some_in : (bytes : List ℕ) (i : ℕ) → i < length bytes → is_some (slice_get bytes i) ≡ true
some_in [] i lt = absurd (omega arith)
some_in (b ∷ bytes) zero lt = refl
some_in (b ∷ bytes) (suc i) lt = some_in bytes i (omega arith)

last_byte : (place : ℕ) (bytes : List ℕ) (i : ℕ) → 0 < length bytes → i + 1 ≡ place + length bytes → is_some (byte_at place bytes i) ≡ true
last_byte place bytes i lt e = let a = le-leb place i (omega arith) in rw a (some_in bytes (i - place) (omega arith))

pub ends_laid : (place : ℕ) (bytes : List ℕ) (known : List (Option ℕ)) → (length bytes == 0) ≡ false → ends_known known ≡ true → ends_known (laid place bytes known) ≡ true
ends_laid place bytes known some e =
    let all = laid place bytes known in
    let n : length all ≡ max (length known) (place + length bytes) = length-laid place bytes known in
    let lt : 0 < length bytes = some_length (length bytes) some in
    by_last all (λ more. ap is_some (known_laid place bytes known (length all - 1)) ∙ elim (cases_lt (place + length bytes) (length known)) [
      | inl shorter ↦
          let at : length all - 1 ≡ length known - 1 = omega (arith, n) in
          first_known (known_at known (length all - 1)) (byte_at place bytes (length all - 1))
          (ap (λ (i : ℕ). is_some (known_at known i)) at ∙ last_known known e (omega arith))
      | inr longer ↦ later_known (known_at known (length all - 1)) (byte_at place bytes (length all - 1)) (last_byte place bytes (length all - 1) lt (omega (arith, n)))
    ])

pub ends_drop : (count : ℕ) (known : List (Option ℕ)) → ends_known known ≡ true → ends_known (drop count known) ≡ true
ends_drop count known e = by_last (drop count known) (λ more.
    let n : length (drop count known) ≡ length known - count = length-drop count known in
    let at : count + (length (drop count known) - 1) ≡ length known - 1 = omega (arith, n, more) in
    ap is_some (get_or-drop count known (length (drop count known) - 1) None ∙ ap (λ (i : ℕ). known_at known i) at) ∙ last_known known e (omega (arith, n, more)))

-- ---- where a place is known, one is the first

finds : (known : List (Option ℕ)) (i : ℕ) → is_some (known_at known i) ≡ true → prefix_len (λ o. not (is_some o)) known < length known
finds [] i e = absurd cc
finds (Some b ∷ known) i e = omega arith
finds (None ∷ known) zero e = absurd cc
finds (None ∷ known) (suc i) e = let h = finds known i e in omega arith

some_there : (known : List (Option ℕ)) (i : ℕ) → is_some (known_at known i) ≡ true → is_some (position is_some known) ≡ true
some_there known i e = let h = lt-ltb (prefix_len (λ o. not (is_some o)) known) (length known) (finds known i e) in rw h refl

pub gap_there : (known : List (Option ℕ)) → ends_known known ≡ true → nat_lt 0 (length known) ≡ is_some (position is_some known)
gap_there [] e = refl
gap_there (o ∷ known) e =
    let lt : 0 < length (o ∷ known) = omega arith in
    lt-ltb 0 (length (o ∷ known)) lt ∙ sym (some_there (o ∷ known) (length (o ∷ known) - 1) (last_known (o ∷ known) e lt))

-- ---- a segment behind a gap

pub still_open : (place : ℕ) (bytes : List ℕ) (known : List (Option ℕ)) → 0 < place → is_some (known_at known 0) ≡ false → is_some (known_at (laid place bytes known) 0) ≡ false
still_open place bytes known lt e =
    let a = lt-leb place 0 lt in
    let none : byte_at place bytes 0 ≡ None = rw a refl in
    ap is_some (known_laid place bytes known 0 ∙ first_by (known_at known 0) (byte_at place bytes 0) none) ∙ e
