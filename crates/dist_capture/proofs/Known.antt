-- What is known of the bytes of a stream, byte by byte.
use Rattle.std.proofs.Common.{◌≡◌, ℕ, zero, suc, ◌+◌, ◌-◌, ◌<◌, ◌≤◌, List, [], ◌∷◌, ◌++◌, length, take, drop, map, max, Option, Some, None, refl, sym, ap, ◌∙◌}
use Rattle.std.proofs.Common.{arith, zero-add, inl, inr, slice_get, le-leb}
use Rattle.std.proofs.lemmas.{Bool.cases_lt, List.get_or_past, List.FromFn.length-map-range_with_len, List.FromFn.get_or-map-range_with_len}
use Rattle.std.proofs.lemmas.Option.{slice_get_past}
use Rattle.dist_capture.specs.Streams.{known_at, byte_at, first_of, laid, leading}

pub slice_get-drop : (n : ℕ) (xs : List ℕ) (i : ℕ) → slice_get (drop n xs) i ≡ slice_get xs (n + i)
slice_get-drop zero xs i = ap (slice_get xs) (sym (zero-add i))
slice_get-drop (suc n) [] i = refl
slice_get-drop (suc n) (x ∷ xs) i = let e : suc n + i ≡ suc (n + i) = omega arith in rw e (slice_get-drop n xs i)

pub slice_get-take : (n : ℕ) (xs : List ℕ) (i : ℕ) → i < n → slice_get (take n xs) i ≡ slice_get xs i
slice_get-take zero xs i lt = absurd (omega arith)
slice_get-take (suc n) [] i lt = refl
slice_get-take (suc n) (x ∷ xs) zero lt = refl
slice_get-take (suc n) (x ∷ xs) (suc i) lt = slice_get-take n xs i (omega arith)

-- a byte that no segment has
pub byte_past : (place : ℕ) (bytes : List ℕ) (i : ℕ) → place + length bytes ≤ i → byte_at place bytes i ≡ None
byte_past place bytes i h = rw (le-leb place i (omega arith)) (slice_get_past bytes (i - place) (omega arith))

first_none : (o : Option ℕ) → first_of o None ≡ o
first_none None = refl
first_none (Some b) = refl

pub first_by : (a b : Option ℕ) → b ≡ None → first_of a b ≡ a
first_by a b e = ap (first_of a) e ∙ first_none a

-- what is known once a segment came, byte by byte
pub known_laid : (place : ℕ) (bytes : List ℕ) (known : List (Option ℕ)) (i : ℕ) → known_at (laid place bytes known) i ≡ first_of (known_at known i) (byte_at place bytes i)
known_laid place bytes known i =
    let n = max (length known) (place + length bytes) in
    let f = λ (j : ℕ). first_of (known_at known j) (byte_at place bytes j) in
    elim (cases_lt i n) [
      | inl lt ↦ get_or-map-range_with_len f 0 n i i None lt (omega arith)
      | inr le ↦
          let here : known_at (laid place bytes known) i ≡ None = get_or_past (laid place bytes known) i None (omega (arith, length-map-range_with_len f 0 n)) in
          let before : known_at known i ≡ None = get_or_past known i None (omega arith) in
          let new : byte_at place bytes i ≡ None = byte_past place bytes i (omega arith) in
          here ∙ sym (ap (first_of (known_at known i)) new ∙ first_none (known_at known i) ∙ before)
    ]

-- ---- the bytes up to the first that is not known

abbrev pub all_known : List ℕ → List (Option ℕ)
all_known bytes = map (λ b. Some b) bytes

pub leading_short : (known : List (Option ℕ)) → length (leading known) ≤ length known
leading_short [] = omega arith
leading_short (None ∷ known) = omega arith
leading_short (Some b ∷ known) = omega (arith, leading_short known)

pub leading_splits : (known : List (Option ℕ)) → all_known (leading known) ++ drop (length (leading known)) known ≡ known
leading_splits [] = refl
leading_splits (None ∷ known) = refl
leading_splits (Some b ∷ known) = ap (λ (k : List (Option ℕ)). Some b ∷ k) (leading_splits known)

pub leading_stops : (known : List (Option ℕ)) → known_at (drop (length (leading known)) known) 0 ≡ None
leading_stops [] = refl
leading_stops (None ∷ known) = refl
leading_stops (Some b ∷ known) = leading_stops known

leading_none : (known : List (Option ℕ)) → known_at known 0 ≡ None → leading known ≡ []
leading_none [] e = refl
leading_none (None ∷ known) e = refl
leading_none (Some b ∷ known) e = absurd cc

pub leading_behind : (bytes : List ℕ) (known : List (Option ℕ)) → known_at known 0 ≡ None → leading (all_known bytes ++ known) ≡ bytes
leading_behind [] known e = leading_none known e
leading_behind (b ∷ bytes) known e = ap (λ (bs : List ℕ). b ∷ bs) (leading_behind bytes known e)

-- where each byte before a gap is known, and is the text's
pub leading_is : (gap : ℕ) (text : List ℕ) (known : List (Option ℕ)) → ((i : ℕ) → i < gap → known_at known i ≡ slice_get text i) → ((i : ℕ) → i < gap → i < length text) → known_at known gap ≡ None → leading known ≡ take gap text
leading_is zero text known same inside here = leading_none known here
leading_is (suc gap) [] known same inside here = absurd (omega (arith, inside 0 (omega arith)))
leading_is (suc gap) (b ∷ text) [] same inside here = let e : None ≡ Some b = same 0 (omega arith) in absurd cc
leading_is (suc gap) (b ∷ text) (None ∷ known) same inside here = let e : None ≡ Some b = same 0 (omega arith) in absurd cc
leading_is (suc gap) (b ∷ text) (Some a ∷ known) same inside here =
    let e : Some a ≡ Some b = same 0 (omega arith) in
    let first : a ≡ b = cc in
    let rest : leading known ≡ take gap text = leading_is gap text known (λ i lt. same (suc i) (omega arith)) (λ i lt. omega (arith, inside (suc i) (omega arith))) here in
    rw (first, rest) refl

-- ---- bytes in order, and what waits behind them

pub known_front : (bytes : List ℕ) (known : List (Option ℕ)) (i : ℕ) → i < length bytes → known_at (all_known bytes ++ known) i ≡ slice_get bytes i
known_front [] known i lt = absurd (omega arith)
known_front (b ∷ bytes) known zero lt = refl
known_front (b ∷ bytes) known (suc i) lt = known_front bytes known i (omega arith)

pub known_back : (bytes : List ℕ) (known : List (Option ℕ)) (i : ℕ) → length bytes ≤ i → known_at (all_known bytes ++ known) i ≡ known_at known (i - length bytes)
known_back [] known i le = ap (known_at known) (omega arith)
known_back (b ∷ bytes) known zero le = absurd (omega arith)
known_back (b ∷ bytes) known (suc i) le = let e : suc i - suc (length bytes) ≡ i - length bytes = omega arith in rw e (known_back bytes known i (omega arith))

pub some_front : (bytes : List ℕ) (i : ℕ) → i < length bytes → slice_get bytes i ≡ None → ⊥
some_front [] i lt e = omega arith
some_front (b ∷ bytes) zero lt e = absurd cc
some_front (b ∷ bytes) (suc i) lt e = some_front bytes i (omega arith) e

-- the byte at the front of what is known, one place on
pub leading_steps : (known : List (Option ℕ)) (i b : ℕ) → known_at known i ≡ Some b → leading (drop i known) ≡ b ∷ leading (drop (i + 1) known)
leading_steps [] i b e = let h : None ≡ Some b = e in absurd cc
leading_steps (o ∷ known) zero b e = let h : o ≡ Some b = e in rw h refl
leading_steps (o ∷ known) (suc i) b e = let n : suc i + 1 ≡ suc (i + 1) = omega arith in rw n (leading_steps known i b e)

pub leading_ends : (known : List (Option ℕ)) (i : ℕ) → known_at known i ≡ None → leading (drop i known) ≡ []
leading_ends [] zero e = refl
leading_ends [] (suc i) e = refl
leading_ends (o ∷ known) zero e = leading_none (o ∷ known) e
leading_ends (o ∷ known) (suc i) e = leading_ends known i e

pub leading_long : (m : ℕ) (known : List (Option ℕ)) → ((i : ℕ) → i < m → known_at known i ≡ None → ⊥) → m ≤ length (leading known)
leading_long zero known h = omega arith
leading_long (suc m) [] h = absurd (h 0 (omega arith) refl)
leading_long (suc m) (None ∷ known) h = absurd (h 0 (omega arith) refl)
leading_long (suc m) (Some b ∷ known) h = omega (arith, leading_long m known (λ i lt e. h (suc i) (omega arith) e))
