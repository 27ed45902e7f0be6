-- Whole frames, and what short frames have of them.
use Rattle.std.proofs.Common.{◌≡◌, ℕ, zero, suc, ◌-◌, ◌^◌, ◌<◌, ◌≤◌, ◌+◌, Bool, true, false, cond, List, [], ◌∷◌, ◌++◌, length, refl, ap, ◌∙◌, arith, w16, w32}
use Rattle.std.proofs.lemmas.Nat.{from_be_bytes-to_be_bytes_2}
use Rattle.std.specs.Int.{byte_at, from_be_bytes}
use Rattle.dist_frames.specs.Stream.{body_frame, FitsWidth}
use Rattle.dist_long_frames.specs.Shortened.{frame_end, front_place, is_last, is_last_tag, rest_place, shortened}
use Rattle.dist_long_frames.specs.declared.place.Place.TheVariants as place
use Rattle.dist_long_frames.proofs.Pieces.{beyond-kept, front-at, rest-at, some-test}

-- the rest of a body that is there
whole-rest : (n : ℕ) (last : Bool) (body more : List ℕ) → n ≡ length body
    → shortened (rest_place n last) (body ++ more) ≡ body ++ shortened (frame_end last) more
whole-rest zero last [] more h = refl
whole-rest zero last (x ∷ xs) more h = absurd (omega arith)
whole-rest (suc n) last [] more h = absurd (omega arith)
whole-rest (suc n) last (x ∷ xs) more h =
    ap (λ p. shortened p ((x ∷ xs) ++ more)) (rest-at (suc n) last (omega arith))
    ∙ ap (λ (l : List ℕ). x ∷ l) (whole-rest (suc n - 1) last xs more (omega arith))

-- a body that is there
whole-body : (n : ℕ) (body more : List ℕ) → n ≡ length body → shortened (front_place n) (body ++ more) ≡ body ++ shortened (frame_end (is_last body)) more
whole-body zero [] more h = refl
whole-body zero (x ∷ xs) more h = absurd (omega arith)
whole-body (suc n) [] more h = absurd (omega arith)
whole-body (suc n) (x ∷ xs) more h =
    ap (λ p. shortened p ((x ∷ xs) ++ more)) (front-at (suc n) (omega arith))
    ∙ ap (λ (l : List ℕ). x ∷ l) (whole-rest (suc n - 1) (is_last_tag x) xs more (omega arith))

-- the bytes of a length of 4 bytes, the first two of which are 0
short-length : (a b c d : ℕ) (rest : List ℕ) → a ≡ 0 → b ≡ 0
    → shortened place.First (a ∷ b ∷ c ∷ d ∷ rest) ≡ c ∷ d ∷ shortened (front_place (from_be_bytes w16 (c ∷ d ∷ []))) rest
short-length zero zero c d rest h k = refl
short-length zero (suc b) c d rest h k = absurd (omega arith)
short-length (suc a) b c d rest h k = absurd (omega arith)

nothing-behind : (xs : List ℕ) → shortened place.TooLong xs ≡ []
nothing-behind [] = refl
nothing-behind (x ∷ xs) = nothing-behind xs

-- one of them is not 0
long-length : (a b : ℕ) (rest : List ℕ) → 0 < a + b → shortened place.First (a ∷ b ∷ rest) ≡ []
long-length zero zero rest h = absurd (omega arith)
long-length zero (suc b) rest h =
    ap (λ t. shortened (cond t place.Third place.TooLong) rest) (some-test (suc b) (omega arith)) ∙ nothing-behind rest
long-length (suc a) b rest h =
    ap (λ t. shortened (cond t place.Second place.TooLong) (b ∷ rest)) (some-test (suc a) (omega arith)) ∙ nothing-behind (b ∷ rest)

framed : (body more : List ℕ) → FitsWidth w16 body
    → shortened place.First (body_frame w32 body ++ more) ≡ body_frame w16 body ++ shortened (frame_end (is_last body)) more
framed body more fits =
    let n = length body in
    short-length (byte_at 3 n) (byte_at 2 n) (byte_at 1 n) (byte_at 0 n) (body ++ more) (omega arith) (omega arith)
    ∙ ap (λ (l : List ℕ). byte_at 1 n ∷ byte_at 0 n ∷ l) (whole-body _ body more (from_be_bytes-to_be_bytes_2 n fits))

pub same_body : (body more : List ℕ) → is_last body ≡ false → FitsWidth w16 body
    → shortened place.First (body_frame w32 body ++ more) ≡ body_frame w16 body ++ shortened place.First more
same_body body more last fits = framed body more fits ∙ ap (λ b. body_frame w16 body ++ shortened (frame_end b) more) last

pub last_body : (body more : List ℕ) → is_last body ≡ true → FitsWidth w16 body
    → shortened place.First (body_frame w32 body ++ more) ≡ body_frame w16 body ++ more
last_body body more last fits =
    framed body more fits ∙ ap (λ b. body_frame w16 body ++ shortened (frame_end b) more) last
    ∙ ap (λ l. body_frame w16 body ++ l) (beyond-kept more)

pub longer_body : (body more : List ℕ) → 2 ^ 16 ≤ length body → FitsWidth w32 body → shortened place.First (body_frame w32 body ++ more) ≡ []
longer_body body more long fits =
    let n = length body in
    long-length (byte_at 3 n) (byte_at 2 n) (byte_at 1 n ∷ byte_at 0 n ∷ body ++ more) (omega arith)
