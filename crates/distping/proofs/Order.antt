-- A list whose elements have the values of another list, place by place; and what holds of all elements.
use Rattle.std.proofs.Common.{◌≡◌, ℕ, suc, ◌<◌, ◌++◌, List, [], ◌∷◌, length, get_or, map, refl, subst, arith}
use Rattle.std.proofs.Math.Seq.{get_or-append_seam}
use Rattle.std.proofs.lemmas.List.{get_or_append_left, length-append}
use Rattle.std.specs.List.{All}

-- the values of the elements of one list are the elements of the other
pub map_by_places : {X Y : Type 0} (f : X → Y) (xs : List X) (ys : List Y) (e : Y) → length xs ≡ length ys
    → ((i : ℕ) (d : X) → i < length ys → f (get_or xs i d) ≡ get_or ys i e) → map f xs ≡ ys
map_by_places f [] [] e len each = refl
map_by_places f [] (y ∷ ys) e len each = absurd (omega (arith, len))
map_by_places f (x ∷ xs) [] e len each = absurd (omega (arith, len))
map_by_places f (x ∷ xs) (y ∷ ys) e len each = rw (each 0 x (omega arith), map_by_places f xs ys e (omega (arith, len)) (λ i d l. each (suc i) d (omega (arith, l)))) refl

-- what holds of all elements holds of those before the last one
all_before : {X : Type 0} (P : X → Type 0) (xs : List X) (x : X) → All P (xs ++ x ∷ []) → All P xs
all_before P xs x all k d l = subst P (get_or_append_left xs (x ∷ []) d k l) (all k d (omega (arith, l, length-append xs (x ∷ []))))

-- and of the last one
all_last : {X : Type 0} (P : X → Type 0) (xs : List X) (x : X) → All P (xs ++ x ∷ []) → P x
all_last P xs x all = subst P (get_or-append_seam xs x [] x) (all (length xs) x (omega (arith, length-append xs (x ∷ []))))

-- what comes of the elements of a list, one after another
pub all_on : {X A B : Type 0} (P : X → Type 0) (xs : List X) (x : X) → (All P xs → A) → (A → P x → B) → All P (xs ++ x ∷ []) → B
all_on P xs x before more all = more (before (all_before P xs x all)) (all_last P xs x all)
