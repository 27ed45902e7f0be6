-- Texts and lists of steps that grow by one step, and what a stream shows then.
use Rattle.dist_drive.proofs.Words.{◌≡◌, ℕ, ◌+◌, ◌<◌, ◌≤◌, List, [], ◌∷◌, ◌++◌, length, take, drop, flat_map, sym, refl, ap, ◌∙◌, subst, append_assoc}
use Rattle.dist_drive.proofs.Words.{append-nil, arith, length-append, take-append-drop, take-append-le, flat_map-append, Step, IsFront, text_of}

-- ---- texts

abbrev says : Step → List ℕ
says step = step.2.say

pub IsFront-refl : {X : Type 0} (xs : List X) → IsFront xs xs
IsFront-refl xs = ([], sym (append-nil xs))

pub IsFront-trans : {X : Type 0} (xs ys zs : List X) → IsFront xs ys → IsFront ys zs → IsFront xs zs
IsFront-trans xs ys zs p q = (p.0 ++ q.0, q.1 ∙ ap (λ l. l ++ q.0) p.1 ∙ append_assoc xs p.0 q.0)

pub IsFront-more : {X : Type 0} (xs ys : List X) → IsFront xs (xs ++ ys)
IsFront-more xs ys = (ys, refl)

pub text_more : (first : List ℕ) (xs ys : List Step) → text_of first (xs ++ ys) ≡ text_of first xs ++ flat_map says ys
text_more first xs ys = ap (λ l. first ++ l) (flat_map-append says xs ys) ∙ sym (append_assoc first (flat_map says xs) (flat_map says ys))

pub text_one : (first : List ℕ) (xs : List Step) (s : Step) → text_of first (xs ++ s ∷ []) ≡ text_of first xs ++ s.2.say
text_one first xs s = text_more first xs (s ∷ []) ∙ ap (λ l. text_of first xs ++ l) (append-nil s.2.say)

pub text_front : (first : List ℕ) (steps : List Step) (i : ℕ) → IsFront (text_of first (take i steps)) (text_of first steps)
text_front first steps i = (flat_map says (drop i steps), ap (text_of first) (sym (take-append-drop i steps)) ∙ text_more first (take i steps) (drop i steps))

-- before the last step was handed on, all was sent that stood before it
pub text_before : (first : List ℕ) (steps : List Step) (s : Step) (said : List ℕ) (i : ℕ) → i < length (steps ++ s ∷ []) → IsFront (text_of first steps) said → IsFront (text_of first (take i (steps ++ s ∷ []))) said
text_before first steps s said i h p =
    let few : i ≤ length steps = omega (arith, length-append steps (s ∷ [])) in
    let same : text_of first (take i (steps ++ s ∷ [])) ≡ text_of first (take i steps) = ap (text_of first) (take-append-le i steps (s ∷ []) few) in
    subst (λ (l : List ℕ). IsFront l said) (sym same) (IsFront-trans _ _ _ (text_front first steps i) p)
