-- What is found by a word has that word.
use Rattle.std.proofs.Common.{◌≡◌, ℕ, Bool, true, false, cond, ◌==◌, List, [], ◌∷◌, Some, refl, sym, IfSome, find}
use Rattle.std.specs.Cmp.Lexicographic.{pointwise, same_text}

pub found-passes : {A : Type 0} (test : A → Bool) (P : A → Type 0) → ((x : A) → test x ≡ true → P x) → (all : List A) → IfSome (find test all) P
found-passes test P h [] = tt
found-passes test P h (x ∷ all) =
    elim (test x) as (λ b. test x ≡ b → IfSome (cond b (Some x) (find test all)) P) [ true ↦ λ e. h x e | false ↦ λ e. found-passes test P h all ] refl

pub found : {A : Type 0} (word_of : A → List ℕ) (all : List A) (word : List ℕ) → IfSome (find (λ x. pointwise ◌==◌ (word_of x) word) all) (λ x. word_of x ≡ word)
found word_of all word = found-passes (λ x. pointwise ◌==◌ (word_of x) word) (λ x. word_of x ≡ word) (λ x e. same_text (word_of x) word (sym e)) all
