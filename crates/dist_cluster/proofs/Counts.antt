-- Words that are counted one after the other.
use Rattle.std.proofs.Common.{◌≡◌, ℕ, ◌==◌, Bool, true, false, List, [], ◌∷◌, ◌++◌, if◌then◌else◌, map, refl, sym, ap, ◌∙◌}
use Rattle.std.proofs.lemmas.List.{map-append}
use Rattle.std.specs.Borrow.{Bor}
use Rattle.dist_cluster.specs.Summary.{tallied}

pub tallied-append : (count : List ℕ → ℕ) (a b : List (List ℕ)) → tallied count (a ++ b) ≡ tallied count a ++ tallied count b
tallied-append count [] b = refl
tallied-append count (word ∷ words) b = elim (count word == 0) as (λ (v : Bool). (if v then tallied count (words ++ b) else (word, count word) ∷ tallied count (words ++ b)) ≡ (if v then tallied count words else (word, count word) ∷ tallied count words) ++ tallied count b) [
  | true ↦ tallied-append count words b
  | false ↦ ap (λ (l : List (List ℕ × ℕ)). (word, count word) ∷ l) (tallied-append count words b)
]

-- the words of a list of texts
abbrev pub words_of : List (Bor (List ℕ)) → List (List ℕ)
words_of words = map (λ word. word.now) words

-- one more word was counted
pub one_more : (count : List ℕ → ℕ) (before : List (Bor (List ℕ))) (word : Bor (List ℕ)) (k : ℕ) (old new : List (List ℕ × ℕ)) → k ≡ count word.now → old ≡ tallied count (words_of before) → new ≡ old ++ tallied (λ (w : List ℕ). k) (word.now ∷ []) → new ≡ tallied count (words_of (before ++ word ∷ []))
one_more count before word k old new same so_far is =
    let one : tallied (λ (w : List ℕ). k) (word.now ∷ []) ≡ tallied count (word.now ∷ []) = ap (λ (n : ℕ). tallied (λ (w : List ℕ). n) (word.now ∷ [])) same in
    is ∙ ap (λ (l : List (List ℕ × ℕ)). l ++ tallied (λ (w : List ℕ). k) (word.now ∷ [])) so_far
    ∙ ap (λ (l : List (List ℕ × ℕ)). tallied count (words_of before) ++ l) one
    ∙ sym (tallied-append count (words_of before) (word.now ∷ []))
    ∙ ap (tallied count) (sym (map-append (λ (w : Bor (List ℕ)). w.now) before (word ∷ [])))
