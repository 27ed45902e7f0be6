-- The last element of a kind, once there is one more element.
use Rattle.std.proofs.Common.{◌≡◌, ℕ, Bool, true, false, cond, eqb, List, [], ◌∷◌, ◌++◌, Option, Some, option_map, refl, ap, ◌∙◌}
use Rattle.std.proofs.lemmas.List.{append-nil, Elements.filter-append}
use Rattle.std.specs.List.{filter}
use Rattle.dist_cluster.specs.History.{last}

last-append : {X : Type 0} (xs : List X) (x : X) → last (xs ++ x ∷ []) ≡ Some x
last-append [] x = refl
last-append (a ∷ []) x = refl
last-append (a ∷ b ∷ xs) x = last-append (b ∷ xs) x

-- what the last element with this key holds
abbrev pub last_by : {X : Type 0} → (X → ℕ) → (X → List ℕ) → ℕ → List X → Option (List ℕ)
last_by key held t xs = option_map held (last (filter (λ x. eqb (key x) t) xs))

one-more : {X : Type 0} (key : X → ℕ) (held : X → List ℕ) (t : ℕ) (xs : List X) (x : X) (b : Bool) → eqb (key x) t ≡ b
    → last_by key held t (xs ++ x ∷ []) ≡ option_map held (last (filter (λ y. eqb (key y) t) xs ++ cond b (x ∷ []) []))
one-more {X} key held t xs x b is =
    let test : X → Bool = λ y. eqb (key y) t in
    ap (λ (ys : List X). option_map held (last ys)) (filter-append test xs (x ∷ []))
    ∙ ap (λ (c : Bool). option_map held (last (filter test xs ++ cond c (x ∷ []) []))) is

pub last_by-same : {X : Type 0} (key : X → ℕ) (held : X → List ℕ) (t : ℕ) (xs : List X) (x : X) → eqb (key x) t ≡ true
    → last_by key held t (xs ++ x ∷ []) ≡ Some (held x)
last_by-same {X} key held t xs x is =
    one-more key held t xs x true is ∙ ap (λ (o : Option X). option_map held o) (last-append (filter (λ y. eqb (key y) t) xs) x)

pub last_by-other : {X : Type 0} (key : X → ℕ) (held : X → List ℕ) (t : ℕ) (xs : List X) (x : X) → eqb (key x) t ≡ false
    → last_by key held t (xs ++ x ∷ []) ≡ last_by key held t xs
last_by-other {X} key held t xs x is =
    one-more key held t xs x false is ∙ ap (λ (ys : List X). option_map held (last ys)) (append-nil (filter (λ y. eqb (key y) t) xs))
