-- Texts one behind the other.
use Rattle.std.proofs.Common.{◌≡◌, ℕ, ◌+◌, ◌<◌, List, ◌++◌, get_or, length, take, sym, ap, ◌∙◌}
use Rattle.std.proofs.lemmas.List.{flat_map_more, take_more}
use Rattle.std.specs.List.{flat_map}

-- one text more
pub texts_more : {X : Type 0} (f : X → List ℕ) (before old new : List ℕ) (xs : List X) (i : ℕ) (d : X) → i < length xs → old ≡ before ++ flat_map f (take i xs) → new ≡ old ++ f (get_or xs i d) → new ≡ before ++ flat_map f (take (i + 1) xs)
texts_more f before old new xs i d lt so_far is =
    is ∙ ap (λ (l : List ℕ). l ++ f (get_or xs i d)) so_far ∙ flat_map_more f before (take i xs) (get_or xs i d) ∙ ap (λ l. before ++ flat_map f l) (sym (take_more xs i d lt))
