-- Lists of values that are read one at a time.
use Rattle.std.proofs.Common.{◌≡◌, ℕ, suc, ◌+◌, ◌<◌, List, [], ◌∷◌, ◌++◌, length, map, get_or, drop, Option, Some, None, option_map, refl, sym, ap, ◌∙◌}
use Rattle.std.proofs.Common.{append_assoc}
use Rattle.std.proofs.lemmas.List.{drop_more}
use Rattle.toml.specs.{Data.Data, View.view, View.items_view, declared.value.Value.Value}
use Rattle.dist_run_plan.specs.Values.{all_some, list_of}

-- the items of values that are seen
pub list_of_view : (vs : List Value) → list_of (items_view vs) ≡ map view vs
list_of_view [] = refl
list_of_view (v ∷ vs) = ap (λ l. view v ∷ l) (list_of_view vs)

pub length_view : (vs : List Value) → length (map view vs) ≡ length vs
length_view [] = refl
length_view (v ∷ vs) = ap suc (length_view vs)

one_added : {T : Type 0} (found : List T) (x : T) (o : Option (List T)) → option_map (λ rest. found ++ rest) (option_map (λ rest. x ∷ rest) o) ≡ option_map (λ rest. (found ++ x ∷ []) ++ rest) o
one_added found x None = refl
one_added found x (Some rest) = ap Some (sym (append_assoc found (x ∷ []) rest))

-- the values before place i say what was found
abbrev pub SoFar : {T : Type 0} → (Data → Option T) → List Value → ℕ → List T → Type 0
SoFar says vs i found = all_some (map says (map view vs)) ≡ option_map (λ rest. found ++ rest) (all_some (map says (map view (drop i vs))))

module _ {T : Type 0} (says : Data → Option T) (vs : List Value) where
  module _ (i : ℕ) (found : List T) (s : SoFar says vs i found) where
    pub one_more : (d : Value) (x : T) → i < length vs → says (view (get_or vs i d)) ≡ Some x → SoFar says vs (i + 1) (found ++ x ∷ [])
    one_more d x h e =
        let left : all_some (map says (map view (drop i vs))) ≡ option_map (λ rest. x ∷ rest) (all_some (map says (map view (drop (i + 1) vs)))) = rw (drop_more vs i d h, e) in
        s ∙ ap (option_map (λ rest. found ++ rest)) left ∙ one_added found x (all_some (map says (map view (drop (i + 1) vs))))
