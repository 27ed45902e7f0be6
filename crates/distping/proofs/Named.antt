-- Targets that are nodes.
use Rattle.std.proofs.Common.{◌≡◌, ℕ, ◌+◌, ◌<◌, ◌++◌, List, [], ◌∷◌, map, length, take, get_or, arith, sym, ap, ◌∙◌}
use Rattle.std.proofs.lemmas.List.{length-map, take_more, get_or-map}
use Rattle.dist_cluster.specs.declared.targets.Target.{Target}
use Rattle.dist_cluster.specs.declared.targets.Target.TheVariants as named

-- one target more is one name more
pub one_more : (targets : List Target) (names : List (List ℕ)) (i : ℕ) (t : Target) → targets ≡ map named.Node names → i < length targets
    → get_or targets i t ≡ t → (name : List ℕ) × (t ≡ named.Node name) × (take (i + 1) names ≡ take i names ++ name ∷ [])
one_more targets names i t same less is =
    let fewer : i < length names = omega (arith, less, ap length same, length-map names named.Node) in
    (get_or names i [], sym is ∙ ap (λ xs. get_or xs i t) same ∙ get_or-map named.Node names i [] t fewer, take_more names i [] fewer)
