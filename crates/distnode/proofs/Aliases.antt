-- Arguments with several names.
use Rattle.std.proofs.{Common.◌≡◌, Common.◌∙◌, Common.ℕ, Common.Bool, Common.ap, Common.List, Common.◌++◌, Common.map, lemmas.List.map-append}
use Rattle.std.specs.Borrow.{Bor}
use Rattle.clap.specs.{Words.AddsAliases, Words.Rule, Words.Text, Words.rule_of, declared.builder.arg.Arg.Arg}

-- an argument that gets more names has those behind the ones that it had
pub aliased : (old new : Arg) (xs : List (Bor (List ℕ) × Bool)) (r : Rule) → AddsAliases old new xs → rule_of old ≡ r → rule_of new ≡ record r { aliases = r.aliases ++ map (λ a. a.0.now) xs }
aliased old new xs r adds is =
    ap rule_of adds.0
    ∙ ap (λ (names : List Text). record (rule_of old) { aliases = names }) (ap (map (λ a. a.0.now)) adds.1 ∙ map-append (λ a. a.0.now) old.aliases.items xs)
    ∙ ap (λ (s : Rule). record s { aliases = s.aliases ++ map (λ a. a.0.now) xs }) is

-- and is as local as it was
pub still_local : (old new : Arg) (xs : List (Bor (List ℕ) × Bool)) → AddsAliases old new xs → new.global ≡ old.global
still_local old new xs adds = ap (λ (a : Arg). a.global) adds.0
