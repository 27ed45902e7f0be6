-- The names of the nodes of a world.
use Rattle.std.specs.{Prelude.Bool, Prelude.false, Prelude.◌||◌, Prelude.List, Prelude.[], Prelude.◌∷◌, List.list_any}
use Rattle.dist_names.specs.Order.{Name, same_name}
use Rattle.dist_core_setup.specs.declared.setup.Setup.{Setup}

-- one of the setups has this name
abbrev pub is_named : List Setup → Name → Bool
is_named setups name = list_any (λ s. same_name s.name name) setups

-- two of the setups have one name
abbrev pub names_repeat : List Setup → Bool
names_repeat [] = false
names_repeat (s ∷ setups) = is_named setups s.name || names_repeat setups
