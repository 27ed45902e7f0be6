-- What a word names: a node, or all nodes of a host.
use Rattle.std.specs.Prelude.{◌≡◌, ⊤, ℕ, ◌==◌, Bool, true, false, List, [], ◌∷◌, ◌++◌, codes, unwrap_or, Result, Ok, Err, if◌then◌else◌}
use Rattle.dist_names.specs.{Answer.is_name_memory_error, NodeName.name_of_bytes, declared.name_error.NameError.NameError}
use Rattle.dist_cluster.specs.{Census.behind_prefix, declared.targets.Group.Group, declared.targets.Target.Target}
use Rattle.dist_cluster.specs.declared.targets.Target.TheVariants as target

-- what stands before the @ in the probe's usual name
abbrev pub usual_prefix : List ℕ
usual_prefix = codes "distping"

-- the word for all nodes of a host: the probe's usual name there, from the @ on
abbrev pub group_word : Group → List ℕ
group_word group = unwrap_or (behind_prefix usual_prefix group.own) []

-- the character '#'
abbrev pub is_hash : ℕ → Bool
is_hash byte = byte == 0x23

-- the word names all nodes of a host
abbrev pub begins_with_at : List ℕ → Bool
begins_with_at [] = false
begins_with_at (byte ∷ rest) = byte == 0x40

-- the name that a word leads to: the word itself, or the probe's usual name at that host
abbrev pub name_behind : List ℕ → List ℕ
name_behind word = if begins_with_at word then usual_prefix ++ word else word

-- A refusal is the one expected, unless memory ran out.
abbrev pub RefusedOr : Bool → NameError → Result (List ℕ) NameError → Type 0
RefusedOr true error expected = ⊤
RefusedOr false error expected = expected ≡ Err error

-- THE NAME THAT THESE BYTES ARE, or why they are not one, unless memory ran out.
abbrev pub Names : Result (List ℕ) NameError → List ℕ → Type 0
Names (Ok name) bytes = name_of_bytes bytes ≡ Ok name
Names (Err error) bytes = RefusedOr (is_name_memory_error error) error (name_of_bytes bytes)

-- the same for a group
abbrev pub NamesGroup : Result Group NameError → List ℕ → Type 0
NamesGroup (Ok group) bytes = name_of_bytes bytes ≡ Ok group.own
NamesGroup (Err error) bytes = RefusedOr (is_name_memory_error error) error (name_of_bytes bytes)

-- the same for a target, which is a group or a node
abbrev pub NamesTarget : Result Target NameError → List ℕ → Bool → Type 0
NamesTarget (Ok (target.Node name)) bytes is_group = (name_of_bytes bytes ≡ Ok name) × (is_group ≡ false)
NamesTarget (Ok (target.Group group)) bytes is_group = (name_of_bytes bytes ≡ Ok group.own) × (is_group ≡ true)
NamesTarget (Ok (target.Service service)) bytes is_group = ⊥
NamesTarget (Err error) bytes is_group = RefusedOr (is_name_memory_error error) error (name_of_bytes bytes)
