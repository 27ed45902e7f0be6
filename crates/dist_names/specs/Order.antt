-- The order of names: that of strings of unsigned bytes, a proper prefix being smaller (our own choice).
use Rattle.std.specs.Prelude.{ℕ, Bool, List}
use Rattle.std.specs.{List.list_any, declared.cmp.Ordering.Ordering, Ordering.nat_cmp, Ordering.is_eq, Cmp.Lexicographic.slice_cmp}

-- a name, as its bytes
abbrev pub Name : Type 0
Name = List ℕ

-- the first byte that differs decides, and without one the length
abbrev pub name_cmp : Name → Name → Ordering
name_cmp = slice_cmp nat_cmp

-- two names are the same
abbrev pub same_name : Name → Name → Bool
same_name ours theirs = is_eq (name_cmp ours theirs)

-- the name is one of these
abbrev pub is_listed : List Name → Name → Bool
is_listed names name = list_any (λ one. same_name name one) names
