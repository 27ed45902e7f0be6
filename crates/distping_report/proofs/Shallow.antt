-- How deep the members of a line nest.
use Rattle.std.proofs.Common.{ℕ, ◌<◌, ◌≤◌, ◌≡◌, List, [], ◌∷◌, Result, Ok, Err, OnOk, arith, subst}
use Rattle.std.specs.Borrow.{Bor}
use Rattle.json.specs.{Json.max_depth, Written.Written}
use Rattle.distping_report.specs.Objects.{BeginsLine, EndsLine, IsObjectLine, Layout, Layouts, PutsMembers, PutsNamed, layout_levels, layout_of, levels, member, no_member, object, object_levels, objects, shape_of}
use Rattle.distping_report.specs.declared.objects.member.Value.{Value}
use Rattle.distping_report.specs.declared.objects.member.Value.TheVariants as value
use Rattle.distping_report.proofs.Members.{and_then, puts_both}

-- a value is at most a list
pub value_flat : (v : Value) → levels (shape_of v) ≤ 1
value_flat (value.Names flags) = omega arith
value_flat v = omega arith

pub values_flat : (members : List (Bor (List ℕ) × Value)) → layout_levels (layout_of members) ≤ 1
values_flat [] = omega arith
values_flat (m ∷ members) = omega (arith, value_flat m.1, values_flat members)

pub values_shallow : (members : List (Bor (List ℕ) × Value)) → layout_levels (layout_of members) < max_depth
values_shallow members = omega (arith, values_flat members)

-- a list of objects with plain values
pub named_list : {E : Type 0} (old new : Written) (name : List ℕ) (ls : Layouts) (r : Result (Unit {0}) E) → object_levels ls ≤ 2
    → OnOk r (PutsMembers (member name (objects ls) no_member) old new) → OnOk r (PutsNamed name old new)
named_list old new name ls (Ok x) flat p = record { shape = objects ls; flat = omega (arith, flat); put = p }
named_list old new name ls (Err e) flat p = tt

-- these members were appended, and nest at most three deep
pub record PutsFlat (l : Layout) (old new : Written) : Type 0 where
  pub flat : layout_levels l ≤ 3
  pub put : PutsMembers l old new

pub flat_values : {a b : Written} (members : List (Bor (List ℕ) × Value)) (l : Layout) → layout_of members ≡ l → PutsMembers (layout_of members) a b → PutsFlat l a b
flat_values {a} {b} members l is p = subst (λ k. PutsFlat k a b) is (record { flat = omega (arith, values_flat members); put = p })

pub flat_named : {name : List ℕ} {a b : Written} (p : PutsNamed name a b) → PutsFlat (member name p.shape no_member) a b
flat_named {name} {a} {b} p = let flat = p.flat in record { flat = omega (arith, flat); put = p.put }

-- a member that is an object of plain values
pub named_object : {E : Type 0} (old new : Written) (name : List ℕ) (members : List (Bor (List ℕ) × Value)) (r : Result (Unit {0}) E)
    → OnOk r (PutsMembers (member name (object (layout_of members)) no_member) old new) → OnOk r (PutsNamed name old new)
named_object old new name members (Ok x) p = record { shape = object (layout_of members); flat = omega (arith, values_flat members); put = p }
named_object old new name members (Err e) p = tt

both_flat : (l m : Layout) → layout_levels l ≤ 3 → layout_levels m ≤ 3 → layout_levels (and_then l m) ≤ 3
both_flat no_member m h k = k
both_flat (member name s l) m h k = omega (arith, h, both_flat l m (omega (arith, h)) k)

pub flat_both : {l m : Layout} {a b c : Written} → PutsFlat l a b → PutsFlat m b c → PutsFlat (and_then l m) a c
flat_both {l} {m} {a} {b} {c} p q = record { flat = both_flat l m p.flat q.flat; put = puts_both p.put q.put }

pub flat_line : {l : Layout} {begun last : Written} {line : List ℕ} → BeginsLine begun → PutsFlat l begun last → EndsLine last line → IsObjectLine l line
flat_line {l} {begun} {last} {line} begins p ends = let flat = p.flat in ends begun begins l (omega (arith, flat)) p.put
