-- One object for each address that has a verdict.
use Rattle.std.proofs.Common.{◌≤◌, Result, Ok, Err, OnOk, arith}
use Rattle.json.specs.Written.{Written}
use Rattle.distping_report.specs.Objects.{Layout, Layouts, PutsObjects, PutsValue, layout_levels, no_object, object, object_levels, one_object}
use Rattle.distping_report.proofs.Members.{puts_first_object, puts_no_object}
use Rattle.distping_report.proofs.objects.parts.+put_each_try.Goals as goal

pub returns-in-None : goal.returns-in-None
returns-in-None t c = (no_object, omega arith, puts_no_object c.args.out.now)

pub returns-in-None-split_first : goal.returns-in-None-split_first
returns-in-None-split_first t c = (no_object, omega arith, puts_no_object c.args.out.now)

-- one object, and then the others
with_first : {E : Type 0} (a b d : Written) (r : Result (Unit {0}) E) → ((l : Layout) × (layout_levels l ≤ 1) × PutsValue (object l) a b)
    → OnOk r ((ls : Layouts) × (object_levels ls ≤ 2) × PutsObjects ls b d) → OnOk r ((ls : Layouts) × (object_levels ls ≤ 2) × PutsObjects ls a d)
with_first a b d (Ok x) p q = let flat = p.1 in let others = q.1 in (one_object p.0 q.0, omega (arith, flat, others), puts_first_object p.2 q.2)
with_first a b d (Err e) p q = tt

pub returns-in_ok-put_try-in-Some-split_first : goal.returns-in_ok-put_try-in-Some-split_first
returns-in_ok-put_try-in-Some-split_first t c = with_first c.args.out.now c.put_try.new.out c.put_each_try.new.out c.put_each_try.result c.in_ok-put_try-in-Some-split_first.ensures c.put_each_try.ensures
