-- What each address gave is one member.
use Rattle.std.proofs.Common.{codes}
use Rattle.distping_report.specs.Objects.{objects}
use Rattle.distping_report.proofs.{Members.writes_objects, Members.writes_one, Shallow.named_list}
use Rattle.distping_report.proofs.objects.parts.put_tries.Goals as goal

pub returns : goal.returns
returns c =
    let each = c.in_ok-put_each_try.ensures in
    let list =
    writes_objects c.key.new.self c.begin_array.new.self c.put_each_try.new.out c.end_array.new.self c.end_array.result
    c.in_ok-begin_array.ensures.ok c.in_ok-begin_array.ensures.room.0 each.2 c.end_array.ensures in
    named_list c.args.out.now c.end_array.new.self (codes "addresses") each.0 c.end_array.result each.1
    (writes_one (objects each.0) c.args.out.now c.key.new.self c.end_array.new.self (codes "addresses") c.end_array.result
    c.in_ok-key.ensures.ok c.in_ok-key.ensures.room.0 list)
