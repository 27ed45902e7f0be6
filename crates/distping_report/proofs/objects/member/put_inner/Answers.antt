use Rattle.distping_report.proofs.Members.{writes_object}
use Rattle.distping_report.proofs.objects.member.put_inner.Goals as goal

pub returns : goal.returns
returns c = writes_object c.args.out.now c.begin_object.new.self c.put_members.new.out c.end_object.new.self c.end_object.result c.in_ok-begin_object.ensures.ok c.in_ok-begin_object.ensures.room.0 c.in_ok-put_members.ensures c.end_object.ensures
