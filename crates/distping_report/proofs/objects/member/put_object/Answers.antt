use Rattle.distping_report.proofs.Members.{writes_one}
use Rattle.distping_report.proofs.objects.member.put_object.Goals as goal

pub returns : goal.returns
returns c = writes_one _ c.args.out.now c.key.new.self c.put_inner.new.out c.args.name.now c.put_inner.result c.in_ok-key.ensures.ok c.in_ok-key.ensures.room.0 c.put_inner.ensures
