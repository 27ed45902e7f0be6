-- What was counted is one member.
use Rattle.distping_report.proofs.Shallow.{named_object}
use Rattle.distping_report.proofs.objects.many.put_counts.Goals as goal

pub returns : goal.returns
returns c = named_object c.args.out.now c.put_object.new.out c.args.name.now _ c.put_object.result c.put_object.ensures
