-- What a node says of itself is one member.
use Rattle.std.proofs.Common.{codes}
use Rattle.distping_report.proofs.Shallow.{named_object}
use Rattle.distping_report.proofs.objects.parts.put_peer.Goals as goal

pub returns-in-Some : goal.returns-in-Some
returns-in-Some c = named_object c.args.out.now c.put_object.new.out (codes "peer") _ c.put_object.result c.put_object.ensures
