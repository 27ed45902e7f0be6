use Rattle.std.proofs.Common.{rules}
use Rattle.distping_report.proofs.ObjectLine.{ends_line}
use Rattle.distping_report.proofs.objects.member.end_line.Goals as goal

pub returns : goal.returns
returns c = λ begun begins l shallow put. ends_line begun c.args.out c.end_object.new.self l c.into_inner.result.items _ begins shallow put c.in_ok-end_object.ensures.ok c.in_ok-end_object.ensures.room.0 c.into_inner.ensures.items c.into_inner.ensures.reads_back (search rules)
