use Rattle.std.proofs.lemmas.Result.{IfOk-weaker}
use Rattle.distping_report.specs.Objects.{layout_of}
use Rattle.distping_report.proofs.Shallow.{values_shallow}
use Rattle.distping_report.proofs.objects.member.object_line.Goals as goal

pub returns : goal.returns
returns c =
    let members = c.args.members.now in
    IfOk-weaker c.end_line.result _ _ (λ line ends. ends c.in_ok-out.out c.in_ok-out.ensures (layout_of members) (values_shallow members) c.in_ok-put_members.ensures) c.end_line.ensures
