use Rattle.std.proofs.{Common.take, Common.sym, Common.ap, Common.◌∙◌, Common.subst, Common.arith, lemmas.List.take_more}
use Rattle.distping_report.specs.Objects.{PutsMembers, layout_of}
use Rattle.distping_report.proofs.Members.{puts_nothing, puts_one, puts_both, layout_of-push}
use Rattle.distping_report.proofs.objects.member.put_members.Goals as goal

pub loop-name-init : goal.loop-name-init
loop-name-init c = puts_nothing c.args.out.now

pub loop-name-preserved : goal.loop-name-preserved
loop-name-preserved c =
    let i = c.loop-name.name-index in
    let ms = c.args.members.now in
    subst (λ l. PutsMembers l c.args.out.now c.put_value.new.out) (sym (ap layout_of (take_more ms i _ (omega arith)) ∙ layout_of-push (take i ms) _))
    (puts_both c.loop-name.invariant (puts_one _ c.in_ok-key.ensures.ok c.in_ok-key.ensures.room.0 c.in_ok-put_value.ensures))
