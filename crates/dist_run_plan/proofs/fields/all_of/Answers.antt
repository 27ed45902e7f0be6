use Rattle.std.proofs.Common.{◌+◌, sym, ap, subst, ◌∙◌}
use Rattle.toml.specs.View.{view}
use Rattle.dist_run_plan.proofs.Found.{SoFar, one_more}
use Rattle.dist_run_plan.proofs.fields.all_of.Goals as goal

pub loop-value-preserved : goal.loop-value-preserved
loop-value-preserved g c =
    let says = g.T.FromValue.says in
    subst (SoFar says c.args.values.now (c.loop-value.value-index + 1)) (sym c.in_ok-push.ensures.items)
    (one_more says c.args.values.now c.loop-value.value-index c.loop-value.rows.items c.loop-value.invariant _ c.in_ok-from_value.field-0 c.loop-value-test.true
    (ap (λ v. says (view v)) (sym c.value-item.is) ∙ c.in_ok-from_value.ensures))
