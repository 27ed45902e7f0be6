use Rattle.dist_core_ends.proofs.Words.{◌+◌, ◌<◌, length, sym, ◌∙◌, arith}
use Rattle.dist_core_ends.proofs.Recent.{forgotten-none, forgotten-next, forgotten-upto}
use Rattle.dist_core_ends.proofs.rows.forget_first.Goals as goal

pub loop-i-init : goal.loop-i-init
loop-i-init c = sym (forgotten-none c.args.rows.now.items)

pub loop-i-preserved : goal.loop-i-preserved
loop-i-preserved c =
    let rows = c.args.rows.now.items in
    let within : c.loop-i.i < length rows = omega (arith, c.loop-i-test.true, c.min-i-end.ensures, c.len.ensures, c.loop-i.auto.i-end) in
    forgotten-next c.loop-i.i (c.loop-i.i + 1) rows c.loop-i.rows.items c.index.result.now c.without_cause.result c.loop-i.invariant within c.index.ensures c.without_cause.ensures (omega arith)

pub returns : goal.returns
returns c = c.loop-i.invariant ∙ forgotten-upto c.loop-i.i c.args.count c.args.rows.now.items (omega (arith, c.min-i-end.ensures, c.len.ensures, c.loop-i-test.false, c.loop-i.auto.i-end))
