use Rattle.std.proofs.Common.{ap, ◌∙◌}
use Rattle.crossbeam_queue.specs.Passes.{view}
use Rattle.dist_locked.specs.Passes.{working}
use Rattle.dist_locked.proofs.{Moves.takes, Settling.may_take_by, Settling.taken_by}
use Rattle.dist_locked.proofs.queue.Orders.take.Goals as goal

pub pop_as-requires-clause-rule : goal.pop_as-requires-clause-rule
pop_as-requires-clause-rule g c = (takes _ _ (may_take_by _ _ _ c.pass.invariant.1), λ items views h at. tt)

pub returns-clause-taken : goal.returns-clause-taken
returns-clause-taken g c =
    let v = view c.pass.inside.pass in
    let same = ap (λ p. p.taken) c.pass.view_is in
    taken_by c.pop_as.result v (view c.pop_as.new.pass) v.second c.args.pass.now.taken _ (c.pass.invariant.1 ∙ ap (working v.second) same) c.pop_as.ensures.rule
