use Rattle.std.proofs.Common.{ap, ◌∙◌}
use Rattle.dist_locked.specs.Passes.{putting, working}
use Rattle.dist_locked.proofs.{Moves.gathers, Settling.knows_all, Settling.counts}
use Rattle.dist_locked.proofs.queue.Orders.settle.Goals as goal

pub absorb-requires-clause-rule : goal.absorb-requires-clause-rule
absorb-requires-clause-rule g c = gathers _ _ _ _

pub absorb-requires-2-clause-rule : goal.absorb-requires-2-clause-rule
absorb-requires-2-clause-rule g c = gathers _ _ _ _

pub returns : goal.returns
returns g c =
    let put = c.put.invariant.1 ∙ ap (λ p. putting p.put) c.put.view_is in
    let one = c.one.invariant.1 ∙ ap (λ p. working p.second p.taken) c.one.view_is in
    let two = c.two.invariant.1 ∙ ap (λ p. working p.second p.taken) c.two.view_is in
    let all = knows_all _ _ _ _ _ c.args.put.put c.args.one.second c.args.two.second c.args.one.taken c.args.two.taken put one two c.absorb.ensures.rule c.absorb-2.ensures.rule c.requires.workers in
    let held = c.len_as.ensures.rule.1 in
    counts c.args.put.put c.args.one.taken c.args.two.taken held.0 c.len_as.result held.1 (all.left held.0 held.2)
