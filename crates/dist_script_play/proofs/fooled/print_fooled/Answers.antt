use Rattle.dist_script_play.proofs.{Words.length, Words.ap, Words.arith, Outside.nodes_go_on, Outside.nodes_end, Outside.fools_nobody}
use Rattle.dist_script_play.proofs.fooled.print_fooled.Goals as goal

pub loop-place-preserved : goal.loop-place-preserved
loop-place-preserved g c =
    let t = c.in_ok-any.ensures in
    nodes_go_on c.args.world.now c.loop-place.place _ _ _ _ _ t.0 c.loop-place.invariant t.1 t.2

pub returns-clause-text : goal.returns-clause-text
returns-clause-text g c =
    nodes_end c.args.world.now c.loop-place.place _ _ _ (omega (arith, c.loop-place.auto.place-end, c.loop-place-test.false, ap length c.setups-setups.ensures)) c.loop-place.invariant

pub returns-clause-nobody : goal.returns-clause-nobody
returns-clause-nobody g c = let t = returns-clause-text g c in fools_nobody c.args.world.now c.loop-place.any t.0 t.1
