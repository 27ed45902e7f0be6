use Rattle.std.proofs.{Common.◌≡◌, Common.List, Common.get_or, Common.length, Common.ap, Common.arith, lemmas.List.at_drop_all}
use Rattle.dist_core_setup.specs.declared.setup.Setup.{Setup}
use Rattle.dist_script.proofs.Fronts.{all_put}
use Rattle.dist_script_play.specs.Worlds.{nodes_from}
use Rattle.dist_script_play.proofs.Printing.{node_more}
use Rattle.dist_script_play.proofs.nodes.print_nodes.Goals as goal

pub loop-place-preserved : goal.loop-place-preserved
loop-place-preserved g c =
    let w = c.args.world.now in
    let one = c.index-setups-place.result in
    let at = c.loop-place.place in
    let named : (get_or c.setups-setups.result.now at one).name ≡ (get_or w.setups at one).name = ap (λ (ss : List Setup). (get_or ss at one).name) c.setups-setups.ensures in
    node_more _ _ _ w at one _ _ (omega (arith, c.loop-place-test.true, ap length c.setups-setups.ensures)) named c.node-incarnation.ensures c.loop-place.invariant c.in_ok-node.ensures

pub returns : goal.returns
returns g c =
    let w = c.args.world.now in
    all_put _ _ _ _ c.loop-place.invariant (at_drop_all (nodes_from w c.loop-place.place) w.setups c.loop-place.place (omega (arith, c.loop-place-test.false, ap length c.setups-setups.ensures)))
