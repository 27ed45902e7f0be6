use Rattle.dist_script_play.proofs.{Words.length, Words.ap, Words.arith, Pairing.pairs_go_on, Pairing.pairs_end}
use Rattle.dist_script_play.proofs.agreements.print_agreements.Goals as goal

pub loop-place-preserved : goal.loop-place-preserved
loop-place-preserved g c =
    let t = c.in_ok-print_agreements_from.ensures in
    pairs_go_on c.args.world.now c.loop-place.place _ _ _ t.0 c.loop-place.invariant t.1 t.2

pub returns : goal.returns
returns g c = pairs_end c.args.world.now c.loop-place.place _ _ (omega (arith, c.loop-place.auto.place-end, c.loop-place-test.false, ap length c.setups-setups.ensures)) c.loop-place.invariant
