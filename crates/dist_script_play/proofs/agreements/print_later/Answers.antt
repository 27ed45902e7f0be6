use Rattle.dist_script_play.proofs.{Words.arith, Pairing.row_begins, Pairing.row_goes_on, Pairing.row_ends, Pairing.none_left}
use Rattle.dist_script_play.proofs.agreements.print_later.Goals as goal

pub loop-other-init : goal.loop-other-init
loop-other-init g c = row_begins c.args.world.now c.args.place c.args.later (g.W.Write.contents c.args.out.now) c.requires.place c.requires.later

pub print_agreement-requires : goal.print_agreement-requires
print_agreement-requires g c =
    let so = c.loop-other.invariant in
    let after = so.after in
    let here = so.left.within c.in-Some.other c.in-Some.ensures.member in
    omega (arith, after, here.0)

pub loop-other-preserved : goal.loop-other-preserved
loop-other-preserved g c =
    let t = c.in_ok-print_agreement.ensures in
    row_goes_on c.args.world.now c.args.place c.loop-other.later c.pop_first.new.self _ _ _ c.in-Some.other t.0 c.loop-other.invariant c.in-Some.ensures.member c.in-Some.ensures.least c.in-Some.ensures.updates t.1 t.2

pub returns : goal.returns
returns g c = row_ends c.args.world.now c.args.place c.loop-other.later _ _ c.loop-other.invariant (none_left c.pop_first.result _ c.in_default.is c.pop_first.ensures.variant)
