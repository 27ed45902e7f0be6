use Rattle.dist_script_play.proofs.{Words.sym, Finding.ok_all}
use Rattle.dist_script_play.proofs.agreements.later_ones.Goals as goal

pub returns-in-Some : goal.returns-in-Some
returns-in-Some c = ok_all c.args.world.now c.args.place c.in-Some.node.now c.args.places.now (sym c.in-Some.ensures) c.requires c.later_peers.result c.later_peers.ensures
