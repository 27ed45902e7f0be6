use Rattle.dist_script_play.proofs.{Words.sym, Outside.about, Outside.about_nobody}
use Rattle.dist_script_play.proofs.fooled.is_fooled_about.Goals as goal

pub returns-in-Some : goal.returns-in-Some
returns-in-Some c = about c.args.world.now c.args.place c.args.peer.now c.args.places.now c.requires c.in-Some.other.now (sym c.in-Some.ensures.value) c.is_fooled.result c.is_fooled.ensures

pub returns-in-None : goal.returns-in-None
returns-in-None c = about_nobody c.args.world.now c.args.place c.args.peer.now c.args.places.now c.requires (sym c.in-None.ensures.value)
