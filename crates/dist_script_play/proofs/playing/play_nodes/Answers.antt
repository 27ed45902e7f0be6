use Rattle.dist_script_play.proofs.Words.{there, StopsWorld}
use Rattle.dist_script_play.proofs.{Faults.of_world, Pages.at_err}
use Rattle.dist_script_play.proofs.Worlds as worlds
use Rattle.dist_script_play.proofs.playing.play_nodes.Goals as goal

pub returns-in_err-finish-clause-fault : goal.returns-in_err-finish-clause-fault
returns-in_err-finish-clause-fault g c =
    at_err (StopsWorld c.args.nodes.items c.args.happenings.now (g.W.Write.contents c.args.out.now) (g.W.Write.contents c.finish.new.out)) c.from_residual-in_err-finish.result c.in_err-finish.field-0.0 c.from_residual-in_err-finish.ensures.1
    (of_world c.play-played.result c.args.nodes.items c.args.happenings.now _ _ _ _ _ _ _ c.in_ok-world.ensures.ok c.in_ok-world.ensures.names c.new-page.ensures c.play-played.ensures.text c.play-played.ensures.cut c.in_err-finish.ensures.front c.in_err-finish.ensures.fault)

pub returns-clause-text : goal.returns-clause-text
returns-clause-text g c =
    worlds.of_world c.args.nodes.items c.args.happenings.now _ _ _ _ _ _ c.in_ok-world.ensures.ok c.new-page.ensures (there c.play-played.result c.play-played.ensures.text c.in_ok-finish.ensures.played) c.in_ok-finish.ensures.text
