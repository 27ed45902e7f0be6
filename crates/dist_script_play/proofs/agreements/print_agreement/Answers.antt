use Rattle.dist_script_play.proofs.{Words.None, Words.Appends-nil, Pairing.none_both}
use Rattle.dist_script_play.proofs.agreements.print_agreement.Goals as goal

pub returns-in-None : goal.returns-in-None
returns-in-None g c = (None, none_both c.args.world.now c.args.a c.args.b c.requires c.in-None.ensures.counted, Appends-nil (g.W.Write.contents c.args.out.now))
