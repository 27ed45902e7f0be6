use Rattle.dist_script_play.proofs.Words.{refl}
use Rattle.dist_script_play.proofs.{Pages.at_err, Worlds.plays, Worlds.cut_at_end}
use Rattle.dist_script_play.proofs.stage.play.Goals as goal

pub returns-in_err-put_end-clause-cut : goal.returns-in_err-put_end-clause-cut
returns-in_err-put_end-clause-cut g c =
    at_err _ c.from_residual-in_err-put_end.result c.in_err-put_end.field-0.0 c.from_residual-in_err-put_end.ensures.1
    (cut_at_end c.args.happenings.now _ _ _ _ _ _ _ _ _ _ _ c.in_ok-applied.ensures.text c.in_ok-applied.ensures.after c.in_ok-applied.ensures.count refl c.in_err-put_end.ensures.cut)

pub returns-clause-text : goal.returns-clause-text
returns-clause-text g c =
    plays c.args.happenings.now _ _ _ _ _ _ _ _ _ _ c.in_ok-applied.ensures.text c.in_ok-applied.ensures.after c.in_ok-applied.ensures.count refl c.in_ok-put_end.ensures.text
