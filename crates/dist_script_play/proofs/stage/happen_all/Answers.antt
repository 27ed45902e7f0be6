use Rattle.dist_script_play.proofs.Words.{arith, PutsPart, happenings_text}
use Rattle.dist_script_play.proofs.{Pages.at_err, Stages.fits_more, Stages.one_happened, Stages.cut_happened}
use Rattle.dist_script_play.proofs.stage.happen_all.Goals as goal

-- no more apply than there are, whose count is a number of 64 bits
pub overflow_add-applied : goal.overflow_add-applied
overflow_add-applied g c =
    let few = fits_more _ _ _ _ _ _ _ _ _ _ _ c.loop-rest.invariant (grind arith) c.split_at.ensures.front c.in_ok-more.ensures.count in
    omega (arith, few)

pub loop-rest-preserved : goal.loop-rest-preserved
loop-rest-preserved g c =
    one_happened _ _ _ _ _ _ _ _ _ _ _ _ _ _ _ c.loop-rest.invariant (grind arith) c.split_at.ensures.front c.split_at.ensures.back c.in_ok-more.ensures.text c.in_ok-more.ensures.after c.in_ok-more.ensures.count

pub returns-in_err-more-clause-cut : goal.returns-in_err-more-clause-cut
returns-in_err-more-clause-cut g c =
    at_err (λ f. PutsPart (happenings_text c.args.world.now c.args.happenings.now) (g.W.Write.contents c.args.out.now) (g.W.Write.contents c.happen.new.out) c.args.page.now.text.items c.happen.new.page.text.items f) c.from_residual.result c.in_err-more.field-0.0 c.from_residual.ensures.1
    (cut_happened _ _ _ _ _ _ _ _ _ _ _ _ _ c.loop-rest.invariant (grind arith) c.split_at.ensures.front c.in_err-more.ensures.cut)
