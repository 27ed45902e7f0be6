use Rattle.dist_core.proofs.Words.{Option, refl, ap, ◌∙◌, End, at_end, framed_from, sender_to}
use Rattle.dist_core.proofs.{Doing.can-do, Kept.kept-done}
use Rattle.dist_core.proofs.node.Node.keep_first_frame.Goals as goal
use Rattle.dist_core.specs.Step.{effect_of}
use Rattle.dist_core.specs.declared.event.Event.TheVariants as event

pub keep_effect-requires : goal.keep_effect-requires
unfolding effect_of
keep_effect-requires g c =
    let n = c.args.self.now in
    let kept = c.counted_steps.ensures in
    can-do n (event.Frame c.args.id c.args.body.now) c.args.fresh c.in_ok-effect.effect
    (ap (λ (o : Option End). at_end o (λ e. framed_from n c.args.id c.args.fresh c.args.body.now e (sender_to e))) c.requires ∙ c.in_ok-effect.ensures) refl kept.few kept.bounded kept.numbered

pub returns : goal.returns
returns g c =
    let n = c.args.self.now in
    kept-done (g.K.Keeper.keeps c.args.keeper.now) n (event.Frame c.args.id c.args.body.now) _ c.in_ok-effect.effect c.in_ok-effect.ensures refl c.keep_effect.result c.keep_effect.new.self c.keep_effect.ensures
