use Rattle.dist_core.proofs.{Words.sym, Words.subst, Words.KeepsStep, Words.step, Words.Event, Kept.same-loss}
use Rattle.dist_core.proofs.node.Node.step_kept.Goals as goal
use Rattle.dist_core.specs.Step.{effect_of}

pub returns-in-Dial-clause-step : goal.returns-in-Dial-clause-step
unfolding effect_of
returns-in-Dial-clause-step g c =
    let n = c.args.self.now in
    subst (λ (v : Event). KeepsStep (g.K.Keeper.keeps c.args.keeper.now) c.keep_dial.result (step n v c.args.fresh) n c.keep_dial.new.self) (sym c.in-Dial.is) c.keep_dial.ensures

pub returns-in-Incoming-clause-step : goal.returns-in-Incoming-clause-step
unfolding effect_of
returns-in-Incoming-clause-step g c =
    let n = c.args.self.now in
    subst (λ (v : Event). KeepsStep (g.K.Keeper.keeps c.args.keeper.now) c.keep_incoming.result (step n v c.args.fresh) n c.keep_incoming.new.self) (sym c.in-Incoming.is) c.keep_incoming.ensures

pub returns-in-Opened-clause-step : goal.returns-in-Opened-clause-step
unfolding effect_of
returns-in-Opened-clause-step g c =
    let n = c.args.self.now in
    subst (λ (v : Event). KeepsStep (g.K.Keeper.keeps c.args.keeper.now) c.keep_opened.result (step n v c.args.fresh) n c.keep_opened.new.self) (sym c.in-Opened.is) c.keep_opened.ensures

pub returns-in-Frame-clause-step : goal.returns-in-Frame-clause-step
unfolding effect_of
returns-in-Frame-clause-step g c =
    let n = c.args.self.now in
    subst (λ (v : Event). KeepsStep (g.K.Keeper.keeps c.args.keeper.now) c.keep_frame.result (step n v c.args.fresh) n c.keep_frame.new.self) (sym c.in-Frame.is) c.keep_frame.ensures

pub returns-in-Tick-clause-step : goal.returns-in-Tick-clause-step
unfolding effect_of
returns-in-Tick-clause-step g c =
    let n = c.args.self.now in
    subst (λ (v : Event). KeepsStep (g.K.Keeper.keeps c.args.keeper.now) c.keep_tick.result (step n v c.args.fresh) n c.keep_tick.new.self) (sym c.in-Tick.is) c.keep_tick.ensures

pub returns-in-Lost-clause-step : goal.returns-in-Lost-clause-step
returns-in-Lost-clause-step g c =
    let n = c.args.self.now in
    subst (λ (v : Event). KeepsStep (g.K.Keeper.keeps c.args.keeper.now) c.keep_loss.result (step n v c.args.fresh) n c.keep_loss.new.self) (sym c.in-Lost.is) (c.keep_loss.ensures.step c.args.fresh)

pub returns-in-Lost-clause-loss : goal.returns-in-Lost-clause-loss
returns-in-Lost-clause-loss g c = λ x w is ready. c.keep_loss.ensures.loss (same-loss (g.K.Keeper.is_ready_for c.args.keeper.now) c.args.event.now c.in-Lost.id x c.in-Lost.why w c.in-Lost.is is ready)
