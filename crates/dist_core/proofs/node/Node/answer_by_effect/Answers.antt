use Rattle.dist_core.proofs.Words.{sym, subst, GivesReply, step, Event}
use Rattle.dist_core.proofs.node.Node.answer_by_effect.Goals as goal
use Rattle.dist_core.specs.Step.{effect_of}

pub returns-in-Dial-clause-answer : goal.returns-in-Dial-clause-answer
unfolding effect_of
returns-in-Dial-clause-answer c = subst (λ (v : Event). GivesReply c.answer_dial.result (step c.args.self.now v c.args.fresh)) (sym c.in-Dial.is) c.answer_dial.ensures

pub returns-in-Incoming-clause-answer : goal.returns-in-Incoming-clause-answer
unfolding effect_of
returns-in-Incoming-clause-answer c = subst (λ (v : Event). GivesReply c.answer_incoming.result (step c.args.self.now v c.args.fresh)) (sym c.in-Incoming.is) c.answer_incoming.ensures

pub returns-in-Opened-clause-answer : goal.returns-in-Opened-clause-answer
unfolding effect_of
returns-in-Opened-clause-answer c = subst (λ (v : Event). GivesReply c.answer_opened.result (step c.args.self.now v c.args.fresh)) (sym c.in-Opened.is) c.answer_opened.ensures

pub returns-in-Frame-clause-answer : goal.returns-in-Frame-clause-answer
unfolding effect_of
returns-in-Frame-clause-answer c = subst (λ (v : Event). GivesReply c.answer_frame.result (step c.args.self.now v c.args.fresh)) (sym c.in-Frame.is) c.answer_frame.ensures

pub returns-in-Tick-clause-answer : goal.returns-in-Tick-clause-answer
unfolding effect_of
returns-in-Tick-clause-answer c = subst (λ (v : Event). GivesReply c.answer_tick.result (step c.args.self.now v c.args.fresh)) (sym c.in-Tick.is) c.answer_tick.ensures

pub returns-in-Lost-clause-answer : goal.returns-in-Lost-clause-answer
returns-in-Lost-clause-answer c = subst (λ (v : Event). GivesReply c.reply_to_loss.result (step c.args.self.now v c.args.fresh)) (sym c.in-Lost.is) (c.reply_to_loss.ensures.answer c.args.fresh)
