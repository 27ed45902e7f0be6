use Rattle.dist_epmd.proofs.{Words.subst, Words.AnswerFits, Words.SpellsAnswer, Messages.IsReading, Messages.answer_again, Messages.answer_reading}
use Rattle.dist_epmd.proofs.laws.read_answer_is_spelled.Goals as goal

pub returns-clause-read : goal.returns-clause-read
returns-clause-read c = answer_again

pub returns-clause-spelled : goal.returns-clause-spelled
returns-clause-spelled c = λ asked m bytes are e. (subst (IsReading (SpellsAnswer asked) AnswerFits bytes) e (answer_reading asked bytes are)).0

pub returns-clause-refused : goal.returns-clause-refused
returns-clause-refused c = λ asked error bytes are e. subst (IsReading (SpellsAnswer asked) AnswerFits bytes) e (answer_reading asked bytes are)
