use Rattle.dist_epmd.proofs.Words.{subst, arith, Answers, AnswerFits, SpellsAnswer}
use Rattle.dist_epmd.proofs.Messages.{found, refused, answer_again, answer_reading}
use Rattle.dist_epmd.proofs.reading.decode_answer.Goals as goal

pub returns-clause-found : goal.returns-clause-found
returns-clause-found c = found (SpellsAnswer c.args.asked) AnswerFits c.args.bytes.now _ c.read_answer.result (answer_reading c.args.asked c.args.bytes.now (λ i. omega (arith, c.type_inv.bytes i))) c.read_answer.ensures.exact

pub returns-clause-only : goal.returns-clause-only
returns-clause-only c = λ m fits spelled. subst (Answers (λ x. x) c.read_answer.result) (answer_again c.args.asked m c.args.bytes.now fits spelled) c.read_answer.ensures.exact

pub returns-clause-refused : goal.returns-clause-refused
returns-clause-refused c = refused (SpellsAnswer c.args.asked) AnswerFits c.args.bytes.now _ c.read_answer.result (answer_reading c.args.asked c.args.bytes.now (λ i. omega (arith, c.type_inv.bytes i))) c.read_answer.ensures.exact
