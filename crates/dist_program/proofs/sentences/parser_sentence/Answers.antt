use Rattle.std.proofs.lemmas.Result.{IfOk-weaker}
use Rattle.dist_program.proofs.sentences.parser_sentence.Goals as goal

pub returns : goal.returns
returns g c = IfOk-weaker c.sentence_with.result _ _ (λ sentence same. (c.parser_text.result.now, same)) c.sentence_with.ensures
