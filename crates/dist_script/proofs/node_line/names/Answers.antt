use Rattle.dist_script.proofs.Rows.{one_name, other_word}
use Rattle.dist_script.proofs.node_line.names.Goals as goal

pub returns-in-Err : goal.returns-in-Err
returns-in-Err c = λ _. other_word c.args.words.now c.names.words c.names.names.items c.names.invariant c.skip.new.self c.names-test.ensures.0 c.names-test.ensures.1 c.in-Err.ensures.1

pub names-preserved : goal.names-preserved
names-preserved c = rw (c.in_ok-push.ensures.items, c.in_ok-name_word.ensures.rest) (one_name c.args.words.now c.names.words c.names.names.items c.names.invariant c.in_ok-name_word.field-0 c.skip.new.self c.names-test.ensures c.in_ok-name_word.ensures.reads)
