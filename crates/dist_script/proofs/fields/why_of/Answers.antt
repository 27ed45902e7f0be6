use Rattle.dist_script.proofs.Reading.{why_read}
use Rattle.dist_script.proofs.fields.why_of.Goals as goal

pub returns : goal.returns
returns c = why_read c.args.word.now c.of_name.result c.of_name.ensures.found c.of_name.ensures.every
