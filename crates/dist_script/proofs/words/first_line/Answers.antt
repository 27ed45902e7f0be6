use Rattle.dist_script.proofs.Split.{at_first, at_none}
use Rattle.dist_script.proofs.words.first_line.Goals as goal

pub returns-in-Some-clause-parts : goal.returns-in-Some-clause-parts
returns-in-Some-clause-parts c = at_first 10 c.args.text.now c.in-Some.place c.in-Some.ensures.0 c.in-Some.ensures.1

pub returns-in-None-clause-parts : goal.returns-in-None-clause-parts
returns-in-None-clause-parts c = at_none 10 c.args.text.now c.in-None.ensures
