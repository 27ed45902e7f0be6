use Rattle.dist_conformance.proofs.Split.{at_first, at_none}
use Rattle.dist_conformance.proofs.texts.first_part.Goals as goal

pub returns-in-Some-clause-parts : goal.returns-in-Some-clause-parts
returns-in-Some-clause-parts c = at_first c.args.byte c.args.text.now c.in-Some.place c.in-Some.ensures.0 c.in-Some.ensures.1

pub returns-in-None-clause-parts : goal.returns-in-None-clause-parts
returns-in-None-clause-parts c = at_none c.args.byte c.args.text.now c.in-None.ensures
