use Rattle.dist_epmd.proofs.{Words.◌∙◌, Named.found_at_name}
use Rattle.dist_epmd.proofs.rows.row_of_name.Goals as goal

pub returns : goal.returns
returns c = c.get.ensures.value ∙ found_at_name c.args.name.now c.args.rows.now.entries c.requires
