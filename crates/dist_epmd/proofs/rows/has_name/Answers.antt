use Rattle.dist_epmd.proofs.{Words.◌∙◌, Named.has_at_name}
use Rattle.dist_epmd.proofs.rows.has_name.Goals as goal

pub returns : goal.returns
returns c = c.contains_key.ensures ∙ has_at_name c.args.name.now c.args.rows.now.entries c.requires
