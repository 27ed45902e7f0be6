use Rattle.dist_audit.proofs.{Words.ap, Words.◌∙◌, Words.is_among, Mentioning.among}
use Rattle.dist_audit.proofs.mentions.Mentioned.is_among.Goals as goal

pub returns : goal.returns
returns c = c.contains_key.ensures ∙ (among c.self.inside.numbers c.self.inside.links.items c.self.invariant c.args.wanted ∙ ap (is_among c.args.wanted) c.self.view_is)
