use Rattle.dist_audit.proofs.{Words.ap, Words.◌∙◌, Words.is_among, Mentioning.pushed}
use Rattle.dist_audit.proofs.mentions.Mentioned.push.Goals as goal

pub invariant_of-self-in-Ok : goal.invariant_of-self-in-Ok
invariant_of-self-in-Ok c = pushed c.self.inside.numbers c.self.inside.links.items c.self.invariant c.args.link c.insert.new.self c.push.new.self.items c.len-number.result (c.len-number.ensures ∙ c.self.inside.links.ok.0) c.in-Ok.ensures.updates.0 c.in_ok-push.ensures.items (ap (is_among c.args.link) c.self.view_is ∙ c.requires)
