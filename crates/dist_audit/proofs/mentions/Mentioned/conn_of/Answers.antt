use Rattle.dist_audit.proofs.{Words.ap, Words.◌∙◌, Words.conn_of, Mentioning.number_found, Mentioning.number_absent}
use Rattle.dist_audit.proofs.mentions.Mentioned.conn_of.Goals as goal

pub returns-in-Some : goal.returns-in-Some
returns-in-Some c = number_found c.self.inside.numbers c.self.inside.links.items c.self.invariant c.args.wanted c.in-Some.number.now c.in-Some.ensures.value ∙ ap (conn_of c.args.wanted) c.self.view_is

pub returns-in-None : goal.returns-in-None
returns-in-None c = c.len.ensures ∙ (c.self.inside.links.ok.0 ∙ (number_absent c.self.inside.numbers c.self.inside.links.items c.self.invariant c.args.wanted c.in-None.ensures.value ∙ ap (conn_of c.args.wanted) c.self.view_is))
