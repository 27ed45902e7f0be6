use Rattle.dist_audit.proofs.{Words.◌∙◌, Linking.all_unknown}
use Rattle.dist_audit.proofs.links.LinkTable.comes_unopened.Goals as goal

pub returns : goal.returns
returns c = c.has_unknown.ensures ∙ all_unknown (let t = c.args.self.now in t.diallers) (let t = c.args.self.now in t.acceptors) (let t = c.args.self.now in t.doubled) c.args.lines.now c.requires
