use Rattle.std.proofs.{Common.◌∙◌, Common.ap, Common.is_eq, lemmas.Map.Text.is_eq-slice_cmp}
use Rattle.dist_names.proofs.order.NodeNamePartialEq.eq.Goals as goal

pub returns : goal.returns
returns c = c.is_eq.ensures ∙ ap is_eq c.cmp.ensures ∙ is_eq-slice_cmp c.args.self.now c.args.other.now
