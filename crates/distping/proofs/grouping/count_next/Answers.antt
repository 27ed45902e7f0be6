-- One node more is none of those before.
use Rattle.std.proofs.Common.{rules, ◌∙◌, refl, sym}
use Rattle.distping.proofs.Apart.{apart_more}
use Rattle.distping.proofs.grouping.count_next.Goals as goal

pub loop-size-preserved : goal.loop-size-preserved
loop-size-preserved c = (
  search rules,
  search rules,
  search rules,
  search rules,
  apart_more c.args.nodes.now c.loop-size.size c.index-nodes-size.result (search rules) c.loop-size.invariant.4 (λ k e l h. c.if-is_among.ensures.other refl k e l (h ∙ sym c.index-nodes-size.is)),
)
