use Rattle.std.proofs.Common.{◌∙◌, drop}
use Rattle.dist_names.specs.Order.{name_cmp}
use Rattle.dist_names.proofs.Fronts.{fronts_cmp, fronts_decide, behind_fronts, visible_behind}
use Rattle.dist_names.proofs.order.NodeNameOrd.cmp.Goals as goal

pub order_of-requires-clause-ours : goal.order_of-requires-clause-ours
order_of-requires-clause-ours c = visible_behind _ _ _ c.behind.ensures c.bytes.ensures.same c.bytes.ensures.good

pub order_of-requires-clause-theirs : goal.order_of-requires-clause-theirs
order_of-requires-clause-theirs c = visible_behind _ _ _ c.behind-in-Equal.ensures c.bytes-in-Equal.ensures.same c.bytes-in-Equal.ensures.good

pub returns-in-Equal : goal.returns-in-Equal
returns-in-Equal c =
    c.order_of.ensures
    ∙ (λ i. name_cmp (c.behind.ensures i) (c.behind-in-Equal.ensures i))
    ∙ (λ i. name_cmp (drop 32 (c.bytes.ensures.same i)) (drop 32 (c.bytes-in-Equal.ensures.same i)))
    ∙ behind_fronts c.args.self.now c.args.other.now c.bytes.ensures.good c.bytes-in-Equal.ensures.good _ (c.cmp.ensures ∙ λ i. fronts_cmp (c.fronts.ensures.same i) (c.fronts-2.ensures.same i)) c.in-Equal.is

pub returns-in_default : goal.returns-in_default
returns-in_default c =
    fronts_decide c.args.self.now c.args.other.now c.fronts.ensures.good c.fronts-2.ensures.good _ (c.cmp.ensures ∙ λ i. fronts_cmp (c.fronts.ensures.same i) (c.fronts-2.ensures.same i)) c.in_default.not-Equal
