use Rattle.std.proofs.Common.{◌∙◌, nat_cmp}
use Rattle.dist_names.specs.Order.{name_cmp}
use Rattle.dist_names.proofs.Fronts.{eight_decide, behind_eight}
use Rattle.dist_names.proofs.order.+order_of.Goals as goal

pub returns-in-Equal : goal.returns-in-Equal
returns-in-Equal t c =
    c.order_of.ensures
    ∙ (λ i. name_cmp (c.behind.ensures i) (c.behind-in-Equal.ensures i))
    ∙ behind_eight c.args.ours.now c.args.theirs.now c.requires.ours c.requires.theirs _ (c.cmp-2.ensures ∙ λ i. nat_cmp (c.front_number.ensures i) (c.front_number-2.ensures i)) c.in-Equal.is

pub returns-in_default : goal.returns-in_default
returns-in_default t c =
    eight_decide c.args.ours.now c.args.theirs.now c.requires.ours c.requires.theirs _ (c.cmp-2.ensures ∙ λ i. nat_cmp (c.front_number.ensures i) (c.front_number-2.ensures i)) c.in_default.not-Equal
