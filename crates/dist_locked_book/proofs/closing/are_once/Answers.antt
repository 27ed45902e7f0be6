use Rattle.std.proofs.Common.{arith, refl, sym, ◌∙◌, below_more}
use Rattle.dist_locked_book.proofs.Closings.{not_true}
use Rattle.dist_locked_book.proofs.closing.are_once.Goals as goal

pub returns-then-count_of-ne1 : goal.returns-then-count_of-ne1
returns-then-count_of-ne1 c = (λ t. absurd (not_true t), λ h. absurd (c.if-count_of-ne1.true (c.count_of.ensures ∙ h c.loop-number.number c.loop-number-test.true)))

pub loop-number-preserved : goal.loop-number-preserved
loop-number-preserved c = below_more _ _ c.loop-number.invariant (sym c.count_of.ensures ∙ c.if-count_of-ne1.false)

pub returns : goal.returns
returns c = (λ _ k h. c.loop-number.invariant k (omega arith), λ _. refl)
