-- The words that the line begins with.
use Rattle.std.proofs.Common.{rules}
use Rattle.std.proofs.lemmas.Result.{IfOk-weaker}
use Rattle.distcheck.proofs.Printed.{conforming, not_conforming, not_deviating}
use Rattle.distcheck.proofs.report.outcome_of.Goals as goal

pub returns-in_ok-ids : goal.returns-in_ok-ids
returns-in_ok-ids c = IfOk-weaker c.line_of.result _ _ (λ line is. not_conforming c.args.exit _ _ (search rules) is) c.line_of.ensures

pub returns-then-conform : goal.returns-then-conform
returns-then-conform c = IfOk-weaker c.line_of-then-conform.result _ _ (λ line is. conforming c.args.exit _ _ (search rules) (search rules) is) c.line_of-then-conform.ensures

pub returns-in_ok-extent : goal.returns-in_ok-extent
returns-in_ok-extent c = IfOk-weaker c.line_of-else-conform.result _ _ (λ line is. not_deviating c.args.exit _ _ (search rules) (search rules) is) c.line_of-else-conform.ensures
