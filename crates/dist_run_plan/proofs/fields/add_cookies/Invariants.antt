-- The cookies so far, and then those of the rows that are left, are all cookies.
use Rattle.std.proofs.Common.{◌≡◌}
use Rattle.toml.specs.View.{members_view}
use Rattle.dist_run_plan.specs.Values.{cookies_of}
use Rattle.dist_run_plan.proofs.fields.add_cookies.Given as goal

abbrev pub invariant-loop-row : goal.invariant-loop-row
invariant-loop-row l = cookies_of l.fn.cookies (members_view l.table.entries) ≡ cookies_of l.cookies (members_view l.row-iterator)
