use Rattle.std.proofs.Common.{◌≡◌, map}
use Rattle.toml.specs.View.{members_view}
use Rattle.dist_run_plan.specs.Plans.{has_only}
use Rattle.dist_run_plan.proofs.keys.has_only.Given as goal

-- what is left decides
abbrev pub invariant-loop-row : goal.invariant-loop-row
invariant-loop-row l = has_only (map (λ k. k.now) l.keys) (members_view l.row-iterator) ≡ has_only (map (λ k. k.now) l.keys) (members_view l.table.entries)
