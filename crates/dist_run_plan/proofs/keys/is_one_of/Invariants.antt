use Rattle.std.proofs.Common.{◌≡◌, map, drop}
use Rattle.dist_run_plan.specs.Plans.{is_one_of}
use Rattle.dist_run_plan.proofs.keys.is_one_of.Given as goal

-- what is left decides
abbrev pub invariant-loop-one : goal.invariant-loop-one
invariant-loop-one l = is_one_of (map (λ k. k.now) (drop l.one-index l.keys)) l.key ≡ is_one_of (map (λ k. k.now) l.keys) l.key
