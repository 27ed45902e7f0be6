-- What a call that reads something returns.
use Rattle.std.specs.Prelude.{◌≡◌, Option, Some, None, Result, MatchResult}
use Rattle.dist_run_plan.specs.declared.plan_error.PlanError.{PlanError, TheVariants.Bad}

-- Unless memory runs out, the answer is what is there, and Bad comes exactly where nothing is.
abbrev pub Reads : {T : Type 0} → Result T PlanError → Option T → Type 0
Reads result there = MatchResult result (λ value. there ≡ Some value) (λ error. error ≡ Bad → there ≡ None)
