-- The time of each step on the way to a node, for all addresses of its host together.
use Rattle.std.specs.{Prelude.ℕ, Prelude.◌/◌, Prelude.◌-◌, Prelude.◌==◌, Prelude.if◌then◌else◌, declared.time.Duration.Duration, Duration.as_nanos}
use Rattle.dist_program.specs.declared.budget.{Budget.Budget, TimedStep.TimedStep}
use Rattle.dist_program.specs.declared.budget.TimedStep.TheVariants as step

-- what is left of the time of a step
abbrev pub left_of : Budget → TimedStep → Duration
left_of b step.Mapper = b.mapper
left_of b step.Lookup = b.lookup
left_of b step.Port = b.port
left_of b step.Talk = b.talk

-- an equal part for each address that is still to be tried
abbrev pub share_of : ℕ → ℕ → ℕ
share_of left addresses = if addresses == 0 then 0 else left / addresses

-- what a step took of its share, in nanoseconds, where this much of the share was unused
abbrev pub spent_of : Budget → TimedStep → ℕ → ℕ
spent_of b step unused = share_of (as_nanos (left_of b step)) b.addresses - unused
