-- What has to be reported of a list of observations: this speaks of the whole history, and not of a watch.
use Rattle.std.specs.Prelude.{◌==◌, ℕ, ◌<◌, Bool, List, [], ◌∷◌, ◌++◌, Option, Some, None, map, filter, option_map, option_to_list}
use Rattle.std.specs.List.{AllByRecursion}
use Rattle.dist_cluster.specs.Watching.{Verdicts, verdict_of, after_one, is_other, change_from, report}
use Rattle.dist_cluster.specs.declared.change.{Observation.Observation, VerdictChange.VerdictChange}

-- the last element, where there is one
abbrev pub last : {X : Type 0} → List X → Option X
last [] = None
last (x ∷ []) = Some x
last (x ∷ y ∷ ys) = last (y ∷ ys)

-- the verdict in the last observation of a target
abbrev pub last_observed : ℕ → List Observation → Option (List ℕ)
last_observed target history = option_map (λ o. o.verdict) (last (filter (λ o. o.target == target) history))

-- an observation, and those before it
pub record Moment : Type 0 where
  pub before : List Observation
  pub seen : Observation

-- each observation with those before it, where the first list comes before all of the second
abbrev pub moments_after : List Observation → List Observation → List Moment
moments_after before [] = []
moments_after before (o ∷ os) = record { before = before; seen = o } ∷ moments_after (before ++ o ∷ []) os

-- each observation of a history with those before it
abbrev pub moments : List Observation → List Moment
moments history = moments_after [] history

-- the verdict in the last observation of the same target before this one
abbrev pub verdict_before : Moment → Option (List ℕ)
verdict_before m = last_observed m.seen.target m.before

-- A CHANGE is an observation whose verdict is not the last one of the same target before it, or the first of its target
abbrev pub is_change : Moment → Bool
is_change m = is_other (verdict_before m) m.seen.verdict

-- the changes of a history, in order
abbrev pub changes : List Observation → List VerdictChange
changes history = map (λ m. change_from (verdict_before m) m.seen) (filter is_change (moments history))

-- ---- what a watch does

-- WHAT A WATCH REPORTS of these observations in turn
abbrev pub reports : Verdicts → List Observation → List VerdictChange
reports shown [] = []
reports shown (o ∷ os) = option_to_list (report (verdict_of shown o.target) o) ++ reports (after_one shown o) os

-- the verdict in the last report of a target
abbrev pub last_reported : ℕ → List VerdictChange → Option (List ℕ)
last_reported target reported = option_map (λ c. c.after) (last (filter (λ c. c.target == target) reported))

-- each observation is of one of this many targets
abbrev pub AreOfTargets : ℕ → List Observation → Type 0
AreOfTargets targets history = AllByRecursion (λ o. o.target < targets) history
