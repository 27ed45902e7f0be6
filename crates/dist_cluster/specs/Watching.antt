-- A watch of targets: what is reported of an observation, and what the targets showed last after it.
use Rattle.std.specs.Prelude.{◌==◌, ℕ, Bool, true, not, List, Option, Some, None, if◌then◌else◌, replicate, slice_set, slice_index_or}
use Rattle.std.specs.Cmp.Lexicographic.{pointwise}
use Rattle.dist_cluster.specs.declared.change.{Observation.Observation, VerdictChange.VerdictChange}

-- the verdict that each target showed last, where it was observed at all
abbrev pub Verdicts : Type 0
Verdicts = List (Option (List ℕ))

-- a watch of this many targets, without observations
abbrev pub watching : ℕ → Verdicts
watching targets = replicate targets None

-- the verdict that a target showed last
abbrev pub verdict_of : Verdicts → ℕ → Option (List ℕ)
verdict_of shown target = slice_index_or shown target None

-- the verdicts after one more observation
abbrev pub after_one : Verdicts → Observation → Verdicts
after_one shown seen = slice_set shown seen.target (Some seen.verdict)

-- the verdict differs from the one before, or there was none before
abbrev pub is_other : Option (List ℕ) → List ℕ → Bool
is_other None verdict = true
is_other (Some before) verdict = not (pointwise ◌==◌ before verdict)

-- an observation as a change from the verdict before
abbrev pub change_from : Option (List ℕ) → Observation → VerdictChange
change_from before seen = record { target = seen.target; at = seen.at; before = before; after = seen.verdict }

-- WHAT IS REPORTED of an observation, by the verdict that its target showed before
abbrev pub report : Option (List ℕ) → Observation → Option VerdictChange
report before seen = if is_other before seen.verdict then Some (change_from before seen) else None
