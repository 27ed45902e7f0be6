-- What is done with an end that its driver left open.
use Rattle.std.specs.Prelude.{◌≡◌, ◌≢◌, ◌⊎◌, Bool, true, false, List, [], ◌∷◌, ◌++◌}
use Rattle.dist_peers.specs.declared.entry.EndId.{EndId}
use Rattle.dist_core_ends.specs.declared.{why.Why.Why, phase.Still.Still}
use Rattle.dist_core_ends.specs.declared.phase.Still.TheVariants as still
use Rattle.dist_core.specs.declared.event.Event.TheVariants as event
use Rattle.dist_core.specs.declared.step_error.StepError.{StepError}
use Rattle.dist_locked_book.specs.{declared.seat.Receipt.Receipt, History.IsRefused}
use Rattle.dist_locked.specs.Desks.{IsStill}

-- A loss with this cause is one receipt more, or some node with a legal history refuses it.
abbrev pub IsLost : EndId → Why → List Receipt → List Receipt → Type 0
IsLost end_ w before after =
    ((r : Receipt) × (after ≡ before ++ r ∷ []) × (r.line.event ≡ event.Lost end_ w))
    ⊎ ((after ≡ before) × ((e : StepError) × IsRefused (event.Lost end_ w) 0 e))

-- An end is over exactly where it was not up: then it is lost with this cause, else nothing is done.
abbrev pub IsGivenUp : EndId → Why → List Receipt → List Receipt → Bool → Type 0
IsGivenUp end_ w before after true = ((reported : Still) × IsStill end_ reported × (reported ≢ still.Up)) × IsLost end_ w before after
IsGivenUp end_ w before after false = IsStill end_ still.Up × (after ≡ before)
