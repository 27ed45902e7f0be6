-- The desk of a seat.
use Rattle.std.specs.Prelude.{◌≡◌, ◌≢◌, ◌⊎◌, ℕ, List, [], ◌∷◌, Option, Some, None, slice_get}
use Rattle.dist_peers.specs.declared.entry.EndId.{EndId}
use Rattle.dist_core.specs.{declared.event.Event.Event, declared.step_error.StepError.StepError, Clauses.end_of, Losses.cause_of_loss}
use Rattle.dist_core.specs.declared.step_error.StepError.TheVariants as error
use Rattle.dist_core_ends.specs.{declared.phase.Still.Still, Ends.still_of, declared.why.Why.Why}
use Rattle.dist_drive.specs.Desks.{Step, DeskFacts}
use Rattle.dist_locked_book.specs.{declared.seat.Receipt.Receipt, History.BookState, History.SeatState, History.IsLegal, History.IsRefused}

-- the step of a receipt
abbrev pub entry_of : Receipt → Step
entry_of r = (r.line.event, r.line.fresh, r.line.reply)

-- what contracts see of the desk of a seat
pub record DeskState : Type 0 where
  -- its end
  pub end_ : EndId
  -- the seat's number
  pub number : ℕ
  -- the seat's receipts when the desk was made
  pub start : List Receipt
  -- the steps since
  pub list : List Step

-- the desk of this end and this seat, behind these steps
abbrev pub desk_of : EndId → SeatState → List Step → DeskState
desk_of end_ seat steps = record { end_ = end_; number = seat.number; start = seat.list; list = steps }

-- some node with a legal history reports so of the end
abbrev pub IsStill : EndId → Still → Type 0
IsStill end_ reported = (b : BookState) × IsLegal b × (reported ≡ still_of (slice_get b.node.ends end_.0))

-- how it may say that an end stands: as the node under the lock does at some moment
abbrev pub stands_so : DeskState → EndId → Still → Type 0
stands_so d end_ reported = IsStill end_ reported

-- the cause that the last step reports, where it is of a loss
abbrev pub last_loss : List Step → Option Why
last_loss [] = None
last_loss (s ∷ []) = cause_of_loss s.0
last_loss (s ∷ t ∷ ss) = last_loss (t ∷ ss)

-- the causes of its refusals: an event that doesn't name the end is refused as unknown, one behind a loss with the cause of
-- that loss, and any other as some node with a legal history refuses it
abbrev pub causes : DeskState → Event → ℕ → StepError → Type 0
causes d v n e =
    ((end_of v ≢ Some d.end_) × (e ≡ error.NoSuchEnd))
    ⊎ (((w : Why) × (last_loss d.list ≡ Some w) × (e ≡ error.Gone w)) ⊎ IsRefused v n e)

-- what the desk says of itself
abbrev pub seat_facts : DeskFacts DeskState
seat_facts = record { list = λ d. d.list; standing = stands_so; refusal = causes }
