-- Histories of a node, and the receipts of their lines.
use Rattle.std.specs.Prelude.{◌≡◌, ℕ, ◌<◌, List, [], ◌∷◌, length, Bool, false, Some, Ok, slice_get}
use Rattle.dist_core.specs.{Answers.Refuses, Losses.is_loss, Node.NodeState, Runs.opening, Step.step}
use Rattle.dist_core.specs.declared.{event.Event.Event, step_error.StepError.StepError}
use Rattle.dist_locked_book.specs.declared.{line.Line.Line, seat.Receipt.Receipt}

-- the lines are the steps of a node from n to m, each with the reply that the node gives there
abbrev pub IsReplay : NodeState → List Line → NodeState → Type 0
IsReplay n [] m = n ≡ m
IsReplay n (l ∷ ls) m = (next : NodeState) × (step n l.event l.fresh ≡ Ok (l.reply, next)) × IsReplay next ls m

-- a book, as contracts see it
pub record BookState : Type 0 where
  pub node : NodeState
  pub seats : ℕ
  pub history : List Line

-- a single thread could have made the history: from the opening node of this setup it leads to this node
abbrev pub IsLegal : BookState → Type 0
IsLegal b = IsReplay (opening b.node.setup) b.history b.node

-- a seat, as contracts see it: its number, its receipts in order, and how many more it has room for
pub record SeatState : Type 0 where
  pub number : ℕ
  pub list : List Receipt
  pub spare : ℕ

-- the last receipt is of a loss
abbrev pub ends_in_loss : List Receipt → Bool
ends_in_loss [] = false
ends_in_loss (r ∷ []) = is_loss r.line.event
ends_in_loss (r ∷ s ∷ rs) = ends_in_loss (s ∷ rs)

-- the seats stand in the order of their numbers, with no receipt and room for one
abbrev pub AreFresh : List SeatState → Type 0
AreFresh seats = (k : ℕ) (s : SeatState) → slice_get seats k ≡ Some s → (s.number ≡ k) × (s.list ≡ []) × (0 < s.spare)

-- ---- one step, at some moment

-- some node with a legal history gives this receipt's reply to its event, and the receipt's place is behind that history
abbrev pub IsAnswered : Receipt → Type 0
IsAnswered r = (b : BookState) × (m : NodeState) × IsLegal b × (r.at_ ≡ length b.history) × (step b.node r.line.event r.line.fresh ≡ Ok (r.line.reply, m))

-- some node with a legal history refuses this event, with this number, for this reason
abbrev pub IsRefused : Event → ℕ → StepError → Type 0
IsRefused v fresh e = (b : BookState) × IsLegal b × Refuses e (step b.node v fresh)
