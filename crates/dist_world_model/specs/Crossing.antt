-- ATTEMPTS THAT CROSS.
use Rattle.std.specs.Prelude.{if◌then◌else◌, ◌≡◌}
use Rattle.dist_world_model.specs.Words.{ℕ, List, Some, None, true, Name, Out, slice_get, is_claim}
use Rattle.dist_world_model.specs.Rows.{EndRow, claim_before}
use Rattle.dist_peers.specs.Verdicts.{is_greater}

-- an accepted end y took the name of p at number t, while the end x was dialled to p and neither up nor gone
pub record Crosses (rows : List EndRow) (x y : ℕ) (p : Name) (t : ℕ) (own other : EndRow) : Type 0 where
  pub dialled : slice_get rows x ≡ Some own
  pub came : slice_get rows y ≡ Some other
  pub took : other.named ≡ Some t
  pub name : other.peer ≡ Some p
  pub out : is_claim p Out (claim_before t own) ≡ true

-- THE LESSER NAME'S ATTEMPT, of that which this node dialled and that which p dialled
abbrev pub lesser : Name → Name → EndRow → EndRow → EndRow
lesser me p own other = if is_greater me p then other else own

-- OF TWO ATTEMPTS THAT CROSS the lesser name's never comes up
abbrev pub AreDecided : Name → List EndRow → Type 0
AreDecided me rows = (x y : ℕ) (p : Name) (t : ℕ) (own other : EndRow) → Crosses rows x y p t own other → (lesser me p own other).rose ≡ None
