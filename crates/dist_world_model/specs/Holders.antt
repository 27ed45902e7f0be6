-- WHICH ENDS OF AN INCARNATION HOLD A PEER, at each moment.
use Rattle.std.specs.Prelude.{◌≡◌, ◌≢◌}
use Rattle.dist_world_model.specs.Words.{ℕ, Bool, List, Option, Some, None, true, false, Name, Kind, In, Up, Claim, slice_get, is_claim}
use Rattle.dist_world_model.specs.Rows.{EndRow, claim_before}

-- what the end of this row held just before number t
abbrev pub claim_in : ℕ → Option EndRow → Option Claim
claim_in t None = None
claim_in t (Some row) = claim_before t row

-- end i held p in this way just before number t
abbrev pub held_before : List EndRow → ℕ → Name → Kind → ℕ → Bool
held_before rows t p k i = is_claim p k (claim_in t (slice_get rows i))

-- two different ends can hold one peer: one that is up, and an accepted one that is not
abbrev pub get_along : Kind → Kind → Bool
get_along Up In = true
get_along In Up = true
get_along _ _ = false

-- AT EVERY MOMENT two different ends that hold one peer are one that is up and an accepted one that is not
abbrev pub AreApart : List EndRow → Type 0
AreApart rows = (t : ℕ) (p : Name) (k l : Kind) (i j : ℕ) → held_before rows t p k i ≡ true → held_before rows t p l j ≡ true → i ≢ j → get_along k l ≡ true
