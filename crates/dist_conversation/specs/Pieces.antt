-- THE PIECES in which the bytes of both sides came.
use Rattle.std.specs.Prelude.{ℕ, ◌+◌, ◌&&◌, Bool, if◌then◌else◌, nat_le, List, [], ◌∷◌}
use Rattle.dist_messages.specs.declared.message.Side.{Side}
use Rattle.dist_talk.specs.{Ended.same_side, Speaking.other_side}
use Rattle.dist_conversation.specs.declared.pieces.Arrival.{Arrival}

-- a piece, if the other side is found to have dialled
abbrev pub turned : Arrival → Arrival
turned p = record p { side = other_side p.side }

-- so many bytes of this side are there with a piece
abbrev pub has_bytes : Side → ℕ → Arrival → Bool
has_bytes side count p = same_side p.side side && nat_le count p.until

-- when so many bytes of a side were there: the time of the first such piece
abbrev pub time_in : Side → ℕ → List Arrival → ℕ
time_in side count [] = 0
time_in side count (p ∷ rest) = if has_bytes side count p then p.at else time_in side count rest

-- and its place
abbrev pub place_in : Side → ℕ → List Arrival → ℕ
place_in side count [] = 0
place_in side count (p ∷ rest) = if has_bytes side count p then 0 else place_in side count rest + 1
