-- A reader that is never linked, as the bytes that came and are not taken.
use Rattle.std.specs.Prelude.{ℕ, List, []}
use Rattle.dist_frames.specs.Reader.{Reader, Short, Linked}

-- those bytes
abbrev pub come_of : Reader → List ℕ
come_of (Short pending) = pending
come_of (Linked ended rest) = []

-- the reader was not linked
abbrev pub IsShort : Reader → Type 0
IsShort (Short pending) = Unit {0}
IsShort (Linked ended rest) = ⊥
