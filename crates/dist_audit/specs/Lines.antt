-- THE LINES OF ALL HISTORIES, in the order of their tickets.
use Rattle.std.specs.Prelude.{ℕ, suc, Bool, false, List, [], ◌∷◌, ◌++◌}
use Rattle.std.specs.List.Sorted.{IsPermutation, IsNonDecreasingBy}
use Rattle.dist_locked_book.specs.declared.{line.Line.Line, closing.Closed.Closed}

-- a line, whose it is (the place of its node among all), and whether somebody outside, who is none of these nodes, did what it says
pub record NodeLine : Type 0 where
  pub node : ℕ
  pub line : Line
  pub outside : Bool

-- this line of node i, by whether somebody outside did it
abbrev pub line_of_node : ℕ → Line → Bool → NodeLine
line_of_node i l outside = record { node = i; line = l; outside = outside }

-- its ticket
abbrev pub ticket_of : NodeLine → ℕ
ticket_of t = let l = t.line in l.ticket

-- the lines of node i, none of which is known to be somebody's outside
abbrev pub lines_at : ℕ → List Line → List NodeLine
lines_at i [] = []
lines_at i (l ∷ ls) = line_of_node i l false ∷ lines_at i ls

-- the lines of these nodes, of which the first is node i
abbrev pub lines_from : ℕ → List Closed → List NodeLine
lines_from i [] = []
lines_from i (c ∷ cs) = lines_at i (let h = c.history in h.items) ++ lines_from (suc i) cs

-- all lines, node by node
abbrev pub lines_by_node : List Closed → List NodeLine
lines_by_node cs = lines_from 0 cs

-- THESE ARE ALL LINES, IN THE ORDER OF THEIR TICKETS
pub record AreLinesOf (cs : List Closed) (ts : List NodeLine) : Type 0 where
  -- each line of each node, as often as it stands there, and no other
  pub all : IsPermutation (lines_by_node cs) ts
  -- no ticket is greater than a later one
  pub order : IsNonDecreasingBy ticket_of ts
