-- WHAT SOMEBODY OUTSIDE DID: the lines of connections that are not known to be between two of these nodes.
use Rattle.std.specs.Prelude.{ℕ, ◌+◌, ◌*◌, ◌==◌, ◌&&◌, ◌||◌, Bool, false, not, is_some, List, [], ◌∷◌, Option, Some, None}
use Rattle.std.specs.List.{list_any}
use Rattle.dist_peers.specs.declared.entry.EndId.{EndId}
use Rattle.dist_core_ends.specs.Change.{one_if}
use Rattle.dist_core.specs.declared.event.Event.{Event}
use Rattle.dist_core.specs.declared.event.Event.TheVariants as event
use Rattle.dist_audit.specs.{Lines.NodeLine, Links.link_in, Links.mentions, Links.dialler_of, Links.acceptor_of, Faults.repeats}

-- this link stands in two lines of one kind
abbrev pub stands_twice : ℕ → List NodeLine → Bool
stands_twice k [] = false
stands_twice k (t ∷ ts) = let l = t.line in (repeats l.event ts && mentions k l.event) || stands_twice k ts

-- the link is that of a connection between two of these nodes: dialled in one line, and come in one line
abbrev pub is_paired : List NodeLine → ℕ → Bool
is_paired all k = is_some (dialler_of k all) && is_some (acceptor_of k all) && not (stands_twice k all)

-- there is a link, and it is not one of these
abbrev pub is_strange : List NodeLine → Option ℕ → Bool
is_strange all None = false
is_strange all (Some k) = not (is_paired all k)

-- the number of an end of node i among the ends of all nodes: the end's own is below 2 ^ 32
abbrev pub end_number : ℕ → EndId → ℕ
end_number i id = i * 4294967296 + id.0

-- the line is of such a link, and of the end of this number
abbrev pub is_strange_at : List NodeLine → ℕ → NodeLine → Bool
is_strange_at all n t = let l = t.line in let r = l.reply in is_strange all (link_in l.event) && (end_number t.node r.end_ == n)

-- what happened at node i is what somebody outside did: the event is of such a link, or is a frame at an end of such a link
abbrev pub is_done_outside : List NodeLine → ℕ → Event → Bool
is_done_outside all i (event.Frame id body) = list_any (is_strange_at all (end_number i id)) all
is_done_outside all i e = is_strange all (link_in e)

-- the line, by whether that is so
abbrev pub marked_line : List NodeLine → NodeLine → NodeLine
marked_line all t = let l = t.line in record t { outside = is_done_outside all t.node l.event }

-- these lines, each so
abbrev pub marked_lines : List NodeLine → List NodeLine → List NodeLine
marked_lines all [] = []
marked_lines all (t ∷ ts) = marked_line all t ∷ marked_lines all ts

-- ALL LINES, each by whether somebody outside did what it says
abbrev pub with_marks : List NodeLine → List NodeLine
with_marks all = marked_lines all all

-- in the line a connection with somebody outside comes to be
abbrev pub meets_stranger : NodeLine → Bool
meets_stranger t = let l = t.line in t.outside && is_some (link_in l.event)

-- HOW MANY CONNECTIONS WERE WITH SOMEBODY OUTSIDE
abbrev pub strangers : List NodeLine → ℕ
strangers [] = 0
strangers (t ∷ ts) = one_if (meets_stranger t) + strangers ts
