-- LINKS: the numbers by which those who carried a connection knew it.
use Rattle.std.specs.Prelude.{ℕ, suc, ◌==◌, Bool, true, false, nat_lt, if◌then◌else◌, List, [], ◌∷◌, ◌++◌, Option, Some, None}
use Rattle.std.specs.List.{list_any}
use Rattle.dist_peers.specs.declared.entry.EndId.{EndId}
use Rattle.dist_core.specs.declared.event.Event.{Event}
use Rattle.dist_core.specs.declared.event.Event.TheVariants as event
use Rattle.dist_audit.specs.Lines.{NodeLine}

-- the link that an event mentions
abbrev pub link_in : Event → Option ℕ
link_in (event.Opened id k) = Some k
link_in (event.Incoming k) = Some k
link_in _ = None

-- the link of a connection between these nodes that an event mentions, by whether somebody outside did it
abbrev pub inner_link : Bool → Event → Option ℕ
inner_link true e = None
inner_link false e = link_in e

-- the dialling end learns of this link
abbrev pub opens : ℕ → Event → Bool
opens k (event.Opened id j) = j == k
opens k _ = false

-- this link comes to a node
abbrev pub comes : ℕ → Event → Bool
comes k (event.Incoming j) = j == k
comes k _ = false

-- the event is of this link
abbrev pub mentions : ℕ → Event → Bool
mentions k (event.Opened id j) = j == k
mentions k (event.Incoming j) = j == k
mentions k _ = false

-- in the line the dialling end learns of this link
abbrev pub opens_in : ℕ → NodeLine → Bool
opens_in k t = let l = t.line in opens k l.event

-- in the line this link comes to a node
abbrev pub comes_in : ℕ → NodeLine → Bool
comes_in k t = let l = t.line in comes k l.event

-- the dialled end that learns of this link
abbrev pub dialled_end : ℕ → Event → Option EndId
dialled_end k (event.Opened id j) = if j == k then Some id else None
dialled_end k _ = None

-- the dialled end that learns of this link in the line
abbrev pub dialled_in : ℕ → NodeLine → Option EndId
dialled_in k t = let l = t.line in dialled_end k l.event

-- node i and this end, or else what there is
abbrev pub or_else : ℕ → Option EndId → Option (ℕ × EndId) → Option (ℕ × EndId)
or_else i None other = other
or_else i (Some id) other = Some (i, id)

-- the node and the end that learned of the link when they had dialled
abbrev pub dialler_of : ℕ → List NodeLine → Option (ℕ × EndId)
dialler_of k [] = None
dialler_of k (t ∷ ts) = or_else t.node (dialled_in k t) (dialler_of k ts)

-- the node to which the link came
abbrev pub acceptor_of : ℕ → List NodeLine → Option ℕ
acceptor_of k [] = None
acceptor_of k (t ∷ ts) = if comes_in k t then Some t.node else acceptor_of k ts

-- of this many nodes the first other than node i, or node i where there is no other
abbrev pub first_other : ℕ → ℕ → ℕ
first_other count i = if i == 0 then (if nat_lt 1 count then 1 else 0) else 0

-- where a link leads to: the node to which it came, or one that is not known to have seen it
abbrev pub target_of : ℕ → ℕ → Option ℕ → ℕ
target_of count i (Some j) = j
target_of count i None = first_other count i

-- the link is among those
abbrev pub is_among : ℕ → List ℕ → Bool
is_among k ks = list_any (λ j. j == k) ks

-- the links mentioned so far and one more event: each once, in the order of their first mentions
abbrev pub mention : List ℕ → Option ℕ → List ℕ
mention ks None = ks
mention ks (Some k) = if is_among k ks then ks else ks ++ k ∷ []

-- THE NUMBER OF A CONNECTION is the place of its link among those mentioned
abbrev pub conn_of : ℕ → List ℕ → ℕ
conn_of k [] = 0
conn_of k (j ∷ js) = if j == k then 0 else suc (conn_of k js)
