-- THE HAPPENINGS OF HISTORIES.
use Rattle.std.specs.Prelude.{ℕ, ◌+◌, suc, Bool, List, [], ◌∷◌, ◌++◌, length, Option, Some, None, if◌then◌else◌, option_to_list}
use Rattle.dist_peers.specs.declared.entry.EndId.{EndId}
use Rattle.dist_core_setup.specs.declared.setup.Setup.{Setup}
use Rattle.dist_core.specs.declared.event.Event.{Event}
use Rattle.dist_core.specs.declared.event.Event.TheVariants as event
use Rattle.dist_locked_book.specs.declared.closing.Closed.{Closed}
use Rattle.dist_world_model.specs.{declared.happening.Happening.Happening, Rows.most_connections}
use Rattle.dist_world_model.specs.declared.happening.Happening.TheVariants as happening
use Rattle.dist_audit.specs.Lines.{NodeLine}
use Rattle.dist_audit.specs.Links.{inner_link, dialler_of, acceptor_of, target_of, is_among, mention, conn_of}

-- what all nodes were set up with
abbrev pub setups_of : List Closed → List Setup
setups_of [] = []
setups_of (c ∷ cs) = (let n = c.node in n.setup) ∷ setups_of cs

-- each node begins, with its setup's creation
abbrev pub begins : ℕ → List Setup → List Happening
begins i [] = []
begins i (s ∷ ss) = happening.Begin i s.creation ∷ begins (suc i) ss

-- the dialling end reaches the node to which the link comes
abbrev pub reach : List NodeLine → ℕ → ℕ → Option (ℕ × EndId) → Option Happening
reach all count k None = None
reach all count k (Some x) = Some (happening.Reach x.0 x.1 (target_of count x.0 (acceptor_of k all)))

-- at the first mention of a link
abbrev pub reach_first : List NodeLine → ℕ → List ℕ → ℕ → Option Happening
reach_first all count ks k = if is_among k ks then None else reach all count k (dialler_of k all)

-- WHAT HAPPENS BEFORE A LINE: of all these lines, with this many nodes, where these links were mentioned before; nothing before
-- what somebody outside did
abbrev pub before : List NodeLine → ℕ → List ℕ → Bool → ℕ → Event → Option Happening
before all count ks outside i (event.Dial p o) = None
before all count ks outside i (event.Opened id k) = if outside then None else reach_first all count ks k
before all count ks outside i (event.Incoming k) = if outside then None else reach_first all count ks k
before all count ks outside i (event.Frame id body) = if outside then None else Some (happening.Deliver i id (2 + length body))
before all count ks outside i (event.Lost id w) = None
before all count ks outside i (event.Tick id) = None

-- THE HAPPENING OF A LINE of node i, where these links were mentioned, its own among them, by whether somebody outside did it. A
-- connection that then comes has a number that is none of the world.
abbrev pub own : List ℕ → Bool → ℕ → Event → ℕ → Happening
own ks outside i (event.Dial p o) fresh = happening.Dial i p o
own ks outside i (event.Opened id k) fresh = if outside then happening.Outside i (event.Opened id k) fresh else happening.Opened i id
own ks outside i (event.Incoming k) fresh =
    if outside then happening.Outside i (event.Incoming most_connections) fresh else happening.Accept (conn_of k ks)
own ks outside i (event.Frame id body) fresh =
    if outside then happening.Outside i (event.Frame id body) fresh else happening.Take i id fresh
own ks outside i (event.Lost id w) fresh = happening.Lose i id w
own ks outside i (event.Tick id) fresh = happening.Tick i id

-- the links mentioned, those of this line among them
abbrev pub with_mentions : List ℕ → NodeLine → List ℕ
with_mentions ks t = let l = t.line in mention ks (inner_link t.outside l.event)

-- what happens before this line
abbrev pub ahead : List NodeLine → ℕ → List ℕ → NodeLine → Option Happening
ahead all count ks t = let l = t.line in before all count ks t.outside t.node l.event

-- the happening of this line
abbrev pub itself : List ℕ → NodeLine → Happening
itself ks t = let l = t.line in own (with_mentions ks t) t.outside t.node l.event l.fresh

-- what happens for these lines, in turn
abbrev pub of_lines : List NodeLine → ℕ → List ℕ → List NodeLine → List Happening
of_lines all count ks [] = []
of_lines all count ks (t ∷ ts) = option_to_list (ahead all count ks t) ++ (itself ks t ∷ of_lines all count (with_mentions ks t) ts)

-- THE HAPPENINGS OF HISTORIES that have these lines, in this order: each node begins, and then each line happens
abbrev pub happenings : List Closed → List NodeLine → List Happening
happenings cs ts = begins 0 (setups_of cs) ++ of_lines ts (length cs) [] ts
