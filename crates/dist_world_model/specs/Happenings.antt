-- ONE HAPPENING OF THE WORLD.
use Rattle.std.specs.{Prelude.if◌then◌else◌, Prelude.◌∷◌, Prelude.◌++◌, Prelude.◌&&◌, Prelude.◌+◌, Result.result_ok}
use Rattle.dist_world_model.specs.Words.{ℕ, Bool, List, [], Option, Some, None, option_map, true, false, nat_lt, EndId, Event, Reply, slice_get, Setup, End}
use Rattle.dist_world_model.specs.Words.{NodeState, w16, length, is_none, option_and_then, Creation, first_body, Change, is_open, is_dialing, change, step}
use Rattle.dist_world_model.specs.Words.{opening, same_name, Happening}
use Rattle.dist_world_model.specs.World.{World, Life, Conn, runs, running, row_at, end_at}
use Rattle.dist_world_model.specs.Delivery.{empty_text, after_delivery, body_taken, text_to, change_to, conns_after_saying}
use Rattle.dist_world_model.specs.{Lists.at_place, Rows.EndRow, Rows.rows_after, Rows.once, Rows.most_connections, Rows.conn_behind}
use Rattle.dist_world_model.specs.declared.happening.Happening.TheVariants as happening
use Rattle.dist_core.specs.declared.event.Event.TheVariants as event

-- Each happening is one `do` block. A line with an arrow names a thing that must be there; a line that is a test must hold;
-- the last one is the world afterwards. Where a thing is not there or a test does not hold, the happening does not apply.

-- what follows, where this is there
infixl 10 ◌>>=◌
abbrev pub ◌>>=◌ : {A B : Type 0} → Option A → (A → Option B) → Option B
o >>= f = option_and_then f o

-- what follows, where this test holds
infixl 10 ◌>>◌
abbrev pub ◌>>◌ : {A : Type 0} → Bool → Option A → Option A
test >> o = if test then o else None

-- ---- the limits of a world (our own choice)

-- how many times nodes may begin: 2 ^ 48
abbrev pub most_begins : ℕ
most_begins = 281474976710656

-- how many happenings may apply
abbrev pub most_applied : ℕ
most_applied = 4611686018427387904

-- ---- an event of a node

-- an incarnation after an event at number t
abbrev pub life_after : ℕ → Event → Reply → NodeState → Life → Life
life_after t v r n l = record l { node = n; rows = rows_after t v r l.rows }

-- INCARNATION i GETS AN EVENT: it runs and its step succeeds; what the reply says is appended to the connection of the
-- end that it names
abbrev pub notify : World → ℕ → Event → ℕ → Option World
notify w i v fresh = do
  life ← slice_get w.lives i
  runs life
  (reply, node) ← result_ok (step life.node v fresh)
  let after = life_after w.clock v reply node life
  Some (record w {
    lives = at_place i (λ old. after) w.lives;
    conns = conns_after_saying w.conns (slice_get after.rows reply.end_.0) reply.say;
    last_closed = option_map (λ closed. (life.who, closed)) reply.closed;
  })

-- DIAL, TICK, LOSE: a running node gets this event
abbrev pub notify_node : World → ℕ → Event → Option World
notify_node w node v = do
  i ← running w node
  notify w i v 0

-- ---- beginning and end

-- an empty node with this setup and this creation
abbrev pub new_life : ℕ → ℕ → Setup → Creation → Life
new_life i t s c = record { who = i; begun = t; over = None; node = opening (record s { creation = c }); rows = [] }

-- BEGIN: a node that does not run begins a new incarnation with this creation
abbrev pub begin : World → ℕ → Creation → Option World
begin w node creation = do
  setup ← slice_get w.setups node
  is_none (running w node)
  nat_lt (length w.lives) most_begins
  Some (record w { lives = w.lives ++ new_life node w.clock setup creation ∷ [] })

-- BEGIN AS: a node that does not run begins a new incarnation with this setup, where that has its name
abbrev pub begin_as : World → ℕ → Setup → Option World
begin_as w node setup = do
  own ← slice_get w.setups node
  is_none (running w node)
  nat_lt (length w.lives) most_begins
  same_name setup.name own.name
  Some (record w { lives = w.lives ++ new_life node w.clock setup setup.creation ∷ [] })

-- the row of an end that is closed, where it was not
abbrev pub shut_row : ℕ → EndRow → EndRow
shut_row t row = record row { closed = once true t row.closed }

-- all rows so
abbrev pub shut_all : ℕ → List EndRow → List EndRow
shut_all t [] = []
shut_all t (row ∷ rows) = shut_row t row ∷ shut_all t rows

-- all its ends are closed, and the incarnation is over
abbrev pub life_after_end : ℕ → Life → Life
life_after_end t l = record l { over = Some t; rows = shut_all t l.rows }

-- HALT: a running node ends
abbrev pub halt : World → ℕ → Option World
halt w node = do
  i ← running w node
  Some (record w { lives = at_place i (life_after_end w.clock) w.lives })

-- ---- a change of setup

-- the same incarnation of this node
abbrev pub with_node : NodeState → Life → Life
with_node n l = record l { node = n }

-- RESET: a running node changes its cookies or the peers that may connect, where the change is not refused
abbrev pub reset : World → ℕ → Change → Option World
reset w node v = do
  i ← running w node
  life ← slice_get w.lives i
  changed ← result_ok (change life.node v)
  Some (record w { lives = at_place i (with_node changed) w.lives })

-- ---- connections

-- the connection of a row
abbrev pub conn_of : Option EndRow → Option ℕ
conn_of None = None
conn_of (Some row) = row.conn

-- the row with this connection
abbrev pub reached_row : ℕ → EndRow → EndRow
reached_row c row = record row { conn = Some c }

-- the incarnation with this connection in the row of an end
abbrev pub reached_life : ℕ → ℕ → Life → Life
reached_life id c l = record l { rows = at_place id (reached_row c) l.rows }

-- a connection on which nothing was sent
abbrev pub new_conn : ℕ → ℕ → ℕ → Conn
new_conn i id j = record { life = i; dialler = id; target = j; accepted = None; there = empty_text; back = empty_text }

-- REACH: a dialled end without a connection gets the next one, which leads to the running incarnation of the target,
-- another node or its own
abbrev pub reach : World → ℕ → EndId → ℕ → Option World
reach w node id target = do
  i ← running w node
  j ← running w target
  is_dialing (end_at w i id.0) && is_none (conn_of (row_at w i id.0)) && nat_lt (length w.conns) most_connections
  Some (record w {
    lives = at_place i (reached_life id.0 (length w.conns)) w.lives;
    conns = w.conns ++ new_conn i id.0 j ∷ [];
  })

-- OPENED: an end that has a connection learns of it
abbrev pub notify_opened : World → ℕ → EndId → Option World
notify_opened w node id = do
  i ← running w node
  c ← conn_of (row_at w i id.0)
  notify w i (event.Opened id c) 0

-- the number that the next end of an incarnation has
abbrev pub next_end : Option Life → ℕ
next_end None = 0
next_end (Some l) = length l.node.ends

-- the connection with its accepted end
abbrev pub accepted_by : ℕ → Conn → Conn
accepted_by y c = record c { accepted = Some y }

-- ACCEPT: a connection that was not accepted yet comes to the incarnation that it leads to, as that incarnation's next end
abbrev pub accept : World → ℕ → Option World
accept w c = do
  conn ← slice_get w.conns c
  is_none conn.accepted
  let id = next_end (slice_get w.lives conn.target)
  notify (record w { conns = at_place c (accepted_by id) w.conns }) conn.target (event.Incoming c) 0

-- ---- what comes to an end, and what it takes

-- there is such an end, and it is open
abbrev pub is_open_end : Option End → Bool
is_open_end None = false
is_open_end (Some e) = is_open e

-- it has an item
abbrev pub is_nonempty : List ℕ → Bool
is_nonempty [] = false
is_nonempty (x ∷ xs) = true

-- DELIVER: the next k bytes of what the other side said come to an open end, or those that are left, at least one
abbrev pub deliver : World → ℕ → EndId → ℕ → Option World
deliver w node id k = do
  i ← running w node
  is_open_end (end_at w i id.0)
  row ← row_at w i id.0
  c ← row.conn
  conn ← slice_get w.conns c
  let text = text_to row.side conn
  nat_lt 0 k && is_nonempty text.said
  Some (record w { conns = at_place c (change_to row.side (after_delivery k)) w.conns })

-- TAKE: an end takes the first whole frame of what came, and gets its body as it is read, with the challenge that was drawn
-- for it
abbrev pub take_read : (List ℕ → List ℕ) → World → ℕ → EndId → ℕ → Option World
take_read reading w node id fresh = do
  i ← running w node
  row ← row_at w i id.0
  c ← row.conn
  conn ← slice_get w.conns c
  let text = text_to row.side conn
  body ← first_body w16 text.come
  notify (record w { conns = at_place c (change_to row.side body_taken) w.conns }) i (event.Frame id (reading body)) fresh

-- as it came
abbrev pub take_frame : World → ℕ → EndId → ℕ → Option World
take_frame = take_read (λ body. body)

-- ---- somebody outside

-- the event comes from outside: a connection that is none of the world, or what is told of an end that has none
abbrev pub is_outside : World → ℕ → Event → Bool
is_outside w i (event.Incoming link) = is_none (conn_behind link)
is_outside w i (event.Opened id link) = is_none (conn_of (row_at w i id.0))
is_outside w i (event.Frame id body) = is_none (conn_of (row_at w i id.0))
is_outside w i v = false

-- OUTSIDE: a running node gets such an event: somebody who is no node of this world connects, is reached, or sends any frame.
-- What the end then says goes to nobody here
abbrev pub notify_outside : World → ℕ → Event → ℕ → Option World
notify_outside w node v fresh = do
  i ← running w node
  is_outside w i v
  notify w i v fresh

-- ---- THE HAPPENINGS

-- the world after one that applies, but for the clock
abbrev pub world_after : World → Happening → Option World
world_after w (happening.Begin node creation) = begin w node creation
world_after w (happening.BeginAs node setup) = begin_as w node setup
world_after w (happening.Halt node) = halt w node
world_after w (happening.Dial node peer opening) = notify_node w node (event.Dial peer opening)
world_after w (happening.Tick node id) = notify_node w node (event.Tick id)
world_after w (happening.Reach node id target) = reach w node id target
world_after w (happening.Opened node id) = notify_opened w node id
world_after w (happening.Accept c) = accept w c
world_after w (happening.Deliver node id k) = deliver w node id k
world_after w (happening.Take node id fresh) = take_frame w node id fresh
world_after w (happening.Lose node id why) = notify_node w node (event.Lost id why)
world_after w (happening.Reset node v) = reset w node v
world_after w (happening.Outside node v fresh) = notify_outside w node v fresh

-- nothing is known of the last step
abbrev pub without_closing : World → World
without_closing w = record w { last_closed = None }

-- the world once a happening did this, or did not apply
abbrev pub ticked_on : World → Option World → World
ticked_on w None = w
ticked_on w (Some x) = record x { clock = w.clock + 1 }

-- the world after a happening, where there is room for one more
abbrev pub applied_at : World → Happening → Option World
applied_at w h = if nat_lt w.clock most_applied then world_after (without_closing w) h else None

-- ONE HAPPENING; one that does not apply changes nothing
abbrev pub happens : World → Happening → World
happens w h = ticked_on w (applied_at w h)
