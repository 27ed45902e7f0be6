-- The row of an end: what stays of it for ever.
use Rattle.std.specs.Prelude.{if◌then◌else◌, ◌==◌, ◌&&◌, ◌||◌}
use Rattle.dist_world_model.specs.Words.{ℕ, Bool, List, Option, Some, None, option_map, true, false, not, nat_lt, Name, EndId}
use Rattle.dist_world_model.specs.Words.{Side, Dialler, Acceptor, Event, Why, UpRecord, Reply, Kind, Out, In, Up, Claim}
use Rattle.dist_world_model.specs.Lists.{at_each, add_some}
use Rattle.dist_core.specs.declared.event.Event.TheVariants as event
use Rattle.dist_core.specs.declared.reply.Note.{Note}
use Rattle.dist_core.specs.declared.reply.Note.TheVariants as note

-- THE ROW OF AN END: its side, peer and connection of the world, where it has one, and the numbers of the happenings at which it was
-- given out, took a name, was doomed, sent its reply, came up, was closed
pub record EndRow : Type 0 where
  pub side : Side
  pub peer : Option Name
  pub conn : Option ℕ
  pub given : ℕ
  pub named : Option ℕ
  pub doomed : Option ℕ
  pub replied : Option ℕ
  pub rose : Option ℕ
  pub closed : Option ℕ

-- the row of an end that was given out at number t
abbrev pub new_row : Side → Option Name → Option ℕ → ℕ → EndRow
new_row side peer conn t = record { side = side; peer = peer; conn = conn; given = t; named = None; doomed = None; replied = None; rose = None; closed = None }

-- how many connections of a world there may be: 2 ^ 48 (our own choice)
abbrev pub most_connections : ℕ
most_connections = 281474976710656

-- THE CONNECTION BEHIND A LINK: a number below that is a connection of the world, any other one is somebody's outside
abbrev pub conn_behind : ℕ → Option ℕ
conn_behind link = if nat_lt link most_connections then Some link else None

-- the row of the end that an event gives out
abbrev pub given_by : ℕ → Event → Option EndRow
given_by t (event.Dial p o) = Some (new_row Dialler (Some p) None t)
given_by t (event.Incoming link) = Some (new_row Acceptor None (conn_behind link) t)
given_by t _ = None

-- ---- what a reply writes

-- the note reports a name taken
abbrev pub takes_name : Note → Bool
takes_name (note.NameTaken p x) = true
takes_name _ = false

-- the note reports a reply sent
abbrev pub says_reply : Note → Bool
says_reply note.ReplySaid = true
says_reply _ = false

-- the end is that of number i
abbrev pub is_end : ℕ → Option EndId → Bool
is_end i None = false
is_end i (Some x) = x.0 == i

-- the note reports end i as doomed
abbrev pub dooms : Note → ℕ → Bool
dooms (note.NameTaken p x) i = is_end i x
dooms _ i = false

-- the reply reports end i as closed
abbrev pub shuts_end : Option (EndId × Why) → ℕ → Bool
shuts_end None i = false
shuts_end (Some x) i = let y = x.0 in y.0 == i

-- the end came up
abbrev pub rises : Option UpRecord → Bool
rises None = false
rises (Some r) = true

-- the peer after this note
abbrev pub peer_by : Note → Option Name → Option Name
peer_by (note.NameTaken p x) old = Some p
peer_by _ old = old

-- a number once written stays
abbrev pub once : Bool → ℕ → Option ℕ → Option ℕ
once b t (Some n) = Some n
once b t None = if b then Some t else None

-- a row after a reply at number t, by whether it is the event's own end, is doomed, is closed
abbrev pub row_after : ℕ → Bool → Bool → Bool → Reply → EndRow → EndRow
row_after t own doomed closed r row = record {
  side = row.side;
  peer = if own && takes_name r.note then peer_by r.note row.peer else row.peer;
  conn = row.conn;
  given = row.given;
  named = once (own && takes_name r.note) t row.named;
  doomed = once doomed t row.doomed;
  replied = once (own && says_reply r.note) t row.replied;
  rose = once (own && rises r.up) t row.rose;
  closed = once closed t row.closed;
}

-- what the reply r at number t writes in row i
abbrev pub mark : ℕ → Reply → ℕ → EndRow → EndRow
mark t r i row = row_after t (r.end_.0 == i) (dooms r.note i) (shuts_end r.closed i) r row

-- the rows after an event at number t whose reply is r
abbrev pub rows_after : ℕ → Event → Reply → List EndRow → List EndRow
rows_after t v r rows = at_each 0 (mark t r) (add_some rows (given_by t v))

-- ---- what a row says of a moment

-- it happened before number t
abbrev pub past : ℕ → Option ℕ → Bool
past t None = false
past t (Some n) = nat_lt n t

-- how an end of this side holds its peer, by whether it came up
abbrev pub kind_by : Side → Bool → Kind
kind_by side true = Up
kind_by Dialler false = Out
kind_by Acceptor false = In

-- an end of this side holds its peer from when it was given out or took the name
abbrev pub holds_peer : Side → Bool → Bool → Bool
holds_peer Dialler given named = given
holds_peer Acceptor given named = named

-- whether it had entered, and left, and risen
abbrev pub claim_when : Side → Option Name → Bool → Bool → Bool → Option Claim
claim_when side p there left risen = if there && not left then option_map (λ q. record { peer = q; kind = kind_by side risen }) p else None

-- WHAT AN END HELD JUST BEFORE NUMBER t: a dialled end holds its peer once it is given out, an accepted one once it took
-- the name, and each until it is doomed or closed
abbrev pub claim_before : ℕ → EndRow → Option Claim
claim_before t row =
    claim_when row.side row.peer (holds_peer row.side (nat_lt row.given t) (past t row.named)) (past t row.doomed || past t row.closed) (past t row.rose)
