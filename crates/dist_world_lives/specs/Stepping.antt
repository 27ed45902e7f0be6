-- What an incarnation that gets an event makes of it.
use Rattle.std.specs.Prelude.{◌≡◌, ℕ, Bool, true, slice_get, List, [], Option, Some, None, Result, Ok, Err}
use Rattle.std.specs.Option.{option_map}
use Rattle.dist_peers.specs.declared.entry.EndId.{EndId}
use Rattle.dist_core.specs.{Node.NodeState, Answers.Refuses}
use Rattle.dist_core.specs.declared.{event.Event.Event, reply.Reply.Reply, reply.Note.Note, step_error.StepError.StepError}
use Rattle.dist_core.specs.declared.reply.Note.TheVariants as note
use Rattle.dist_messages.specs.declared.message.Side.{Side}
use Rattle.dist_core_ends.specs.declared.why.Why.{Why}
use Rattle.dist_world_model.specs.Rows.{EndRow, peer_by, once, takes_name, says_reply, rows_after}
use Rattle.dist_world_model.specs.{Lists.at_place, World.Life, World.Conn, Delivery.says, Happenings.life_after, Happenings.shut_row}
use Rattle.dist_world_lives.specs.{Wires.undelivered_by, Wires.with_undelivered, declared.stepping.LifeStep.LifeStep}

-- ---- the rows that a reply changes, one by one

-- what a reply writes in the row of the event's own end
abbrev pub own_row : ℕ → Note → Bool → EndRow → EndRow
own_row t n up row = record row {
  peer = peer_by n row.peer;
  named = once (takes_name n) t row.named;
  replied = once (says_reply n) t row.replied;
  rose = once up t row.rose;
}

abbrev pub doomed_row : ℕ → EndRow → EndRow
doomed_row t row = record row { doomed = once true t row.doomed }

abbrev pub rows_shut : ℕ → Option (EndId × Why) → List EndRow → List EndRow
rows_shut t None rows = rows
rows_shut t (Some x) rows = at_place (let y = x.0 in y.0) (shut_row t) rows

abbrev pub rows_doomed : ℕ → Option EndId → List EndRow → List EndRow
rows_doomed t None rows = rows
rows_doomed t (Some x) rows = at_place x.0 (doomed_row t) rows

-- the end that a name made doomed
abbrev pub doomed_end : Note → Option EndId
doomed_end note.Nothing = None
doomed_end (note.NameTaken p x) = x
doomed_end note.ReplySaid = None

-- ---- an event

-- what is left of a reply
abbrev pub life_step_of : Reply → LifeStep
life_step_of r = record { end_ = r.end_; closed = r.closed }

-- which side of which connection the end of this row is
abbrev pub wire_of : Option EndRow → Option (Side × ℕ)
wire_of None = None
wire_of (Some row) = option_map (λ c. (row.side, c)) row.conn

-- the connections once this was sent there
abbrev pub conns_after : List Conn → Option (Side × ℕ) → List ℕ → List Conn
conns_after cs None s = cs
conns_after cs (Some x) s = at_place x.1 (says x.0 s) cs

-- what was sent there and is undelivered
abbrev pub undelivered_on : List Conn → Option (Side × ℕ) → List ℕ
undelivered_on cs None = []
undelivered_on cs (Some x) = undelivered_by x.0 (slice_get cs x.1)

-- the connections where these bytes are all that was sent there and is undelivered
abbrev pub conns_with : List Conn → Option (Side × ℕ) → List ℕ → List Conn
conns_with cs None bytes = cs
conns_with cs (Some x) bytes = at_place x.1 (with_undelivered x.0 bytes) cs

-- the step was made, and what it says is on its way
abbrev pub HasSent : Reply → Result (Reply × NodeState) StepError → NodeState → Option (Side × ℕ) → List Conn → List Conn → Type 0
HasSent r s n wire x y = (s ≡ Ok (r, n)) × (y ≡ conns_after x wire r.say)

-- the step was made, its reply written down, and what it says is on its way
abbrev pub HasMadeStep : LifeStep → Result (Reply × NodeState) StepError → ℕ → Event → NodeState → List EndRow → List EndRow
    → Option (Side × ℕ) → List Conn → List Conn → Type 0
HasMadeStep h s t v n rows new wire x y = (r : Reply) × (s ≡ Ok (r, n)) × (h ≡ life_step_of r) × (new ≡ rows_after t v r rows) × (y ≡ conns_after x wire r.say)

-- THE STEP WAS MADE, and what the reply says is sent on this side of a connection, or the event was refused and nothing changed
abbrev pub IsLifeStep : Result LifeStep StepError → Result (Reply × NodeState) StepError → ℕ → Event → Life → Life
    → Option (Side × ℕ) → List Conn → List Conn → Type 0
IsLifeStep (Ok h) s t v l m wire x y =
    (r : Reply) × (n : NodeState) × (s ≡ Ok (r, n)) × (h ≡ life_step_of r) × (m ≡ life_after t v r n l) × (y ≡ conns_after x wire r.say)
IsLifeStep (Err e) s t v l m wire x y = Refuses e s × (m ≡ l) × (y ≡ x)
