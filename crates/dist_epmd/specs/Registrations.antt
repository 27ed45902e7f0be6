-- Which nodes are registered with the port mapper, and what it answers.
use Rattle.std.specs.Prelude.{◌≡◌, ◌≢◌, ℕ, ◌+◌, ◌%◌, ◌^◌, ◌<◌, ◌≤◌, Bool, ◌&&◌, not, nat_lt, nat_le, ◌==◌, if◌then◌else◌, List, [], ◌∷◌, ◌++◌, length}
use Rattle.std.specs.Prelude.{codes, decimal, filter, find, insert, flat_map, Option, option_map}
use Rattle.std.specs.List.{list_all, list_any, position_or_len, AllByRecursion}
use Rattle.std.specs.{Int.w32, Str.bytes_eq, Ordering.nat_cmp, Ordering.is_lt, Cmp.Lexicographic.slice_cmp, declared.cmp.Ordering.TheVariants.Less}
use Rattle.dist_names.specs.Bytes.{is_visible, number}
use Rattle.dist_epmd.specs.declared.{message.NodeInfo.NodeInfo, message.Answer.Answer, row.Row.Row}
use Rattle.dist_epmd.specs.declared.message.Answer.TheVariants as answer

-- THE REGISTRATIONS of a port mapper
pub record Registrations : Type 0 where
  -- the port mapper's own port
  pub port : ℕ
  -- the creation that is given next
  pub next : ℕ
  -- the accepted registrations whose connections are not closed, in byte order of their names
  pub rows : List Row

-- a port mapper at this port, without nodes, and with the creation that is given first
abbrev pub opening : ℕ → ℕ → Registrations
opening port first = record { port = port; next = first; rows = [] }

-- ---- which registrations are accepted

-- a printable ASCII character, and neither a space nor '@'
abbrev pub is_short_byte : ℕ → Bool
is_short_byte byte = is_visible byte && not (byte == 0x40)

-- the part of a node's name before the '@'
abbrev pub is_short_name : List ℕ → Bool
is_short_name name = nat_lt 0 (length name) && (nat_le (length name) 255 && list_all is_short_byte name)

-- the row is that of this name
abbrev pub is_named : List ℕ → Row → Bool
is_named name row = bytes_eq row.info.name name

-- the row is that of this connection
abbrev pub is_of : ℕ → Row → Bool
is_of conn row = row.conn == conn

-- the row is that of this connection, and of this name
abbrev pub is_own : ℕ → List ℕ → Row → Bool
is_own conn name row = is_of conn row && is_named name row

-- WHICH REGISTRATIONS ARE ACCEPTED: the name is good and not registered, nor is the connection; there is room, and a creation left
abbrev pub is_accepted : ℕ → NodeInfo → Registrations → Bool
is_accepted conn info registrations =
    is_short_name info.name
    && (not (list_any (is_named info.name) registrations.rows)
    && (not (list_any (is_of conn) registrations.rows)
    && (nat_lt (length registrations.rows) 1024
    && nat_lt registrations.next (2 ^ 32))))

-- ---- what changes

-- whether the row's name is not below this one
abbrev pub is_behind : List ℕ → Row → Bool
is_behind name row = not (is_lt (slice_cmp nat_cmp row.info.name name))

-- the rows with one more, at the place of its name
abbrev pub with_row : Row → List Row → List Row
with_row row rows = insert rows (position_or_len (is_behind row.info.name) rows) row

-- the registrations with one more, which gets the next creation
abbrev pub with_registration : ℕ → NodeInfo → Registrations → Registrations
with_registration conn info registrations = record registrations {
  next = registrations.next + 1;
  rows = with_row (record { conn = conn; info = info; creation = registrations.next }) registrations.rows;
}

-- the registrations after a registration came on a connection: a refusal changes nothing
abbrev pub after_request : ℕ → NodeInfo → Registrations → Registrations
after_request conn info registrations = if is_accepted conn info registrations then with_registration conn info registrations else registrations

-- the registrations once a connection is closed
abbrev pub after_closed : ℕ → Registrations → Registrations
after_closed conn registrations = record registrations { rows = filter (λ row. not (is_of conn row)) registrations.rows }

-- the registrations without that of this name, where it was made on this connection
abbrev pub after_closed_as : ℕ → List ℕ → Registrations → Registrations
after_closed_as conn name registrations = record registrations { rows = filter (λ row. not (is_own conn name row)) registrations.rows }

-- ---- what is answered

-- the creation that a node of version 5 gets: one of 1 to 3
abbrev pub short_creation : ℕ → ℕ
short_creation creation = (creation + 2) % 3 + 1

-- the answer that carries this creation, in the form for the node's highest version
abbrev pub creation_answer : NodeInfo → ℕ → Answer
creation_answer info creation = if nat_lt info.highest 6 then answer.Alive 0 (short_creation creation) else answer.AliveX 0 creation

-- the answer to a registration that is refused
abbrev pub refusal_answer : NodeInfo → Answer
refusal_answer info = if nat_lt info.highest 6 then answer.Alive 1 0 else answer.AliveX 1 0

-- the answer to a registration that comes on a connection
abbrev pub answer_to : ℕ → NodeInfo → Registrations → Answer
answer_to conn info registrations = if is_accepted conn info registrations then creation_answer info registrations.next else refusal_answer info

-- what the node of this name said of itself, where it is registered
abbrev pub registered_info : List ℕ → Registrations → Option NodeInfo
registered_info name registrations = option_map (λ row. row.info) (find (is_named name) registrations.rows)

-- the name that is registered on this connection, if any
abbrev pub registered_name : ℕ → Registrations → Option (List ℕ)
registered_name conn registrations = option_map (λ row. row.info.name) (find (is_of conn) registrations.rows)

-- the line of a row among all names
abbrev pub line_of : Row → List ℕ
line_of row = codes "name " ++ row.info.name ++ codes " at port " ++ decimal row.info.port ++ codes "\n"

-- the whole answer to a question for all names: the port in 4 bytes, and a line for each row
abbrev pub names_text : Registrations → List ℕ
names_text registrations = number w32 registrations.port ++ flat_map line_of registrations.rows

-- ---- what always holds

-- The name of the first row is below that of the second, and they share no connection and no creation.
abbrev pub Precedes : Row → Row → Type 0
Precedes a b = (slice_cmp nat_cmp a.info.name b.info.name ≡ Less) × (a.conn ≢ b.conn) × (a.creation ≢ b.creation)

-- The names ascend in byte order, so no two rows share one, and no two share a connection or a creation.
abbrev pub InOrder : List Row → Type 0
InOrder [] = Unit {0}
InOrder (row ∷ rows) = AllByRecursion (Precedes row) rows × InOrder rows

-- the creation of the row is below the next
abbrev pub IsGiven : ℕ → Row → Type 0
IsGiven next row = row.creation < next

-- what holds of the registrations after any calls
pub record IsLegal (registrations : Registrations) : Type 0 where
  pub ordered : InOrder registrations.rows
  pub few : length registrations.rows ≤ 1024
  -- the next creation is above all that are held
  pub given : AllByRecursion (IsGiven registrations.next) registrations.rows
  pub left : registrations.next ≤ 2 ^ 32
