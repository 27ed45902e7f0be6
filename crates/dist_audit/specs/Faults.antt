-- WHAT IS WRONG WITH HISTORIES by themselves.
use Rattle.std.specs.Prelude.{◌≡◌, ℕ, ◌==◌, Bool, true, false, not, ◌&&◌, ◌||◌, nat_lt, if◌then◌else◌, List, [], ◌∷◌, length, Option, Some, None}
use Rattle.std.specs.List.{list_any}
use Rattle.dist_world.specs.Setups.{names_repeat}
use Rattle.dist_core.specs.declared.event.Event.{Event}
use Rattle.dist_core.specs.declared.event.Event.TheVariants as event
use Rattle.dist_locked_book.specs.declared.{line.Line.Line, closing.Closed.Closed}
use Rattle.dist_audit.specs.{declared.audit_error.AuditError.AuditError, Lines.NodeLine, Lines.lines_by_node, Links.opens_in, Links.comes_in}
use Rattle.dist_audit.specs.{Happenings.setups_of}
use Rattle.dist_audit.specs.declared.audit_error.AuditError.TheVariants as error

-- the next ticket, if any, is greater than n
abbrev pub starts_above : ℕ → List Line → Bool
starts_above n [] = true
starts_above n (l ∷ ls) = nat_lt n l.ticket

-- each ticket is less than the next
abbrev pub rises : List Line → Bool
rises [] = true
rises (l ∷ ls) = starts_above l.ticket ls && rises ls

-- in the history of this node each ticket is less than the next
abbrev pub rises_in : Closed → Bool
rises_in c = rises (let h = c.history in h.items)

-- TICKETS FALL, or stay, in some history
abbrev pub falls : List Closed → Bool
falls cs = list_any (λ c. not (rises_in c)) cs

-- a line of these has this ticket
abbrev pub has_ticket : ℕ → List Line → Bool
has_ticket n ls = list_any (λ l. l.ticket == n) ls

-- a line of one of these nodes has it
abbrev pub has_ticket_in : ℕ → List Closed → Bool
has_ticket_in n cs = list_any (λ c. has_ticket n (let h = c.history in h.items)) cs

-- A TICKET STANDS TWICE, in two histories
abbrev pub twice : List Closed → Bool
twice [] = false
twice (c ∷ cs) = list_any (λ l. has_ticket_in l.ticket cs) (let h = c.history in h.items) || twice cs

-- the link of this event stands in one of these lines of its kind
abbrev pub repeats : Event → List NodeLine → Bool
repeats (event.Opened id k) ts = list_any (opens_in k) ts
repeats (event.Incoming k) ts = list_any (comes_in k) ts
repeats _ ts = false

-- a link stands in two lines of one kind
abbrev pub links_repeat : List NodeLine → Bool
links_repeat [] = false
links_repeat (t ∷ ts) = repeats (let l = t.line in l.event) ts || links_repeat ts

-- it is of a link that came, and that no node learned of when it had dialled
abbrev pub is_unopened : List NodeLine → Event → Bool
is_unopened all (event.Incoming k) = not (list_any (opens_in k) all)
is_unopened all _ = false

-- a link came that no node learned of when it had dialled
abbrev pub comes_unopened : List NodeLine → Bool
comes_unopened all = list_any (λ t. is_unopened all (let l = t.line in l.event)) all

-- there are too many nodes, or two of one name
abbrev pub nodes_unpaired : List Closed → Bool
nodes_unpaired cs = nat_lt 1048576 (length cs) || names_repeat (setups_of cs)

-- a link is dialled twice, or comes twice, or comes and is not dialled
abbrev pub links_unpaired : List NodeLine → Bool
links_unpaired all = links_repeat all || comes_unopened all

-- NODES OR LINKS ARE NOT IN PAIRS; where others took part, links need not be
abbrev pub is_unpaired : Bool → List Closed → Bool
is_unpaired others cs = nodes_unpaired cs || (not others && links_unpaired (lines_by_node cs))

-- THE FIRST FAULT, in this order, by whether others took part
abbrev pub fault_of : Bool → List Closed → Option AuditError
fault_of others cs =
    if falls cs then Some error.TicketFalls
    else (if twice cs then Some error.TicketTwice
    else (if is_unpaired others cs then Some error.Unpaired else None))

-- a refusal names the first fault, whether others took part or not, and nothing where memory ran out
abbrev pub IsFault : AuditError → List Closed → Type 0
IsFault error.NoMemory cs = Unit {0}
IsFault error.NotSent cs = ⊥
IsFault error.OtherReply cs = ⊥
IsFault e cs = (others : Bool) → fault_of others cs ≡ Some e

-- a refusal says that this is so, and nothing where memory ran out
abbrev pub Unpairs : AuditError → Bool → Type 0
Unpairs error.NoMemory b = Unit {0}
Unpairs error.Unpaired b = b ≡ true
Unpairs e b = ⊥
