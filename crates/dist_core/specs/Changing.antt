-- CHANGES OF A NODE'S SETUP, between two steps.
use Rattle.std.specs.Prelude.{◌≡◌, Bool, false, not, ◌&&◌, if◌then◌else◌, Option, Some, None, is_some, Result, Ok, Err, IsOk}
use Rattle.std.specs.List.{list_any}
use Rattle.std.specs.FinMap as map
use Rattle.dist_names.specs.Order.{Name}
use Rattle.dist_peers.specs.{declared.entry.Entry.Entry, Table.up_id}
use Rattle.dist_secret.specs.Cookies.{rekeys}
use Rattle.dist_core_ends.specs.Ends.{entry_in, table_of}
use Rattle.dist_core_setup.specs.declared.setup.Setup.{Setup}
use Rattle.dist_core_setup.specs.Changing.{has_own_cookie, lacks_room, with_own_cookie, keyed_usually, letting_in}
use Rattle.dist_core.specs.declared.changing.Change.TheVariants.{Cookie, UsualCookie, Allow}
use Rattle.dist_core.specs.{declared.changing.Change.Change, declared.changing.ChangeError.ChangeError, Node.NodeState}
use Rattle.dist_core.specs.declared.changing.ChangeError.TheVariants as error

-- the setup after a change
abbrev pub setup_after : Setup → Change → Setup
setup_after s (Cookie p own) = with_own_cookie s p own
setup_after s (UsualCookie cookie) = keyed_usually s cookie
setup_after s (Allow names) = letting_in s names

-- the node after a change: all its ends, and how many steps it made, stay as they were
abbrev pub after_change : NodeState → Change → NodeState
after_change n v = record n { setup = setup_after n.setup v }

-- an end is up with the peer of an entry, and that peer has no cookie of its own
abbrev pub has_usual : Setup → Name × Entry → Bool
has_usual s row = is_some (up_id row.1) && not (has_own_cookie s row.0)

-- the same, where there is an entry
abbrev pub is_usual_row : Setup → Option (Name × Entry) → Bool
is_usual_row s None = false
is_usual_row s (Some row) = has_usual s row

-- an end is up with a peer that has no cookie of its own
abbrev pub is_usual_in_use : NodeState → Bool
is_usual_in_use n = list_any (has_usual n.setup) (map.entries (table_of n.ends))

-- the entry has an end that is up
abbrev pub is_up : Option Entry → Bool
is_up None = false
is_up (Some e) = is_some (up_id e)

-- AN END IS UP UNDER A COOKIE THAT THE CHANGE WOULD TAKE FROM ITS PEER. A handshake does not count as use of a cookie: its digests
-- are made and checked with the cookie that the peer has at that time, so after the change it comes up under the new one or not at
-- all. Whether a peer may connect is asked once, when its name comes: so a change of the names affects no end that exists.
abbrev pub is_in_use : NodeState → Change → Bool
is_in_use n (Cookie p own) = is_up (entry_in n.ends p) && rekeys n.setup.cookies p own
is_in_use n (UsualCookie cookie) = is_usual_in_use n
is_in_use n (Allow names) = false

-- 1,024 other names have cookies of their own
abbrev pub finds_no_room : NodeState → Change → Bool
finds_no_room n (Cookie p own) = is_some own && lacks_room n.setup p
finds_no_room n (UsualCookie cookie) = false
finds_no_room n (Allow names) = false

-- THE CHANGE: the node after it, or the first refusal
abbrev pub change : NodeState → Change → Result NodeState ChangeError
change n v = if is_in_use n v then Err error.InUse else (if finds_no_room n v then Err error.Full else Ok (after_change n v))

-- A call made the definition's change, or refused it as the definition does, or ran out of memory where the definition refuses nothing.
-- A refusal changed nothing.
abbrev pub IsChange : {T : Type 0} → Result T ChangeError → Result NodeState ChangeError → NodeState → NodeState → Type 0
IsChange (Ok x) s old new = s ≡ Ok new
IsChange (Err error.InUse) s old new = (s ≡ Err error.InUse) × (new ≡ old)
IsChange (Err error.Full) s old new = (s ≡ Err error.Full) × (new ≡ old)
IsChange (Err error.NoMemory) s old new = IsOk s × (new ≡ old)
