-- THE ORDERS OF A NODES FILE, and what came of them.
use Rattle.std.specs.Prelude.{◌≡◌, ℕ, ◌+◌, ◌<◌, ◌≤◌, Bool, false, ◌&&◌, List, [], ◌∷◌, length, Option, Some, None, slice_get, All, count_by}
use Rattle.dist_names.specs.{NodeName.short_of, Order.Name, Order.same_name}
use Rattle.dist_messages.specs.declared.opening.Opening.{Opening}
use Rattle.dist_messages.specs.declared.opening.Opening.TheVariants as openings
use Rattle.dist_core_setup.specs.declared.version.Version.{Version}
use Rattle.dist_core_setup.specs.declared.version.Version.TheVariants as versions
use Rattle.dist_core.specs.declared.event.Event.{Event}
use Rattle.dist_core.specs.declared.event.Event.TheVariants as event
use Rattle.dist_locked_book.specs.declared.{line.Line.Line, closing.Closed.Closed}
use Rattle.dist_run_plan.specs.declared.plan.{DialPlan.DialPlan, NodePlan.NodePlan, Plan.Plan}
use Rattle.dist_run_hosts.specs.declared.order_fault.OrderFault.{OrderFault}

-- the event is a dial of this peer
abbrev pub is_dial_of : Name → Event → Bool
is_dial_of to (event.Dial peer opening) = same_name peer to
is_dial_of to _ = false

-- the order is this node's, to dial this peer
abbrev pub is_order : Name → Name → DialPlan → Bool
is_order from to order = same_name order.from from && same_name order.to to

-- there is such an order
abbrev pub is_such_order : Name → Name → Option DialPlan → Bool
is_such_order from to None = false
is_such_order from to (Some order) = is_order from to order

-- the fault is that of such an order of the file
abbrev pub is_fault_of : List DialPlan → Name → Name → OrderFault → Bool
is_fault_of orders from to fault = is_such_order from to (slice_get orders fault.number)

-- how often a node dialled this peer
abbrev pub count_dials : Name → List Line → ℕ
count_dials to lines = count_by (λ (line : Line). is_dial_of to line.event) lines

-- a closed node's name, and the lines of its history
abbrev pub name_of : Closed → Name
name_of closed = let node = closed.node in let setup = node.setup in setup.name

abbrev pub lines_in : Closed → List Line
lines_in closed = let history = closed.history in history.items

-- OF A NODE'S ORDERS TO DIAL THIS PEER each was followed once or is reported, and the node dialled the peer no more often
pub record IsObeyed (orders : List DialPlan) (faults : List OrderFault) (closed : Closed) (to : Name) : Type 0 where
  -- its dials of the peer, and the faults of such orders, are together as many as such orders
  pub count : count_dials to (lines_in closed) + count_by (is_fault_of orders (name_of closed) to) faults
      ≡ count_by (is_order (name_of closed) to) orders

-- how a node of this version is dialled
abbrev pub opening_of : Version → Opening
opening_of versions.Five = openings.Old
opening_of versions.Six = openings.New

-- a dial of this node has the opening of its version; the port mapper finds the node by its short name
abbrev pub HasOpeningFor : Event → NodePlan → Type 0
HasOpeningFor (event.Dial peer opening) node = short_of peer ≡ short_of node.name → opening ≡ opening_of node.version
HasOpeningFor _ node = Unit {0}

-- so it is with each of these nodes
unfoldable pub HasOpening : List NodePlan → Event → Type 0
HasOpening nodes v = All (HasOpeningFor v) nodes

-- and with each line
unfoldable pub HaveOpenings : List NodePlan → List Line → Type 0
HaveOpenings nodes lines = All (λ (line : Line). HasOpening nodes line.event) lines

-- THE SAME OF ALL ITS ORDERS, and it dialled each node of the file with the opening of that node's version
pub record IsObedient (plan : Plan) (faults : List OrderFault) (closed : Closed) : Type 0 where
  -- it dialled no peer that the file does not have it dial
  pub each : (to : Name) → IsObeyed plan.dial faults closed to
  pub openings : HaveOpenings plan.node (lines_in closed)

-- the numbers of faults rise, so that none stands twice: each is at least this, and below that
abbrev pub RiseWithin : ℕ → ℕ → List OrderFault → Type 0
RiseWithin least most [] = Unit {0}
RiseWithin least most (fault ∷ faults) = (least ≤ fault.number) × (fault.number < most) × RiseWithin (fault.number + 1) most faults

-- EACH ORDER OF THE FILE WAS FOLLOWED ONCE, or it is reported and was not; and no node made another dial
pub record AreObeyed (plan : Plan) (faults : List OrderFault) (closed : List Closed) : Type 0 where
  -- each fault is of an order of the file, and no two of one
  pub numbers : RiseWithin 0 (length plan.dial) faults
  -- each node dialled each peer as often as the file orders it to, less the orders that are reported, and with its opening
  pub dials : All (IsObedient plan faults) closed

-- ---- what the code looks at

-- where the event is a dial, this is so of its peer
abbrev pub PeerIsObeyed : List DialPlan → List OrderFault → Closed → Event → Type 0
PeerIsObeyed orders faults closed (event.Dial peer opening) = IsObeyed orders faults closed peer
PeerIsObeyed orders faults closed _ = Unit {0}

-- it is so of the peer of an order
pub record OrderIsObeyed (orders : List DialPlan) (faults : List OrderFault) (closed : Closed) (order : DialPlan) : Type 0 where
  pub peer : IsObeyed orders faults closed order.to

-- it is so of the peer of a line
pub record LineIsObeyed (orders : List DialPlan) (faults : List OrderFault) (closed : Closed) (line : Line) : Type 0 where
  pub peer : PeerIsObeyed orders faults closed line.event
