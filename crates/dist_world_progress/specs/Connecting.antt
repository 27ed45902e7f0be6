-- TWO NODES CAN CONNECT, from every world that can be: nothing that happened before locks two nodes that fit out for good.
use Rattle.std.specs.Prelude.{if◌then◌else◌, ◌&&◌, ◌+◌, ◌^◌, ◌<◌, ◌≤◌, ◌≡◌, ◌≢◌, ◌⊎◌, ◌++◌, count_by}
use Rattle.dist_world_model.specs.Words.{ℕ, Bool, length, List, [], Option, Some, None, not, true, false, slice_get, Setup, AllByRecursion}
use Rattle.dist_world_model.specs.Words.{NodeState, Name, Kind, has_all, low_half, announced_by, knows_six, is_open}
use Rattle.dist_world_model.specs.declared.happening.Happening.{Happening}
use Rattle.dist_world_model.specs.declared.happening.Happening.TheVariants as happening
use Rattle.dist_world_model.specs.{Agreement.AllFit, Agreement.IsUp, World.World, World.Life, World.running, Run.run}
use Rattle.dist_world_model.specs.{Happenings.most_applied, Rows.most_connections}
use Rattle.dist_messages.specs.declared.form.Form.{Form}
use Rattle.dist_messages.specs.declared.form.Form.TheVariants as form
use Rattle.dist_messages.specs.declared.{opening.Opening.Opening}
use Rattle.dist_messages.specs.declared.opening.Opening.TheVariants as opening
use Rattle.dist_secret.specs.Cookies.{cookie_for}
use Rattle.dist_peers.specs.{Verdicts.is_greater, declared.entry.Entry.Entry}
use Rattle.dist_peers.specs.declared.entry.Entry.TheVariants as entry
use Rattle.dist_core_ends.specs.Ends.{entry_in, holds_at}
use Rattle.dist_core_setup.specs.{Limits.usual_limits, Rules.is_allowed, Rules.required_of}
use Rattle.dist_core.specs.Node.{is_crowded, is_full_for, is_given_out, limits_of}

-- ---- two nodes that fit: x dials y

-- both know version 6
abbrev pub are_six : Setup → Setup → Bool
are_six x y = knows_six x && knows_six y

-- the form of their handshake
abbrev pub form_between : Setup → Setup → Form
form_between x y = if are_six x y then form.New else form.Five

-- how x opens it: with the newer name, or with the older one
abbrev pub opening_between : Setup → Setup → Opening
opening_between x y = if are_six x y then opening.New else opening.Old

-- what comes over of the flags that one of them announces: all, or the lower half
abbrev pub comes_over : Setup → Setup → ℕ → ℕ
comes_over x y flags = if are_six x y then flags else low_half flags

-- THEY FIT: x is on the list of y, they have one cookie for each other, and each announces what the other requires
pub record Fit (x y : Setup) : Type 0 where
  pub allowed : is_allowed y.allow x.name ≡ true
  pub cookie : cookie_for x.cookies y.name ≡ cookie_for y.cookies x.name
  pub of_x : has_all (comes_over x y (announced_by x)) (required_of y (form_between x y)) ≡ true
  pub of_y : has_all (comes_over x y (announced_by y)) (required_of x (form_between x y)) ≡ true

-- a setup with one cookie for every peer, that lets every peer connect, and asks for no flags of its own
pub record IsPlain (cookie : List ℕ) (s : Setup) : Type 0 where
  pub allow : s.allow ≡ None
  pub cookies : s.cookies ≡ record { usual = cookie; own = [] }
  pub required : s.required.0 ≡ 0

-- ---- room

-- THE NODE HAS ROOM for a peer: five steps are left, and a number for one more end; and, if no end holds the peer yet, it may
-- have one more open end, and one more entry
pub record HasRoomFor (p : Name) (n : NodeState) : Type 0 where
  pub steps : n.steps + 5 ≤ (let l = limits_of n in l.steps)
  pub numbers : is_given_out n ≡ false
  pub idle : entry_in n.ends p ≡ None → (is_crowded n ≡ false) × (is_full_for n None ≡ false)

-- the node runs, and this is its incarnation
pub record RunsAs (w : World) (node : ℕ) (l : Life) : Type 0 where
  pub place : ℕ
  pub runs : running w node ≡ Some place
  pub lives : slice_get w.lives place ≡ Some l

-- A RUNNING NODE WITH THE USUAL LIMITS has room for each peer, as long as five steps are left and fewer than 1,024 ends are open
abbrev pub UsualNodesHaveRoom : World → Type 0
UsualNodesHaveRoom w = (node : ℕ) (l : Life) (p : Name) → RunsAs w node l → limits_of l.node ≡ usual_limits
    → l.node.steps + 5 ≤ 1048576 → count_by is_open l.node.ends < 1024 → HasRoomFor p l.node

-- ---- what happens

-- with this entry of p, a node of name me lets a dial of p go on: it has none of its own on the way, or p is the greater name
abbrev pub yields_to : Name → Name → Option Entry → Bool
yields_to me p (Some (entry.Out x)) = not (is_greater me p)
yields_to me p o = true

-- end id of the node holds this peer
abbrev pub HoldsPeer : Name → NodeState → ℕ → Type 0
HoldsPeer p n id = (k : Kind) × (holds_at n.ends p k id ≡ true)

-- an end of this node that holds p is reported as lost; the node was n
abbrev pub IsLossOf : ℕ → Name → NodeState → Happening → Type 0
IsLossOf x p n (happening.Lose node id why) = (node ≡ x) × HoldsPeer p n id.0
IsLossOf x p n h = ⊥

-- an end of x that holds y is, or one of y that holds x; they were n and m
abbrev pub IsLossBetween : ℕ → NodeState → ℕ → NodeState → Happening → Type 0
IsLossBetween x n y m h = IsLossOf x m.setup.name n h ⊎ IsLossOf y n.setup.name m h

-- x dials the name p, its connection c leads to y and is accepted, bytes come to x or y and are taken
abbrev pub IsTalkBetween : ℕ → ℕ → Name → ℕ → Happening → Type 0
IsTalkBetween x y p c (happening.Dial node peer opening) = (node ≡ x) × (peer ≡ p)
IsTalkBetween x y p c (happening.Reach node id target) = (node ≡ x) × (target ≡ y)
IsTalkBetween x y p c (happening.Opened node id) = node ≡ x
IsTalkBetween x y p c (happening.Accept d) = d ≡ c
IsTalkBetween x y p c (happening.Deliver node id k) = (node ≡ x) ⊎ (node ≡ y)
IsTalkBetween x y p c (happening.Take node id fresh) = (node ≡ x) ⊎ (node ≡ y)
IsTalkBetween x y p c h = ⊥

-- ---- the laws

-- after at most a such losses and b happenings more x and y, of name p, are both up, on one connection, with the challenges cx and cy
pub record CanConnect (w : World) (x y : ℕ) (p : Name) (cx cy : ℕ) (IsLoss : Happening → Type 0) (a b : ℕ) : Type 0 where
  pub losses : List Happening
  pub talk : List Happening
  pub few_losses : length losses ≤ a
  pub few : length talk ≤ b
  pub fit : AllFit (losses ++ talk)
  pub c : ℕ
  pub lost : AllByRecursion IsLoss losses
  pub talks : AllByRecursion (IsTalkBetween x y p c) talk
  pub at_x : IsUp (run (losses ++ talk) w) x y c
  pub at_y : IsUp (run (losses ++ talk) w) y x c
  pub drawn_x : at_x.kept.challenge ≡ cx
  pub drawn_y : at_y.kept.challenge ≡ cy

-- x and y run, fit and draw these challenges, and the model has room for so many happenings
pub record AreReady (w : World) (x y : ℕ) (l m : Life) (cx cy most : ℕ) : Type 0 where
  pub apart : x ≢ y
  pub runs_x : RunsAs w x l
  pub runs_y : RunsAs w y m
  pub fit : Fit l.node.setup m.node.setup
  pub drawn_x : cx < 2 ^ 32
  pub drawn_y : cy < 2 ^ 32
  pub conns : length w.conns < most_connections
  pub clock : w.clock + most ≤ most_applied

-- TWO RUNNING NODES THAT FIT, and have room for each other, are at most four losses and thirteen happenings away from each other
abbrev pub NodesCanConnect : World → Type 0
NodesCanConnect w = (x y : ℕ) (l m : Life) (cx cy : ℕ) → AreReady w x y l m cx cy 17 → HasRoomFor m.node.setup.name l.node → HasRoomFor l.node.setup.name m.node
    → CanConnect w x y m.node.setup.name cx cy (IsLossBetween x l.node y m.node) 4 13

-- y, as n, answers the name p without a loss: it has room for one more end; and it doesn't wait for a dial of its own to p, or the name
-- of p is the greater one
pub record Receives (p : Name) (n : NodeState) : Type 0 where
  pub steps : n.steps + 5 ≤ (let l = limits_of n in l.steps)
  pub numbers : is_given_out n ≡ false
  pub open_ends : is_crowded n ≡ false
  pub entries : is_full_for n (entry_in n.ends p) ≡ false
  pub yields : yields_to n.setup.name p (entry_in n.ends p) ≡ true

-- A NODE THAT COMES BACK: the other one needn't notice a loss. Only ends of x are reported as lost, at most two, none if it has restarted
abbrev pub NodesCanReturn : World → Type 0
NodesCanReturn w = (x y : ℕ) (l m : Life) (cx cy : ℕ) → AreReady w x y l m cx cy 18 → HasRoomFor m.node.setup.name l.node → Receives l.node.setup.name m.node
    → CanConnect w x y m.node.setup.name cx cy (IsLossOf x m.node.setup.name l.node) 2 16
