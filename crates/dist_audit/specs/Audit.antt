-- HISTORIES THAT ARE THOSE OF ONE WORLD.
use Rattle.std.specs.Prelude.{◌≡◌, ◌⊎◌, ℕ, Bool, true, false, ◌<◌, ◌^◌, List, [], ◌∷◌, ◌++◌, length, Option, Some, None, Ok, slice_get, option_to_list}
use Rattle.std.specs.{Option.option_map, Option.option_and_then, Int.w16}
use Rattle.std.specs.FinMap as map
use Rattle.dist_names.specs.Order.{Name}
use Rattle.dist_messages.specs.declared.message.Side.{Side}
use Rattle.dist_frames.specs.Stream.{body_frame, first_body}
use Rattle.dist_peers.specs.declared.entry.{EndId.EndId, Entry.Entry}
use Rattle.dist_core_ends.specs.{declared.known.UpRecord.UpRecord, Ends.table_of, Ends.up_ids, Ends.up_from}
use Rattle.dist_core.specs.{declared.event.Event.Event, Node.NodeState, Step.step, Answers.reply_of}
use Rattle.dist_core.specs.declared.event.Event.TheVariants as event
use Rattle.dist_locked_book.specs.declared.{line.Line.Line, closing.Closed.Closed}
use Rattle.dist_world_model.specs.{declared.happening.Happening.Happening, World.World, World.empty, World.running, World.row_at, Delivery.text_to, Run.run}
use Rattle.dist_world_model.specs.{Run.count_applied, Laws.AllLives, OwnSetups.HasSetDigests, OwnSetups.IsSetUp}
use Rattle.dist_world_lives.specs.Stepping.{wire_of}
use Rattle.dist_world.specs.Asking.{node_of, said_to}
use Rattle.dist_audit.specs.Happenings.{setups_of, begins, ahead, itself, with_mentions, happenings}
use Rattle.dist_audit.specs.{declared.audit_error.AuditError.AuditError, Lines.NodeLine, Lines.AreLinesOf, Links.conn_of, Faults.fault_of}
use Rattle.dist_audit.specs.Outside.{with_marks, strangers}
use Rattle.dist_audit.specs.declared.audit_error.AuditError.TheVariants as error

-- the text begins with the frame of this body
abbrev pub BeginsWith : Option (List ℕ) → List ℕ → Type 0
BeginsWith None body = ⊥
BeginsWith (Some text) body = (rest : List ℕ) × (body_frame w16 body ++ rest ≡ text)

-- the body is the next that was sent to this end of node i and is undelivered
abbrev pub Says : World → ℕ → EndId → List ℕ → Type 0
Says w i id body = (length body < 2 ^ 16) × BeginsWith (said_to w i id) body

-- the body of a frame is the next that the other end had sent by then
abbrev pub IsNext : World → ℕ → Event → Type 0
IsNext w i (event.Frame id body) = Says w i id body
IsNext w i _ = Unit {0}

-- this is so, unless somebody outside did it
abbrev pub UnlessOutside : Bool → Type 0 → Type 0
UnlessOutside true P = Unit {0}
UnlessOutside false P = P

-- the node gives the very reply of the line
abbrev pub Gives : NodeState → Line → Type 0
Gives n l = reply_of (step n l.event l.fresh) ≡ Ok l.reply

-- there is a node, and it gives the very reply of the line
abbrev pub Replies : Option NodeState → Line → Type 0
Replies None l = ⊥
Replies (Some n) l = Gives n l

-- all of these apply
abbrev pub AllApply : List Happening → World → Type 0
AllApply hs w = count_applied hs w ≡ length hs

-- A LINE IS FOLLOWED from world w on: a frame's body is the next one sent, unless somebody outside sent it; what is to happen before
-- it applies; the node gives that very reply; and the line itself applies
pub record IsFollowed (all : List NodeLine) (count : ℕ) (ks : List ℕ) (w : World) (t : NodeLine) : Type 0 where
  pub next : UnlessOutside t.outside (IsNext w t.node (let l = t.line in l.event))
  pub before : AllApply (option_to_list (ahead all count ks t)) w
  pub reply : Replies (node_of (run (option_to_list (ahead all count ks t)) w) t.node) t.line
  pub applies : AllApply (itself ks t ∷ []) (run (option_to_list (ahead all count ks t)) w)

-- the world after one line
abbrev pub after : List NodeLine → ℕ → List ℕ → World → NodeLine → World
after all count ks w t = run (itself ks t ∷ []) (run (option_to_list (ahead all count ks t)) w)

-- these lines are followed in turn
abbrev pub AreFollowed : List NodeLine → ℕ → List ℕ → World → List NodeLine → Type 0
AreFollowed all count ks w [] = Unit {0}
AreFollowed all count ks w (t ∷ ts) = IsFollowed all count ks w t × AreFollowed all count (with_mentions ks t) (after all count ks w t) ts

-- ---- tables

abbrev pub entry_at : NodeState → ℕ → Option (Name × Entry)
entry_at n k = slice_get (map.entries (table_of n.ends)) k

abbrev pub record_at : NodeState → ℕ → Option (EndId × UpRecord)
record_at n k = up_from n.ends (slice_get (up_ids (map.entries (table_of n.ends))) k)

-- the two have the same entries and the same records
pub record AreAlike (n m : NodeState) : Type 0 where
  pub entries : (k : ℕ) → entry_at n k ≡ entry_at m k
  pub records : (k : ℕ) → record_at n k ≡ record_at m k

abbrev pub IsAlike : NodeState → Option NodeState → Type 0
IsAlike n None = ⊥
IsAlike n (Some m) = AreAlike n m

-- the nodes have the entries and the records of these closed nodes
abbrev pub HasTables : World → List Closed → Type 0
HasTables w cs = (k : ℕ) (c : Closed) → slice_get cs k ≡ Some c → IsAlike c.node (node_of w k)

-- ---- THE AUDIT

-- the world of these histories, before their lines
abbrev pub world_before_lines : List Closed → World
world_before_lines cs = run (begins 0 (setups_of cs)) (empty (setups_of cs))

-- what the happenings of these lines leave
abbrev pub world_of : List Closed → List NodeLine → World
world_of cs ts = run (happenings cs ts) (empty (setups_of cs))

-- THE HISTORIES ARE THOSE OF ONE WORLD, by their lines in this order: each line is followed, and each closed node has the entries
-- and the records of its node in that world
pub record AreOfOneWorld (cs : List Closed) (ts : List NodeLine) : Type 0 where
  pub followed : AreFollowed ts (length cs) [] (world_before_lines cs) ts
  pub tables : HasTables (world_of cs ts) cs

-- ---- refusals

-- a refusal says that this is not so, and nothing where memory ran out
abbrev pub Refutes : AuditError → Type 0 → Type 0
Refutes error.NoMemory P = Unit {0}
Refutes error.NotSent P = P → ⊥
Refutes error.OtherReply P = P → ⊥
Refutes e P = ⊥

-- THE LINES OF HISTORIES, in the order of their tickets: as they stand; or, where others took part, each by whether somebody outside
-- did what it says
abbrev pub AreTold : Bool → List Closed → List NodeLine → Type 0
AreTold false cs ts = AreLinesOf cs ts
AreTold true cs ts = (us : List NodeLine) × AreLinesOf cs us × (ts ≡ with_marks us)

-- they are not, by their lines in the order of their tickets
abbrev pub AreOfNoWorld : Bool → List Closed → Type 0
AreOfNoWorld others cs = (ts : List NodeLine) × AreTold others cs ts × (AreOfOneWorld cs ts → ⊥)

-- WHAT A REFUSAL REPORTS: the first fault of the histories by themselves; where there is none, that they are not those of
-- one world; and nothing where memory was short. By whether others took part
abbrev pub Reports : AuditError → Bool → List Closed → Type 0
Reports error.NoMemory others cs = Unit {0}
Reports error.NotSent others cs = (fault_of others cs ≡ None) × AreOfNoWorld others cs
Reports error.OtherReply others cs = (fault_of others cs ≡ None) × AreOfNoWorld others cs
Reports e others cs = fault_of others cs ≡ Some e

-- ---- which refusal

-- this is so, unless memory ran out
abbrev pub UnlessShort : AuditError → Type 0 → Type 0
UnlessShort error.NoMemory P = Unit {0}
UnlessShort e P = P

-- A line is refused so: NotSent, where a frame's body is not the next one sent; OtherReply, where nothing is wrong with a
-- frame's body, and the line is not followed all the same.
abbrev pub RefusesLine : AuditError → List NodeLine → ℕ → List ℕ → World → NodeLine → Type 0
RefusesLine error.NotSent all count ks w t = UnlessOutside t.outside (IsNext w t.node (let l = t.line in l.event)) → ⊥
RefusesLine error.OtherReply all count ks w t =
    UnlessOutside t.outside (IsNext w t.node (let l = t.line in l.event)) × (IsFollowed all count ks w t → ⊥)
RefusesLine e all count ks w t = ⊥

-- THE FIRST OF THESE LINES THAT IS NOT FOLLOWED is refused so
abbrev pub StopsAt : AuditError → List NodeLine → ℕ → List ℕ → World → List NodeLine → Type 0
StopsAt e all count ks w [] = ⊥
StopsAt e all count ks w (t ∷ ts) =
    RefusesLine e all count ks w t
    ⊎ (IsFollowed all count ks w t × StopsAt e all count (with_mentions ks t) (after all count ks w t) ts)

-- each line is followed, and a closed node has other entries or records than its node in the world
abbrev pub HasOtherTables : AuditError → List Closed → List NodeLine → Type 0
HasOtherTables error.OtherReply cs ts = AreFollowed ts (length cs) [] (world_before_lines cs) ts × (HasTables (world_of cs ts) cs → ⊥)
HasOtherTables e cs ts = ⊥

-- the first of these lines that is not followed is refused so, or all are followed and the tables are
abbrev pub AreRefused : AuditError → List Closed → List NodeLine → Type 0
AreRefused e cs ts = StopsAt e ts (length cs) [] (world_before_lines cs) ts ⊎ HasOtherTables e cs ts

-- WHICH OF THE TWO IT IS where the histories have no fault by themselves, by their lines in the order of their tickets
abbrev pub ReportsFirst : AuditError → Bool → List Closed → Type 0
ReportsFirst error.NotSent others cs = (ts : List NodeLine) × AreTold others cs ts × AreRefused error.NotSent cs ts
ReportsFirst error.OtherReply others cs = (ts : List NodeLine) × AreTold others cs ts × AreRefused error.OtherReply cs ts
ReportsFirst e others cs = Unit {0}

-- ---- what each line takes

-- what came to this side of a connection and is not taken
abbrev pub come_of : World → Option (Side × ℕ) → Option (List ℕ)
come_of w None = None
come_of w (Some x) = option_map (λ c. (let t = text_to x.0 c in t.come)) (slice_get w.conns x.1)

-- the text that came to an end of the running incarnation of node i and is not taken
abbrev pub come_to : World → ℕ → EndId → Option (List ℕ)
come_to w i id = option_and_then (λ place. come_of w (wire_of (row_at w place id.0))) (running w i)

-- the first body that came to the end of a frame is the frame's
abbrev pub IsFront : World → ℕ → Event → Type 0
IsFront w i (event.Frame id body) = option_and_then (first_body w16) (come_to w i id) ≡ Some body
IsFront w i _ = Unit {0}

-- THESE LINES TAKE THEIR VERY BODIES, each once what is to happen before it has happened (what somebody outside sends is given to the
-- node as it is)
abbrev pub TakeTheirs : List NodeLine → ℕ → List ℕ → World → List NodeLine → Type 0
TakeTheirs all count ks w [] = Unit {0}
TakeTheirs all count ks w (t ∷ ts) =
    UnlessOutside t.outside (IsFront (run (option_to_list (ahead all count ks t)) w) t.node (let l = t.line in l.event))
    × TakeTheirs all count (with_mentions ks t) (after all count ks w t) ts

-- each of these lines of histories takes its very body
abbrev pub EachTakesItsBody : List Closed → List NodeLine → Type 0
EachTakesItsBody cs ts = TakeTheirs ts (length cs) [] (world_before_lines cs) ts

-- ---- where each link leads

-- the connection of a link that comes to node i leads to the running incarnation of node i
abbrev pub ComesHere : World → List ℕ → ℕ → Event → Type 0
ComesHere w ks i (event.Incoming k) = option_map (λ c. c.target) (slice_get w.conns (conn_of k ks)) ≡ running w i
ComesHere w ks i _ = Unit {0}

-- these lines come to the nodes to which their links lead
abbrev pub ComeHome : List NodeLine → ℕ → List ℕ → World → List NodeLine → Type 0
ComeHome all count ks w [] = Unit {0}
ComeHome all count ks w (t ∷ ts) =
    UnlessOutside t.outside (ComesHere (run (option_to_list (ahead all count ks t)) w) (with_mentions ks t) t.node (let l = t.line in l.event))
    × ComeHome all count (with_mentions ks t) (after all count ks w t) ts

-- each link that comes to a node in these lines of histories leads to that node
abbrev pub EachLinkComesHome : List Closed → List NodeLine → Type 0
EachLinkComesHome cs ts = ComeHome ts (length cs) [] (world_before_lines cs) ts

-- ---- the whole

-- THESE LINES OF CLOSED NODES PLAY UP TO WORLD w, by whether others took part
pub record PlayUpTo (others : Bool) (cs : List Closed) (w : World) (ts : List NodeLine) : Type 0 where
  -- they are all lines, in the order of their tickets
  pub lines : AreTold others cs ts
  -- the world is what their happenings leave
  pub world : w ≡ world_of cs ts
  -- and each of those applies
  pub applied : AllApply (happenings cs ts) (empty (setups_of cs))
  -- each line is followed, and each closed node has the entries and the records of its node in the world
  pub one_world : AreOfOneWorld cs ts
  -- each link that comes to a node leads to that node
  pub links : EachLinkComesHome cs ts
  -- each line of a frame takes its very body
  pub bodies : EachTakesItsBody cs ts
  -- each incarnation has the very setup of its closed node, but for the creation: also its cookies, and which peers may connect
  pub setups : AllLives (IsSetUp (setups_of cs)) w
  -- so each end that is up holds the digest of the cookie that its closed node was set up with for the peer
  pub digests : AllLives (HasSetDigests (setups_of cs)) w

-- w IS THE WORLD OF THESE HISTORIES, where no others took part
abbrev pub IsWorldOf : List Closed → World → Type 0
IsWorldOf cs w = (ts : List NodeLine) × PlayUpTo false cs w ts

-- W IS THEIR WORLD, where others took part in this many connections
abbrev pub IsWorldAmong : List Closed → World → ℕ → Type 0
IsWorldAmong cs w count = (ts : List NodeLine) × PlayUpTo true cs w ts × (count ≡ strangers ts)
