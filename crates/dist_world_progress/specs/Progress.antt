-- PROGRESS OF HANDSHAKES: none hangs, an end takes few frames, and what is on its way can be taken.
use Rattle.std.specs.Prelude.{if◌then◌else◌, ◌∷◌, ◌++◌, ◌==◌, ◌&&◌, ◌||◌, ◌+◌, ◌≤◌, ◌≡◌, ◌≢◌, ◌⊎◌, not, option_and_then}
use Rattle.dist_world_model.specs.Words.{ℕ, Bool, length, List, [], Option, Some, true, false, is_some, slice_get, End, is_open, is_dialing, w16}
use Rattle.dist_world_model.specs.Words.{first_body, AllByRecursion, Side, Dialler, Acceptor}
use Rattle.dist_world_model.specs.declared.happening.Happening.{Happening}
use Rattle.dist_world_model.specs.{Agreement.IsUp, World.World, World.Life, World.Conn, World.end_at, World.running, Delivery.text_to}
use Rattle.dist_world_model.specs.{Happenings.applied_at, Happenings.happens, Happenings.most_applied, OwnSetups.is_place, Run.one_where, Run.run}
use Rattle.dist_world_model.specs.declared.happening.Happening.TheVariants as happening
use Rattle.dist_core.specs.{Node.limits_of, Step.sender_to}
use Rattle.dist_core.specs.declared.event.Event.TheVariants as event
use Rattle.dist_core_ends.specs.declared.phase.Awaited.TheVariants as awaited
use Rattle.dist_core_ends.specs.{Ends.awaited_of, Ends.end_id}
use Rattle.dist_core_ends.specs.declared.known.End.TheVariants as ends

-- ---- a connection and its two ends

-- the incarnation at this side of a connection
abbrev pub incarnation_at : Side → Conn → ℕ
incarnation_at Dialler k = k.life
incarnation_at Acceptor k = k.target

-- the number of its end there, once there is one
abbrev pub number_at : Side → Conn → Option ℕ
number_at Dialler k = Some k.dialler
number_at Acceptor k = k.accepted

-- that end
abbrev pub end_on : World → Side → Conn → Option End
end_on w side k = option_and_then (end_at w (incarnation_at side k)) (number_at side k)

-- connection c of a world is k, its dialled end d and its accepted end a
pub record HasEnds (w : World) (c : ℕ) (k : Conn) (d a : End) : Type 0 where
  pub conn : slice_get w.conns c ≡ Some k
  pub dialled : end_on w Dialler k ≡ Some d
  pub accepted : end_on w Acceptor k ≡ Some a

-- ---- no handshake hangs

-- the end is up: its handshake succeeded
abbrev pub is_up : End → Bool
is_up (ends.Up r) = true
is_up _ = false

-- the end at this side awaits a message, and a whole frame is on its way to it, delivered or not
abbrev pub is_due : Side → Conn → End → Bool
is_due side k e = is_some (sender_to e) && is_some (first_body w16 (let t = text_to side k in t.come ++ t.said))

-- the handshake is over: both ends are up, or one is closed
abbrev pub is_over : End → End → Bool
is_over d a = (is_up d && is_up a) || not (is_open d && is_open a)

-- A HANDSHAKE HANGS: it isn't over, the dialled end knows that its connection opened, and no frame that an end awaits is on its way
abbrev pub hangs : Conn → End → End → Bool
hangs k d a = not (is_over d a || (is_dialing (Some d) || (is_due Dialler k d || is_due Acceptor k a)))

-- none of this world does
abbrev pub NoHandshakeHangs : World → Type 0
NoHandshakeHangs w = (c : ℕ) (k : Conn) (d a : End) → HasEnds w c k d a → hangs k d a ≡ false

-- ---- an end takes few frames

-- 1 if this happening applies, and end id of incarnation i takes a frame by it, from this world or from outside
abbrev pub frames_by : World → Happening → ℕ → ℕ → ℕ
frames_by w (happening.Take node x fresh) i id =
    if is_place (running w node) i && (x.0 == id) then one_where (applied_at w (happening.Take node x fresh)) else 0
frames_by w (happening.Outside node (event.Frame x body) fresh) i id =
    if is_place (running w node) i && (x.0 == id) then one_where (applied_at w (happening.Outside node (event.Frame x body) fresh)) else 0
frames_by w h i id = 0

-- HOW MANY FRAMES AN END TAKES in the course of these happenings
abbrev pub frames_taken : List Happening → World → ℕ → ℕ → ℕ
frames_taken [] w i id = 0
frames_taken (h ∷ hs) w i id = frames_by w h i id + frames_taken hs (happens w h) i id

-- ---- a connection that one node counts

-- IF NODE a COUNTS NODE b on connection c, and b, which runs, has an open end e on either side of c, then b counts a on c too, or
-- e awaits the acknowledgement alone, and it is on its way
abbrev pub OneSidedAwaitAck : World → Type 0
OneSidedAwaitAck w = (a b c : ℕ) (k : Conn) (side : Side) (e : End) → a ≢ b → IsUp w a b c → slice_get w.conns c ≡ Some k
    → running w b ≡ Some (incarnation_at side k) → end_on w side k ≡ Some e → is_open e ≡ true
    → IsUp w b a c ⊎ ((awaited_of (Some e) ≡ Some awaited.Ack) × (is_due side k e ≡ true))

-- ---- what is on its way can be taken

-- the incarnation at this place is that of node, runs, and has n steps left
pub record HasSteps (w : World) (node place n : ℕ) : Type 0 where
  pub life : Life
  pub runs : running w node ≡ Some place
  pub lives : slice_get w.lives place ≡ Some life
  pub left : (let l = limits_of life.node in life.node.steps + n ≤ l.steps)

-- A FRAME THAT IS DUE at an end of a running node that has a step left: once all bytes on their way are delivered, the end takes it,
-- if two more happenings may apply
abbrev pub DueIsTaken : World → Type 0
DueIsTaken w = (c node id fresh : ℕ) (k : Conn) (side : Side) (e : End) → slice_get w.conns c ≡ Some k
    → number_at side k ≡ Some id → end_on w side k ≡ Some e → is_due side k e ≡ true
    → HasSteps w node (incarnation_at side k) 1 → w.clock + 2 ≤ most_applied
    → (let t = text_to side k in let x = happens w (happening.Deliver node (end_id id) (length t.said)) in
    is_some (applied_at x (happening.Take node (end_id id) fresh))) ≡ true

-- ---- a handshake can be decided

-- a connection is reported as open, bytes are delivered, a frame is taken: nothing is dialled, lost or ended by it
abbrev pub IsCarried : Happening → Type 0
IsCarried (happening.Opened node id) = Unit {0}
IsCarried (happening.Deliver node id k) = Unit {0}
IsCarried (happening.Take node id fresh) = Unit {0}
IsCarried h = ⊥

-- after at most n such happenings the handshake of connection c is over
pub record CanBeDecided (w : World) (c n : ℕ) : Type 0 where
  pub happenings : List Happening
  pub few : length happenings ≤ n
  pub carried : AllByRecursion IsCarried happenings
  pub conn : Conn
  pub dialled : End
  pub accepted : End
  pub ends : HasEnds (run happenings w) c conn dialled accepted
  pub over : is_over dialled accepted ≡ true

-- A HANDSHAKE OF RUNNING NODES that have eight steps left is over after at most sixteen of them, if so many may apply
abbrev pub HandshakesCanBeDecided : World → Type 0
HandshakesCanBeDecided w = (c x y : ℕ) (k : Conn) (d a : End) → HasEnds w c k d a → HasSteps w x k.life 8 → HasSteps w y k.target 8
    → w.clock + 16 ≤ most_applied → CanBeDecided w c 16
