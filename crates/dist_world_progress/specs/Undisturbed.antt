-- AN UNDISTURBED HANDSHAKE COMES UP, in whatever order things happen.
use Rattle.std.specs.Prelude.{◌∷◌, ◌||◌, ◌+◌, ◌≤◌, ◌≡◌, ◌≢◌, ◌⊎◌}
use Rattle.dist_world_model.specs.Words.{ℕ, zero, suc, length, AllByRecursion, is_some, Bool, List, [], Option, Some, None, true, false, slice_get}
use Rattle.dist_world_model.specs.Words.{Setup, End, Name, is_open, is_dialing, Side, Dialler, Acceptor}
use Rattle.dist_world_model.specs.declared.happening.Happening.{Happening}
use Rattle.dist_world_model.specs.declared.happening.Happening.TheVariants as happening
use Rattle.dist_world_model.specs.{Agreement.AllFit, Agreement.Fits, Agreement.IsUp, World.World, World.Life, World.Conn, World.running}
use Rattle.dist_world_model.specs.{Happenings.applied_at, Happenings.happens, Happenings.most_applied, Run.run}
use Rattle.dist_core.specs.{Effects.fresh_attempt, Node.is_crowded, Node.is_full_for, Node.is_given_out}
use Rattle.dist_core_ends.specs.Ends.{entry_in}
use Rattle.dist_core_ends.specs.declared.known.End.TheVariants as ends
use Rattle.dist_world_progress.specs.Connecting.{Fit, HoldsPeer, opening_between}
use Rattle.dist_world_progress.specs.Progress.{HasSteps, IsCarried, end_on, incarnation_at, is_due, number_at}

-- ---- the beginning

-- x has dialled y, as nodes of these setups do, on connection c, which leads to y, and it isn't opened or accepted yet
pub record IsDialled (w : World) (c : ℕ) (sx sy : Setup) : Type 0 where
  pub conn : Conn
  pub there : slice_get w.conns c ≡ Some conn
  pub dialled : end_on w Dialler conn ≡ Some (ends.Attempt (fresh_attempt sy.name (opening_between sx sy)))
  pub free : conn.accepted ≡ None

-- ---- nobody disturbs

-- AT THIS SIDE of connection k, node runs on, with this setup, and no end but that of k holds p
pub record IsAlone (w : World) (k : Conn) (side : Side) (node : ℕ) (s : Setup) (p : Name) : Type 0 where
  pub life : Life
  pub runs : running w node ≡ Some (incarnation_at side k)
  pub lives : slice_get w.lives (incarnation_at side k) ≡ Some life
  pub setup : life.node.setup ≡ s
  pub sole : (id : ℕ) → HoldsPeer p life.node id → number_at side k ≡ Some id

-- NOTHING STANDS BETWEEN x AND y on connection c: that is so at both sides, and y has a place for x among its entries
pub record IsQuiet (w : World) (x y c : ℕ) (sx sy : Setup) : Type 0 where
  pub conn : Conn
  pub there : slice_get w.conns c ≡ Some conn
  pub at_x : IsAlone w conn Dialler x sx sy.name
  pub at_y : IsAlone w conn Acceptor y sy sx.name
  pub place : is_full_for at_y.life.node (entry_in at_y.life.node.ends sx.name) ≡ false

-- the happening reports neither end of the connection as lost
abbrev pub Spares : ℕ → ℕ → Conn → Happening → Type 0
Spares x y k (happening.Lose node id why) = (node ≡ x → number_at Dialler k ≢ Some id.0) × (node ≡ y → number_at Acceptor k ≢ Some id.0)
Spares x y k h = Unit {0}

-- NOBODY DISTURBS connection c in the course of these happenings
abbrev pub IsUndisturbed : ℕ → ℕ → ℕ → Setup → Setup → List Happening → World → Type 0
IsUndisturbed x y c sx sy [] w = IsQuiet w x y c sx sy
IsUndisturbed x y c sx sy (h ∷ hs) w = (q : IsQuiet w x y c sx sy) × Spares x y q.conn h × IsUndisturbed x y c sx sy hs (happens w h)

-- ---- the law

-- something is left to be done: the connection isn't accepted, or the dialled end hasn't learned that it opened, or a frame is due
abbrev pub is_left : Conn → End → Option End → Bool
is_left k d None = true
is_left k d (Some a) = is_dialing (Some d) || (is_due Dialler k d || is_due Acceptor k a)

-- NEITHER END IS CLOSED, and if nothing is left to be done, both are up
pub record IsComing (w : World) (x y c : ℕ) : Type 0 where
  pub conn : Conn
  pub there : slice_get w.conns c ≡ Some conn
  pub dialled : End
  pub is : end_on w Dialler conn ≡ Some dialled
  pub opened : is_open dialled ≡ true
  pub accepted : (a : End) → end_on w Acceptor conn ≡ Some a → is_open a ≡ true
  pub up : is_left conn dialled (end_on w Acceptor conn) ≡ false → IsUp w x y c × IsUp w y x c

-- A HANDSHAKE of two nodes that fit COMES UP, whatever else happens, in any order, as long as nobody disturbs it
abbrev pub UndisturbedComeUp : World → Type 0
UndisturbedComeUp w = (x y c : ℕ) (sx sy : Setup) (hs : List Happening) → x ≢ y → Fit sx sy → IsDialled w c sx sy → AllFit hs
    → IsUndisturbed x y c sx sy hs w → IsComing (run hs w) x y c

-- ---- schedules without an end

-- the world after the first n happenings of a schedule
abbrev pub after_first : (ℕ → Happening) → ℕ → World → World
after_first s zero w = w
after_first s (suc n) w = happens (after_first s n w) (s n)

-- connection c was up at both ends, at number n or before
pub record WasUp (x y c : ℕ) (s : ℕ → Happening) (w : World) (n : ℕ) : Type 0 where
  pub at_ : ℕ
  pub before : at_ ≤ n
  pub at_x : IsUp (after_first s at_ w) x y c
  pub at_y : IsUp (after_first s at_ w) y x c

-- nobody disturbs connection c by this happening
pub record IsHarmless (w : World) (x y c : ℕ) (sx sy : Setup) (h : Happening) : Type 0 where
  pub quiet : IsQuiet w x y c sx sy
  pub spares : Spares x y quiet.conn h

-- nor by any of the schedule, before it is up
abbrev pub IsHarmlessBefore : ℕ → ℕ → ℕ → Setup → Setup → (ℕ → Happening) → World → Type 0
IsHarmlessBefore x y c sx sy s w = (n : ℕ) → WasUp x y c s w n ⊎ IsHarmless (after_first s n w) x y c sx sy (s n)

-- something is left to be done on connection c
pub record IsWaiting (w : World) (c : ℕ) : Type 0 where
  pub conn : Conn
  pub there : slice_get w.conns c ≡ Some conn
  pub dialled : End
  pub is : end_on w Dialler conn ≡ Some dialled
  pub left : is_left conn dialled (end_on w Acceptor conn) ≡ true

-- the happening serves connection c, which is k: it is accepted, its dialled end learns that it opened, one of its ends takes a frame
abbrev pub Serves : ℕ → ℕ → ℕ → Conn → Happening → Type 0
Serves x y c k (happening.Accept d) = d ≡ c
Serves x y c k (happening.Opened node id) = (node ≡ x) × (number_at Dialler k ≡ Some id.0)
Serves x y c k (happening.Take node id fresh) = ((node ≡ x) × (number_at Dialler k ≡ Some id.0)) ⊎ ((node ≡ y) × (number_at Acceptor k ≡ Some id.0))
Serves x y c k h = ⊥

-- SOMETHING IS DONE on connection c: the happening serves it, and applies
pub record IsDone (w : World) (x y c : ℕ) (h : Happening) : Type 0 where
  pub conn : Conn
  pub there : slice_get w.conns c ≡ Some conn
  pub serves : Serves x y c conn h
  pub applies : is_some (applied_at w h) ≡ true

-- A SCHEDULE IS FAIR to connection c: whenever something is left to be done on it, sooner or later something is done
abbrev pub IsFair : ℕ → ℕ → ℕ → (ℕ → Happening) → World → Type 0
IsFair x y c s w = (n : ℕ) → IsWaiting (after_first s n w) c → (later : ℕ) × IsDone (after_first s (later + n) w) x y c (s (later + n))

-- A HANDSHAKE of two nodes that fit COMES UP SOME TIME under every schedule that is fair to it, if nobody disturbs it before
abbrev pub FairComeUp : World → Type 0
FairComeUp w = (x y c : ℕ) (sx sy : Setup) (s : ℕ → Happening) → x ≢ y → Fit sx sy → IsDialled w c sx sy → IsQuiet w x y c sx sy → ((n : ℕ) → Fits (s n))
    → IsHarmlessBefore x y c sx sy s w → IsFair x y c s w → (n : ℕ) × IsUp (after_first s n w) x y c × IsUp (after_first s n w) y x c

-- ---- what is left can be done

-- after one happening at most, which only carries bytes, something can be done on connection c
pub record CanBeDone (w : World) (x y c : ℕ) : Type 0 where
  pub before : List Happening
  pub few : length before ≤ 1
  pub carried : AllByRecursion IsCarried before
  pub next : Happening
  pub done : IsDone (run before w) x y c next

-- WHAT IS LEFT TO BE DONE CAN BE DONE, if both nodes run and have a step left, and two more happenings may apply, and the node that
-- hasn't accepted the connection yet has a number, and room, for one more open end
abbrev pub LeftCanBeDone : World → Type 0
LeftCanBeDone w = (x y c : ℕ) (k : Conn) → slice_get w.conns c ≡ Some k → IsWaiting w c → HasSteps w x k.life 1 → (t : HasSteps w y k.target 1)
    → (k.accepted ≡ None → (is_given_out t.life.node ≡ false) × (is_crowded t.life.node ≡ false)) → w.clock + 2 ≤ most_applied → CanBeDone w x y c
