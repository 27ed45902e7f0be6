-- THE GUARD of a carrier. A host shows ends that are up to its users, as an Erlang emulator lists a peer among its nodes while the
-- connection is there. So its node makes no step that would close an end that is up, until the host reports that connection as gone.
use Rattle.std.specs.Prelude.{◌≡◌, ℕ, ◌==◌, Bool, true, false, not, ◌&&◌, ◌||◌, if◌then◌else◌, List, [], ◌∷◌, ◌++◌}
use Rattle.std.specs.Prelude.{Option, Some, None, is_some, Result, Ok, Err, slice_get}
use Rattle.dist_peers.specs.declared.entry.EndId.{EndId}
use Rattle.dist_core_setup.specs.declared.setup.Setup.{Setup}
use Rattle.dist_core_ends.specs.{declared.why.Why.Why, declared.known.UpRecord.UpRecord, declared.known.End.End, declared.phase.Still.Still, Ends.still_of}
use Rattle.dist_core_ends.specs.declared.known.End.TheVariants as ends
use Rattle.dist_core_ends.specs.declared.phase.Still.TheVariants as still
use Rattle.dist_core.specs.{Acts.Act, Acts.run_acts, Acts.Steps, Acts.Changes, Answers.Refuses, Node.NodeState, Runs.opening, Step.step}
use Rattle.dist_core.specs.declared.{changing.Change.TheVariants.Allow, reply.Reply.Reply, step_error.StepError.StepError}
use Rattle.dist_core.specs.declared.event.Event.TheVariants as event
use Rattle.dist_c_guest.specs.{Calls.IsCall, Calls.answer_to, Calls.frame_to, Forms.allowed_names, Reading.expansion, declared.guest.Guest.Guest}

-- ---- the rule

abbrev pub stands_up : Still → Bool
stands_up still.Up = true
stands_up _ = false

-- the end is up
abbrev pub is_up_end : Option End → Bool
is_up_end o = stands_up (still_of o)

-- what a reply reports as closed is an end that is up
abbrev pub closes_up_end : NodeState → Option (EndId × Why) → Bool
closes_up_end n None = false
closes_up_end n (Some x) = is_up_end (slice_get n.ends (let y = x.0 in y.0))

-- THE RULE: a step that would close an end that is up is held, and this is the reply that it would have
abbrev pub held_reply : NodeState → Result (Reply × NodeState) StepError → Option Reply
held_reply n (Err e) = None
held_reply n (Ok x) = let r = x.0 in if closes_up_end n r.closed then Some r else None

-- A FRAME AT A GUEST, under the rule: it was held, and nothing changed; or its step was made, or refused as ever
abbrev pub IsGuarded : Result (Option Reply) StepError → EndId → List ℕ → ℕ → Guest → Guest → Type 0
IsGuarded (Ok None) id body fresh old new =
    (held_reply old.node (answer_to old id body fresh) ≡ None) × IsCall (frame_to old id body) (Ok tt) (answer_to old id body fresh) old new
IsGuarded (Ok (Some r)) id body fresh old new = (held_reply old.node (answer_to old id body fresh) ≡ Some r) × (new ≡ old)
IsGuarded (Err e) id body fresh old new = Refuses e (answer_to old id body fresh) × (new ≡ old)

-- ---- all that a guard is told

-- a node, and which of its ends the host shows, by their numbers
pub record Guard : Type 0 where
  pub node : NodeState
  pub shown : ℕ → Bool

pub data Told : Type 0 where
  -- what is asked of the node: its steps are under the rule
  Asks : (what : Act) → Told
  -- the host is to show this end
  Shows : (id : EndId) → Told
  -- the host shows this end no more, its connection is gone, and that is reported to the node
  Gone : (id : EndId) → (cause : Why) → Told

-- WHAT A GUARD MAKES ITS NODE DO: what is held is not done
abbrev pub acts_asked : NodeState → Act → List Act
acts_asked n (Steps v fresh) = if is_some (held_reply n (step n v fresh)) then [] else Steps v fresh ∷ []
acts_asked n a = a ∷ []

abbrev pub acts_guarded : Guard → Told → List Act
acts_guarded g (Asks a) = acts_asked g.node a
acts_guarded g (Shows x) = []
acts_guarded g (Gone x w) = Steps (event.Lost x w) 0 ∷ []

-- which ends are shown then: one that is up, until it is gone
abbrev pub shown_by : Guard → Told → ℕ → Bool
shown_by g (Asks a) i = g.shown i
shown_by g (Shows x) i = (x.0 == i && is_up_end (slice_get g.node.ends i)) || g.shown i
shown_by g (Gone x w) i = not (x.0 == i) && g.shown i

-- the guard once it is told this
abbrev pub guarded : Guard → Told → Guard
guarded g t = record { node = run_acts (acts_guarded g t) g.node; shown = shown_by g t }

abbrev pub run_guard : List Told → Guard → Guard
run_guard [] g = g
run_guard (t ∷ ts) g = run_guard ts (guarded g t)

abbrev pub acts_run : List Told → Guard → List Act
acts_run [] g = []
acts_run (t ∷ ts) g = acts_guarded g t ++ acts_run ts (guarded g t)

-- nothing is shown of a node without ends
abbrev pub first_guard : Setup → Guard
first_guard s = record { node = opening s; shown = λ i. false }

-- EVERY SHOWN END IS UP in the node
abbrev pub AreUp : Guard → Type 0
AreUp g = (i : ℕ) → g.shown i ≡ true → (r : UpRecord) × (slice_get g.node.ends i ≡ Some (ends.Up r))

-- what the guard of a guest is told of a frame: the names for which the guest keeps a form may connect while it is taken
abbrev pub told_of_frame : Guest → EndId → List ℕ → ℕ → List Told
told_of_frame g id body fresh =
    let came = expansion g.reading.mandatory.0 body in
    let own = g.node.setup.allow in
    Asks (Changes (Allow (allowed_names g.reading.forms came own))) ∷ Asks (Steps (event.Frame id came) fresh) ∷ Asks (Changes (Allow own)) ∷ []
