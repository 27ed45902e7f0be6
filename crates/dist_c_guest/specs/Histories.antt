-- Histories of calls on a guest.
use Rattle.std.specs.Prelude.{◌≡◌, ◌≢◌, ℕ, count_by, Bool, true, false, List, [], ◌∷◌, ◌++◌, map, Option, Result, Err, if◌then◌else◌}
use Rattle.dist_core_ends.specs.Ends.{is_open}
use Rattle.dist_core.specs.{declared.event.Event.Event, declared.step_error.StepError.StepError, declared.changing.ChangeError.ChangeError, Acts.Act}
use Rattle.dist_core.specs.{Acts.act, declared.changing.Change.Change, declared.changing.Change.TheVariants.Allow, Step.step}
use Rattle.dist_core.specs.declared.step_error.StepError.TheVariants as error
use Rattle.dist_core.specs.declared.changing.ChangeError.TheVariants as change_error
use Rattle.dist_core.specs.Acts as acts
use Rattle.dist_names.specs.Order.{Name}
use Rattle.dist_c_guest.specs.{declared.guest.Guest.Guest, Calls.IsCall, Calls.answer_after, Calls.node_letting, Calls.restarted_guest, Changes.Changes}

-- a call: its event, the challenge that was drawn for it, what it answered, and the guest after it
pub record Call : Type 0 where
  pub event : Event
  pub fresh : ℕ
  pub answer : Result (Unit {0}) StepError
  pub after : Guest

-- whether memory ran out
abbrev pub is_short_of_memory : Result (Unit {0}) StepError → Bool
is_short_of_memory (Err error.NoMemory) = true
is_short_of_memory _ = false

-- the events of the calls for which memory did not run out
abbrev pub events_of : List Call → List (Event × ℕ)
events_of [] = []
events_of (c ∷ cs) = if is_short_of_memory c.answer then events_of cs else (c.event, c.fresh) ∷ events_of cs

-- ---- histories of all that is done to a guest

-- a call of any kind, and the guest after it
pub data AnyCall : Type 0 where
  -- a step
  Step_call : (call : Call) → AnyCall
  -- a change of the setup, and what it answered
  Change_call : (changed : Change) → (answer : Result (Unit {0}) ChangeError) → (after : Guest) → AnyCall
  -- a step for which other names might connect, and those that might before and after it
  Widened_call : (names back : Option (List Name)) → (call : Call) → AnyCall
  -- forms were kept or let go, so that these names may connect beside them
  Form_call : (names : Option (List Name)) → (after : Guest) → AnyCall
  -- the node forgets why its ends below a number were closed
  Forget_call : (below : ℕ) → (after : Guest) → AnyCall
  -- the guest begins anew, where no end is open, and answered whether it did
  Renew_call : (answer : Bool) → (after : Guest) → AnyCall

-- the guest after a call
abbrev pub guest_after : AnyCall → Guest
guest_after (Step_call c) = c.after
guest_after (Change_call v answer after) = after
guest_after (Widened_call names back c) = c.after
guest_after (Form_call names after) = after
guest_after (Forget_call below after) = after
guest_after (Renew_call answer after) = after

-- the node forgot why its ends below a number were closed, and the newest reply stays
abbrev pub Forgot : ℕ → Guest → Guest → Type 0
Forgot below old new = (new.node ≡ act old.node (acts.Forgets below)) × (new.last ≡ old.last)

-- the guest began anew, or some end was open and it stayed
abbrev pub Renewed : Bool → Guest → Guest → Type 0
Renewed true old new = (count_by is_open old.node.ends ≡ 0) × (new ≡ restarted_guest old)
Renewed false old new = (count_by is_open old.node.ends ≢ 0) × (new ≡ old)

-- this call was made on the guest
abbrev pub IsMade : AnyCall → Guest → Type 0
IsMade (Step_call c) old = IsCall c.event c.answer (step old.node c.event c.fresh) old c.after
IsMade (Change_call v answer after) old = Changes answer v old after
IsMade (Widened_call names back c) old =
    (back ≡ old.node.setup.allow) × IsCall c.event c.answer (answer_after old.node (step (node_letting old.node names) c.event c.fresh)) old c.after
IsMade (Form_call names after) old = after.node ≡ node_letting old.node names
IsMade (Forget_call below after) old = Forgot below old after
IsMade (Renew_call answer after) old = Renewed answer old after

-- these calls were made one after another, from the first guest to the last
abbrev pub IsAnyHistory : List AnyCall → Guest → Guest → Type 0
IsAnyHistory [] first last = last ≡ first
IsAnyHistory (c ∷ cs) first last = IsMade c first × IsAnyHistory cs (guest_after c) last

-- the same, where all are steps
abbrev pub IsHistory : List Call → Guest → Guest → Type 0
IsHistory calls = IsAnyHistory (map Step_call calls)

-- whether memory ran out for a change
abbrev pub change_lacked : Result (Unit {0}) ChangeError → Bool
change_lacked (Err change_error.NoMemory) = true
change_lacked _ = false

-- whether memory ran out for a call
abbrev pub has_lacked : AnyCall → Bool
has_lacked (Step_call c) = is_short_of_memory c.answer
has_lacked (Change_call v answer after) = change_lacked answer
has_lacked (Widened_call names back c) = is_short_of_memory c.answer
has_lacked _ = false

-- what a call asks for
abbrev pub act_of : AnyCall → List Act
act_of (Step_call c) = acts.Steps c.event c.fresh ∷ []
act_of (Change_call v answer after) = acts.Changes v ∷ []
act_of (Widened_call names back c) = acts.Changes (Allow names) ∷ acts.Steps c.event c.fresh ∷ acts.Changes (Allow back) ∷ []
act_of (Form_call names after) = acts.Changes (Allow names) ∷ []
act_of (Forget_call below after) = acts.Forgets below ∷ []
act_of (Renew_call answer after) = acts.Renews ∷ []

-- what the calls did for which memory did not run out
abbrev pub acts_of : List AnyCall → List Act
acts_of [] = []
acts_of (c ∷ cs) = if has_lacked c then acts_of cs else act_of c ++ acts_of cs
