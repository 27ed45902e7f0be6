-- A history of calls of all kinds on a guest is a run of its node.
use Rattle.dist_c_guest.proofs.Common.{◌≡◌, ℕ, Bool, true, false, List, [], ◌∷◌, ◌++◌, map, if◌then◌else◌, ◌==◌, Ok, Err, count_by, Option, Result, sym, refl}
use Rattle.dist_c_guest.proofs.Common.{ap, ◌∙◌, subst, ne_eqb, Name, is_open, Act, act, changed_or, run_acts, NodeState, node_after, opening, step, Allow}
use Rattle.dist_c_guest.proofs.Common.{Event, Reply, StepError, IsCall, answer_after, node_letting, Guest}
use Rattle.dist_c_guest.proofs.GivenBack.{node-back}
use Rattle.dist_core.specs.{Changing.IsChange, Changing.change, Runs.run, declared.changing.Change.Change, declared.changing.ChangeError.ChangeError}
use Rattle.dist_core.specs.Acts as acts
use Rattle.dist_core.specs.declared.changing.ChangeError.TheVariants as change_error
use Rattle.dist_core.specs.declared.step_error.StepError.TheVariants as error
use Rattle.dist_c_guest.specs.Histories.{AnyCall, Call, Step_call, Change_call, Widened_call, Form_call, Forget_call, Renew_call, IsAnyHistory, IsHistory}
use Rattle.dist_c_guest.specs.Histories.{IsMade, act_of, acts_of, events_of, change_lacked, guest_after, has_lacked, is_short_of_memory}

abbrev node_of : Guest → NodeState
node_of g = g.node

-- the acts of one call and of those after it
abbrev begun : Result (Unit {0}) StepError → Act → List Act → List Act
begun a x xs = if is_short_of_memory a then xs else x ∷ xs

abbrev begun_by : Result (Unit {0}) ChangeError → Act → List Act → List Act
begun_by a x xs = if change_lacked a then xs else x ∷ xs

module _ (xs : List Act) (first after last : Guest) (ih : last.node ≡ run_acts xs after.node) where
  -- the node is after the act what the guest's is
  goes : (x : Act) → act first.node x ≡ after.node → last.node ≡ run_acts (x ∷ xs) first.node
  goes x e = ih ∙ ap (run_acts xs) (sym e)

  -- nothing was done
  lacks : after ≡ first → last.node ≡ run_acts xs first.node
  lacks same = ih ∙ ap (λ (g : Guest). run_acts xs g.node) same

  module _ (v : Event) (fresh : ℕ) where
    refused : (e : StepError) → step first.node v fresh ≡ Err e → after ≡ first → last.node ≡ run_acts (acts.Steps v fresh ∷ xs) first.node
    refused e is same = goes (acts.Steps v fresh) (ap (node_after first.node) is ∙ ap node_of (sym same))

    by_step : (a : Result (Unit {0}) StepError) → IsCall v a (step first.node v fresh) first after → last.node ≡ run_acts (begun a (acts.Steps v fresh) xs) first.node
    by_step (Ok u) (r, is, kept, heard, same) = goes (acts.Steps v fresh) (ap (node_after first.node) is)
    by_step (Err error.NoMemory) (h, same) = lacks same
    by_step (Err e) (h, same) = refused e h same

  -- other names might connect for a step, and are given back
  module _ (v : Event) (fresh : ℕ) (names : Option (List Name)) where
    abbrev made_wide : Result (Reply × NodeState) StepError
    made_wide = step (node_letting first.node names) v fresh

    abbrev three : Option (List Name) → List Act → List Act
    three back ys = acts.Changes (Allow names) ∷ acts.Steps v fresh ∷ acts.Changes (Allow back) ∷ ys

    wide : node_after first.node (answer_after first.node made_wide) ≡ after.node → last.node ≡ run_acts (three first.node.setup.allow xs) first.node
    wide e = ih ∙ ap (run_acts xs) (sym (node-back first.node names made_wide ∙ e))

    refused_wide : (e : StepError) → answer_after first.node made_wide ≡ Err e → after ≡ first → last.node ≡ run_acts (three first.node.setup.allow xs) first.node
    refused_wide e is same = wide (ap (node_after first.node) is ∙ ap node_of (sym same))

    by_wide : (a : Result (Unit {0}) StepError) → IsCall v a (answer_after first.node made_wide) first after → last.node ≡ run_acts (if is_short_of_memory a then xs else three first.node.setup.allow xs) first.node
    by_wide (Ok u) (r, is, kept, heard, same) = wide (ap (node_after first.node) is)
    by_wide (Err error.NoMemory) (h, same) = lacks same
    by_wide (Err e) (h, same) = refused_wide e h same

    by_wide_back : (back : Option (List Name)) (a : Result (Unit {0}) StepError) → back ≡ first.node.setup.allow → IsCall v a (answer_after first.node made_wide) first after → last.node ≡ run_acts (if is_short_of_memory a then xs else three back xs) first.node
    by_wide_back back a is h = subst (λ (l : Option (List Name)). last.node ≡ run_acts (if is_short_of_memory a then xs else three l xs) first.node) (sym is) (by_wide a h)

  module _ (v : Change) where
    unchanged : (e : ChangeError) → change first.node v ≡ Err e → after.node ≡ first.node → last.node ≡ run_acts (acts.Changes v ∷ xs) first.node
    unchanged e is same = goes (acts.Changes v) (ap (changed_or first.node) is ∙ sym same)

    by_change : (a : Result (Unit {0}) ChangeError) → IsChange a (change first.node v) first.node after.node → last.node ≡ run_acts (begun_by a (acts.Changes v) xs) first.node
    by_change (Ok u) is = goes (acts.Changes v) (ap (changed_or first.node) is)
    by_change (Err change_error.NoMemory) (h, same) = ih ∙ ap (run_acts xs) same
    by_change (Err e) (h, same) = unchanged e h same

made : (c : AnyCall) (xs : List Act) (first last : Guest) → IsMade c first → last.node ≡ run_acts xs (guest_after c).node → last.node ≡ run_acts (if has_lacked c then xs else act_of c ++ xs) first.node
made (Step_call c) xs first last h ih = by_step xs first c.after last ih c.event c.fresh c.answer h
made (Change_call v answer after) xs first last h ih = by_change xs first after last ih v answer h.0
made (Widened_call names back c) xs first last h ih = by_wide_back xs first c.after last ih c.event c.fresh names back c.answer h.0 h.1
made (Form_call names after) xs first last h ih = goes xs first after last ih (acts.Changes (Allow names)) (sym h)
made (Forget_call below after) xs first last h ih = goes xs first after last ih (acts.Forgets below) (sym h.0)
made (Renew_call true after) xs first last h ih =
    goes xs first after last ih acts.Renews (ap (λ k. if k == 0 then opening first.node.setup else first.node) h.0 ∙ ap node_of (sym h.1))
made (Renew_call false after) xs first last h ih =
    goes xs first after last ih acts.Renews (ap (λ b. if b then opening first.node.setup else first.node) (ne_eqb (count_by is_open first.node.ends) 0 h.0) ∙ ap node_of (sym h.1))

pub a-run-of-acts : (calls : List AnyCall) (first last : Guest) → IsAnyHistory calls first last → last.node ≡ run_acts (acts_of calls) first.node
a-run-of-acts [] first last h = ap node_of h
a-run-of-acts (c ∷ cs) first last (h, rest) = made c (acts_of cs) first last h (a-run-of-acts cs (guest_after c) last rest)

-- steps alone
steps-run : (cs : List Call) (n : NodeState) → run_acts (acts_of (map Step_call cs)) n ≡ run (events_of cs) n
steps-run [] n = refl
steps-run (c ∷ cs) n = by (is_short_of_memory c.answer) (steps-run cs)
  where
    by : (b : Bool) → ((m : NodeState) → run_acts (acts_of (map Step_call cs)) m ≡ run (events_of cs) m)
        → run_acts (if b then acts_of (map Step_call cs) else acts.Steps c.event c.fresh ∷ acts_of (map Step_call cs)) n ≡ run (if b then events_of cs else (c.event, c.fresh) ∷ events_of cs) n
    by true more = more n
    by false more = more (node_after n (step n c.event c.fresh))

pub a-run : (calls : List Call) (first last : Guest) → IsHistory calls first last → last.node ≡ run (events_of calls) first.node
a-run calls first last h = a-run-of-acts (map Step_call calls) first last h ∙ steps-run calls first.node
