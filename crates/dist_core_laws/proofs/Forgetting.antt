-- Why ends were closed changes no step.
use Rattle.std.proofs.Common.{◌==◌, map}
use Rattle.std.specs.FinMap as finite
use Rattle.dist_messages.specs.declared.form.Form.TheVariants as form
use Rattle.dist_messages.specs.declared.message.Message.TheVariants as message
use Rattle.dist_messages.specs.declared.message.Status.TheVariants as status
use Rattle.dist_peers.specs.declared.entry.Verdict.TheVariants as verdict
use Rattle.dist_core_ends.specs.declared.known.End.TheVariants as ends
use Rattle.dist_core_ends.specs.declared.phase.Phase.TheVariants as phase
use Rattle.dist_core_ends.specs.declared.why.Why.TheVariants as why
use Rattle.dist_core.specs.Step.{effect_of}
use Rattle.dist_core.specs.declared.changing.{Change.Change, Change.TheVariants.Allow, Change.TheVariants.Cookie, Change.TheVariants.UsualCookie}
use Rattle.dist_core.specs.declared.{effect.Effect.Effect, event.Event.Event, reply.Reply.Reply, step_error.StepError.StepError}
use Rattle.dist_core.specs.Acts as acts
use Rattle.dist_core.specs.declared.changing.ChangeError.TheVariants as change_error
use Rattle.dist_core.specs.declared.event.Event.TheVariants as event
use Rattle.dist_core.specs.declared.reply.Note.TheVariants as note
use Rattle.dist_core.specs.declared.step_error.StepError.TheVariants as error
use Rattle.dist_core.proofs.Words.{not, nat_lt, list_any, Creation, Flags, read, Form, Message, Side, MessageError, Opening, rekeys, is_full, Verdict, Attempt}
use Rattle.dist_core.proofs.Words.{End, Phase, ◌≡◌, ℕ, Bool, true, false, cond, ◌&&◌, ◌||◌, List, [], ◌∷◌, slice_get, Some, None, Ok, Err, count_by, Option}
use Rattle.dist_core.proofs.Words.{Result, option_map, sym, refl, ap, ◌∙◌, subst, Name, is_greater, ruling, EndId, Entry, end_id, entry_in, is_open}
use Rattle.dist_core.proofs.Words.{without_cause, without_causes_below, form_of_old, is_refused, knows_six, required_of, greeting_text, status_text, Setup}
use Rattle.dist_core.proofs.Words.{in_await_name, in_await_reply, name_came, name_taken, named_attempt, verdict_in, Act, act, changed_or, run_acts}
use Rattle.dist_core.proofs.Words.{in_await_ack, after_change, change, finds_no_room, has_usual, is_in_use, is_up, closes, fresh_attempt, goes_on, shuts}
use Rattle.dist_core.proofs.Words.{supersedes, NodeState, is_crowded, is_full_for, is_given_out, is_spent, new_id, node_after, opening, run, after, at_end}
use Rattle.dist_core.proofs.Words.{came_in, dial_effect, framed_from, in_attempt, message_effect, opening_effect, sender_to, step, step_result, tick_effect}
use Rattle.dist_core.proofs.Words.{unless_spent}
use Rattle.dist_core_laws.specs.Forgetting.{AreAlike, AreAlikeAnswers, Both_gone, Same_refusal, Same_reply, without_forgetting}
use Rattle.dist_core_laws.proofs.Causes.{changed-alike, end-alike, entry-alike, forgotten-alike, length-alike, opens-alike, superseded-alike, table-alike}

-- a refusal, no matter which cause it names
abbrev reported : StepError → StepError
reported (error.Gone w) = error.Gone why.Ended
reported e = e

-- an effect, or a refusal no matter which cause it names
abbrev seen : Result Effect StepError → Result Effect StepError
seen (Ok f) = Ok f
seen (Err e) = Err (reported e)

-- a closed end refuses an event, whatever its cause
at-forgotten : (o : Option End) (f : End → Result Effect StepError) → seen (at_end (option_map without_cause o) f) ≡ seen (at_end o f)
at-forgotten (Some (ends.Closed w)) f = refl
at-forgotten o f = refl

at-alike : (o q : Option End) (f g : End → Result Effect StepError) → option_map without_cause o ≡ option_map without_cause q → ((e : End) → f e ≡ g e) → seen (at_end o f) ≡ seen (at_end q g)
at-alike o q f g same each =
    sym (at-forgotten o f)
    ∙ ap (λ x. seen (at_end x f)) same
    ∙ at-forgotten q f
    ∙ (λ i. seen (at_end q (λ e. each e i)))

-- two nodes with the same setup and the same count of steps, whose ends differ in causes alone
module _ (s : Setup) (k : ℕ) (es ds : List End) (alike : map without_cause es ≡ map without_cause ds) where
  abbrev m : NodeState
  m = record { setup = s; steps = k; ends = es }

  abbrev n : NodeState
  n = record { setup = s; steps = k; ends = ds }

  full : (o q : Option Entry) → o ≡ q → is_full_for m o ≡ is_full_for n q
  full o q same = λ i. is_full (let l = s.limits in l.entries) (table-alike es ds alike i) (same i)

  given : is_given_out m ≡ is_given_out n
  given = ap (λ c. not (nat_lt c (let l = s.limits in l.ends))) (length-alike es ds alike)

  crowded : is_crowded m ≡ is_crowded n
  crowded = ap (λ c. not (nat_lt c (let l = s.limits in l.open_ends))) (opens-alike es ds alike)

  fresh-id : new_id m ≡ new_id n
  fresh-id = ap end_id (length-alike es ds alike)

  -- ---- a name

  taken-as : (id : EndId) (b : Attempt) (v : Verdict) → name_taken s es id b v ≡ name_taken s ds id b v
  taken-as id b (verdict.OkSimultaneous x) = ap (supersedes id (greeting_text s status.OkSimultaneous b.form b.challenge) b x) (superseded-alike es ds alike x.0)
  taken-as id b v = refl

  taken : (id : EndId) (b : Attempt) (p : Name) → name_taken s es id b (verdict_in m id p) ≡ name_taken s ds id b (verdict_in n id p)
  taken id b p =
      taken-as id b (verdict_in m id p)
      ∙ ap (λ o. name_taken s ds id b (let r = ruling (is_greater s.name p) id o in r.verdict)) (entry-alike es ds alike p)

  came : (id : EndId) (fresh : ℕ) (o : Form) (f : Flags) (c : Option Creation) (p : Name) → name_came m id fresh o f c p ≡ name_came n id fresh o f c p
  came id fresh o f c p =
      let room = full (entry_in es p) (entry_in ds p) (entry-alike es ds alike p) in
      let named = taken id (named_attempt o f c p fresh) p in
      λ i. cond (is_refused s (required_of s o) (room i) f p) (shuts id (status_text status.NotAllowed) why.Refused note.Nothing) (named i)

  names : (id : EndId) (fresh : ℕ) (x : Message) → in_await_name m id fresh x ≡ in_await_name n id fresh x
  names id fresh (message.NewName f c p) = ap (λ e. cond (knows_six s) e (closes id why.Unexpected)) (came id fresh form.New f (Some c) p)
  names id fresh (message.OldName f p) = came id fresh (form_of_old s f) (record { 0 = f }) None p
  names id fresh x = refl

  -- ---- a frame

  attempts : (id : EndId) (fresh : ℕ) (b : Attempt) (ph : Phase) (x : Message) → in_attempt m id fresh b ph x ≡ in_attempt n id fresh b ph x
  attempts id fresh b phase.AwaitAck x = ap (λ o. in_await_ack s o id b x) (entry-alike es ds alike b.peer)
  attempts id fresh b phase.AwaitReply x = ap (λ o. in_await_reply s o id b x) (entry-alike es ds alike b.peer)
  attempts id fresh b ph x = refl

  hears : (id : EndId) (fresh : ℕ) (e : End) (r : Result Message MessageError) → message_effect m id fresh e r ≡ message_effect n id fresh e r
  hears id fresh e (Err x) = refl
  hears id fresh ends.Unnamed (Ok x) = names id fresh x
  hears id fresh (ends.Attempt b) (Ok x) = attempts id fresh b b.phase x
  hears id fresh e (Ok x) = refl

  framed : (id : EndId) (fresh : ℕ) (body : List ℕ) (e : End) (side : Option Side) → framed_from m id fresh body e side ≡ framed_from n id fresh body e side
  framed id fresh body e None = refl
  framed id fresh body e (Some side) = ap (unless_spent m) (hears id fresh e (read side body))

  -- ---- the events

  dials : (p : Name) (o : Opening) (q : Option Entry) → dial_effect m p o q ≡ dial_effect n p o q
  dials p o (Some e) = refl
  dials p o None =
      λ i. cond (is_spent m || given i) (Err error.Spent) (cond (full None None refl i || crowded i) (Err error.Full) (Ok (goes_on (fresh-id i) [] (ends.Attempt (fresh_attempt p o)) note.Nothing)))

  comes : came_in m ≡ came_in n
  comes = λ i. cond (is_spent m || given i) (Err error.Spent) (cond (crowded i) (Err error.Full) (Ok (goes_on (fresh-id i) [] ends.Unnamed note.Nothing)))

  opens : (id : EndId) (e : End) → opening_effect m id e ≡ opening_effect n id e
  opens id e = refl

  ticks : (id : EndId) (e : End) → tick_effect m id e ≡ tick_effect n id e
  ticks id e = refl

  effects : (v : Event) (fresh : ℕ) → seen (effect_of m v fresh) ≡ seen (effect_of n v fresh)
  unfolding effect_of
  effects (event.Dial p o) fresh = ap seen (ap (dial_effect m p o) (entry-alike es ds alike p) ∙ dials p o (entry_in ds p))
  effects (event.Opened id link) fresh = at-alike (slice_get es id.0) (slice_get ds id.0) (opening_effect m id) (opening_effect n id) (end-alike es ds alike id.0) (opens id)
  effects (event.Incoming link) fresh = ap seen comes
  effects (event.Frame id body) fresh =
      at-alike (slice_get es id.0) (slice_get ds id.0) (λ e. framed_from m id fresh body e (sender_to e)) (λ e. framed_from n id fresh body e (sender_to e)) (end-alike es ds alike id.0) (λ e. framed id fresh body e (sender_to e))
  effects (event.Lost id w) fresh = at-alike (slice_get es id.0) (slice_get ds id.0) (λ e. Ok (closes id w)) (λ e. Ok (closes id w)) (end-alike es ds alike id.0) (λ e. refl)
  effects (event.Tick id) fresh = at-alike (slice_get es id.0) (slice_get ds id.0) (tick_effect m id) (tick_effect n id) (end-alike es ds alike id.0) (ticks id)

  refusals : (d e : StepError) → reported d ≡ reported e → AreAlikeAnswers (Err d) (Err e)
  refusals (error.Gone v) (error.Gone w) same = Both_gone v w refl refl
  refusals (error.Gone v) e same = absurd cc
  refusals d (error.Gone w) same = absurd cc
  refusals d e same = Same_refusal d refl (ap Err (sym same))

  answers : (v : Event) (a b : Result Effect StepError) → seen a ≡ seen b → AreAlikeAnswers (step_result m v a) (step_result n v b)
  answers v (Ok f) (Ok g) same =
      let one : g ≡ f = cc in
      Same_reply f.reply (after m v f) (after n v f) refl (ap (λ (e : Effect). Ok (e.reply, after n v e)) one) (record { setup = refl; steps = refl; ends = changed-alike es ds alike f.reply.end_ f.this f.other })
  answers v (Ok f) (Err e) same = absurd cc
  answers v (Err d) (Ok g) same = absurd cc
  answers v (Err d) (Err e) same = let one : reported d ≡ reported e = cc in refusals d e one

  -- ---- a change

  in-use : (v : Change) → is_in_use m v ≡ is_in_use n v
  in-use (Cookie p own) = ap (λ e. is_up e && rekeys s.cookies p own) (entry-alike es ds alike p)
  in-use (UsualCookie cookie) = ap (λ t. list_any (has_usual s) (finite.entries t)) (table-alike es ds alike)
  in-use (Allow names) = refl

  no-room : (v : Change) → finds_no_room m v ≡ finds_no_room n v
  no-room (Cookie p own) = refl
  no-room v = refl

  changes-alike : (v : Change) → AreAlike (changed_or m (change m v)) (changed_or n (change n v))
  changes-alike v =
      let P : Bool → Bool → Type 0 = λ b d. AreAlike (changed_or m (change m v)) (changed_or n (cond b (Err change_error.InUse) (cond d (Err change_error.Full) (Ok (after_change n v))))) in
      subst (λ b. P b (finds_no_room n v)) (in-use v) (subst (P (is_in_use m v)) (no-room v) (by (is_in_use m v) (finds_no_room m v)))
    where
      by : (b d : Bool) → AreAlike (changed_or m (cond b (Err change_error.InUse) (cond d (Err change_error.Full) (Ok (after_change m v))))) (changed_or n (cond b (Err change_error.InUse) (cond d (Err change_error.Full) (Ok (after_change n v)))))
      by true d = record { setup = refl; steps = refl; ends = alike }
      by false true = record { setup = refl; steps = refl; ends = alike }
      by false false = record { setup = refl; steps = refl; ends = alike }

  steps-alike : (v : Event) (fresh : ℕ) → AreAlikeAnswers (step m v fresh) (step n v fresh)
  steps-alike v fresh = answers v (effect_of m v fresh) (effect_of n v fresh) (effects v fresh)

pub same_step : (m n : NodeState) (v : Event) (fresh : ℕ) → AreAlike m n → AreAlikeAnswers (step m v fresh) (step n v fresh)
same_step m n v fresh a =
    let P : NodeState → Type 0 = λ q. AreAlikeAnswers (step q v fresh) (step n v fresh) in
    subst P (λ i. record { setup = sym a.setup i; steps = sym a.steps i; ends = m.ends }) (steps-alike n.setup n.steps m.ends n.ends a.ends v fresh)

pub forgets_alike : (n : NodeState) (below : ℕ) → AreAlike n (record n { ends = without_causes_below below n.ends })
forgets_alike n below = record { setup = refl; steps = refl; ends = forgotten-alike below n.ends }

pub forgets_still_alike : (m n : NodeState) (below : ℕ) → AreAlike m n → AreAlike (record m { ends = without_causes_below below m.ends }) n
forgets_still_alike m n below a = record { setup = a.setup; steps = a.steps; ends = sym (forgotten-alike below m.ends) ∙ a.ends }

settled-alike : (m n : NodeState) (a b : Result (Reply × NodeState) StepError) → AreAlike m n → AreAlikeAnswers a b → AreAlike (node_after m a) (node_after n b)
settled-alike m n a b alike (Same_reply r x y is was after) = rw (is, was) after
settled-alike m n a b alike (Both_gone v w is was) = rw (is, was) alike
settled-alike m n a b alike (Same_refusal e is was) = rw (is, was) alike

pub same_run : (xs : List (Event × ℕ)) (m n : NodeState) → AreAlike m n → AreAlike (run xs m) (run xs n)
same_run [] m n alike = alike
same_run (x ∷ xs) m n alike =
    same_run xs (node_after m (step m x.0 x.1)) (node_after n (step n x.0 x.1)) (settled-alike m n (step m x.0 x.1) (step n x.0 x.1) alike (same_step m n x.0 x.1 alike))

-- ---- whatever is done

same_change : (m n : NodeState) (v : Change) → AreAlike m n → AreAlike (changed_or m (change m v)) (changed_or n (change n v))
same_change m n v a =
    let P : NodeState → Type 0 = λ q. AreAlike (changed_or q (change q v)) (changed_or n (change n v)) in
    subst P (λ i. record { setup = sym a.setup i; steps = sym a.steps i; ends = m.ends }) (changes-alike n.setup n.steps m.ends n.ends a.ends v)

same_act : (m n : NodeState) (x : Act) → AreAlike m n → AreAlike (act m x) (act n x)
same_act m n (acts.Steps v fresh) alike = settled-alike m n (step m v fresh) (step n v fresh) alike (same_step m n v fresh alike)
same_act m n (acts.Changes v) alike = same_change m n v alike
same_act m n (acts.Forgets below) alike = record { setup = alike.setup; steps = alike.steps; ends = sym (forgotten-alike below m.ends) ∙ alike.ends ∙ forgotten-alike below n.ends }
same_act m n acts.Renews alike =
    let P : Bool → Bool → Type 0 = λ a b. AreAlike (cond a (opening m.setup) m) (cond b (opening n.setup) n) in
    subst (P (count_by is_open m.ends == 0)) (ap (λ k. k == 0) (opens-alike m.ends n.ends alike.ends)) (by (count_by is_open m.ends == 0))
  where
    by : (b : Bool) → AreAlike (cond b (opening m.setup) m) (cond b (opening n.setup) n)
    by true = record { setup = alike.setup; steps = refl; ends = refl }
    by false = alike

pub same_acts : (m n : NodeState) (xs : List Act) → AreAlike m n → AreAlike (run_acts xs m) (run_acts xs n)
same_acts m n [] alike = alike
same_acts m n (x ∷ xs) alike = same_acts (act m x) (act n x) xs (same_act m n x alike)

-- a node that never forgets goes on as one that does
goes-on : (m n : NodeState) (xs : List Act) → AreAlike m n → AreAlike (run_acts xs m) (run_acts (without_forgetting xs) n)
goes-on m n [] alike = alike
goes-on m n (acts.Forgets below ∷ xs) alike = goes-on (act m (acts.Forgets below)) n xs (forgets_still_alike m n below alike)
goes-on m n (x ∷ xs) alike = goes-on (act m x) (act n x) xs (same_act m n x alike)

pub never_forgets : (n : NodeState) (xs : List Act) → AreAlike (run_acts xs n) (run_acts (without_forgetting xs) n)
never_forgets n xs = goes-on n n xs (record { setup = refl; steps = refl; ends = refl })
