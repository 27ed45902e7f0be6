-- Every shown end is up, and a guard's node is a run.
use Rattle.dist_c_guest.proofs.Common.{◌≡◌, ℕ, zero, suc, ◌<◌, Bool, true, false, not, ◌&&◌, eqb, List, [], ◌∷◌, ◌++◌, is_some, if◌then◌else◌, ◌==◌, slice_get}
use Rattle.dist_c_guest.proofs.Common.{Some, None, Ok, Err, count_by, Option, Result, sym, refl, ap, ◌∙◌, subst, inl, inr, arith, eq-eqb, eqb-true, and_parts}
use Rattle.dist_c_guest.proofs.Common.{false≢true, not-true, or_cases, Name, itself_lem, EndId, AreLegal, end_id, entry_in, is_held, is_open, names, End}
use Rattle.dist_c_guest.proofs.Common.{UpRecord, Why, Setup, Act, Changes, Forgets, Renews, Steps, act, changed_or, run_acts, NodeState, node_after, opening}
use Rattle.dist_c_guest.proofs.Common.{after, at_end, step, step_result, Effect, Event, Reply, StepError}
use Rattle.dist_c_guest.proofs.UpStays.{Shuts, up-stays}
use Rattle.dist_peers.specs.declared.entry.Entry.TheVariants as entry
use Rattle.dist_core_ends.specs.declared.known.End.TheVariants as ends
use Rattle.dist_core_ends.proofs.Opens.{count-some}
use Rattle.dist_core.specs.{Step.effect_of, declared.changing.Change.Change}
use Rattle.dist_core.specs.declared.event.Event.TheVariants as event
use Rattle.dist_core.proofs.Words.{some_pair_parts, Up, Entry, without_cause, without_causes_below, change, closes}
use Rattle.dist_core_laws.proofs.Succeeding.{has-effect, lost-closed}
use Rattle.dist_c_guest.specs.Guard.{Guard, Told, Asks, Shows, Gone, AreUp, acts_asked, acts_guarded, acts_run, closes_up_end, first_guard, guarded, held_reply}
use Rattle.dist_c_guest.specs.Guard.{is_up_end, run_guard}

up-record : (o : Option End) → is_up_end o ≡ true → (r : UpRecord) × (o ≡ Some (ends.Up r))
up-record (Some (ends.Up r)) h = (r, refl)
up-record o h = absurd (false≢true h)

-- ---- a loss closes its own end alone

closed-by : (x : EndId) (w : Why) (o : Option End) (f : Effect) → at_end o (λ e. Ok (closes x w)) ≡ Ok f → closes x w ≡ f
closed-by x w None f is = absurd cc
closed-by x w (Some (ends.Closed c)) f is = absurd cc
closed-by x w (Some e) f is = cc

loss-closes : (n : NodeState) (x : EndId) (w : Why) (f : Effect) → effect_of n (event.Lost x w) 0 ≡ Ok f → closes x w ≡ f
unfolding effect_of
loss-closes n x w f is = closed-by x w (slice_get n.ends x.0) f is

loss-reports : (n : NodeState) (x : EndId) (w : Why) (r : Reply) (m : NodeState) → step n (event.Lost x w) 0 ≡ Ok (r, m) → Some (x, w) ≡ r.closed
loss-reports n x w r m is =
    let h = has-effect n (event.Lost x w) 0 r m is in
    ap (λ (f : Effect). f.reply.closed) (loss-closes n x w h.effect h.is) ∙ ap (λ (q : Reply). q.closed) h.reply

-- ---- an end that is up stays so, whatever the node is asked

-- forgetting takes away causes alone
forgotten-up : (k : UpRecord) (below : ℕ) (es : List End) (i : ℕ) → slice_get es i ≡ Some (ends.Up k) → slice_get (without_causes_below below es) i ≡ Some (ends.Up k)
forgotten-up k zero [] i up = up
forgotten-up k (suc b) [] i up = up
forgotten-up k zero (e ∷ es) i up = up
forgotten-up k (suc b) (e ∷ es) zero up = let is : e ≡ ends.Up k = cc in ap (λ (d : End). Some (without_cause d)) is
forgotten-up k (suc b) (e ∷ es) (suc i) up = forgotten-up k b es i up

-- no change of the setup changes ends
abbrev Lasting : Type 0
Lasting = (n : NodeState) (v : Change) → (changed_or n (change n v)).ends ≡ n.ends

module _ (n : NodeState) (legal : AreLegal n.ends) (i : ℕ) (k : UpRecord) (up : slice_get n.ends i ≡ Some (ends.Up k)) where
  shut-up : (o : Option (EndId × Why)) → Shuts o (end_id i) → closes_up_end n o ≡ true
  shut-up o h = ap (closes_up_end n) h.1 ∙ ap is_up_end up

  by-step : (v : Event) (fresh : ℕ) (r : Reply) (m : NodeState) → step n v fresh ≡ Ok (r, m) → (Shuts r.closed (end_id i) → ⊥) → slice_get m.ends i ≡ Some (ends.Up k)
  by-step v fresh r m is unshut =
      let h = has-effect n v fresh r m is in
      let open-yet : Shuts h.effect.reply.closed (end_id i) → ⊥ = λ shut. unshut (shut.0, ap (λ (q : Reply). q.closed) (sym h.reply) ∙ shut.1) in
      ap (λ (q : NodeState). slice_get q.ends i) h.node ∙ up-stays n legal (end_id i) k up v fresh h.effect h.is open-yet

  by-loss : (x : EndId) (w : Why) → (x.0 == i) ≡ false → slice_get (let m = node_after n (step n (event.Lost x w) 0) in m.ends) i ≡ Some (ends.Up k)
  by-loss x w apart = by (step n (event.Lost x w) 0) refl
    where
      other : (r : Reply) (m : NodeState) → step n (event.Lost x w) 0 ≡ Ok (r, m) → Shuts r.closed (end_id i) → ⊥
      other r m is shut =
          let one : x ≡ end_id i = (some_pair_parts x (end_id i) w shut.0 (loss-reports n x w r m is ∙ shut.1)).0 in
          false≢true (sym apart ∙ ap (λ (y : EndId). eqb y.0 i) one ∙ eq-eqb i i refl)

      by : (s : Result (Reply × NodeState) StepError) → step n (event.Lost x w) 0 ≡ s → slice_get (let m = node_after n s in m.ends) i ≡ Some (ends.Up k)
      by (Err e) is = up
      by (Ok (r, m)) is = by-step (event.Lost x w) 0 r m is (other r m is)

  by-rule : (v : Event) (fresh : ℕ) (s : Result (Reply × NodeState) StepError) → step n v fresh ≡ s → slice_get (let m = run_acts (if is_some (held_reply n s) then [] else Steps v fresh ∷ []) n in m.ends) i ≡ Some (ends.Up k)
  by-rule v fresh (Err e) is = ap (λ (s : Result (Reply × NodeState) StepError). slice_get (let m = node_after n s in m.ends) i) is ∙ up
  by-rule v fresh (Ok (r, m)) is = by (closes_up_end n r.closed) refl
    where
      by : (b : Bool) → closes_up_end n r.closed ≡ b → slice_get (let q = run_acts (if is_some (if b then Some r else None) then [] else Steps v fresh ∷ []) n in q.ends) i ≡ Some (ends.Up k)
      by true held = up
      by false free =
          ap (λ (s : Result (Reply × NodeState) StepError). slice_get (let q = node_after n s in q.ends) i) is
          ∙ by-step v fresh r m is (λ shut. false≢true (sym free ∙ shut-up r.closed shut))

  renewed : (b : Bool) → (count_by is_open n.ends == 0) ≡ b → slice_get (let m = (if b then opening n.setup else n) in m.ends) i ≡ Some (ends.Up k)
  renewed true none =
      let some : 0 < count_by is_open n.ends = count-some n.ends i (ends.Up k) up refl in
      absurd (omega (arith, some, eqb-true (count_by is_open n.ends) 0 none))
  renewed false some = up

  asked-up : Lasting → (a : Act) → slice_get (let m = run_acts (acts_asked n a) n in m.ends) i ≡ Some (ends.Up k)
  asked-up lasting (Steps v fresh) = by-rule v fresh (step n v fresh) refl
  asked-up lasting (Changes v) = ap (λ (es : List End). slice_get es i) (lasting n v) ∙ up
  asked-up lasting (Forgets below) = forgotten-up k below n.ends i up
  asked-up lasting Renews = renewed (count_by is_open n.ends == 0) refl

-- ---- what a guard is told

module _ (lasting : Lasting) (g : Guard) (legal : AreLegal g.node.ends) (all : AreUp g) where
  told-up : (t : Told) → AreUp (guarded g t)
  told-up (Asks a) i s = let u = all i s in (u.0, asked-up g.node legal i u.0 u.1 lasting a)
  told-up (Shows x) i s = elim (or_cases (x.0 == i && is_up_end (slice_get g.node.ends i)) (g.shown i) s) [
    | inl new ↦ up-record (slice_get g.node.ends i) (and_parts (x.0 == i) (is_up_end (slice_get g.node.ends i)) new).1
    | inr old ↦ all i old
  ]
  told-up (Gone x w) i s =
      let p = and_parts (not (x.0 == i)) (g.shown i) s in
      let u = all i p.1 in
      (u.0, by-loss g.node legal i u.0 u.1 x w (not-true (x.0 == i) p.0))

-- ---- its node is the run of what was not held

append : (xs ys : List Act) (n : NodeState) → run_acts (xs ++ ys) n ≡ run_acts ys (run_acts xs n)
append [] ys n = refl
append (x ∷ xs) ys n = append xs ys (act n x)

pub run-is-run : (ts : List Told) (g : Guard) → (let k = run_guard ts g in k.node) ≡ run_acts (acts_run ts g) g.node
run-is-run [] g = refl
run-is-run (t ∷ ts) g = run-is-run ts (guarded g t) ∙ sym (append (acts_guarded g t) (acts_run ts (guarded g t)) g.node)

-- ---- all that a guard is told

abbrev Legals : Type 0
Legals = (s : Setup) (xs : List Act) → AreLegal (run_acts xs (opening s)).ends

shown-from : Legals → Lasting → (s : Setup) (ts : List Told) (xs : List Act) (g : Guard) → g.node ≡ run_acts xs (opening s) → AreUp g → AreUp (run_guard ts g)
shown-from legals lasting s [] xs g is all = all
shown-from legals lasting s (t ∷ ts) xs g is all =
    let legal : AreLegal g.node.ends = subst (λ (n : NodeState). AreLegal n.ends) (sym is) (legals s xs) in
    let more : (let k = guarded g t in k.node) ≡ run_acts (xs ++ acts_guarded g t) (opening s) =
    ap (run_acts (acts_guarded g t)) is ∙ sym (append xs (acts_guarded g t) (opening s)) in
    shown-from legals lasting s ts (xs ++ acts_guarded g t) (guarded g t) more (told-up lasting g legal all t)

pub shown-up : Legals → Lasting → (s : Setup) (ts : List Told) → AreUp (run_guard ts (first_guard s))
shown-up legals lasting s ts = shown-from legals lasting s ts [] (first_guard s) refl (λ i bad. absurd (false≢true bad))

-- ---- one of a peer

one-up : (o : Option Entry) (i j : ℕ) → names Up i o ≡ true → names Up j o ≡ true → i ≡ j
one-up (Some (entry.Up x)) i j h k = sym (eqb-true x.0 i h) ∙ eqb-true x.0 j k
one-up (Some (entry.Challenged x y)) i j h k = sym (eqb-true x.0 i h) ∙ eqb-true x.0 j k
one-up o i j h k = absurd (false≢true h)

named-up : (n : NodeState) → AreLegal n.ends → (i : ℕ) (r : UpRecord) → slice_get n.ends i ≡ Some (ends.Up r) → names Up i (entry_in n.ends r.peer) ≡ true
named-up n legal i r up = sym (legal r.peer Up i) ∙ ap (is_held r.peer Up) up ∙ itself_lem r.peer

pub one-of-a-peer : (n : NodeState) → AreLegal n.ends → (i j : ℕ) (r s : UpRecord) → slice_get n.ends i ≡ Some (ends.Up r) → slice_get n.ends j ≡ Some (ends.Up s) → r.peer ≡ s.peer → i ≡ j
one-of-a-peer n legal i j r s u v e = one-up (entry_in n.ends r.peer) i j (named-up n legal i r u) (ap (λ (p : Name). names Up j (entry_in n.ends p)) e ∙ named-up n legal j s v)

-- ---- an end whose connection is gone

loses : (n : NodeState) (x : EndId) (w : Why) (r : UpRecord) → slice_get n.ends x.0 ≡ Some (ends.Up r) → effect_of n (event.Lost x w) 0 ≡ Ok (closes x w)
unfolding effect_of
loses n x w r up = ap (λ (o : Option End). at_end o (λ e. Ok (closes x w))) up

pub gone-closed : (g : Guard) (x : EndId) (w : Why) (r : UpRecord) → slice_get g.node.ends x.0 ≡ Some (ends.Up r) → slice_get (let k = guarded g (Gone x w) in k.node.ends) x.0 ≡ Some (ends.Closed w)
gone-closed g x w r up =
    let made : step g.node (event.Lost x w) 0 ≡ step_result g.node (event.Lost x w) (Ok (closes x w)) = ap (step_result g.node (event.Lost x w)) (loses g.node x w r up) in
    ap (λ (s : Result (Reply × NodeState) StepError). slice_get (let m = node_after g.node s in m.ends) x.0) made
    ∙ lost-closed g.node x w 0 (let f = closes x w in f.reply) (after g.node (event.Lost x w) (closes x w)) made

pub gone-hidden : (g : Guard) (x : EndId) (w : Why) → (let k = guarded g (Gone x w) in k.shown x.0) ≡ false
gone-hidden g x w = ap (λ (b : Bool). not b && g.shown x.0) (eq-eqb x.0 x.0 refl)
