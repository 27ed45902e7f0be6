-- A handshake at running nodes can be decided by few happenings.
use Rattle.dist_world_model.proofs.Words.{◌≡◌, ℕ, zero, suc, ◌+◌, ◌<◌, ◌≤◌, not, true, false, cond, eqb, Bool, ◌&&◌, List, [], ◌∷◌, ◌++◌, length, is_some, IfSome}
use Rattle.dist_world_model.proofs.Words.{slice_get, Some, None, Ok, Err, Option, option_map, sym, refl, ap, ◌∙◌, subst, arith, length-append, false≢true}
use Rattle.dist_world_model.proofs.Words.{and_parts, lt-ltb, same_Some, AllByRecursion, Side, Acceptor, Dialler, EndId, End, Phase, Setup, NodeState, NodeLaws}
use Rattle.dist_world_model.proofs.Words.{AreLegal, or_left, is_dialing, other_view, ends_after, after, step, step_result, waits_in, Effect, Event, Reply, EndRow, rows_after}
use Rattle.dist_world_model.proofs.Words.{after_delivery, change_to, conns_after_saying, says, spoken_on, text_to, applied_at, body_taken, conn_of, happens, is_nonempty}
use Rattle.dist_world_model.proofs.Words.{is_open_end, life_after, most_applied, notify, ticked_on, without_closing, world_after, AllLives, at_place, first_where, run}
use Rattle.dist_world_model.proofs.Words.{AreSetups, AllFit, Conn, Life, Text, World, empty, end_at, end_of_life, row_at, running, runs, runs_for, ltb, w16, first_body}
use Rattle.dist_world_model.specs.{Delivery.empty_text, declared.happening.Happening.Happening}
use Rattle.dist_world_model.specs.declared.happening.Happening.TheVariants as happening
use Rattle.dist_world_model.proofs.Conditions.{holds, if_holds, if_ok, if_there, succeeds, there}
use Rattle.dist_world_model.proofs.HappeningEffects.{is-running, run-append, step-ok, where-applied}
use Rattle.dist_world_model.proofs.{LastingFacts.IsWhole, Lookups.changed-at, Lookups.end_in, OtherRows.end-after, Places.get-place}
use Rattle.dist_core.specs.{Node.is_spent, Node.limits_of, Step.cost_of, Step.effect_of, Step.at_end, Step.opened_in, Step.opening_effect}
use Rattle.dist_core.specs.declared.event.Event.TheVariants as event
use Rattle.dist_core.specs.declared.step_error.StepError.TheVariants as error
use Rattle.dist_core_ends.specs.Ends.{end_id, is_open}
use Rattle.dist_core_ends.specs.declared.known.End.TheVariants as ends
use Rattle.dist_core_ends.specs.declared.phase.Phase.TheVariants as phase
use Rattle.dist_core_setup.specs.declared.limits.Limits.{Limits}
use Rattle.std.specs.Prelude.{option_and_then}
use Rattle.dist_world_progress.specs.Progress.{CanBeDecided, HandshakesCanBeDecided, HasEnds, HasSteps, IsCarried, end_on, incarnation_at, is_due, is_over, is_up, number_at}
use Rattle.dist_world_progress.proofs.{FlowWorlds.IsFlowing, FlowWorlds.flowing, FlowWorlds.flows-on, Stages.stage_of, Stages.stage-low, Stages.stage-most}
use Rattle.dist_world_progress.proofs.Handshakes.{Stands, Succeeded, To_acceptor, To_dialler, Unopened, over-closed, stands-in}
use Rattle.dist_world_progress.proofs.TakeCounts.{Forward, happens-forward, opened-forward, seen-on, take-forward}
use Rattle.dist_world_progress.proofs.Taking.{due_taken, row-on, some-there, takes-when}

-- ---- what a happening of a handshake leaves

-- a connection but for what is on its way
abbrev pub seats : Conn → Conn
seats k = record k { there = empty_text; back = empty_text }

-- connections, ends and running incarnations are those that were, and no node made more than s steps
record Kept (s : ℕ) (ls ls' : List Life) (cs cs' : List Conn) : Type 0 where
  conn : (c : ℕ) → option_map seats (slice_get cs' c) ≡ option_map seats (slice_get cs c)
  ends : (i p : ℕ) → is_some (end_in ls i p) ≡ true → is_some (end_in ls' i p) ≡ true
  running : (node : ℕ) → first_where (runs_for node) ls' ≡ first_where (runs_for node) ls
  life : (i : ℕ) (l : Life) → slice_get ls i ≡ Some l → (m : Life) × (slice_get ls' i ≡ Some m) × (limits_of m.node ≡ limits_of l.node) × (m.node.steps ≤ l.node.steps + s)

kept-same : (s : ℕ) (ls : List Life) (cs ds : List Conn) → ((c : ℕ) → option_map seats (slice_get ds c) ≡ option_map seats (slice_get cs c)) → Kept s ls ls cs ds
kept-same s ls cs ds h = record { conn = h; ends = λ i p h. h; running = λ node. refl; life = λ i l at. (l, at, refl, omega arith) }

kept-then : (s t : ℕ) (ls ms ns : List Life) (cs ds es : List Conn) → Kept s ls ms cs ds → Kept t ms ns ds es → Kept (s + t) ls ns cs es
kept-then s t ls ms ns cs ds es a b = record {
  conn = λ c. b.conn c ∙ a.conn c;
  ends = λ i p h. b.ends i p (a.ends i p h);
  running = λ node. b.running node ∙ a.running node;
  life = λ i l at. (let x = a.life i l at in let y = b.life i x.0 x.1 in let m = x.3 in let n = y.3 in (y.0, y.1, y.2 ∙ x.2, omega (arith, m, n)));
}

pub seats-at : (i : ℕ) (g : Conn → Conn) → ((k : Conn) → seats (g k) ≡ seats k) → (cs : List Conn) (c : ℕ) → option_map seats (slice_get (at_place i g cs) c) ≡ option_map seats (slice_get cs c)
seats-at i g h cs c = ap (option_map seats) (get-place i g cs c) ∙ elim (eqb i c) as (λ b. option_map seats (cond b (option_map g (slice_get cs c)) (slice_get cs c)) ≡ option_map seats (slice_get cs c)) [
  | true ↦ by (slice_get cs c)
  | false ↦ refl
]
  where
    by : (o : Option Conn) → option_map seats (option_map g o) ≡ option_map seats o
    by None = refl
    by (Some k) = ap (λ (k : Conn). Some k) (h k)

pub text-seats : (side : Side) (g : Text → Text) (k : Conn) → seats (change_to side g k) ≡ seats k
text-seats Dialler g k = refl
text-seats Acceptor g k = refl

pub said-seats : (cs : List Conn) (o : Option EndRow) (say : List ℕ) (c : ℕ) → option_map seats (slice_get (conns_after_saying cs o say) c) ≡ option_map seats (slice_get cs c)
said-seats cs None say c = refl
said-seats cs (Some row) say c = by row.conn
  where
    spoken : (side : Side) (k : Conn) → seats (says side say k) ≡ seats k
    spoken Dialler k = refl
    spoken Acceptor k = refl

    by : (o : Option ℕ) → option_map seats (slice_get (spoken_on cs o row.side say) c) ≡ option_map seats (slice_get cs c)
    by None = refl
    by (Some d) = seats-at d (says row.side say) (spoken row.side) cs c

pub first-same : {A : Type 0} (test : A → Bool) (i : ℕ) (g : A → A) (xs : List A) → ((x : A) → slice_get xs i ≡ Some x → test (g x) ≡ test x) → first_where test (at_place i g xs) ≡ first_where test xs
first-same test i g [] h = refl
first-same test zero g (x ∷ xs) h = ap (λ b. cond b (Some 0) (option_map suc (first_where test xs))) (h x refl)
first-same test (suc i) g (x ∷ xs) h = ap (λ o. cond (test x) (Some 0) (option_map suc o)) (first-same test i g xs h)

few-steps : (v : Event) → cost_of v ≤ 1
few-steps (event.Lost id w) = omega arith
few-steps v = omega arith

module _ (laws : NodeLaws) (w : World) (seen : AllLives (IsWhole w.clock) w) where
  abbrev Keeps : ℕ → World → Type 0
  Keeps s x = Kept s w.lives x.lives w.conns x.conns

  ends-there : (l : Life) (legal : AreLegal l.node.ends) (v : Event) (fresh : ℕ) (f : Effect) → effect_of l.node v fresh ≡ Ok f → (p : ℕ) → is_some (slice_get l.node.ends p) ≡ true → is_some (slice_get (ends_after l.node.ends f) p) ≡ true
  ends-there l legal v fresh f ok p h = subst (λ o. is_some o ≡ true) (sym (end-after laws l.node legal v fresh f ok p)) (by f.other)
    where
      own : is_some (cond (eqb f.reply.end_.0 p) (Some f.this) (slice_get l.node.ends p)) ≡ true
      own = elim (eqb f.reply.end_.0 p) as (λ b. is_some (cond b (Some f.this) (slice_get l.node.ends p)) ≡ true) [ true ↦ refl | false ↦ h ]

      by : (o : Option (EndId × End)) → is_some (other_view o (λ i. cond (eqb f.reply.end_.0 i) (Some f.this) (slice_get l.node.ends i)) p) ≡ true
      by None = own
      by (Some x) = elim (eqb (let y = x.0 in y.0) p) as (λ b. is_some (cond b (Some x.1) (cond (eqb f.reply.end_.0 p) (Some f.this) (slice_get l.node.ends p))) ≡ true) [ true ↦ refl | false ↦ own ]

  notified-keeps : (i : ℕ) (v : Event) (fresh : ℕ) (ds : List Conn) → ((c : ℕ) → option_map seats (slice_get ds c) ≡ option_map seats (slice_get w.conns c)) → IfSome (notify (record w { conns = ds }) i v fresh) (Keeps 1)
  notified-keeps i v fresh ds same =
      if_there (Keeps 1) (slice_get w.lives i) _ (λ l at.
      if_holds (Keeps 1) (runs l) _ (λ live.
      if_ok (Keeps 1) (step l.node v fresh) _ (λ x is.
      let g = step-ok l.node v fresh x is in
      let f = g.0 in
      let s = seen i l at in
      let m = life_after w.clock v f.reply (after l.node v f) l in
      let alike : (x : Life) → slice_get w.lives i ≡ Some x → x ≡ l = λ x e. same_Some x l (sym e ∙ at) in
      subst (λ (y : Reply × NodeState). Kept 1 w.lives (at_place i (λ (old : Life). life_after w.clock v y.0 y.1 l) w.lives) w.conns (let r = y.0 in conns_after_saying ds (slice_get (rows_after w.clock v r l.rows) r.end_.0) r.say)) (sym g.2) (record {
        conn = λ c. said-seats ds _ f.reply.say c ∙ same c;
        ends = λ j p. changed-at (λ o. end_of_life o p) (λ a b. is_some a ≡ true → is_some b ≡ true) (λ a h. h) i (λ (old : Life). m) w.lives l at j (λ e. ends-there l (let z = s.0 in z.legal) v fresh f g.1 p);
        running = λ node. first-same (runs_for node) i (λ (old : Life). m) w.lives (λ x e. ap (runs_for node) (sym (alike x e)));
        life = λ j. changed-at (λ o. o) (λ a b. (l : Life) → a ≡ Some l → (m : Life) × (b ≡ Some m) × (limits_of m.node ≡ limits_of l.node) × (m.node.steps ≤ l.node.steps + 1)) (λ a l e. (l, e, refl, omega arith)) i (λ (old : Life). m) w.lives l at j
            (λ e k q. let z : l ≡ k = same_Some l k q in let few = few-steps v in subst (λ (k : Life). (m : Life) × (Some (life_after w.clock v f.reply (after l.node v f) l) ≡ Some m) × (limits_of m.node ≡ limits_of k.node) × (m.node.steps ≤ k.node.steps + 1)) z (m, refl, refl, omega (arith, few)));
      }))))

  on-happening : (s : ℕ) (h : Happening) → IfSome (world_after (without_closing w) h) (Keeps s) → Keeps s (happens w h)
  on-happening s h k = by (applied_at w h) (where-applied (Keeps s) w h k)
    where
      by : (o : Option World) → IfSome o (Keeps s) → Keeps s (ticked_on w o)
      by None g = kept-same s w.lives w.conns w.conns (λ c. refl)
      by (Some x) g = g

  -- ---- the three happenings

  deliver-keeps : (node : ℕ) (id : EndId) (n : ℕ) → Keeps 0 (happens w (happening.Deliver node id n))
  deliver-keeps node id n = on-happening 0 (happening.Deliver node id n) (
      if_there (Keeps 0) (running w node) _ (λ i e.
      if_holds (Keeps 0) (is_open_end (end_at w i id.0)) _ (λ open_.
      if_there (Keeps 0) (row_at w i id.0) _ (λ row at.
      if_there (Keeps 0) row.conn _ (λ c on.
      if_there (Keeps 0) (slice_get w.conns c) _ (λ k at-c.
      if_holds (Keeps 0) (ltb 0 n && is_nonempty (text_to row.side k).said) _ (λ some.
      kept-same 0 w.lives w.conns _ (seats-at c (change_to row.side (after_delivery n)) (text-seats row.side (after_delivery n)) w.conns))))))))

  take-keeps : (node : ℕ) (id : EndId) (fresh : ℕ) → Keeps 1 (happens w (happening.Take node id fresh))
  take-keeps node id fresh = on-happening 1 (happening.Take node id fresh) (
      if_there (Keeps 1) (running w node) _ (λ i e.
      if_there (Keeps 1) (row_at w i id.0) _ (λ row at.
      if_there (Keeps 1) row.conn _ (λ c on.
      if_there (Keeps 1) (slice_get w.conns c) _ (λ k at-c.
      if_there (Keeps 1) (let t = text_to row.side k in first_body w16 t.come) _ (λ body is.
      notified-keeps i (event.Frame id body) fresh _ (seats-at c (change_to row.side body_taken) (text-seats row.side body_taken) w.conns)))))))

  opened-keeps : (node : ℕ) (id : EndId) → Keeps 1 (happens w (happening.Opened node id))
  opened-keeps node id = on-happening 1 (happening.Opened node id) (
      if_there (Keeps 1) (running w node) _ (λ i e.
      if_there (Keeps 1) (conn_of (row_at w i id.0)) _ (λ c on.
      notified-keeps i (event.Opened id c) 0 w.conns (λ c. refl))))

  -- ---- one that applies brings its end on

  strictly : (a : ℕ) (id : EndId) (h : Happening) → IfSome (world_after (without_closing w) h) (Forward laws (without_closing w) seen a id) → (i : ℕ) → running w a ≡ Some i → is_some (applied_at w h) ≡ true
      → stage_of (end_in w.lives i id.0) < stage_of (end_in (happens w h).lives i id.0)
  strictly a id h fw i r is = by (applied_at w h) (where-applied (Forward laws (without_closing w) seen a id) w h fw) is
    where
      by : (o : Option World) → IfSome o (Forward laws (without_closing w) seen a id) → is_some o ≡ true → stage_of (end_in w.lives i id.0) < stage_of (end_in (ticked_on w o).lives i id.0)
      by None g e = absurd (false≢true e)
      by (Some x) g e = g i r

pub clock-on : (w : World) (h : Happening) → (happens w h).clock ≤ w.clock + 1
clock-on w h = by (applied_at w h)
  where
    by : (o : Option World) → (ticked_on w o).clock ≤ w.clock + 1
    by None = omega arith
    by (Some x) = omega arith

-- ---- the two sides of a connection afterwards

steps-after : (s : ℕ) (w x : World) → Kept s w.lives x.lives w.conns x.conns → (node place m n : ℕ) → s + n ≤ m → HasSteps w node place m → HasSteps x node place n
steps-after s w x k node place m n most h =
    let g = k.life place h.life h.lives in
    let l = g.0 in
    let e : (let a = limits_of l.node in a.steps) ≡ (let a = limits_of h.life.node in a.steps) = ap (λ (a : Limits). a.steps) g.2 in
    let few = g.3 in
    let left = h.left in
    record { life = l; runs = k.running node ∙ h.runs; lives = g.1; left = omega (arith, e, few, left, most) }

record After (x : World) (c : ℕ) (k : Conn) : Type 0 where
  conn : Conn
  d : End
  a : End
  has : HasEnds x c conn d a
  same : seats conn ≡ seats k
  first : end_on x Dialler k ≡ Some d
  second : end_on x Acceptor k ≡ Some a

side-same : (x : World) (side : Side) (h k : Conn) → seats h ≡ seats k → end_on x side h ≡ end_on x side k
side-same x Dialler h k e = ap (end_on x Dialler) e
side-same x Acceptor h k e = ap (end_on x Acceptor) e

ends-after-kept : (s : ℕ) (w x : World) → Kept s w.lives x.lives w.conns x.conns → (c : ℕ) (k : Conn) (d a : End) → HasEnds w c k d a → After x c k
ends-after-kept s w x kept c k d a o = by (slice_get x.conns c) refl (kept.conn c ∙ ap (option_map seats) o.conn)
  where
    passed : (n : Option ℕ) (i : ℕ) → is_some (option_and_then (end_at w i) n) ≡ true → is_some (option_and_then (end_at x i) n) ≡ true
    passed None i h = h
    passed (Some p) i h = kept.ends i p h

    by : (q : Option Conn) → slice_get x.conns c ≡ q → option_map seats q ≡ Some (seats k) → After x c k
    by None at e = absurd cc
    by (Some h) at e =
        let same : seats h ≡ seats k = same_Some (seats h) (seats k) e in
        let f = some-there (end_on x Dialler k) (passed (Some k.dialler) k.life (ap is_some o.dialled)) in
        let g = some-there (end_on x Acceptor k) (passed k.accepted k.target (ap is_some o.accepted)) in
        record { conn = h; d = f.0; a = g.0; has = record { conn = at; dialled = side-same x Dialler h k same ∙ f.1; accepted = side-same x Acceptor h k same ∙ g.1 }; same = same; first = f.1; second = g.1 }

-- how far both ends have come
abbrev reach : World → Conn → ℕ
reach w k = stage_of (end_on w Dialler k) + stage_of (end_on w Acceptor k)

abbrev AllForward : World → World → Type 0
AllForward w x = (i p : ℕ) → stage_of (end_in w.lives i p) ≤ stage_of (end_in x.lives i p)

side-forward : (w x : World) → AllForward w x → (side : Side) (k : Conn) → stage_of (end_on w side k) ≤ stage_of (end_on x side k)
side-forward w x h side k = by (number_at side k)
  where
    by : (n : Option ℕ) → stage_of (option_and_then (end_at w (incarnation_at side k)) n) ≤ stage_of (option_and_then (end_at x (incarnation_at side k)) n)
    by None = omega arith
    by (Some p) = h (incarnation_at side k) p

reach-more : (w x : World) → AllForward w x → (side : Side) (k : Conn) (id : ℕ) → number_at side k ≡ Some id → stage_of (end_in w.lives (incarnation_at side k) id) < stage_of (end_in x.lives (incarnation_at side k) id) → reach w k < reach x k
reach-more w x h side k id n less = by side n less
  where
    own : (s : Side) → number_at s k ≡ Some id → (y : World) → stage_of (end_on y s k) ≡ stage_of (end_in y.lives (incarnation_at s k) id)
    own s n y = ap (λ o. stage_of (option_and_then (end_at y (incarnation_at s k)) o)) n

    by : (s : Side) → number_at s k ≡ Some id → stage_of (end_in w.lives (incarnation_at s k) id) < stage_of (end_in x.lives (incarnation_at s k) id) → reach w k < reach x k
    by Dialler n less = let a = own Dialler n w in let b = own Dialler n x in let c = side-forward w x h Acceptor k in omega (arith, a, b, c, less)
    by Acceptor n less = let a = own Acceptor n w in let b = own Acceptor n x in let c = side-forward w x h Dialler k in omega (arith, a, b, c, less)

-- ---- one turn

record Turn (w : World) (k : Conn) : Type 0 where
  hs : List Happening
  few : length hs ≤ 2
  carried : AllByRecursion IsCarried hs
  fit : AllFit hs
  kept : Kept 1 w.lives (run hs w).lives w.conns (run hs w).conns
  more : reach w k < reach (run hs w) k
  clock : (run hs w).clock ≤ w.clock + 2

module _ (laws : NodeLaws) (w : World) (flows : IsFlowing w) (c : ℕ) (k : Conn) (ak : slice_get w.conns c ≡ Some k) (room : w.clock + 2 ≤ most_applied) where
  seen : AllLives (IsWhole w.clock) w
  seen = let q = flows.kept in q.seen

  take-turn : (side : Side) (node id : ℕ) (e : End) → number_at side k ≡ Some id → end_on w side k ≡ Some e → is_due side k e ≡ true → HasSteps w node (incarnation_at side k) 1 → Turn w k
  take-turn side node id e num is due steps =
      let n : ℕ = (let t = text_to side k in length t.said) in
      let h : Happening = happening.Deliver node (end_id id) n in
      let g : Happening = happening.Take node (end_id id) 0 in
      let x : World = happens w h in
      let y : World = happens x g in
      let seen' : AllLives (IsWhole x.clock) x = seen-on laws w h seen in
      let a = deliver-keeps laws w seen node (end_id id) n in
      let b = take-keeps laws x seen' node (end_id id) 0 in
      let applies : is_some (applied_at x g) ≡ true = due_taken w flows.kept c node id 0 k side e ak num is due steps room in
      let forth : AllForward w x = λ i p. happens-forward laws w seen i p h in
      let on : AllForward x y = λ i p. happens-forward laws x seen' i p g in
      let both : AllForward w y = λ i p. (let s = forth i p in let t = on i p in omega (arith, s, t)) in
      let run_ : running x node ≡ Some (incarnation_at side k) = a.running node ∙ steps.runs in
      let up = strictly laws x seen' node (end_id id) g (take-forward laws (without_closing x) seen' node (end_id id) 0) (incarnation_at side k) run_ applies in
      let was = forth (incarnation_at side k) id in
      let m = clock-on w h in
      let l = clock-on x g in
      record {
        hs = h ∷ g ∷ [];
        few = omega arith;
        carried = (tt, (tt, tt));
        fit = (tt, (omega arith, tt));
        kept = kept-then 0 1 w.lives x.lives y.lives w.conns x.conns y.conns a b;
        more = reach-more w y both side k id num (omega (arith, was, up));
        clock = omega (arith, m, l);
      }

  -- a dialled end that awaits its connection learns of it
  pub opened-step : (n : NodeState) (id : EndId) (link : ℕ) (e : End) → slice_get n.ends id.0 ≡ Some e → is_dialing (Some e) ≡ true → is_spent n ≡ false → (x : Reply × NodeState) × (step n (event.Opened id link) 0 ≡ Ok x)
  unfolding effect_of
  opened-step n id link (ends.Attempt a) at dials left = by a.phase refl dials
    where
      made : (f : Effect) → opened_in n id a a.phase ≡ cond (is_spent n) (Err error.Spent) (Ok f) → (x : Reply × NodeState) × (step n (event.Opened id link) 0 ≡ Ok x)
      made f q =
          let ok : effect_of n (event.Opened id link) 0 ≡ Ok f = ap (λ o. at_end o (opening_effect n id)) at ∙ q ∙ ap (λ b. cond b (Err error.Spent) (Ok f)) left in
          ((f.reply, after n (event.Opened id link) f), ap (step_result n (event.Opened id link)) ok)

      by : (q : Phase) → a.phase ≡ q → waits_in q ≡ true → (x : Reply × NodeState) × (step n (event.Opened id link) 0 ≡ Ok x)
      by phase.Dialing q h = made _ (ap (opened_in n id a) q)
      by phase.DoomedDialing q h = made _ (ap (opened_in n id a) q)
      by q e h = absurd (false≢true h)
  opened-step n id link e at dials left = absurd (false≢true dials)

  open-turn : (node : ℕ) (e : End) → end_on w Dialler k ≡ Some e → is_dialing (Some e) ≡ true → HasSteps w node k.life 1 → Turn w k
  open-turn node e is dials steps =
      let id : EndId = end_id k.dialler in
      let h : Happening = happening.Opened node id in
      let x : World = happens w h in
      let r = row-on w flows.kept c k ak Dialler k.dialler refl in
      let l : Life = steps.life in
      let left = steps.left in
      let unspent : is_spent l.node ≡ false = (let a = limits_of l.node in ap not (lt-ltb l.node.steps a.steps (omega (arith, left)))) in
      let at : slice_get l.node.ends k.dialler ≡ Some e = sym (ap (λ o. end_of_life o k.dialler) steps.lives) ∙ is in
      let s = opened-step l.node id c e at dials unspent in
      let live = is-running w node k.life l steps.runs steps.lives in
      let applies : is_some (applied_at w h) ≡ true = takes-when w h (omega (arith, room)) (ap is_some (there (running w node) k.life _ steps.runs
      ∙ there (conn_of (row_at w k.life k.dialler)) c _ (ap conn_of r.there ∙ r.conn)
      ∙ there (slice_get w.lives k.life) l _ steps.lives
      ∙ holds (runs l) _ live.1
      ∙ succeeds (step l.node (event.Opened id c) 0) s.0 _ s.1)) in
      let on : AllForward w x = λ i p. happens-forward laws w seen i p h in
      let m = clock-on w h in
      record {
        hs = h ∷ [];
        few = omega arith;
        carried = (tt, tt);
        fit = (tt, tt);
        kept = opened-keeps laws w seen node id;
        more = reach-more w x on Dialler k k.dialler refl (strictly laws w seen node id h (opened-forward laws (without_closing w) seen node id) k.life steps.runs applies);
        clock = omega (arith, m);
      }

-- ---- turns until it is over

-- an end at the last stage is up or closed
done : (e : End) → 4 ≤ stage_of (Some e) → is_open e ≡ true → is_up e ≡ true
done ends.Unnamed h o = absurd (let z : 4 ≤ 0 = h in omega (arith, z))
done (ends.Attempt a) h o = absurd (let s = stage-low a.phase in omega (arith, h, s))
done (ends.Up r) h o = refl
done (ends.Closed w) h o = absurd (false≢true o)

over-by : (d a : End) → (is_open d ≡ true → is_open a ≡ true → (is_up d ≡ true) × (is_up a ≡ true)) → is_over d a ≡ true
over-by d a h = elim (is_open d && is_open a) as (λ b. (is_open d && is_open a) ≡ b → is_over d a ≡ true) [
  | true ↦ λ e. let p = and_parts (is_open d) (is_open a) e in let g = h p.0 p.1 in or_left _ _ (λ i. g.0 i && g.1 i)
  | false ↦ λ e. over-closed d a e
] refl

all-carried : (hs gs : List Happening) → AllByRecursion IsCarried hs → AllByRecursion IsCarried gs → AllByRecursion IsCarried (hs ++ gs)
all-carried [] gs a b = b
all-carried (h ∷ hs) gs a b = (a.0, all-carried hs gs a.1 b)

module _ (laws : NodeLaws) (x y c : ℕ) where
  at-once : (n : ℕ) (w : World) (k : Conn) (d a : End) → HasEnds w c k d a → is_over d a ≡ true → CanBeDecided w c n
  at-once n w k d a o h = record { happenings = []; few = omega arith; carried = tt; conn = k; dialled = d; accepted = a; ends = o; over = h }

  abbrev Decides : ℕ → Type 0
  Decides n = (w : World) → IsFlowing w → (k : Conn) (d a : End) → HasEnds w c k d a → 8 ≤ reach w k + n → HasSteps w x k.life n → HasSteps w y k.target n → w.clock + (n + n) ≤ most_applied → CanBeDecided w c (n + n)

  none-left : Decides 0
  none-left w flows k d a o far s t room = at-once 0 w k d a o (over-by d a (λ p q. (done d (by-first far) p, done a (by-second far) q)))
    where
      by-first : 8 ≤ reach w k + 0 → 4 ≤ stage_of (Some d)
      by-first far = let p : stage_of (end_on w Dialler k) ≡ stage_of (Some d) = ap stage_of o.dialled in let m = stage-most (end_on w Acceptor k) in omega (arith, p, m, far)

      by-second : 8 ≤ reach w k + 0 → 4 ≤ stage_of (Some a)
      by-second far = let p : stage_of (end_on w Acceptor k) ≡ stage_of (Some a) = ap stage_of o.accepted in let m = stage-most (end_on w Dialler k) in omega (arith, p, m, far)

  one-more : (n : ℕ) → Decides n → Decides (suc n)
  one-more n decided w flows k d a o far s t room = elim (is_open d && is_open a) as (λ b. (is_open d && is_open a) ≡ b → CanBeDecided w c (suc n + suc n)) [
    | true ↦ λ e. by (stands-in w flows c k d a o e)
    | false ↦ λ e. at-once (suc n + suc n) w k d a o (over-closed d a e)
  ] refl
    where
      fewer : (node place : ℕ) → HasSteps w node place (suc n) → HasSteps w node place 1
      fewer node place s = let l = s.left in record { life = s.life; runs = s.runs; lives = s.lives; left = omega (arith, l) }

      little : w.clock + 2 ≤ most_applied
      little = omega (arith, room)

      on : Turn w k → CanBeDecided w c (suc n + suc n)
      on u =
          let v : World = run u.hs w in
          let z = ends-after-kept 1 w v u.kept c k d a o in
          let places : (z.conn.life ≡ k.life) × (z.conn.target ≡ k.target) = (ap (λ (k : Conn). k.life) z.same, ap (λ (k : Conn). k.target) z.same) in
          let reached : reach v z.conn ≡ reach v k = (λ i. stage_of (side-same v Dialler z.conn k z.same i) + stage_of (side-same v Acceptor z.conn k z.same i)) in
          let m = u.more in
          let q = u.clock in
          let r = decided v (flows-on laws u.hs w u.fit flows) z.conn z.d z.a z.has (omega (arith, reached, m, far))
          (subst (λ p. HasSteps v x p n) (sym places.0) (steps-after 1 w v u.kept x k.life (suc n) n (omega arith) s)) (subst (λ p. HasSteps v y p n) (sym places.1) (steps-after 1 w v u.kept y k.target (suc n) n (omega arith) t)) (omega (arith, q, room)) in
          let len = length-append u.hs r.happenings in
          let few = u.few in
          let few' = r.few in
          record {
            happenings = u.hs ++ r.happenings;
            few = omega (arith, len, few, few');
            carried = all-carried u.hs r.happenings u.carried r.carried;
            conn = r.conn;
            dialled = r.dialled;
            accepted = r.accepted;
            ends = subst (λ w. HasEnds w c r.conn r.dialled r.accepted) (sym (run-append u.hs r.happenings w)) r.ends;
            over = r.over;
          }

      by : Stands k d a → CanBeDecided w c (suc n + suc n)
      by (Succeeded p q) = at-once (suc n + suc n) w k d a o (over-by d a (λ e f. (p, q)))
      by (Unopened e) = on (open-turn laws w flows c k o.conn little x d o.dialled e (fewer x k.life s))
      by (To_dialler e) = on (take-turn laws w flows c k o.conn little Dialler x k.dialler d refl o.dialled e (fewer x k.life s))
      by (To_acceptor e) = accepted k.accepted refl
        where
          accepted : (p : Option ℕ) → k.accepted ≡ p → CanBeDecided w c (suc n + suc n)
          accepted None p = absurd (let z : None ≡ Some a = sym (ap (option_and_then (end_at w k.target)) p) ∙ o.accepted in cc)
          accepted (Some id) p = on (take-turn laws w flows c k o.conn little Acceptor y id a p o.accepted e (fewer y k.target t))

  decide : (n : ℕ) → Decides n
  decide zero = none-left
  decide (suc n) = one-more n (decide n)

module _ (laws : NodeLaws) where
  pub can_be_decided : (ss : List Setup) (hs : List Happening) → AreSetups ss → AllFit hs → HandshakesCanBeDecided (run hs (empty ss))
  can_be_decided ss hs good fit c x y k d a o s t room = decide laws x y c 8 (run hs (empty ss)) (flowing laws ss hs good fit) k d a o (omega arith) s t room
