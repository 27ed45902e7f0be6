-- What one happening does to the world: the incarnations and the connections after it.
use Rattle.dist_world_model.proofs.Words.{◌≡◌, ℕ, ◌^◌, ◌<◌, Bool, true, false, cond, not, ◌&&◌, ltb, List, [], ◌∷◌, ◌++◌, length, is_none, IfSome, slice_get}
use Rattle.dist_world_model.proofs.Words.{Some, None, Ok, Err, Option, Result, sym, refl, ap, ◌∙◌, arith, w16, eqb-true, and_parts, same_Some, AllByRecursion}
use Rattle.dist_world_model.proofs.Words.{Creation, first_body, Side, EndId, is_dialing, Setup, after_change, change, finds_no_room, is_in_use, NodeState}
use Rattle.dist_world_model.proofs.Words.{after, effect_of, step, step_result, Change, Effect, Event, Reply, StepError, Fits, after_delivery, body_taken}
use Rattle.dist_world_model.proofs.Words.{change_to, conns_after_saying, text_to, accepted_by, applied_at, conn_of, happens, is_nonempty, is_open_end, is_outside}
use Rattle.dist_world_model.proofs.Words.{life_after, life_after_end, most_applied, most_begins, most_connections, new_conn, new_life, next_end, notify}
use Rattle.dist_world_model.proofs.Words.{notify_node, reached_life, with_node, without_closing, world_after, at_place, EndRow, rows_after, run, Conn, Life}
use Rattle.dist_world_model.proofs.Words.{World, end_at, row_at, running, runs, runs_for, Happening}
use Rattle.dist_world_model.proofs.{Conditions.if_holds, Conditions.if_ok, Conditions.if_there, Places.first-at}
use Rattle.dist_world_model.proofs.Words.{◌⊎◌, inl, inr}
use Rattle.dist_names.proofs.Orders.{one_lem}
use Rattle.dist_names.specs.Order.{same_name}
use Rattle.dist_core.specs.declared.changing.ChangeError.TheVariants.{Full, InUse}
use Rattle.dist_core.specs.declared.event.Event.TheVariants as event
use Rattle.dist_world_model.specs.declared.happening.Happening.TheVariants as happening

-- an event that takes no body and accepts no connection
abbrev pub IsPlain : Event → Type 0
IsPlain (event.Frame id body) = ⊥
IsPlain (event.Incoming link) = ⊥
IsPlain v = Unit {0}

-- how the connections stand when incarnation i gets v
pub data Ready (h : Happening) (w : World) (i : ℕ) (v : Event) (fresh : ℕ) (cs : List Conn) : Type 0 where
  -- nothing was done to them
  Plain : IsPlain v → cs ≡ w.conns → Ready h w i v fresh cs
  -- one was accepted
  Accepts : (c : ℕ) → (k : Conn) → v ≡ event.Incoming c → slice_get w.conns c ≡ Some k → k.accepted ≡ None → k.target ≡ i → cs ≡ at_place c (accepted_by (next_end (slice_get w.lives i))) w.conns → Ready h w i v fresh cs
  -- a body was taken from one
  Takes : (id : EndId) → (row : EndRow) → (c : ℕ) → (k : Conn) → (body : List ℕ) → v ≡ event.Frame id body → row_at w i id.0 ≡ Some row → row.conn ≡ Some c → slice_get w.conns c ≡ Some k
      → (let t = text_to row.side k in first_body w16 t.come) ≡ Some body → cs ≡ at_place c (change_to row.side body_taken) w.conns → Ready h w i v fresh cs
  -- it came from outside, and nothing was done to them
  Strange : (a : ℕ) → h ≡ happening.Outside a v fresh → running w a ≡ Some i → is_outside w i v ≡ true → cs ≡ w.conns → Ready h w i v fresh cs

-- WHAT A HAPPENING DOES: ls and cs are the incarnations and the connections after it
pub data Act (h : Happening) (w : World) (ls : List Life) (cs : List Conn) : Type 0 where
  Begins : (who : ℕ) → (s base : Setup) → (c : Creation) → (Fits h → c.0 < 2 ^ 32) → slice_get w.setups who ≡ Some base → s.name ≡ base.name → ((h ≡ happening.Begin who c) × (s ≡ base)) ⊎ ((h ≡ happening.BeginAs who s) × (c ≡ s.creation)) → running w who ≡ None → ls ≡ w.lives ++ new_life who w.clock s c ∷ [] → cs ≡ w.conns → Act h w ls cs
  Ends : (i : ℕ) → (old : Life) → slice_get w.lives i ≡ Some old → runs old ≡ true → ls ≡ at_place i (life_after_end w.clock) w.lives → cs ≡ w.conns → Act h w ls cs
  Reaches : (i id j : ℕ) → (old far : Life) → slice_get w.lives i ≡ Some old → runs old ≡ true → slice_get w.lives j ≡ Some far → runs far ≡ true → is_dialing (end_at w i id) ≡ true → conn_of (row_at w i id) ≡ None → ltb (length w.conns) most_connections ≡ true
      → ls ≡ at_place i (reached_life id (length w.conns)) w.lives → cs ≡ w.conns ++ new_conn i id j ∷ [] → Act h w ls cs
  Comes : (side : Side) → (c n : ℕ) → ls ≡ w.lives → cs ≡ at_place c (change_to side (after_delivery n)) w.conns → Act h w ls cs
  Reports : (i : ℕ) → (old : Life) → (v : Event) → (fresh : ℕ) → (f : Effect) → (ds : List Conn) → (Fits h → fresh < 2 ^ 32) → slice_get w.lives i ≡ Some old → runs old ≡ true → effect_of old.node v fresh ≡ Ok f → Ready h w i v fresh ds
      → ls ≡ at_place i (λ l. life_after w.clock v f.reply (after old.node v f) old) w.lives → cs ≡ conns_after_saying ds (slice_get (rows_after w.clock v f.reply old.rows) f.reply.end_.0) f.reply.say → Act h w ls cs
  Resets : (a i : ℕ) → (old : Life) → (v : Change) → h ≡ happening.Reset a v → slice_get w.lives i ≡ Some old → runs old ≡ true → change old.node v ≡ Ok (after_change old.node v) → ls ≡ at_place i (with_node (after_change old.node v)) w.lives → cs ≡ w.conns → Act h w ls cs

pub record Acted (h : Happening) (w x : World) : Type 0 where
  pub setups : x.setups ≡ w.setups
  pub clock : x.clock ≡ w.clock
  pub act : Act h w x.lives x.conns

abbrev pub Acts : Happening → World → Option World → Type 0
Acts h w o = IfSome o (Acted h w)

-- what a step that succeeds answers
pub step-ok : (n : NodeState) (v : Event) (fresh : ℕ) (x : Reply × NodeState) → step n v fresh ≡ Ok x → (f : Effect) × (effect_of n v fresh ≡ Ok f) × (x ≡ (f.reply, after n v f))
step-ok n v fresh x e = by (effect_of n v fresh) refl e
  where
    by : (o : Result Effect StepError) → effect_of n v fresh ≡ o → step_result n v o ≡ Ok x → (f : Effect) × (effect_of n v fresh ≡ Ok f) × (x ≡ (f.reply, after n v f))
    by (Err y) at e = absurd cc
    by (Ok f) at e = (f, at, cc)

-- what a change that is not refused answers
pub change-ok : (n : NodeState) (v : Change) (m : NodeState) → change n v ≡ Ok m → m ≡ after_change n v
change-ok n v m e = by (is_in_use n v) (finds_no_room n v) e
  where
    by : (b c : Bool) → cond b (Err InUse) (cond c (Err Full) (Ok (after_change n v))) ≡ Ok m → m ≡ after_change n v
    by true c e = absurd cc
    by false true e = absurd cc
    by false false e = cc

notified-acts : (h : Happening) (w : World) (i : ℕ) (v : Event) (fresh : ℕ) (ds : List Conn) → (Fits h → fresh < 2 ^ 32) → Ready h w i v fresh ds → Acts h w (notify (record w { conns = ds }) i v fresh)
notified-acts h w i v fresh ds fits ready = let P = Acted h w in
    if_there P (slice_get w.lives i) _ (λ l at.
    if_holds P (runs l) _ (λ live.
    if_ok P (step l.node v fresh) _ (λ x is.
    let g = step-ok l.node v fresh x is in
    let f = g.0 in
    let same : x ≡ (f.reply, after l.node v f) = g.2 in
    record {
      setups = refl;
      clock = refl;
      act = Reports i l v fresh f ds fits at live g.1 ready
          (ap (λ (y : Reply × NodeState). at_place i (λ old. life_after w.clock v y.0 y.1 l) w.lives) same)
          (ap (λ (y : Reply × NodeState). let r = y.0 in conns_after_saying ds (slice_get (rows_after w.clock v r l.rows) r.end_.0) r.say) same);
    })))

plain-acts : (h : Happening) (w : World) (a : ℕ) (v : Event) → IsPlain v → Acts h w (notify_node w a v)
plain-acts h w a v plain = if_there (Acted h w) (running w a) _ (λ i e. notified-acts h w i v 0 w.conns (λ f. omega arith) (Plain plain refl))

-- the running incarnation is there, and runs
pub life-of : (w : World) (a i : ℕ) → running w a ≡ Some i → (l : Life) × (slice_get w.lives i ≡ Some l)
life-of w a i h = let g = first-at (runs_for a) w.lives i h in (g.0, g.1)

pub is-running : (w : World) (a i : ℕ) (l : Life) → running w a ≡ Some i → slice_get w.lives i ≡ Some l → (l.who ≡ a) × (runs l ≡ true)
is-running w a i l h at =
    let g = first-at (runs_for a) w.lives i h in
    let p = and_parts _ _ (ap (runs_for a) (same_Some l g.0 (sym at ∙ g.1)) ∙ g.2) in
    (eqb-true l.who a p.0, p.1)

pub none-by : {A : Type 0} (o : Option A) → is_none o ≡ true → o ≡ None
none-by None h = refl
none-by (Some x) h = absurd cc

pub acts : (w : World) (h : Happening) → Acts h w (world_after w h)
acts w (happening.Begin a c) = let P = Acted (happening.Begin a c) w in
    if_there P (slice_get w.setups a) _ (λ s at.
    if_holds P (is_none (running w a)) _ (λ free.
    if_holds P (ltb (length w.lives) most_begins) _ (λ few.
    record { setups = refl; clock = refl; act = Begins a s s c (λ f. f) at refl (inl (refl, refl)) (none-by (running w a) free) refl refl })))
acts w (happening.BeginAs a s) = let P = Acted (happening.BeginAs a s) w in
    if_there P (slice_get w.setups a) _ (λ own at.
    if_holds P (is_none (running w a)) _ (λ free.
    if_holds P (ltb (length w.lives) most_begins) _ (λ few.
    if_holds P (same_name s.name own.name) _ (λ same.
    record { setups = refl; clock = refl; act = Begins a s own s.creation (λ f. f) at (one_lem s.name own.name same) (inr (refl, refl)) (none-by (running w a) free) refl refl }))))
acts w (happening.Halt a) = let P = Acted (happening.Halt a) w in
    if_there P (running w a) _ (λ i e.
    let g = life-of w a i e in
    let r = is-running w a i g.0 e g.1 in
    record { setups = refl; clock = refl; act = Ends i g.0 g.1 r.1 refl refl })
acts w (happening.Dial a p o) = plain-acts (happening.Dial a p o) w a (event.Dial p o) tt
acts w (happening.Tick a id) = plain-acts (happening.Tick a id) w a (event.Tick id) tt
acts w (happening.Lose a id y) = plain-acts (happening.Lose a id y) w a (event.Lost id y) tt
acts w (happening.Reset a v) = let P = Acted (happening.Reset a v) w in
    if_there P (running w a) _ (λ i e.
    if_there P (slice_get w.lives i) _ (λ l at.
    if_ok P (change l.node v) _ (λ n is.
    let r = is-running w a i l e at in
    let same : n ≡ after_change l.node v = change-ok l.node v n is in
    record {
      setups = refl;
      clock = refl;
      act = Resets a i l v refl at r.1 (is ∙ ap (λ (m : NodeState). Ok m) same) (ap (λ (m : NodeState). at_place i (with_node m) w.lives) same) refl;
    })))
acts w (happening.Reach a id b) = let P = Acted (happening.Reach a id b) w in
    if_there P (running w a) _ (λ i e.
    if_there P (running w b) _ (λ j d.
    if_holds P (is_dialing (end_at w i id.0) && is_none (conn_of (row_at w i id.0)) && ltb (length w.conns) most_connections) _ (λ t.
    let p = and_parts _ _ t in
    let q = and_parts _ _ p.0 in
    let g = life-of w a i e in
    let r = is-running w a i g.0 e g.1 in
    let f = life-of w b j d in
    let s = is-running w b j f.0 d f.1 in
    record { setups = refl; clock = refl; act = Reaches i id.0 j g.0 f.0 g.1 r.1 f.1 s.1 q.0 (none-by _ q.1) p.1 refl refl })))
acts w (happening.Opened a id) = let P = Acted (happening.Opened a id) w in
    if_there P (running w a) _ (λ i e.
    if_there P (conn_of (row_at w i id.0)) _ (λ c on.
    notified-acts (happening.Opened a id) w i (event.Opened id c) 0 w.conns (λ f. omega arith) (Plain tt refl)))
acts w (happening.Accept c) = let P = Acted (happening.Accept c) w in
    if_there P (slice_get w.conns c) _ (λ k at.
    if_holds P (is_none k.accepted) _ (λ free.
    notified-acts (happening.Accept c) w k.target _ 0 _ (λ f. omega arith) (Accepts c k refl at (none-by k.accepted free) refl refl)))
acts w (happening.Deliver a id n) = let P = Acted (happening.Deliver a id n) w in
    if_there P (running w a) _ (λ i e.
    if_holds P (is_open_end (end_at w i id.0)) _ (λ open_.
    if_there P (row_at w i id.0) _ (λ row at.
    if_there P row.conn _ (λ c on.
    if_there P (slice_get w.conns c) _ (λ k at-c.
    if_holds P (ltb 0 n && is_nonempty (text_to row.side k).said) _ (λ some.
    record { setups = refl; clock = refl; act = Comes row.side c n refl refl }))))))
acts w (happening.Take a id fresh) = let P = Acted (happening.Take a id fresh) w in
    if_there P (running w a) _ (λ i e.
    if_there P (row_at w i id.0) _ (λ row at.
    if_there P row.conn _ (λ c on.
    if_there P (slice_get w.conns c) _ (λ k at-c.
    if_there P (let t = text_to row.side k in first_body w16 t.come) _ (λ body is.
    notified-acts (happening.Take a id fresh) w i _ fresh _ (λ f. f) (Takes id row c k body refl at on at-c is refl))))))
acts w (happening.Outside a v fresh) = let P = Acted (happening.Outside a v fresh) w in
    if_there P (running w a) _ (λ i e.
    if_holds P (is_outside w i v) _ (λ strange.
    notified-acts (happening.Outside a v fresh) w i v fresh w.conns (λ f. f) (Strange a refl e strange refl)))

-- what is true of the world after a happening that applies
pub where-applied : (Q : World → Type 0) (w : World) (h : Happening) → IfSome (world_after (without_closing w) h) Q → IfSome (applied_at w h) Q
where-applied Q w h q = by (ltb w.clock most_applied)
  where
    by : (b : Bool) → IfSome (cond b (world_after (without_closing w) h) None) Q
    by true = q
    by false = tt

-- ---- happenings one after another

pub run-append : (hs gs : List Happening) (w : World) → run (hs ++ gs) w ≡ run gs (run hs w)
run-append [] gs w = refl
run-append (h ∷ hs) gs w = run-append hs gs (happens w h)

pub fit-append : (hs gs : List Happening) → AllByRecursion Fits hs → AllByRecursion Fits gs → AllByRecursion Fits (hs ++ gs)
fit-append [] gs a b = b
fit-append (h ∷ hs) gs a b = (a.0, fit-append hs gs a.1 b)
