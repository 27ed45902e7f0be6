-- A node dials another, where neither has an end that holds the other: the connection comes about, the name is said, and it is accepted.
use Rattle.dist_world_model.specs.declared.happening.Happening.{Happening}
use Rattle.dist_world_model.proofs.Words.{◌≡◌, ℕ, ◌+◌, ◌<◌, ◌≤◌, true, false, cond, eqb, ◌&&◌, ◌||◌, ltb, List, [], ◌∷◌, ◌++◌, length, slice_get, Some, None, Ok, Err, Option, sym, refl, ap, ◌∙◌}
use Rattle.dist_world_model.proofs.Words.{subst, arith, lt-ltb, eqb-true, slice_get_past, is_none, Name, Setup, NodeState, NodeLaws, End, Entry, Kind, Side, Acceptor, Dialler, Opening, Effect, Event, after, effect_of, ends_after, goes_on, moves, new_id, fresh_attempt, AreLegal, entry_in}
use Rattle.dist_world_model.proofs.Words.{is_held, names, is_dialing, says, spoken_on, conns_after_saying, happens, most_applied, most_connections, notify, ticked_on, without_closing, world_after, at_place, accepted_by, reached_life, reached_row, new_conn, next_end}
use Rattle.dist_world_model.proofs.Words.{Conn, Life, World, EndRow, end_at, end_of_life, row_at, row_of_life, running, runs, given_by, mark, new_row, rows_after, conn_of}
use Rattle.dist_world_model.proofs.{Conditions.holds, Conditions.there, HappeningEffects.is-running, Lookups.placed, OtherRows.end-after, OtherRows.own-after, Places.eqb-self, Places.get-more}
use Rattle.dist_world_model.proofs.{UnchangedRows.row-new, UnchangedRows.same-length, WorldFacts.IsKept}
use Rattle.dist_world_model.specs.declared.happening.Happening.TheVariants as happening
use Rattle.dist_core_ends.specs.Ends.{end_id}
use Rattle.dist_core_ends.specs.declared.known.End.TheVariants as ends
use Rattle.dist_core_ends.specs.declared.phase.Phase.TheVariants as phase
use Rattle.dist_core_ends.proofs.Agreement.{entry-from_agree}
use Rattle.dist_core_setup.specs.Saying.{name_text}
use Rattle.dist_core.specs.{Effects.form_of, Node.is_crowded, Node.is_full_for, Node.is_given_out, Node.is_spent, Node.limits_of, Step.at_end, Step.cost_of, Step.dial_effect, Step.effect_of, Step.opening_effect}
use Rattle.dist_core.specs.declared.event.Event.TheVariants as event
use Rattle.dist_core.specs.declared.step_error.StepError.TheVariants as error
use Rattle.dist_core.specs.declared.reply.Note.TheVariants as note
use Rattle.dist_world_progress.proofs.Events.{Went, spoke, went-by}
use Rattle.dist_world_progress.proofs.Losing.{legal-in, length-said}
use Rattle.dist_world_progress.proofs.Losses.{IsRoomy, entries-stay, filled}
use Rattle.dist_world_progress.proofs.Stands.{Any, Now, Seat, Stand, legal-after, now}
use Rattle.dist_world_progress.proofs.Talks.{unspent}

-- the seat of the next end of an incarnation
abbrev pub next_seat : ℕ → ℕ → Side → Life → Seat
next_seat node place side l = record { node = node; place = place; id = (let n = l.node in length n.ends); side = side; setup = (let n = l.node in n.setup) }

-- what an event leaves that gives out an end
pub record New (w x : World) (a : Seat) (o : Option ℕ) (d : End) (Q : NodeState → Type 0) (ds : List Conn) : Type 0 where
  pub stand : Stand x a o d 4 Q
  pub life : Life
  pub went : Went w x a.place life 1
  pub long : length x.conns ≡ length ds
  pub conn : (c : ℕ) → o ≡ Some c → (k : Conn) → slice_get ds c ≡ Some k → slice_get x.conns c ≡ Some (says a.side [] k)

given : (laws : NodeLaws) (w : World) → IsKept w → (node place : ℕ) (l : Life) → running w node ≡ Some place → slice_get w.lives place ≡ Some l → w.clock < most_applied → l.node.steps + 5 ≤ (let a = limits_of l.node in a.steps) → (v : Event) (d : End) → (let f = goes_on (new_id l.node) [] d note.Nothing in effect_of l.node v 0 ≡ Ok f) → cost_of v ≤ 1
    → (new : EndRow) → given_by w.clock v ≡ Some new → (Q : NodeState → Type 0) → Q (after l.node v (goes_on (new_id l.node) [] d note.Nothing)) → (hap : Happening) (ds : List Conn) → world_after (without_closing w) hap ≡ notify (record (without_closing w) { conns = ds }) place v 0 → New w (happens w hap) (next_seat node place new.side l) new.conn d Q ds
given laws w kept node place l at-node at few steps v d ok cost new gives Q known hap ds is =
    let f : Effect = goes_on (new_id l.node) [] d note.Nothing in
    let live : runs l ≡ true = (is-running w node place l at-node at).1 in
    let whole = kept.seen place l at in
    let it = whole.0 in
    let long : length l.rows ≡ length l.node.ends = sym (same-length l.node.ends l.rows (it.beside live)) in
    let g = spoke w place l v 0 f at live ok hap ds few is in
    let went = g.went in
    let row : slice_get (rows_after w.clock v f.reply l.rows) (length l.node.ends) ≡ Some (mark w.clock f.reply (length l.node.ends) new) =
    (let P : ℕ → Type 0 = λ k. slice_get (rows_after w.clock v f.reply l.rows) k ≡ Some (mark w.clock f.reply k new) in subst P long (row-new w.clock v f.reply l.rows new gives)) in
    record {
      stand = record {
        life = _;
        runs = went.runs node ∙ at-node;
        lives = went.own;
        row = _;
        beside = row;
        side_is = refl;
        on = refl;
        setup = refl;
        legal = legal-after laws l.node v 0 f ok (legal-in w kept place l at);
        is = own-after laws l.node (legal-in w kept place l at) v 0 f ok;
        enough = omega (arith, steps, cost);
        known = known;
      };
      life = _;
      went = went;
      long = ap (λ cs. length cs) g.conns ∙ length-said ds _ [];
      conn = λ c on k ak. ap (λ cs. slice_get cs c) (g.conns ∙ (λ i. conns_after_saying ds (row i) []) ∙ (λ i. spoken_on ds (on i) new.side [])) ∙ placed c (says new.side []) ds k ak;
    }

-- ---- a dial

dial-ok : (n : NodeState) (p : Name) (o : Opening) → entry_in n.ends p ≡ None → IsRoomy n → effect_of n (event.Dial p o) 0 ≡ Ok (goes_on (new_id n) [] (ends.Attempt (fresh_attempt p o)) note.Nothing)
unfolding effect_of
dial-ok n p o idle h =
    ap (dial_effect n p o) idle
    ∙ (λ i. cond (unspent n 4 h.steps i || h.numbers i) (Err error.Spent) (cond (h.entries i || h.open_ends i) (Err error.Full) (Ok (goes_on (new_id n) [] (ends.Attempt (fresh_attempt p o)) note.Nothing))))

-- it leaves an end without a connection
pub dialled : (laws : NodeLaws) (w : World) → IsKept w → (node place : ℕ) (l : Life) → running w node ≡ Some place → slice_get w.lives place ≡ Some l → w.clock < most_applied → (p : Name) (o : Opening) → entry_in l.node.ends p ≡ None → IsRoomy l.node
    → New w (happens w (happening.Dial node p o)) (next_seat node place Dialler l) None (ends.Attempt (fresh_attempt p o)) Any w.conns
dialled laws w kept node place l at-node at few p o idle room = given laws w kept node place l at-node at few room.steps (event.Dial p o) (ends.Attempt (fresh_attempt p o)) (dial-ok l.node p o idle room) (omega arith) (new_row Dialler (Some p) None w.clock) refl Any tt (happening.Dial node p o) w.conns (there (running w node) place _ at-node)

-- ---- the connection comes about

pub record Reached (w x : World) (a : Seat) (far : ℕ) (e : End) (left : ℕ) : Type 0 where
  pub stand : Stand x a (Some (length w.conns)) e left Any
  pub life : Life
  pub went : Went w x a.place life 1
  pub conn : slice_get x.conns (length w.conns) ≡ Some (new_conn a.place a.id far)

pub reached : (w : World) (a : Seat) (target far : ℕ) (e : End) (left : ℕ) → Stand w a None e left Any → is_dialing (Some e) ≡ true → running w target ≡ Some far → w.clock < most_applied → length w.conns < most_connections → Reached w (happens w (happening.Reach a.node (end_id a.id) target)) a far e left
reached w a target far e left h dials at-far few room =
    let c : ℕ = length w.conns in
    let hap : Happening = happening.Reach a.node (end_id a.id) target in
    let x : World = record (without_closing w) { lives = at_place a.place (reached_life a.id c) w.lives; conns = w.conns ++ new_conn a.place a.id far ∷ [] } in
    let b : is_dialing (end_at w a.place a.id) ≡ true = ap is_dialing (ap (λ o. end_of_life o a.id) h.lives ∙ h.is) ∙ dials in
    let n : is_none (conn_of (row_at w a.place a.id)) ≡ true = ap (λ o. is_none (conn_of o)) (ap (λ o. row_of_life o a.id) h.lives ∙ h.beside) ∙ ap is_none h.on in
    let is : world_after (without_closing w) hap ≡ Some x =
    there (running w a.node) a.place _ h.runs
    ∙ there (running w target) far _ at-far
    ∙ holds (is_dialing (end_at w a.place a.id) && is_none (conn_of (row_at w a.place a.id)) && ltb c most_connections) _ (λ i. b i && n i && lt-ltb c most_connections room i) in
    let g : happens w hap ≡ record x { clock = w.clock + 1 } = ap (ticked_on w) (ap (λ b. cond b (world_after (without_closing w) hap) None) (lt-ltb w.clock most_applied few) ∙ is) in
    let went = went-by w (happens w hap) a.place h.life (reached_life a.id c) h.lives (ap (λ (z : World). z.lives) g) refl refl (ap (λ (z : World). z.setups) g) (ap (λ (z : World). z.clock) g) in
    record {
      stand = record {
        life = reached_life a.id c h.life;
        runs = went.runs a.node ∙ h.runs;
        lives = went.own;
        row = reached_row c h.row;
        beside = placed a.id (reached_row c) h.life.rows h.row h.beside;
        side_is = h.side_is;
        on = refl;
        setup = h.setup;
        legal = h.legal;
        is = h.is;
        enough = h.enough;
        known = tt;
      };
      life = reached_life a.id c h.life;
      went = went;
      conn = ap (λ (z : World). slice_get z.conns c) g ∙ get-more w.conns (new_conn a.place a.id far) c ∙ ap (λ b. cond b (Some (new_conn a.place a.id far)) (slice_get w.conns c)) (eqb-self c);
    }

-- ---- the name is said

opening-ok : (n : NodeState) (id c : ℕ) (p : Name) (o : Opening) → slice_get n.ends id ≡ Some (ends.Attempt (fresh_attempt p o)) → is_spent n ≡ false
    → effect_of n (event.Opened (end_id id) c) 0 ≡ Ok (moves (end_id id) (name_text n.setup (form_of o)) (fresh_attempt p o) phase.AwaitStatus)
unfolding effect_of
opening-ok n id c p o at left =
    ap (λ o. at_end o (opening_effect n (end_id id))) at ∙ ap (λ b. cond b (Err error.Spent) (Ok (moves (end_id id) (name_text n.setup (form_of o)) (fresh_attempt p o) phase.AwaitStatus))) left

pub named : (laws : NodeLaws) (w : World) (a : Seat) (c : ℕ) (p : Name) (o : Opening) → Stand w a (Some c) (ends.Attempt (fresh_attempt p o)) 4 Any → w.clock < most_applied
    → Now w (happens w (happening.Opened a.node (end_id a.id))) a c (ends.Attempt (record (fresh_attempt p o) { phase = phase.AwaitStatus })) 3 Any (name_text a.setup (form_of o)) w.conns
named laws w a c p o h few =
    now laws w a c (ends.Attempt (fresh_attempt p o)) 3 Any h few (event.Opened (end_id a.id) c) 0 _ (opening-ok h.life.node a.id c p o h.is (unspent h.life.node 3 h.enough)) refl (omega arith) _ refl (name_text a.setup (form_of o)) (ap (λ (s : Setup). name_text s (form_of o)) h.setup) Any tt
    (happening.Opened a.node (end_id a.id)) w.conns (there (running w a.node) a.place _ h.runs ∙ there (conn_of (row_at w a.place a.id)) c _ (ap conn_of (ap (λ o. row_of_life o a.id) h.lives ∙ h.beside) ∙ h.on))

-- ---- the connection is accepted

pub came-ok : (n : NodeState) (c : ℕ) → is_spent n ≡ false → is_given_out n ≡ false → is_crowded n ≡ false → effect_of n (event.Incoming c) 0 ≡ Ok (goes_on (new_id n) [] ends.Unnamed note.Nothing)
unfolding effect_of
came-ok n c spent given crowded = λ i. cond (spent i || given i) (Err error.Spent) (cond (crowded i) (Err error.Full) (Ok (goes_on (new_id n) [] ends.Unnamed note.Nothing)))

-- the peer has this entry, or none, and finds room
abbrev pub IsFor : Name → Option Entry → NodeState → Type 0
IsFor p o n = (entry_in n.ends p ≡ o) × (is_full_for n o ≡ false)

-- the node has room for one more end
pub record IsOpenTo (n : NodeState) : Type 0 where
  pub steps : n.steps + 5 ≤ (let l = limits_of n in l.steps)
  pub numbers : is_given_out n ≡ false
  pub open_ends : is_crowded n ≡ false

for-then : (laws : NodeLaws) (n : NodeState) (c : ℕ) (p : Name) (o : Option Entry) → AreLegal n.ends → IsOpenTo n → IsFor p o n → IsFor p o (after n (event.Incoming c) (goes_on (new_id n) [] ends.Unnamed note.Nothing))
for-then laws n c p o legal h was = (entry-from_agree (ends_after n.ends f) p o (λ k i. ap (is_held p k) (end-after laws n legal (event.Incoming c) 0 f ok i) ∙ held k i), full o was.1)
  where
    f : Effect
    f = goes_on (new_id n) [] ends.Unnamed note.Nothing

    ok : effect_of n (event.Incoming c) 0 ≡ Ok f
    ok = came-ok n c (unspent n 4 h.steps) h.numbers h.open_ends

    held : (k : Kind) (i : ℕ) → is_held p k (cond (eqb (length n.ends) i) (Some ends.Unnamed) (slice_get n.ends i)) ≡ names k i o
    held k i = elim (eqb (length n.ends) i) as (λ b. eqb (length n.ends) i ≡ b → is_held p k (cond b (Some ends.Unnamed) (slice_get n.ends i)) ≡ names k i o) [
      | true ↦ λ b. let past : slice_get n.ends i ≡ None = slice_get_past n.ends i (let z = eqb-true (length n.ends) i b in omega (arith, z)) in sym (ap (is_held p k) past) ∙ legal p k i ∙ ap (names k i) was.0
      | false ↦ λ b. legal p k i ∙ ap (names k i) was.0
    ] refl

    full : (o : Option Entry) → is_full_for n o ≡ false → is_full_for (after n (event.Incoming c) f) o ≡ false
    full None q = entries-stay n (event.Incoming c) 0 f legal (came-ok (filled n) c (unspent n 4 h.steps) h.numbers h.open_ends) q
    full (Some e) q = refl

-- connection c, which leads to this place, is accepted there
pub accepted : (laws : NodeLaws) (w : World) → IsKept w → (node place c : ℕ) (l : Life) → running w node ≡ Some place → slice_get w.lives place ≡ Some l → w.clock < most_applied → (p : Name) (o : Option Entry) → IsFor p o l.node → IsOpenTo l.node → (k : Conn) → slice_get w.conns c ≡ Some k → k.accepted ≡ None → k.target ≡ place
    → New w (happens w (happening.Accept c)) (next_seat node place Acceptor l) (Some c) ends.Unnamed (IsFor p o) (at_place c (accepted_by (length l.node.ends)) w.conns)
accepted laws w kept node place c l at-node at few p o was room k ak free target =
    given laws w kept node place l at-node at few room.steps (event.Incoming c) ends.Unnamed (came-ok l.node c (unspent l.node 4 room.steps) room.numbers room.open_ends) (omega arith) (new_row Acceptor None (Some c) w.clock) (let z = kept.wired in ap (λ o. Some (new_row Acceptor None o w.clock)) (z.0.behind c k ak)) (IsFor p o) (for-then laws l.node c p o (legal-in w kept place l at) room was)
    (happening.Accept c) (at_place c (accepted_by (length l.node.ends)) w.conns)
    (there (slice_get w.conns c) k _ ak
    ∙ holds (is_none k.accepted) _ (ap is_none free)
    ∙ (λ i. notify (record (without_closing w) { conns = at_place c (accepted_by (next_end ((ap (slice_get w.lives) target ∙ at) i))) w.conns }) (target i) (event.Incoming c) 0))
