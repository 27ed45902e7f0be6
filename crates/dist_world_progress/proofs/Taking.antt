-- What is on its way to an end that awaits it can be delivered and taken.
use Rattle.dist_world_model.specs.declared.happening.Happening.{Happening}
use Rattle.dist_world_model.proofs.Words.{AllFit, AreSetups, NodeLaws, Setup, empty, run, and_parts, same_Some, not, ◌≡◌, ℕ, suc, ◌+◌, ◌<◌, ◌≤◌, Bool, true, false, cond, ◌&&◌, ltb, List, [], ◌∷◌, ◌++◌, length, is_some, slice_get, Some}
use Rattle.dist_world_model.proofs.Words.{None, Ok, Err, Option, sym, refl, ap, ◌∙◌, subst, append-nil, arith, lt-ltb, false≢true, w16, first_body, Side, Acceptor}
use Rattle.dist_world_model.proofs.Words.{Dialler, EndId, End, NodeState, after, sender_to, step, step_result, Effect, Reply, after_delivery}
use Rattle.dist_world_model.proofs.Words.{change_to, text_to, applied_at, happens, is_nonempty, is_open_end, most_applied, ticked_on, without_closing}
use Rattle.dist_world_model.proofs.Words.{world_after, at_place, EndRow, Conn, Life, World, end_at, end_of_life, row_at, row_of_life, running, runs}
use Rattle.dist_world_model.proofs.{ConnectionRows.RowOf, WholeFrames.on_way, WorldFacts.IsKept, WorldFacts.kept}
use Rattle.std.specs.Prelude.{option_and_then}
use Rattle.dist_core_ends.specs.Ends.{end_id}
use Rattle.dist_world_model.proofs.{Conditions.holds, Conditions.succeeds, Conditions.there, HappeningEffects.is-running, Lookups.placed}
use Rattle.dist_core.specs.{Step.effect_of, Step.at_end, Step.framed_from, Node.is_spent, Node.limits_of, Step.message_effect}
use Rattle.dist_messages.specs.Reading.{read}
use Rattle.std.proofs.Math.Seq.{take-length}
use Rattle.dist_core_ends.specs.declared.known.End.TheVariants as ends
use Rattle.dist_core.specs.declared.event.Event.TheVariants as event
use Rattle.dist_core.specs.declared.step_error.StepError.TheVariants as error
use Rattle.dist_world_model.specs.declared.happening.Happening.TheVariants as happening
use Rattle.dist_world_progress.specs.Progress.{DueIsTaken, HasSteps, end_on, incarnation_at, is_due, number_at}

-- how many bytes are undelivered to this side
abbrev undelivered : Side → Conn → ℕ
undelivered side k = length (text_to side k).said

-- AN END OF A RUNNING NODE that awaits a message, of which a frame is on its way
record CanTake (w : World) (node : ℕ) (id : EndId) : Type 0 where
  place : ℕ
  life : Life
  end_ : End
  row : EndRow
  link : ℕ
  conn : Conn
  body : List ℕ
  runs : running w node ≡ Some place
  lives : slice_get w.lives place ≡ Some life
  is : slice_get life.node.ends id.0 ≡ Some end_
  beside : slice_get life.rows id.0 ≡ Some row
  on : row.conn ≡ Some link
  there : slice_get w.conns link ≡ Some conn
  awaits : is_some (sender_to end_) ≡ true
  first : first_body w16 (on_way (text_to row.side conn)) ≡ Some body
  unspent : is_spent life.node ≡ false
  room : w.clock + 2 ≤ most_applied

-- the step of an end that awaits a message succeeds
some-step : (n : NodeState) (id : EndId) (body : List ℕ) (fresh : ℕ) (e : End) → slice_get n.ends id.0 ≡ Some e → is_some (sender_to e) ≡ true → is_spent n ≡ false → (x : Reply × NodeState) × (step n (event.Frame id body) fresh ≡ Ok x)
unfolding effect_of
some-step n id body fresh e at awaits left = by e refl
  where
    made : (d : End) (side : Side) → effect_of n (event.Frame id body) fresh ≡ framed_from n id fresh body d (Some side) → (x : Reply × NodeState) × (step n (event.Frame id body) fresh ≡ Ok x)
    made d side q =
        let f : Effect = message_effect n id fresh d (read side body) in
        let ok : effect_of n (event.Frame id body) fresh ≡ Ok f = q ∙ ap (λ b. cond b (Err error.Spent) (Ok f)) left in
        ((f.reply, after n (event.Frame id body) f), ap (step_result n (event.Frame id body)) ok)

    awaiting : (d : End) → e ≡ d → is_some (sender_to d) ≡ true
    awaiting d q = ap (λ d. is_some (sender_to d)) (sym q) ∙ awaits

    by : (d : End) → e ≡ d → (x : Reply × NodeState) × (step n (event.Frame id body) fresh ≡ Ok x)
    by ends.Unnamed q = made ends.Unnamed Dialler (ap (λ o. at_end o (λ d. framed_from n id fresh body d (sender_to d))) (at ∙ ap (λ (d : End). Some d) q))
    by (ends.Attempt a) q = attempt (sender_to (ends.Attempt a)) refl
      where
        attempt : (o : Option Side) → sender_to (ends.Attempt a) ≡ o → (x : Reply × NodeState) × (step n (event.Frame id body) fresh ≡ Ok x)
        attempt None h = absurd (false≢true (ap is_some (sym h) ∙ awaiting (ends.Attempt a) q))
        attempt (Some side) h = made (ends.Attempt a) side (ap (λ o. at_end o (λ d. framed_from n id fresh body d (sender_to d))) (at ∙ ap (λ (d : End). Some d) q) ∙ ap (framed_from n id fresh body (ends.Attempt a)) h)
    by (ends.Up r) q = absurd (false≢true (awaiting (ends.Up r) q))
    by (ends.Closed w) q = absurd (false≢true (awaiting (ends.Closed w) q))

-- a frame that came is taken
module _ (x : World) (node i : ℕ) (id : EndId) (fresh : ℕ) (life : Life) (row : EndRow) (c : ℕ) (k : Conn) (e : End) (body : List ℕ) (r : running x node ≡ Some i) (l : slice_get x.lives i ≡ Some life)
    (b : slice_get life.rows id.0 ≡ Some row) (on : row.conn ≡ Some c) (ck : slice_get x.conns c ≡ Some k) (first : (let t = text_to row.side k in first_body w16 t.come) ≡ Some body)
    (is : slice_get life.node.ends id.0 ≡ Some e) (awaits : is_some (sender_to e) ≡ true) (left : is_spent life.node ≡ false) where
  takes : is_some (world_after x (happening.Take node id fresh)) ≡ true
  takes =
      let s = some-step life.node id body fresh e is awaits left in
      let live = is-running x node i life r l in
      ap is_some (there (running x node) i _ r
      ∙ there (row_at x i id.0) row _ (ap (λ o. row_of_life o id.0) l ∙ b)
      ∙ there row.conn c _ on
      ∙ there (slice_get x.conns c) k _ ck
      ∙ there (let t = text_to row.side k in first_body w16 t.come) body _ first
      ∙ there (slice_get x.lives i) life _ l
      ∙ holds (runs life) _ live.1
      ∙ succeeds (step life.node (event.Frame id body) fresh) s.0 _ s.1)

pub takes-when : (x : World) (h : Happening) → x.clock < most_applied → is_some (world_after (without_closing x) h) ≡ true → is_some (applied_at x h) ≡ true
takes-when x h few is = ap (λ b. is_some (cond b (world_after (without_closing x) h) None)) (lt-ltb x.clock most_applied few) ∙ is

module _ (w : World) (node : ℕ) (id : EndId) (fresh : ℕ) (h : CanTake w node id) where
  abbrev side : Side
  side = h.row.side

  abbrev all : ℕ
  all = undelivered side h.conn

  abbrev given : World → Option World
  given y = world_after y (happening.Deliver node id all)

  open_ : is_open_end (end_at (without_closing w) h.place id.0) ≡ true
  open_ = ap is_open_end (ap (λ o. end_of_life o id.0) h.lives ∙ h.is) ∙ by h.end_ h.awaits
    where
      by : (e : End) → is_some (sender_to e) ≡ true → is_open_end (Some e) ≡ true
      by (ends.Closed w) a = absurd (false≢true a)
      by e a = refl

  -- what Deliver asks, but for its last test
  delivers : (b : Bool) → (ltb 0 all && is_nonempty (text_to side h.conn).said) ≡ b → given (without_closing w) ≡ cond b (Some (record (without_closing w) { conns = at_place h.link (change_to side (after_delivery all)) w.conns })) None
  delivers b e =
      there (running w node) h.place _ h.runs
      ∙ holds (is_open_end (end_at (without_closing w) h.place id.0)) _ open_
      ∙ there (row_at w h.place id.0) h.row _ (ap (λ o. row_of_life o id.0) h.lives ∙ h.beside)
      ∙ there h.row.conn h.link _ h.on
      ∙ there (slice_get w.conns h.link) h.conn _ h.there
      ∙ ap (λ b. cond b (Some (record (without_closing w) { conns = at_place h.link (change_to side (after_delivery all)) w.conns })) None) e

  few : w.clock < most_applied
  few = let r = h.room in omega (arith, r)

  happened : (b : Bool) → (ltb 0 all && is_nonempty (text_to side h.conn).said) ≡ b → happens w (happening.Deliver node id all) ≡ ticked_on w (cond b (Some (record (without_closing w) { conns = at_place h.link (change_to side (after_delivery all)) w.conns })) None)
  happened b e = ap (ticked_on w) (ap (λ t. cond t (given (without_closing w)) None) (lt-ltb w.clock most_applied few) ∙ delivers b e)

  taken-on : is_some (applied_at (happens w (happening.Deliver node id all)) (happening.Take node id fresh)) ≡ true
  taken-on = by (text_to side h.conn).said refl
    where
      goal : World → Type 0
      goal x = is_some (applied_at x (happening.Take node id fresh)) ≡ true

      by : (s : List ℕ) → (text_to side h.conn).said ≡ s → is_some (applied_at (happens w (happening.Deliver node id all)) (happening.Take node id fresh)) ≡ true
      by [] e =
          let t = text_to side h.conn in
          let all-come : first_body w16 t.come ≡ Some h.body = ap (first_body w16) (sym (ap (λ s. t.come ++ s) e ∙ append-nil t.come)) ∙ h.first in
          let stays : happens w (happening.Deliver node id all) ≡ w = happened false (λ n. ltb 0 (length (e n)) && is_nonempty (e n)) in
          subst (λ x. is_some (applied_at x (happening.Take node id fresh)) ≡ true) (sym stays)
          (takes-when w (happening.Take node id fresh) few (takes (without_closing w) node h.place id fresh h.life h.row h.link h.conn h.end_ h.body h.runs h.lives h.beside h.on h.there all-come h.is h.awaits h.unspent))
      by (s ∷ ss) e =
          let x : World = record w { last_closed = None; conns = at_place h.link (change_to side (after_delivery all)) w.conns; clock = w.clock + 1 } in
          let goes : happens w (happening.Deliver node id all) ≡ x = happened true ((λ n. ltb 0 (length (e n)) && is_nonempty (e n)) ∙ ap (λ b. b && true) (lt-ltb 0 (suc (length ss)) (omega arith))) in
          let r = h.room in
          subst (λ x. is_some (applied_at x (happening.Take node id fresh)) ≡ true) (sym goes)
          (takes-when x (happening.Take node id fresh) (omega (arith, r)) (takes (without_closing x) node h.place id fresh h.life h.row h.link (change_to side (after_delivery all) h.conn) h.end_ h.body h.runs h.lives h.beside h.on
          (placed h.link (change_to side (after_delivery all)) w.conns h.conn h.there) (come side h.conn h.body h.first) h.is h.awaits h.unspent))
        where
          come : (s : Side) (k : Conn) (b : List ℕ) → first_body w16 ((text_to s k).come ++ (text_to s k).said) ≡ Some b → (let n = undelivered s k in let t = text_to s (change_to s (after_delivery n) k) in first_body w16 t.come) ≡ Some b
          come Dialler k b f = ap (λ z. let t = k.back in first_body w16 (t.come ++ z)) (take-length k.back.said) ∙ f
          come Acceptor k b f = ap (λ z. let t = k.there in first_body w16 (t.come ++ z)) (take-length k.there.said) ∙ f

-- ---- what stands at a side of a connection

-- a number at which something stands
numbered : {A : Type 0} (f : ℕ → Option A) (o : Option ℕ) (id : ℕ) (e : A) → o ≡ Some id → option_and_then f o ≡ Some e → f id ≡ Some e
numbered f o id e n is = sym (ap (option_and_then f) n) ∙ is

pub some-there : {A : Type 0} (o : Option A) → is_some o ≡ true → (x : A) × (o ≡ Some x)
some-there None h = absurd (false≢true h)
some-there (Some x) h = (x, refl)

pub row-on : (w : World) → IsKept w → (c : ℕ) (k : Conn) → slice_get w.conns c ≡ Some k → (side : Side) (id : ℕ) → number_at side k ≡ Some id → RowOf w.lives side (incarnation_at side k) id c
row-on w h c k ak Dialler id n = subst (λ p. RowOf w.lives Dialler k.life p c) (same_Some k.dialler id n) (h.wired.0.dialled c k ak)
row-on w h c k ak Acceptor id n = h.wired.0.accepted c id k ak n

can-take : (w : World) → IsKept w → (c node id : ℕ) (k : Conn) (side : Side) (e : End) → slice_get w.conns c ≡ Some k → number_at side k ≡ Some id → end_on w side k ≡ Some e → is_due side k e ≡ true
    → HasSteps w node (incarnation_at side k) 1 → w.clock + 2 ≤ most_applied → (t : CanTake w node (end_id id)) × (t.conn ≡ k) × (t.row.side ≡ side)
can-take w h c node id k side e ak n is due s room =
    let r = row-on w h c k ak side id n in
    let p = and_parts (is_some (sender_to e)) _ due in
    let f = some-there (first_body w16 (on_way (text_to side k))) p.1 in
    let at = numbered (end_at w (incarnation_at side k)) (number_at side k) id e n is in (
      record {
        place = incarnation_at side k;
        life = s.life;
        end_ = e;
        row = r.row;
        link = c;
        conn = k;
        body = f.0;
        runs = s.runs;
        lives = s.lives;
        is = sym (ap (λ o. end_of_life o id) s.lives) ∙ at;
        beside = sym (ap (λ o. row_of_life o id) s.lives) ∙ r.there;
        on = r.conn;
        there = ak;
        awaits = p.0;
        first = ap (λ z. first_body w16 (on_way (text_to z k))) r.side_is ∙ f.1;
        unspent = (let l = limits_of s.life.node in let m = s.left in ap not (lt-ltb s.life.node.steps l.steps (omega (arith, m))));
        room = room;
      },
      refl,
      r.side_is,
    )

pub due_taken : (w : World) → IsKept w → DueIsTaken w
due_taken w h c node id fresh k side e ak n is due s room =
    let g = can-take w h c node id k side e ak n is due s room in
    subst (λ (z : ℕ). is_some (applied_at (happens w (happening.Deliver node (end_id id) z)) (happening.Take node (end_id id) fresh)) ≡ true)
    (λ i. undelivered (g.2 i) (g.1 i)) (taken-on w node (end_id id) fresh g.0)

pub due_frames : NodeLaws → (ss : List Setup) (hs : List Happening) → AreSetups ss → AllFit hs → DueIsTaken (run hs (empty ss))
due_frames laws ss hs good fit = due_taken (run hs (empty ss)) (kept laws ss hs good fit)
