-- No end takes more than four frames.
use Rattle.dist_world_model.specs.declared.happening.Happening.{Happening}
use Rattle.dist_world_model.proofs.Words.{◌≡◌, ℕ, ◌+◌, ◌<◌, ◌≤◌, length, true, false, cond, ◌&&◌, eqb, List, [], ◌∷◌, IfSome, slice_get, Some, None, Ok, Option, sym}
use Rattle.dist_world_model.proofs.Words.{refl, ap, ◌∙◌, subst, arith, eqb-true, and_parts, same_Some, w16, first_body, false≢true}
use Rattle.dist_world_model.proofs.Words.{EndId, End, other_view, ends_after, Setup, NodeState, after, after_change, effect_of, step, Effect, Event, Reply, NodeLaws}
use Rattle.dist_world_model.proofs.Words.{conn_of, is_outside, text_to, applied_at, happens, life_after, life_after_end, new_life, notify, reached_life, ticked_on}
use Rattle.dist_world_model.proofs.Words.{with_node, without_closing, world_after, AllLives, at_place, run, Conn, Life, World, empty, end_of_life, row_at, running, runs}
use Rattle.dist_world_model.proofs.{Conditions.if_holds, Conditions.if_ok, Conditions.if_there}
use Rattle.dist_world_progress.proofs.{FlowSteps.other-fades, FlowWorlds.begun-ends, FlowWorlds.turned-ends}
use Rattle.dist_world_model.proofs.HappeningEffects.{Act, Acted, Begins, Comes, Ends, Reaches, Reports, Resets, acts, step-ok, where-applied}
use Rattle.dist_world_model.proofs.IncarnationEffects.{kept-by-all, one-step}
use Rattle.dist_world_model.proofs.{IncarnationFacts.IsLife, LastingFacts.IsWhole, LastingFacts.whole_keeps, Lookups.changed-at, Lookups.end_in, Lookups.placed}
use Rattle.dist_world_model.proofs.{OtherRows.end-after, OtherRows.own-after, EventEnds.end-of}
use Rattle.dist_world_model.proofs.StepEffects.{Comes_in, Deed, Dials, Works, deed_of, own_id}
use Rattle.dist_world_progress.proofs.Stages.{Moves, fades-stage, brings_on, stage_of, stage-most, step-moves}
use Rattle.dist_core.specs.declared.event.Event.TheVariants as event
use Rattle.dist_world_model.specs.declared.happening.Happening.TheVariants as happening
use Rattle.dist_world_model.specs.{OwnSetups.is_place, Run.one_where}
use Rattle.dist_world_progress.specs.Progress.{frames_by, frames_taken}

same-stage : (o u : Option End) → o ≡ u → stage_of o ≤ stage_of u
same-stage o u e = let q : stage_of o ≡ stage_of u = ap stage_of e in omega (arith, q)

-- the event is of the end that it names
pub event-end : (n : NodeState) (v : Event) (f : Effect) (id : EndId) → Deed n v f → own_id v ≡ Some id → f.reply.end_ ≡ id
event-end n v f id (Dials p o is idle) h = absurd (let z = ap own_id (sym is) ∙ h in cc)
event-end n v f id (Comes_in link is) h = absurd (let z = ap own_id (sym is) ∙ h in cc)
event-end n v f id (Works x e g own at w) h = end-of n x e g w ∙ same_Some x id (sym own ∙ h)

module _ (laws : NodeLaws) where
  -- ---- an event

  module _ (t : ℕ) (l : Life) (whole : IsLife t l) (v : Event) (fresh : ℕ) (f : Effect) (ok : effect_of l.node v fresh ≡ Ok f) where
    abbrev me : ℕ
    me = f.reply.end_.0

    moves : Moves l.node v f
    moves = step-moves laws l.node v fresh f (laws.row l.node v fresh f ok)

    own-forward : brings_on v ≡ true → stage_of (slice_get l.node.ends me) < stage_of (slice_get (ends_after l.node.ends f) me)
    own-forward h = let m = moves in let a = m.forward h in let q : stage_of (slice_get (ends_after l.node.ends f) me) ≡ stage_of (Some f.this) = ap stage_of (own-after laws l.node whole.legal v fresh f ok) in omega (arith, a, q)

    ends-forward : (p : ℕ) → stage_of (slice_get l.node.ends p) ≤ stage_of (slice_get (ends_after l.node.ends f) p)
    ends-forward p = subst (λ o. stage_of (slice_get l.node.ends p) ≤ stage_of o) (sym (end-after laws l.node whole.legal v fresh f ok p)) (by f.other refl)
      where
        own : stage_of (slice_get l.node.ends p) ≤ stage_of (cond (eqb me p) (Some f.this) (slice_get l.node.ends p))
        own = elim (eqb me p) as (λ b. eqb me p ≡ b → stage_of (slice_get l.node.ends p) ≤ stage_of (cond b (Some f.this) (slice_get l.node.ends p))) [
          | true ↦ λ b. let m = moves in subst (λ k. stage_of (slice_get l.node.ends k) ≤ stage_of (Some f.this)) (eqb-true me p b) m.not_back
          | false ↦ λ b. same-stage (slice_get l.node.ends p) (slice_get l.node.ends p) refl
        ] refl

        by : (o : Option (EndId × End)) → f.other ≡ o → stage_of (slice_get l.node.ends p) ≤ stage_of (other_view o (λ i. cond (eqb me i) (Some f.this) (slice_get l.node.ends i)) p)
        by None e = own
        by (Some x) e =
            let y = x.0 in
            elim (eqb y.0 p) as (λ b. eqb y.0 p ≡ b → stage_of (slice_get l.node.ends p) ≤ stage_of (cond b (Some x.1) (cond (eqb me p) (Some f.this) (slice_get l.node.ends p)))) [
              | true ↦ λ b. subst (λ k. stage_of (slice_get l.node.ends k) ≤ stage_of (Some x.1)) (eqb-true y.0 p b) (fades-stage (slice_get l.node.ends y.0) (Some x.1) (other-fades l.node v fresh f y x.1 e (laws.row l.node v fresh f ok)))
              | false ↦ λ b. own
            ] refl

  -- ---- a happening

  module _ (w : World) (seen : AllLives (IsWhole w.clock) w) (i p : ℕ) where
    abbrev stage : World → ℕ
    stage x = stage_of (end_in x.lives i p)

    forward : (hap : Happening) (x : World) → Acted hap w x → stage w ≤ stage x
    forward hap x a = by a.act
      where
        to : (ls : List Life) → x.lives ≡ ls → stage w ≤ stage_of (end_in ls i p) → stage w ≤ stage x
        to ls e h = subst (λ xs. stage w ≤ stage_of (end_in xs i p)) (sym e) h

        by : Act hap w x.lives x.conns → stage w ≤ stage x
        by (Begins who s base c fc at nm kind none is k) = to _ is (same-stage _ _ (begun-ends w.lives (new_life who w.clock s c) refl i p))
        by (Ends j old at live is k) = to _ is (same-stage _ _ (turned-ends j (life_after_end w.clock) w.lives old at refl i p))
        by (Reaches j id d old away at live ata livea dialing free few is k) = to _ is (same-stage _ _ (turned-ends j (reached_life id (length w.conns)) w.lives old at refl i p))
        by (Comes side c n is k) = to _ is (same-stage _ _ refl)
        by (Reports j old v fresh f ds fits at live ok ready is k) =
            to _ is (changed-at (λ o. end_of_life o p) (λ a b. stage_of a ≤ stage_of b) (λ a. same-stage a a refl) j (λ (l : Life). life_after w.clock v f.reply (after old.node v f) old) w.lives old at i
            (λ e. let s = seen j old at in ends-forward w.clock old s.0 v fresh f ok p))
        by (Resets b j old v r at live ok is k) = to _ is (same-stage _ _ (turned-ends j (with_node (after_change old.node v)) w.lives old at refl i p))

  -- an event that brings its end on
  module _ (w : World) (seen : AllLives (IsWhole w.clock) w) (a : ℕ) (id : EndId) where
    abbrev pub Forward : World → Type 0
    Forward x = (i : ℕ) → running w a ≡ Some i → stage_of (end_in w.lives i id.0) < stage_of (end_in x.lives i id.0)

    notified-forward : (i : ℕ) (ds : List Conn) (v : Event) (fresh : ℕ) → own_id v ≡ Some id → brings_on v ≡ true → running w a ≡ Some i → IfSome (notify (record w { conns = ds }) i v fresh) Forward
    notified-forward i ds v fresh mine on run_ =
        if_there Forward (slice_get w.lives i) _ (λ l at.
        if_holds Forward (runs l) _ (λ live.
        if_ok Forward (step l.node v fresh) _ (λ x is j at-j.
        let g = step-ok l.node v fresh x is in
        let f = g.0 in
        let s = seen i l at in
        let same : i ≡ j = same_Some i j (sym run_ ∙ at-j) in
        let own = event-end l.node v f id (deed_of laws l.node v fresh f g.1) mine in
        let up = own-forward w.clock l s.0 v fresh f g.1 on in
        let stood : stage_of (end_in w.lives i id.0) ≡ stage_of (slice_get l.node.ends id.0) = ap (λ o. stage_of (end_of_life o id.0)) at in
        let turn : Life → Life = λ old. life_after w.clock v x.0 x.1 l in
        let now : stage_of (end_in (at_place i turn w.lives) i id.0) ≡ stage_of (slice_get (ends_after l.node.ends f) id.0) =
        ap (λ o. stage_of (end_of_life o id.0)) (placed i turn w.lives l at) ∙ ap (λ (y : Reply × NodeState). let n = y.1 in stage_of (slice_get n.ends id.0)) g.2 in
        let up_id : stage_of (slice_get l.node.ends id.0) < stage_of (slice_get (ends_after l.node.ends f) id.0) = subst (λ (y : EndId). stage_of (slice_get l.node.ends y.0) < stage_of (slice_get (ends_after l.node.ends f) y.0)) own up in
        subst (λ k. stage_of (end_in w.lives k id.0) < stage_of (end_in (at_place i turn w.lives) k id.0)) same (omega (arith, stood, now, up_id)))))

    pub take-forward : (fresh : ℕ) → IfSome (world_after w (happening.Take a id fresh)) Forward
    take-forward fresh =
        if_there Forward (running w a) _ (λ i e.
        if_there Forward (row_at w i id.0) _ (λ row at.
        if_there Forward row.conn _ (λ c on.
        if_there Forward (slice_get w.conns c) _ (λ k at-c.
        if_there Forward (let t = text_to row.side k in first_body w16 t.come) _ (λ body is.
        notified-forward i _ (event.Frame id body) fresh refl refl e)))))

    pub outside-forward : (body : List ℕ) (fresh : ℕ) → IfSome (world_after w (happening.Outside a (event.Frame id body) fresh)) Forward
    outside-forward body fresh =
        if_there Forward (running w a) _ (λ i e.
        if_holds Forward (is_outside w i (event.Frame id body)) _ (λ strange.
        notified-forward i w.conns (event.Frame id body) fresh refl refl e))

    pub opened-forward : IfSome (world_after w (happening.Opened a id)) Forward
    opened-forward =
        if_there Forward (running w a) _ (λ i e.
        if_there Forward (conn_of (row_at w i id.0)) _ (λ c on.
        notified-forward i w.conns (event.Opened id c) 0 refl refl e))

  -- ---- all happenings

  module _ (w : World) (seen : AllLives (IsWhole w.clock) w) (i p : ℕ) where
    pub happens-forward : (h : Happening) → stage_of (end_in w.lives i p) ≤ stage_of (end_in (happens w h).lives i p)
    happens-forward h = by (applied_at w h) (where-applied (Acted h (without_closing w)) w h (acts (without_closing w) h))
      where
        by : (o : Option World) → IfSome o (Acted h (without_closing w)) → stage_of (end_in w.lives i p) ≤ stage_of (end_in (ticked_on w o).lives i p)
        by None g = same-stage (end_in w.lives i p) (end_in w.lives i p) refl
        by (Some x) g = forward (without_closing w) seen i p h x g

    -- an end that takes a frame is brought on
    taken-counted : (h : Happening) (a : ℕ) (id : EndId) → IfSome (world_after (without_closing w) h) (Forward (without_closing w) seen a id)
        → cond (is_place (running w a) i && eqb id.0 p) (one_where (applied_at w h)) 0 + stage_of (end_in w.lives i p) ≤ stage_of (end_in (happens w h).lives i p)
    taken-counted h a id forth =
        elim (is_place (running w a) i && eqb id.0 p) as (λ b. (is_place (running w a) i && eqb id.0 p) ≡ b → cond b (one_where (applied_at w h)) 0 + stage_of (end_in w.lives i p) ≤ stage_of (end_in (happens w h).lives i p)) [
          | true ↦ λ b. let g = and_parts (is_place (running w a) i) (eqb id.0 p) b in
              by (eqb-true id.0 p g.1) (place-is (running w a) g.0) (applied_at w h) (where-applied (Forward (without_closing w) seen a id) w h forth)
          | false ↦ λ b. let k = happens-forward h in omega (arith, k)
        ] refl
      where
        place-is : (o : Option ℕ) → is_place o i ≡ true → o ≡ Some i
        place-is None h = absurd (false≢true h)
        place-is (Some j) h = ap (λ (k : ℕ). Some k) (eqb-true j i h)

        by : id.0 ≡ p → running w a ≡ Some i → (o : Option World) → IfSome o (Forward (without_closing w) seen a id) → one_where o + stage_of (end_in w.lives i p) ≤ stage_of (end_in (ticked_on w o).lives i p)
        by q r None g = let s = same-stage (end_in w.lives i p) (end_in w.lives i p) refl in omega (arith, s)
        by q r (Some x) g = let s = subst (λ k. stage_of (end_in w.lives i k) < stage_of (end_in x.lives i k)) q (g i r) in omega (arith, s)

    counted : (h : Happening) → frames_by w h i p + stage_of (end_in w.lives i p) ≤ stage_of (end_in (happens w h).lives i p)
    counted (happening.Take a id fresh) = taken-counted (happening.Take a id fresh) a id (take-forward (without_closing w) seen a id fresh)
    counted (happening.Outside a (event.Frame id body) fresh) = taken-counted (happening.Outside a (event.Frame id body) fresh) a id (outside-forward (without_closing w) seen a id body fresh)
    counted h = let s = happens-forward h in omega (arith, s)

  pub seen-on : (w : World) (h : Happening) → AllLives (IsWhole w.clock) w → (let x = happens w h in AllLives (IsWhole x.clock) x)
  seen-on w h a = kept-by-all (λ w. AllLives (IsWhole w.clock) w) (λ h. Unit {0}) (λ w x h u g a. let Q : ℕ → Type 0 = λ n. AllLives (IsWhole (n + 1)) x in subst Q (sym g.clock) (one-step IsWhole (whole_keeps laws) w x g a)) (λ w a. a) (h ∷ []) w (tt, tt) a

  counts : (hs : List Happening) (w : World) → AllLives (IsWhole w.clock) w → (i p : ℕ) → frames_taken hs w i p + stage_of (end_in w.lives i p) ≤ stage_of (end_in (run hs w).lives i p)
  counts [] w seen i p = let s = same-stage (end_in w.lives i p) (end_in w.lives i p) refl in omega (arith, s)
  counts (h ∷ hs) w seen i p =
      let a = counted w seen i p h in
      let b = counts hs (happens w h) (seen-on w h seen) i p in
      omega (arith, a, b)

  -- AN END TAKES AT MOST FOUR FRAMES
  pub few_taken : (ss : List Setup) (hs : List Happening) (i p : ℕ) → frames_taken hs (empty ss) i p ≤ 4
  few_taken ss hs i p =
      let a = counts hs (empty ss) (λ i l at. absurd cc) i p in
      let m = stage-most (end_in (run hs (empty ss)).lives i p) in
      omega (arith, a, m)
