-- What is left to be done on a connection can be done.
use Rattle.dist_world_model.specs.declared.happening.Happening.{Happening}
use Rattle.dist_world_model.proofs.Words.{◌≡◌, ℕ, ◌+◌, ◌<◌, ◌≤◌, Bool, true, false, cond, eqb, ltb, ◌&&◌, ◌||◌, List, [], ◌∷◌, length, is_some, is_none, slice_get, Some, None, Option, option_map, sym, refl, ap, ◌∙◌, subst}
use Rattle.dist_world_model.proofs.Words.{inl, inr, ◌⊎◌, arith, IfSome, AreSetups, AllFit, Setup, NodeLaws, NodeState, End, EndId, Side, Dialler, Acceptor, Text, Effect, is_dialing, after, step, step_result, goes_on, new_id}
use Rattle.dist_world_model.proofs.Words.{applied_at, change_to, after_delivery, conn_of, happens, is_nonempty, is_open_end, most_applied, text_to, ticked_on, without_closing, world_after, at_place, Conn, Life, World, EndRow, end_at, end_of_life, row_at, row_of_life, empty, run, running, runs}
use Rattle.dist_world_model.proofs.{AllWires.same-conn, Conditions.holds, Conditions.if_holds, Conditions.if_there, Conditions.succeeds, Conditions.there, EndStates.Beside, HappeningEffects.is-running, HappeningEffects.where-applied}
use Rattle.dist_world_model.proofs.{Places.get-place}
use Rattle.std.specs.Prelude.{option_and_then}
use Rattle.dist_core.specs.{Node.is_crowded, Node.is_given_out, Node.is_spent}
use Rattle.dist_core.specs.declared.event.Event.TheVariants as event
use Rattle.dist_core.specs.declared.reply.Note.TheVariants as note
use Rattle.dist_core_ends.specs.Ends.{end_id}
use Rattle.dist_core_ends.specs.declared.known.End.TheVariants as ends
use Rattle.dist_world_model.specs.declared.happening.Happening.TheVariants as happening
use Rattle.dist_world_progress.specs.Progress.{HasSteps, end_on, incarnation_at, is_due, number_at}
use Rattle.dist_world_progress.specs.Undisturbed.{CanBeDone, IsWaiting, LeftCanBeDone, Serves, is_left}
use Rattle.dist_world_progress.proofs.{Deciding.opened-step, FlowWorlds.IsFlowing, FlowWorlds.flowing, Meeting.came-ok, Taking.due_taken, Taking.row-on, Taking.takes-when, Talks.unspent}

either : (a b : Bool) → (a || b) ≡ true → (a ≡ true) ⊎ (b ≡ true)
either true b h = inl refl
either false b h = inr h

module _ (laws : NodeLaws) (w : World) (flows : IsFlowing w) (x y c : ℕ) (k : Conn) (ak : slice_get w.conns c ≡ Some k) (room : w.clock + 2 ≤ most_applied) where
  few : w.clock < most_applied
  few = omega (arith, room)

  left-in : (node place : ℕ) (s : HasSteps w node place 1) → (let l = s.life in is_spent l.node) ≡ false
  left-in node place s = let l = s.life in let m = s.left in unspent l.node 0 m

  -- the dialled end learns that its connection opened
  opens : (d : End) → end_on w Dialler k ≡ Some d → is_dialing (Some d) ≡ true → HasSteps w x k.life 1 → CanBeDone w x y c
  opens d is dials steps =
      let id : EndId = end_id k.dialler in
      let r = row-on w flows.kept c k ak Dialler k.dialler refl in
      let l : Life = steps.life in
      let at : slice_get l.node.ends k.dialler ≡ Some d = sym (ap (λ o. end_of_life o k.dialler) steps.lives) ∙ is in
      let s = opened-step laws w flows c k ak room l.node id c d at dials (left-in x k.life steps) in
      let live = is-running w x k.life l steps.runs steps.lives in
      record {
        before = [];
        few = omega arith;
        carried = tt;
        next = happening.Opened x id;
        done = record {
          conn = k;
          there = ak;
          serves = (refl, refl);
          applies = takes-when w (happening.Opened x id) few (ap is_some (there (running w x) k.life _ steps.runs
              ∙ there (conn_of (row_at w k.life k.dialler)) c _ (ap conn_of r.there ∙ r.conn)
              ∙ there (slice_get w.lives k.life) l _ steps.lives
              ∙ holds (runs l) _ live.1
              ∙ succeeds (step l.node (event.Opened id c) 0) s.0 _ s.1));
        };
      }

  -- bytes come, and leave the numbers of its ends
  record Came (z : World) : Type 0 where
    conn : Conn
    at_ : slice_get z.conns c ≡ Some conn
    same : (side : Side) → number_at side conn ≡ number_at side k

  numbers : (s side : Side) (f : Text → Text) → number_at side (change_to s f k) ≡ number_at side k
  numbers Dialler Dialler f = refl
  numbers Dialler Acceptor f = refl
  numbers Acceptor Dialler f = refl
  numbers Acceptor Acceptor f = refl

  comes : (node : ℕ) (id : EndId) (n : ℕ) → Came (happens w (happening.Deliver node id n))
  comes node id n = by (applied_at w (happening.Deliver node id n)) (where-applied Came w (happening.Deliver node id n) came)
    where
      came : IfSome (world_after (without_closing w) (happening.Deliver node id n)) Came
      came =
          if_there Came (running w node) _ (λ i e.
          if_holds Came (is_open_end (end_at (without_closing w) i id.0)) _ (λ open_.
          if_there Came (row_at w i id.0) _ (λ row at.
          if_there Came row.conn _ (λ d on.
          if_there Came (slice_get w.conns d) _ (λ h ah.
          if_holds Came (ltb 0 n && is_nonempty (text_to row.side h).said) _ (λ some.
          let f : Conn → Conn = change_to row.side (after_delivery n) in
          elim (eqb d c) as (λ b. eqb d c ≡ b → Came (record w { last_closed = None; conns = at_place d f w.conns })) [
            | true ↦ λ b. record { conn = f k; at_ = get-place d f w.conns c ∙ (λ i. cond (b i) (option_map f (ak i)) (ak i)); same = λ side. numbers row.side side (after_delivery n) }
            | false ↦ λ b. record { conn = k; at_ = get-place d f w.conns c ∙ (λ i. cond (b i) (option_map f (ak i)) (ak i)); same = λ side. refl }
          ] refl))))))

      by : (o : Option World) → IfSome o Came → Came (ticked_on w o)
      by None t = record { conn = k; at_ = ak; same = λ side. refl }
      by (Some z) t = record { conn = t.conn; at_ = t.at_; same = t.same }

  -- one of its ends takes a frame
  takes : (side : Side) (node id : ℕ) (e : End) → number_at side k ≡ Some id → end_on w side k ≡ Some e → is_due side k e ≡ true → HasSteps w node (incarnation_at side k) 1
      → ((r : Conn) → number_at side r ≡ number_at side k → Serves x y c r (happening.Take node (end_id id) 0)) → CanBeDone w x y c
  takes side node id e num is due steps serves =
      let n : ℕ = (let t = text_to side k in length t.said) in
      let r = comes node (end_id id) n in
      record {
        before = happening.Deliver node (end_id id) n ∷ [];
        few = omega arith;
        carried = (tt, tt);
        next = happening.Take node (end_id id) 0;
        done = record {
          conn = r.conn;
          there = r.at_;
          serves = serves r.conn (r.same side);
          applies = due_taken w flows.kept c node id 0 k side e ak num is due steps room;
        };
      }

  -- it is accepted
  accepts : k.accepted ≡ None → (t : HasSteps w y k.target 1) → (let l = t.life in (is_given_out l.node ≡ false) × (is_crowded l.node ≡ false)) → CanBeDone w x y c
  accepts free t may =
      let l : Life = t.life in
      let n : NodeState = l.node in
      let ok = came-ok n c (left-in y k.target t) may.0 may.1 in
      let f : Effect = goes_on (new_id n) [] ends.Unnamed note.Nothing in
      let live = is-running w y k.target l t.runs t.lives in
      record {
        before = [];
        few = omega arith;
        carried = tt;
        next = happening.Accept c;
        done = record {
          conn = k;
          there = ak;
          serves = refl;
          applies = takes-when w (happening.Accept c) few (ap is_some (there (slice_get w.conns c) k _ ak
              ∙ holds (is_none k.accepted) _ (ap is_none free)
              ∙ there (slice_get w.lives k.target) l _ t.lives
              ∙ holds (runs l) _ live.1
              ∙ succeeds (step n (event.Incoming c) 0) (f.reply, after n (event.Incoming c) f) _ (ap (step_result n (event.Incoming c)) ok)));
        };
      }

  -- an accepted end is there
  accepted-there : (j : ℕ) → k.accepted ≡ Some j → HasSteps w y k.target 1 → (a : End) × (end_on w Acceptor k ≡ Some a)
  accepted-there j e t =
      let kept = flows.kept in
      let l : Life = t.life in
      let s = kept.seen k.target l t.lives in
      let m = s.0 in
      let live = is-running w y k.target l t.runs t.lives in
      let r = row-on w kept c k ak Acceptor j e in
      let row : slice_get l.rows j ≡ Some r.row = sym (ap (λ o. row_of_life o j) t.lives) ∙ r.there in
      let g = by r.row (slice_get l.node.ends j) (let P : Option EndRow → Type 0 = λ q. Beside (slice_get l.node.ends j) q in subst P row (m.beside live.1 j)) in
      (g.0, ap (option_and_then (end_at w k.target)) e ∙ ap (λ o. end_of_life o j) t.lives ∙ g.1)
    where
      by : (q : EndRow) (o : Option End) → Beside o (Some q) → (a : End) × (o ≡ Some a)
      by q None b = absurd b
      by q (Some a) b = (a, refl)

  pub can-be-done : IsWaiting w c → HasSteps w x k.life 1 → (t : HasSteps w y k.target 1) → (k.accepted ≡ None → (let l = t.life in (is_given_out l.node ≡ false) × (is_crowded l.node ≡ false))) → CanBeDone w x y c
  can-be-done i s t may = by k.accepted refl
    where
      same : i.conn ≡ k
      same = same-conn w.conns c i.conn k i.there ak

      is : end_on w Dialler k ≡ Some i.dialled
      is = ap (end_on w Dialler) (sym same) ∙ i.is

      left : is_left k i.dialled (end_on w Acceptor k) ≡ true
      left = ap (λ k. is_left k i.dialled (end_on w Acceptor k)) (sym same) ∙ i.left

      due : (j : ℕ) (a : End) → k.accepted ≡ Some j → end_on w Acceptor k ≡ Some a → (is_due Dialler k i.dialled ≡ true) ⊎ (is_due Acceptor k a ≡ true) → CanBeDone w x y c
      due j a e at (inl h) = takes Dialler x k.dialler i.dialled refl is h s (λ r q. inl (refl, q))
      due j a e at (inr h) = takes Acceptor y j a e at h t (λ r q. inr (refl, q ∙ e))

      some : (j : ℕ) (a : End) → k.accepted ≡ Some j → end_on w Acceptor k ≡ Some a → (is_dialing (Some i.dialled) ≡ true) ⊎ ((is_due Dialler k i.dialled || is_due Acceptor k a) ≡ true) → CanBeDone w x y c
      some j a e at (inl h) = opens i.dialled is h s
      some j a e at (inr h) = due j a e at (either (is_due Dialler k i.dialled) (is_due Acceptor k a) h)

      by : (o : Option ℕ) → k.accepted ≡ o → CanBeDone w x y c
      by None e = accepts e t (may e)
      by (Some j) e = let a = accepted-there j e t in some j a.0 e a.1 (either (is_dialing (Some i.dialled)) _ (sym (ap (is_left k i.dialled) a.1) ∙ left))

pub left_can_be_done : NodeLaws → (ss : List Setup) (hs : List Happening) → AreSetups ss → AllFit hs → LeftCanBeDone (run hs (empty ss))
left_can_be_done laws ss hs good fit x y c k ak i s t may room = can-be-done laws (run hs (empty ss)) (flowing laws ss hs good fit) x y c k ak room i s t may
