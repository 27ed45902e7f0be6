-- A handshake that nobody disturbs comes up, in whatever order things happen.
use Rattle.dist_world_model.specs.declared.happening.Happening.{Happening}
use Rattle.dist_world_model.proofs.Words.{◌≡◌, ℕ, ◌^◌, ◌<◌, ◌≢◌, true, false, ◌&&◌, ltb, List, [], ◌∷◌, ◌++◌, length, slice_get, Some, None, Option, sym, refl, ap, ◌∙◌, subst}
use Rattle.dist_world_model.proofs.Words.{inl, arith, false≢true, or_left, or_right, same_Some, slice_get_within, w16, first_body, IfSome, is_none, AreSetups, AllFit, Fits, IsUp}
use Rattle.dist_world_model.proofs.Words.{Setup, NodeLaws, NodeState, Side, Acceptor, Dialler, End, EndId, Why, Effect, Event, Reply, is_dialing, step, change, fresh_attempt}
use Rattle.dist_world_model.proofs.Words.{after_delivery, change_to, conns_after_saying, text_to, conn_of, is_nonempty, is_open_end, is_outside, life_after, life_after_end, most_begins, most_connections, new_conn, new_life, reached_life, with_node, at_place, notify, rows_after}
use Rattle.dist_world_model.proofs.Words.{applied_at, happens, run, ticked_on, without_closing, world_after, empty, Conn, Life, World, end_at, end_of_life, row_at, row_of_life, running, runs}
use Rattle.dist_world_model.proofs.{Conditions.if_holds, Conditions.if_ok, Conditions.if_there, ConnectionRows.RowOf, AllWires.same-conn}
use Rattle.dist_world_model.proofs.HappeningEffects.{Accepts, Plain, Ready, Strange, Takes, change-ok, is-running, life-of, step-ok, where-applied}
use Rattle.dist_world_model.proofs.{Lookups.at-other, Lookups.end_in, Lookups.far, Places.at-more, SentFrames.IsFit, SilentWires.Notifying, WholeFrames.on_way, WorldFacts.IsKept}
use Rattle.dist_world_model.specs.declared.happening.Happening.TheVariants as happening
use Rattle.std.specs.Prelude.{option_and_then}
use Rattle.dist_names.specs.Order.{same_name}
use Rattle.dist_core.specs.Node.{is_full_for}
use Rattle.dist_core.specs.declared.event.Event.TheVariants as event
use Rattle.dist_core_ends.specs.Ends.{entry_in}
use Rattle.dist_core_ends.specs.declared.known.End.TheVariants as ends
use Rattle.dist_world_progress.specs.Connecting.{Fit, HoldsPeer, opening_between}
use Rattle.dist_world_progress.specs.Progress.{end_on, is_due, is_up}
use Rattle.dist_world_progress.specs.Undisturbed.{IsAlone, IsComing, IsDialled, IsQuiet, IsUndisturbed, Spares, UndisturbedComeUp, is_left}
use Rattle.dist_world_progress.proofs.{Connecting.names-apart, Connecting.own-setup, Fitting.Handshake, Fitting.fitting, Flows.Flow, Losing.kept-on}
use Rattle.dist_world_progress.proofs.Courses.{Course, Match, accepted-peer, d_up, a_up, dialled-peer, Unopened, Named, Greeted, Challenged, Replied, Acked, Both}
use Rattle.dist_world_progress.proofs.FlowWorlds.{IsFlowing, begun-ends, flowing, flows-on, turned-ends}
use Rattle.dist_world_progress.proofs.Handshakes as hand
use Rattle.dist_world_progress.proofs.Handshakes.{Stands, stands-in}
use Rattle.dist_world_progress.proofs.Quiet.{CourseAt, Going, Persists, Quiet, all-going, come-going, notified-going, notified-persists, persists-same}

pub none-by : {A : Type 0} (o : Option A) → is_none o ≡ true → o ≡ None
none-by None h = refl
none-by (Some x) h = absurd cc

-- ---- one happening

module _ (laws : NodeLaws) (g : Match) (c x y : ℕ) (w : World) (h : IsKept w) (q : Quiet g c w.lives w.conns) (place : (l : Life) → slice_get w.lives (let k = q.conn in k.target) ≡ Some l → (let s = g.sx in is_full_for l.node (entry_in l.node.ends s.name)) ≡ false) (going : Going laws g c w.lives w.conns)
    (runs-x : running w x ≡ Some (let k = q.conn in k.life)) (runs-y : running w y ≡ Some (let k = q.conn in k.target)) where
  abbrev Goal : World → Type 0
  Goal z = (r : Quiet g c z.lives z.conns) → Going laws g c z.lives z.conns × Persists q.conn r.conn

  -- the event doesn't report one of the two ends as lost
  abbrev Sparing : ℕ → Event → Type 0
  Sparing i v = (id : EndId) (z : Why) → v ≡ event.Lost id z → (let k = q.conn in (i ≡ k.life → k.dialler ≡ id.0 → ⊥) × (i ≡ k.target → k.accepted ≡ Some id.0 → ⊥))

  notified : (hap : Happening) (i : ℕ) (v : Event) (fresh : ℕ) (ds : List Conn) → fresh < 2 ^ 32 → Ready hap w i v fresh ds → Sparing i v → IfSome (notify (record w { conns = ds }) i v fresh) Goal
  notified hap i v fresh ds small ready spared =
      if_there Goal (slice_get w.lives i) _ (λ l at.
      if_holds Goal (runs l) _ (λ live.
      if_ok Goal (step l.node v fresh) _ (λ z is.
      let s = step-ok l.node v fresh z is in
      let f : Effect = s.0 in
      let N : Notifying = record { w = w; lives = λ i l at. (let s = h.seen i l at in s.0); fit = h.fits; wired = h.wired; i = i; old = l; v = v; fresh = fresh; f = f; small = small; at = at; live = live; ok = s.1 } in
      let P : Reply × NodeState → Type 0 = λ u.
      let r = u.0 in
      let ls : List Life = at_place i (λ old. life_after w.clock v u.0 u.1 l) w.lives in
      let cs : List Conn = conns_after_saying ds (slice_get (rows_after w.clock v r l.rows) r.end_.0) r.say in
      (r : Quiet g c ls cs) → Going laws g c ls cs × Persists q.conn r.conn in
      subst P (sym s.2) (λ r. (notified-going laws g c N ds q place (going q.conn q.there) r spared ready, notified-persists laws g c N ds q place (going q.conn q.there) r spared)))))

  -- the connection is as it was
  as-was : {ls : List Life} (r : Quiet g c ls w.conns) → Persists q.conn r.conn
  as-was r = persists-same q.conn r.conn (same-conn w.conns c q.conn r.conn q.there r.there)

  -- an event that is no loss
  unlost : (v : Event) → ((id : EndId) (z : Why) → v ≡ event.Lost id z → ⊥) → (i : ℕ) → Sparing i v
  unlost v not i id z e = absurd (not id z e)

  abbrev IsSpared : Happening → Type 0
  IsSpared hap = Spares x y q.conn hap

  -- of two running incarnations of one place the node is one
  one-node : (a b i j : ℕ) → running w a ≡ Some i → running w b ≡ Some j → i ≡ j → a ≡ b
  one-node a b i j ra rb e =
      let l = life-of w a i ra in
      let s = is-running w a i l.0 ra l.1 in
      let t = is-running w b i l.0 (rb ∙ ap (λ (n : ℕ). Some n) (sym e)) l.1 in
      sym s.0 ∙ t.0

  comes-same : (side : Side) (d n : ℕ) (r : Conn) → slice_get (at_place d (change_to side (after_delivery n)) w.conns) c ≡ Some r → Persists q.conn r
  comes-same side d n r at = at-other (λ j r. j ≡ c → Persists q.conn r) d (change_to side (after_delivery n)) w.conns (λ k ak e. by side k (same k ak e)) (λ j k ne ak e. persists-same q.conn k (same k (ap (slice_get w.conns) refl ∙ ak) e)) c r at refl
    where
      same : {j : ℕ} (k : Conn) → slice_get w.conns j ≡ Some k → j ≡ c → q.conn ≡ k
      same k ak e = same-conn w.conns c q.conn k q.there (ap (slice_get w.conns) (sym e) ∙ ak)

      by : (s : Side) (k : Conn) → q.conn ≡ k → Persists q.conn (change_to s (after_delivery n) k)
      by Dialler k e = let p = persists-same q.conn k e in record { life = p.life; dialler = p.dialler; accepted = p.accepted }
      by Acceptor k e = let p = persists-same q.conn k e in record { life = p.life; dialler = p.dialler; accepted = p.accepted }

  pub steps : (hap : Happening) → Fits hap → IsSpared hap → IfSome (world_after w hap) Goal
  steps (happening.Begin a d) f s =
      if_there Goal (slice_get w.setups a) _ (λ own at.
      if_holds Goal (is_none (running w a)) _ (λ free.
      if_holds Goal (ltb (length w.lives) most_begins) _ (λ few.
      λ r. (all-going laws g c w.lives _ w.conns (begun-ends w.lives (new_life a w.clock own d) refl) going, as-was r))))
  steps (happening.BeginAs a own) f s =
      if_there Goal (slice_get w.setups a) _ (λ base at.
      if_holds Goal (is_none (running w a)) _ (λ free.
      if_holds Goal (ltb (length w.lives) most_begins) _ (λ few.
      if_holds Goal (same_name own.name base.name) _ (λ same.
      λ r. (all-going laws g c w.lives _ w.conns (begun-ends w.lives (new_life a w.clock own own.creation) refl) going, as-was r)))))
  steps (happening.Halt a) f s =
      if_there Goal (running w a) _ (λ i e. let l = life-of w a i e in
      λ r. (all-going laws g c w.lives _ w.conns (turned-ends i (life_after_end w.clock) w.lives l.0 l.1 refl) going, as-was r))
  steps (happening.Dial a p o) f s = if_there Goal (running w a) _ (λ i e. notified (happening.Dial a p o) i (event.Dial p o) 0 w.conns (omega arith) (Plain tt refl) (unlost (event.Dial p o) (λ id z e. absurd cc) i))
  steps (happening.Tick a id) f s = if_there Goal (running w a) _ (λ i e. notified (happening.Tick a id) i (event.Tick id) 0 w.conns (omega arith) (Plain tt refl) (unlost (event.Tick id) (λ x z e. absurd cc) i))
  steps (happening.Lose a id u) f s =
      if_there Goal (running w a) _ (λ i e. notified (happening.Lose a id u) i (event.Lost id u) 0 w.conns (omega arith) (Plain tt refl)
      (λ n z is. let m : id ≡ n = cc in (
        (λ il il2. s.0 (one-node a x i _ e runs-x il) (ap (λ (n : ℕ). Some n) il2 ∙ ap (λ (n : EndId). Some n.0) (sym m))),
        (λ il il2. s.1 (one-node a y i _ e runs-y il) (il2 ∙ ap (λ (n : EndId). Some n.0) (sym m))),
      )))
  steps (happening.Reset a v) f s =
      if_there Goal (running w a) _ (λ i e.
      if_there Goal (slice_get w.lives i) _ (λ l at.
      if_ok Goal (change l.node v) _ (λ n is.
      λ r. (all-going laws g c w.lives _ w.conns (turned-ends i (with_node n) w.lives l at (ap (λ (m : NodeState). m.ends) (change-ok l.node v n is))) going, as-was r))))
  steps (happening.Reach a id b) f s =
      if_there Goal (running w a) _ (λ i e.
      if_there Goal (running w b) _ (λ j d.
      if_holds Goal (is_dialing (end_at w i id.0) && is_none (conn_of (row_at w i id.0)) && ltb (length w.conns) most_connections) _ (λ t.
      let l = life-of w a i e in
      let ls : List Life = at_place i (reached_life id.0 (length w.conns)) w.lives in
      let new : (P : Conn → Type 0) → ((k : Conn) → slice_get w.conns c ≡ Some k → P k) → (k : Conn) → slice_get (w.conns ++ new_conn i id.0 j ∷ []) c ≡ Some k → P k = λ P old k ak. at-more (λ d k. d ≡ c → P k) w.conns (new_conn i id.0 j)
      (λ z. absurd (let n = slice_get_within w.conns c q.conn q.there in omega (arith, n, z))) (λ d k e z. old k (ap (slice_get w.conns) (sym z) ∙ e)) c k ak refl in
      λ r. (
        new (CourseAt laws g c ls) (λ k e. all-going laws g c w.lives ls w.conns (turned-ends i (reached_life id.0 (length w.conns)) w.lives l.0 l.1 refl) going k e),
        new (Persists q.conn) (λ k e. persists-same q.conn k (same-conn w.conns c q.conn k q.there e)) r.conn r.there,
      ))))
  steps (happening.Opened a id) f s =
      if_there Goal (running w a) _ (λ i e.
      if_there Goal (conn_of (row_at w i id.0)) _ (λ d on.
      notified (happening.Opened a id) i (event.Opened id d) 0 w.conns (omega arith) (Plain tt refl) (unlost (event.Opened id d) (λ n z e. absurd cc) i)))
  steps (happening.Accept d) f s =
      if_there Goal (slice_get w.conns d) _ (λ k at.
      if_holds Goal (is_none k.accepted) _ (λ free.
      notified (happening.Accept d) k.target (event.Incoming d) 0 _ (omega arith) (Accepts d k refl at (none-by k.accepted free) refl refl) (unlost (event.Incoming d) (λ n z e. absurd cc) k.target)))
  steps (happening.Deliver a id n) f s =
      if_there Goal (running w a) _ (λ i e.
      if_holds Goal (is_open_end (end_at w i id.0)) _ (λ open_.
      if_there Goal (row_at w i id.0) _ (λ row at.
      if_there Goal row.conn _ (λ d on.
      if_there Goal (slice_get w.conns d) _ (λ k at-d.
      if_holds Goal (ltb 0 n && is_nonempty (text_to row.side k).said) _ (λ some.
      λ r. (come-going laws g c row.side d n w.lives w.conns going, comes-same row.side d n r.conn r.there)))))))
  steps (happening.Take a id fresh) f s =
      if_there Goal (running w a) _ (λ i e.
      if_there Goal (row_at w i id.0) _ (λ row at.
      if_there Goal row.conn _ (λ d on.
      if_there Goal (slice_get w.conns d) _ (λ k at-d.
      if_there Goal (let t = text_to row.side k in first_body w16 t.come) _ (λ body is.
      notified (happening.Take a id fresh) i (event.Frame id body) fresh _ f (Takes id row d k body refl at on at-d is refl) (unlost (event.Frame id body) (λ n z e. absurd cc) i))))))
  steps (happening.Outside a v fresh) f s =
      if_there Goal (running w a) _ (λ i e.
      if_holds Goal (is_outside w i v) _ (λ strange.
      notified (happening.Outside a v fresh) i v fresh w.conns f (Strange a refl e strange refl) (unlost v (λ n z q. false≢true (ap (is_outside w i) (sym q) ∙ strange)) i)))

-- ---- all happenings

first-quiet : (x y c : ℕ) (sx sy : Setup) (hs : List Happening) (w : World) → IsUndisturbed x y c sx sy hs w → IsQuiet w x y c sx sy
first-quiet x y c sx sy [] w u = u
first-quiet x y c sx sy (h ∷ hs) w u = u.0

module _ (laws : NodeLaws) (g : Match) (c x y : ℕ) where
  open g use {sx, sy}

  pub quiet-by : (w : World) → IsKept w → (k : Conn) → slice_get w.conns c ≡ Some k → IsAlone w k Dialler x sx sy.name → IsAlone w k Acceptor y sy sx.name → Quiet g c w.lives w.conns
  quiet-by w h k ak a b = record {
    wired = h.wired;
    conn = k;
    there = ak;
    setup_x = λ l at. ap (λ (l : Life). l.node.setup) (same_Some l a.life (sym at ∙ a.lives)) ∙ a.setup;
    setup_y = λ l at. ap (λ (l : Life). l.node.setup) (same_Some l b.life (sym at ∙ b.lives)) ∙ b.setup;
    sole_x = λ l at id held. (let z = same_Some l a.life (sym at ∙ a.lives) in same_Some _ id (a.sole id (subst (λ (l : Life). HoldsPeer sy.name l.node id) z held)));
    sole_y = λ l at id held. (let z = same_Some l b.life (sym at ∙ b.lives) in b.sole id (subst (λ (l : Life). HoldsPeer sx.name l.node id) z held));
  }

  place-of : (w : World) (q : IsQuiet w x y c sx sy) (l : Life) → slice_get w.lives (let k = q.conn in k.target) ≡ Some l → is_full_for l.node (entry_in l.node.ends sx.name) ≡ false
  place-of w q l at = let b = q.at_y in let z = same_Some l b.life (sym at ∙ b.lives) in ap (λ (l : Life). let n = l.node in is_full_for n (entry_in n.ends sx.name)) z ∙ q.place

  -- a happening, after which it's quiet but for the place, perhaps
  pub one-by : (w : World) → IsKept w → (hap : Happening) → Fits hap → (q : IsQuiet w x y c sx sy) → Spares x y q.conn hap → Going laws g c w.lives w.conns
      → (let z = happens w hap in (r : Quiet g c z.lives z.conns) → Going laws g c z.lives z.conns × Persists q.conn r.conn)
  unfolding quiet-by
  one-by w h hap fit q spares going =
      let a = q.at_x in
      let b = q.at_y in
      let cleared : IsKept (without_closing w) = record { setups = h.setups; seen = h.seen; fits = h.fits; owns = h.owns; wired = h.wired; order = h.order } in
      by (applied_at w hap) (where-applied Then w hap (steps laws g c x y (without_closing w) cleared (quiet-by w h q.conn q.there a b) (place-of w q) going a.runs b.runs hap fit spares))
    where
      Then : World → Type 0
      Then z = (r : Quiet g c z.lives z.conns) → Going laws g c z.lives z.conns × Persists q.conn r.conn

      by : (o : Option World) → IfSome o Then → (let z = ticked_on w o in (r : Quiet g c z.lives z.conns) → Going laws g c z.lives z.conns × Persists q.conn r.conn)
      by None t r = (going, persists-same q.conn r.conn (same-conn w.conns c q.conn r.conn q.there r.there))
      by (Some z) t r = t r

  pub one : (w : World) → IsKept w → (hap : Happening) → Fits hap → (q : IsQuiet w x y c sx sy) → Spares x y q.conn hap → IsKept (happens w hap) → (q' : IsQuiet (happens w hap) x y c sx sy) → Going laws g c w.lives w.conns
      → (let z = happens w hap in Going laws g c z.lives z.conns) × Persists q.conn q'.conn
  unfolding quiet-by
  one w h hap fit q spares h' q' going = one-by w h hap fit q spares going (quiet-by (happens w hap) h' q'.conn q'.there q'.at_x q'.at_y)

  all : (hs : List Happening) (w : World) → IsKept w → AllFit hs → IsUndisturbed x y c sx sy hs w → Going laws g c w.lives w.conns → (let z = run hs w in Going laws g c z.lives z.conns) × IsQuiet (run hs w) x y c sx sy
  all [] w k f u going = (going, u)
  all (h ∷ hs) w k f u going =
      let k' = kept-on laws (h ∷ []) w (f.0, tt) k in
      all hs (happens w h) k' f.1 u.2 (one w k h f.0 u.0 u.1 k' (first-quiet x y c sx sy hs (happens w h) u.2) going).0

  -- ---- the beginning

  pub begins : (w : World) → IsFlowing w → IsDialled w c sx sy → Going laws g c w.lives w.conns
  begins w f d k ak =
      let same : d.conn ≡ k = same-conn w.conns c d.conn k d.there ak in
      subst (CourseAt laws g c w.lives) same (course d.conn d.there d.dialled d.free)
    where
      course : (k : Conn) → slice_get w.conns c ≡ Some k → end_on w Dialler k ≡ Some (ends.Attempt (fresh_attempt sy.name (opening_between sx sy))) → k.accepted ≡ None → CourseAt laws g c w.lives k
      course k ak is free =
          let P : Option End → Option End → Type 0 = λ x y. Flow (on_way k.there) (on_way k.back) x y in
          let u = g.hs in
          let flow : P (end_in w.lives k.life k.dialler) (far (end_in w.lives k.target) k.accepted) = f.flows c k ak in
          let far_ : far (end_in w.lives k.target) k.accepted ≡ None = ap (far (end_in w.lives k.target)) free in
          let mute : (on_way k.there ≡ []) × (on_way k.back ≡ []) = subst (λ x. P x None) is (subst (P (end_in w.lives k.life k.dialler)) far_ flow) in
          Unopened (is ∙ ap (λ o. Some (ends.Attempt (fresh_attempt sy.name o))) (sym u.opens_so)) (inl far_) mute.0 mute.1

  -- ---- the end

  module _ (w : World) (f : IsFlowing w) (q : IsQuiet w x y c sx sy) (going : Going laws g c w.lives w.conns) where
    abbrev kept : IsKept w
    kept = f.kept

    abbrev k : Conn
    k = q.conn

    course : CourseAt laws g c w.lives k
    course = going k q.there

    dialled-there : (t b : List ℕ) (d a : Option End) → Course laws g t b d a → (e : End) × (d ≡ Some e)
    dialled-there t b d a (Unopened p n x y) = (_, p)
    dialled-there t b d a (Named p n x y) = (_, p)
    dialled-there t b d a (Greeted cy s p q x y) = (_, p)
    dialled-there t b d a (Challenged cy s p q x y) = (_, p)
    dialled-there t b d a (Replied cx cy s p q x y) = (_, p)
    dialled-there t b d a (Acked cx cy rest p q y) = (_, p)
    dialled-there t b d a (Both cx cy p q) = (_, p)

    far-is : (n : Option ℕ) → far (end_in w.lives k.target) n ≡ option_and_then (end_at w k.target) n
    far-is None = refl
    far-is (Some j) = refl

    course-of : (d : End) (o : Option End) → end_on w Dialler k ≡ Some d → end_on w Acceptor k ≡ o → Course laws g (on_way k.there) (on_way k.back) (Some d) o
    course-of d o is at =
        let P : Option End → Option End → Type 0 = λ x y. Course laws g (on_way k.there) (on_way k.back) x y in
        subst (λ x. P x o) is (subst (P (end_in w.lives k.life k.dialler)) (far-is k.accepted ∙ at) course)

    -- where both are up, each is up with the other
    both-up : (d a : End) → is_up d ≡ true → Course laws g (on_way k.there) (on_way k.back) (Some d) (Some a) → (cx cy : ℕ) × (d ≡ ends.Up (d_up laws g cx)) × (a ≡ ends.Up (a_up laws g cy))
    both-up d a u (Both cx cy p r) = (cx, cy, same_Some d _ p, same_Some a _ r)
    both-up d a u (Unopened p n s t) = absurd (false≢true (sym (ap is_up (same_Some d _ p)) ∙ u))
    both-up d a u (Named p n s t) = absurd (false≢true (sym (ap is_up (same_Some d _ p)) ∙ u))
    both-up d a u (Greeted cy z p r s t) = absurd (false≢true (sym (ap is_up (same_Some d _ p)) ∙ u))
    both-up d a u (Challenged cy z p r s t) = absurd (false≢true (sym (ap is_up (same_Some d _ p)) ∙ u))
    both-up d a u (Replied cx cy z p r s t) = absurd (false≢true (sym (ap is_up (same_Some d _ p)) ∙ u))
    both-up d a u (Acked cx cy rest p r t) = absurd (false≢true (sym (ap is_up (same_Some d _ p)) ∙ u))

    ups : (d a : End) → end_on w Dialler k ≡ Some d → end_on w Acceptor k ≡ Some a → is_up d ≡ true → IsUp w x y c × IsUp w y x c
    ups d a is at u =
        let r = both-up d a u (course-of d (Some a) is at) in
        let m = q.at_x in
        let n = q.at_y in
        let sx' = own-setup w kept x k.life m.life m.runs m.lives in
        let sy' = own-setup w kept y k.target n.life n.runs n.lives in
        let wr = kept.wired in
        let row-x : RowOf w.lives Dialler k.life k.dialler c = wr.0.dialled c k q.there in (
          record {
            place = k.life;
            life = m.life;
            id = k.dialler;
            kept = d_up laws g r.0;
            row = row-x.row;
            other = sy'.0;
            runs = m.runs;
            lives = m.lives;
            is_up = ap (λ o. end_of_life o k.dialler) (sym m.lives) ∙ is ∙ ap (λ (e : End). Some e) r.2;
            beside = ap (λ o. row_of_life o k.dialler) (sym m.lives) ∙ row-x.there;
            on = row-x.conn;
            named = sy'.1;
            peer = ap (λ (s : Setup). s.name) (sym n.setup) ∙ sy'.2;
          },
          by k.accepted refl (at ∙ ap (λ (e : End). Some e) r.3) r.1 sx' n,
        )
      where
        by : (o : Option ℕ) → k.accepted ≡ o → option_and_then (end_at w k.target) o ≡ Some (ends.Up (a_up laws g (both-up d a u (course-of d (Some a) is at)).1)) → (cy : ℕ)
            → (s : Setup) × (slice_get w.setups x ≡ Some s) × ((let m = q.at_x in let l = m.life in l.node.setup.name) ≡ s.name) → (n : IsAlone w k Acceptor y sy sx.name) → IsUp w y x c
        by None e up cy s n = absurd (let z : None ≡ Some (ends.Up (a_up laws g (both-up d a u (course-of d (Some a) is at)).1)) = up in cc)
        by (Some j) e up cy s n =
            let wr = kept.wired in
            let row-y : RowOf w.lives Acceptor k.target j c = wr.0.accepted c j k q.there e in
            let m = q.at_x in
            record {
              place = k.target;
              life = n.life;
              id = j;
              kept = a_up laws g (both-up d a u (course-of d (Some a) is at)).1;
              row = row-y.row;
              other = s.0;
              runs = n.runs;
              lives = n.lives;
              is_up = ap (λ o. end_of_life o j) (sym n.lives) ∙ up;
              beside = ap (λ o. row_of_life o j) (sym n.lives) ∙ row-y.there;
              on = row-y.conn;
              named = s.1;
              peer = ap (λ (s : Setup). s.name) (sym m.setup) ∙ s.2;
            }

    pub comes : IsComing w x y c
    comes = by (dialled-there (on_way k.there) (on_way k.back) (end_in w.lives k.life k.dialler) (far (end_in w.lives k.target) k.accepted) course)
      where
        by : (e : End) × (end_in w.lives k.life k.dialler ≡ Some e) → IsComing w x y c
        by (d, is) = record {
          conn = k;
          there = q.there;
          dialled = d;
          is = is;
          opened = (dialled-peer laws g (on_way k.there) (on_way k.back) d (end_on w Acceptor k) (course-of d (end_on w Acceptor k) is refl)).0;
          accepted = λ a at. (accepted-peer laws g (on_way k.there) (on_way k.back) (Some d) a (course-of d (Some a) is at)).0;
          up = up (end_on w Acceptor k) refl;
        }
          where
            up : (o : Option End) → end_on w Acceptor k ≡ o → is_left k d o ≡ false → IsUp w x y c × IsUp w y x c
            up None at left = absurd (false≢true (sym left))
            up (Some a) at left = stood (stands-in w f c k d a (record { conn = q.there; dialled = is; accepted = at })
                (λ i. (dialled-peer laws g (on_way k.there) (on_way k.back) d (Some a) (course-of d (Some a) is at)).0 i && (accepted-peer laws g (on_way k.there) (on_way k.back) (Some d) a (course-of d (Some a) is at)).0 i))
              where
                stood : Stands k d a → IsUp w x y c × IsUp w y x c
                stood (hand.Succeeded u v) = ups d a is at u
                stood (hand.Unopened e) = absurd (false≢true (sym left ∙ or_left _ _ e))
                stood (hand.To_dialler e) = absurd (false≢true (sym left ∙ or_right (is_dialing (Some d)) _ (or_left _ _ e)))
                stood (hand.To_acceptor e) = absurd (false≢true (sym left ∙ or_right (is_dialing (Some d)) _ (or_right (is_due Dialler k d) _ e)))

-- ---- from every world that can be

module _ (laws : NodeLaws) (w : World) (f : IsFlowing w) (x y c : ℕ) (sx sy : Setup) (differ : x ≢ y) (fit : Fit sx sy) (q : IsQuiet w x y c sx sy) where
  -- the two nodes understand each other
  pub understood : Handshake sx sy
  understood =
      let kept = f.kept in
      let a = q.at_x in
      let b = q.at_y in
      let ox = own-setup w kept x _ a.life a.runs a.lives in
      let oy = own-setup w kept y _ b.life b.runs b.lives in
      let name-x = ap (λ (s : Setup). s.name) (sym a.setup) ∙ ox.2 in
      let name-y = ap (λ (s : Setup). s.name) (sym b.setup) ∙ oy.2 in
      let other : same_name sy.name sx.name ≡ false = (λ i. same_name (name-y i) (name-x i)) ∙ names-apart laws w kept x y ox.0 oy.0 differ ox.1 oy.1 in
      let fx = subst IsFit a.setup (kept.fits _ a.life a.lives) in
      let fy = subst IsFit b.setup (kept.fits _ b.life b.lives) in
      fitting laws sx sy fx fy other fit.allowed fit

  abbrev pub match : Match
  match = record { sx = sx; sy = sy; cookie = fit.cookie; hs = understood }

come-up : NodeLaws → (w : World) → IsFlowing w → UndisturbedComeUp w
come-up laws w f x y c sx sy hs differ fit dialled fits u =
    let q = first-quiet x y c sx sy hs w u in
    let g : Match = match laws w f x y c sx sy differ fit q in
    let r = all laws g c x y hs w f.kept fits u (begins laws g c x y w f dialled) in
    comes laws g c x y (run hs w) (flows-on laws hs w fits f) r.1 r.0

pub undisturbed : NodeLaws → (ss : List Setup) (hs : List Happening) → AreSetups ss → AllFit hs → UndisturbedComeUp (run hs (empty ss))
undisturbed laws ss hs good fit = come-up laws (run hs (empty ss)) (flowing laws ss hs good fit)
