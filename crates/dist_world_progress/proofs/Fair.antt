-- Under a schedule that is fair to it, a handshake that nobody disturbs comes up some time.
use Rattle.dist_world_model.specs.declared.happening.Happening.{Happening}
use Rattle.dist_world_model.proofs.Words.{◌≡◌, ℕ, zero, suc, ◌+◌, ◌<◌, ◌≤◌, ◌≢◌, Bool, true, false, List, [], ◌∷◌, is_some, slice_get, Some, None, Option, option_map, sym, refl, ap, ◌∙◌, subst}
use Rattle.dist_world_model.proofs.Words.{inl, inr, ◌⊎◌, arith, false≢true, same_Some, IfSome, is_none, AreSetups, AllFit, Fits, IsUp, Setup, NodeLaws, Dialler, Acceptor, step}
use Rattle.dist_world_model.proofs.Words.{accepted_by, applied_at, happens, next_end, ticked_on, without_closing, world_after, at_place, Conn, World, empty, run, running, runs}
use Rattle.dist_world_model.proofs.{Conditions.if_holds, Conditions.if_ok, Conditions.if_there, HappeningEffects.where-applied, AllWires.same-conn}
use Rattle.dist_world_model.proofs.{Lookups.end_in, Lookups.far, Lookups.placed, WorldFacts.IsKept}
use Rattle.dist_world_model.specs.Run.{one_where}
use Rattle.dist_world_model.specs.declared.happening.Happening.TheVariants as happening
use Rattle.dist_world_progress.specs.Connecting.{Fit}
use Rattle.dist_world_progress.specs.Progress.{end_on, number_at}
use Rattle.dist_world_progress.specs.Undisturbed.{FairComeUp, IsComing, IsDialled, IsDone, IsFair, IsHarmless, IsHarmlessBefore, IsQuiet, Serves, Spares, WasUp, after_first, is_left}
use Rattle.dist_world_progress.proofs.{Courses.Match, Deciding.said-seats, Deciding.seats, FlowWorlds.IsFlowing, FlowWorlds.flowing, FlowWorlds.flows-on, Stages.stage_of, Stages.stage-most}
use Rattle.dist_world_progress.proofs.{Quiet.Going, Quiet.Persists}
use Rattle.dist_world_progress.proofs.TakeCounts.{Forward, happens-forward, opened-forward, take-forward}
use Rattle.dist_world_progress.proofs.Undisturbed.{begins, comes, match, none-by, one}

-- HOW FAR a connection has come
abbrev rank : World → Conn → ℕ
rank w k = stage_of (end_in w.lives k.life k.dialler) + (stage_of (far (end_in w.lives k.target) k.accepted) + one_where k.accepted)

one-most : (o : Option ℕ) → one_where o ≤ 1
one-most None = omega arith
one-most (Some j) = omega arith

rank-most : (w : World) (k : Conn) → rank w k ≤ 9
rank-most w k = let a = stage-most (end_in w.lives k.life k.dialler) in let b = stage-most (far (end_in w.lives k.target) k.accepted) in let o = one-most k.accepted in omega (arith, a, b, o)

-- ---- nothing takes it back

module _ (w z : World) (k r : Conn) (p : Persists k r) (forth : (i j : ℕ) → stage_of (end_in w.lives i j) ≤ stage_of (end_in z.lives i j)) where
  dialled-same : stage_of (end_in z.lives r.life r.dialler) ≡ stage_of (end_in z.lives k.life k.dialler)
  dialled-same = λ i. stage_of (end_in z.lives (sym p.life i) (sym p.dialler i))

  accepted-same : (j : ℕ) → k.accepted ≡ Some j → (stage_of (far (end_in z.lives r.target) r.accepted) ≡ stage_of (end_in z.lives k.target j)) × (one_where r.accepted ≡ 1)
  accepted-same j aj = let a = p.accepted j aj in ((λ i. stage_of (far (end_in z.lives (sym a.0 i)) (a.1 i))), ap one_where a.1)

  accepted-grows : stage_of (far (end_in w.lives k.target) k.accepted) + one_where k.accepted ≤ stage_of (far (end_in z.lives r.target) r.accepted) + one_where r.accepted
  accepted-grows = by k.accepted refl
    where
      by : (o : Option ℕ) → k.accepted ≡ o → stage_of (far (end_in w.lives k.target) o) + one_where o ≤ stage_of (far (end_in z.lives r.target) r.accepted) + one_where r.accepted
      by None e = omega arith
      by (Some j) e = let a = accepted-same j e in let f = forth k.target j in omega (arith, f, a.0, a.1)

  grows : rank w k ≤ rank z r
  grows = let d = dialled-same in let f = forth k.life k.dialler in let a = accepted-grows in omega (arith, d, f, a)

  -- the dialled end came forward
  dialled-on : stage_of (end_in w.lives k.life k.dialler) < stage_of (end_in z.lives k.life k.dialler) → rank w k + 1 ≤ rank z r
  dialled-on h = let d = dialled-same in let a = accepted-grows in omega (arith, d, h, a)

  -- the accepted end did
  accepted-on : (j : ℕ) → k.accepted ≡ Some j → stage_of (end_in w.lives k.target j) < stage_of (end_in z.lives k.target j) → rank w k + 1 ≤ rank z r
  accepted-on j e h =
      let d = dialled-same in
      let f = forth k.life k.dialler in
      let a = accepted-same j e in
      let q : stage_of (far (end_in w.lives k.target) k.accepted) ≡ stage_of (end_in w.lives k.target j) = ap (λ o. stage_of (far (end_in w.lives k.target) o)) e in
      let u = one-most k.accepted in
      omega (arith, d, f, a.0, a.1, q, h, u)

  -- the connection was accepted
  now-accepted : k.accepted ≡ None → (j : ℕ) → r.accepted ≡ Some j → rank w k + 1 ≤ rank z r
  now-accepted free j e =
      let d = dialled-same in
      let f = forth k.life k.dialler in
      let a : stage_of (far (end_in w.lives k.target) k.accepted) ≡ 0 = ap (λ o. stage_of (far (end_in w.lives k.target) o)) free in
      let b : one_where k.accepted ≡ 0 = ap one_where free in
      let u : one_where r.accepted ≡ 1 = ap one_where e in
      omega (arith, d, f, a, b, u)

-- ---- what is done brings it on

-- the number of the accepted end, where there is one
abbrev accepted-in : Option Conn → Option ℕ
accepted-in None = None
accepted-in (Some k) = k.accepted

-- connection d was not accepted, and is now
record Accepts (w : World) (d : ℕ) (z : World) : Type 0 where
  old : Conn
  there : slice_get w.conns d ≡ Some old
  free : old.accepted ≡ None
  id : ℕ
  now : (r : Conn) → slice_get z.conns d ≡ Some r → r.accepted ≡ Some id

accepting : (w : World) (d : ℕ) → IfSome (world_after w (happening.Accept d)) (Accepts w d)
accepting w d = let P = Accepts w d in
    if_there P (slice_get w.conns d) _ (λ k at.
    if_holds P (is_none k.accepted) _ (λ free.
    let id : ℕ = next_end (slice_get w.lives k.target) in
    let ds : List Conn = at_place d (accepted_by id) w.conns in
    if_there P (slice_get w.lives k.target) _ (λ l at-l.
    if_holds P (runs l) _ (λ live.
    if_ok P (step l.node _ 0) _ (λ u is.
    record {
      old = k;
      there = at;
      free = none-by k.accepted free;
      id = id;
      now = λ r ar. ap accepted-in (sym (ap (option_map seats) ar) ∙ said-seats ds _ _ d ∙ ap (option_map seats) (placed d (accepted_by id) w.conns k at));
    })))))

module _ (laws : NodeLaws) (c x y : ℕ) (sx sy : Setup) (w : World) (kept : IsKept w) (q : IsQuiet w x y c sx sy) where
  abbrev k : Conn
  k = q.conn

  forth : (hap : Happening) (i j : ℕ) → stage_of (end_in w.lives i j) ≤ stage_of (end_in (happens w hap).lives i j)
  forth hap i j = happens-forward laws w kept.seen i j hap

  -- a happening that applies
  applied : (hap : Happening) (F : World → Type 0) → is_some (applied_at w hap) ≡ true → IfSome (world_after (without_closing w) hap) F → (z : World) × (happens w hap ≡ record z { clock = w.clock + 1 }) × F z
  applied hap F some t = by (applied_at w hap) refl some (where-applied F w hap t)
    where
      by : (o : Option World) → applied_at w hap ≡ o → is_some o ≡ true → IfSome o F → (z : World) × (happens w hap ≡ record z { clock = w.clock + 1 }) × F z
      by None e some t = absurd (false≢true some)
      by (Some z) e some t = (z, ap (ticked_on w) e, t)

  brought : (hap : Happening) → Serves x y c k hap → is_some (applied_at w hap) ≡ true → (r : Conn) → slice_get (happens w hap).conns c ≡ Some r → Persists k r → rank w k + 1 ≤ rank (happens w hap) r
  brought (happening.Accept d) s some r at p =
      let u = applied (happening.Accept d) (Accepts (without_closing w) d) some (accepting (without_closing w) d) in
      let a = u.2 in
      let same : a.old ≡ k = same-conn w.conns c a.old k (ap (slice_get w.conns) (sym s) ∙ a.there) q.there in
      now-accepted w (happens w (happening.Accept d)) k r p (forth (happening.Accept d)) (ap (λ (k : Conn). k.accepted) (sym same) ∙ a.free) a.id
      (a.now r (ap (slice_get u.0.conns) s ∙ ap (λ (z : World). slice_get z.conns c) (sym u.1) ∙ at))
  brought (happening.Opened node id) s some r at p =
      let hap : Happening = happening.Opened node id in
      let u = applied hap (Forward laws (without_closing w) kept.seen node id) some (opened-forward laws (without_closing w) kept.seen node id) in
      let m = q.at_x in
      let mine : k.dialler ≡ id.0 = same_Some _ _ s.1 in
      let on = u.2 k.life (ap (running w) s.0 ∙ m.runs) in
      dialled-on w (happens w hap) k r p (forth hap) (subst (λ (z : World). stage_of (end_in w.lives k.life k.dialler) < stage_of (end_in z.lives k.life k.dialler)) (sym u.1) (subst (λ n. stage_of (end_in w.lives k.life n) < stage_of (end_in u.0.lives k.life n)) (sym mine) on))
  brought (happening.Take node id fresh) s some r at p = by s
    where
      hap : Happening
      hap = happening.Take node id fresh

      u : (z : World) × (happens w hap ≡ record z { clock = w.clock + 1 }) × Forward laws (without_closing w) kept.seen node id z
      u = applied hap (Forward laws (without_closing w) kept.seen node id) some (take-forward laws (without_closing w) kept.seen node id fresh)

      on : (place n : ℕ) → running w node ≡ Some place → n ≡ id.0 → stage_of (end_in w.lives place n) < stage_of (end_in (happens w hap).lives place n)
      on place n runs mine = subst (λ (z : World). stage_of (end_in w.lives place n) < stage_of (end_in z.lives place n)) (sym u.1) (subst (λ n. stage_of (end_in w.lives place n) < stage_of (end_in u.0.lives place n)) (sym mine) (u.2 place runs))

      by : ((node ≡ x) × (number_at Dialler k ≡ Some id.0)) ⊎ ((node ≡ y) × (number_at Acceptor k ≡ Some id.0)) → rank w k + 1 ≤ rank (happens w hap) r
      by (inl s) = let m = q.at_x in dialled-on w (happens w hap) k r p (forth hap) (on k.life k.dialler (ap (running w) s.0 ∙ m.runs) (same_Some _ _ s.1))
      by (inr s) = let m = q.at_y in accepted-on w (happens w hap) k r p (forth hap) id.0 s.1 (on k.target id.0 (ap (running w) s.0 ∙ m.runs) refl)
  brought h s some r at p = absurd s

-- ---- a schedule

module _ (laws : NodeLaws) (w : World) (f : IsFlowing w) (x y c : ℕ) (sx sy : Setup) (s : ℕ → Happening) (differ : x ≢ y) (fit : Fit sx sy) (dialled : IsDialled w c sx sy) (quiet : IsQuiet w x y c sx sy) (fits : (n : ℕ) → Fits (s n))
    (harmless : IsHarmlessBefore x y c sx sy s w) (fair : IsFair x y c s w) where
  abbrev at_ : ℕ → World
  at_ n = after_first s n w

  abbrev g : Match
  g = match laws w f x y c sx sy differ fit quiet

  abbrev Up : Type 0
  Up = (n : ℕ) × IsUp (at_ n) x y c × IsUp (at_ n) y x c

  flows : (n : ℕ) → IsFlowing (at_ n)
  flows zero = f
  flows (suc n) = flows-on laws (s n ∷ []) (at_ n) (fits n, tt) (flows n)

  -- at number n nobody has disturbed it
  record Stage (n : ℕ) : Type 0 where
    still : IsQuiet (at_ n) x y c sx sy
    going : (let z = at_ n in Going laws g c z.lives z.conns)

  abbrev rank-at : (n : ℕ) → Stage n → ℕ
  rank-at n a = let q = a.still in rank (at_ n) q.conn

  -- a number later, unless it was up
  record Next (n : ℕ) (a : Stage n) : Type 0 where
    stage : Stage (suc n)
    grows_ : rank-at n a ≤ rank-at (suc n) stage
    done_ : IsDone (at_ n) x y c (s n) → rank-at n a + 1 ≤ rank-at (suc n) stage

  was-up : (n : ℕ) → WasUp x y c s w n → Up
  was-up n u = (u.at_, u.at_x, u.at_y)

  next : (n : ℕ) (a : Stage n) → Up ⊎ Next n a
  next n a = by (harmless n) (harmless (suc n))
    where
      by : WasUp x y c s w n ⊎ IsHarmless (at_ n) x y c sx sy (s n) → WasUp x y c s w (suc n) ⊎ IsHarmless (at_ (suc n)) x y c sx sy (s (suc n)) → Up ⊎ Next n a
      by (inl u) h = inl (was-up n u)
      by (inr h) (inl u) = inl (was-up (suc n) u)
      by (inr h) (inr h') =
          let fl = flows n in
          let fl' = flows (suc n) in
          let z = at_ n in
          let q = a.still in
          let q' = h'.quiet in
          let hq = h.quiet in
          let same : hq.conn ≡ q.conn = same-conn z.conns c hq.conn q.conn hq.there q.there in
          let r = one laws g c x y z fl.kept (s n) (fits n) q (subst (λ k. Spares x y k (s n)) same h.spares) fl'.kept q' a.going in
          inr (record {
            stage = record { still = q'; going = r.0 };
            grows_ = grows z (at_ (suc n)) q.conn q'.conn r.1 (forth laws c x y sx sy z fl.kept q (s n));
            done_ = λ d. (let e : d.conn ≡ q.conn = same-conn z.conns c d.conn q.conn d.there q.there in
                brought laws c x y sx sy z fl.kept q (s n) (subst (λ k. Serves x y c k (s n)) e d.serves) d.applies q'.conn q'.there r.1);
          })

  -- some numbers later
  record Later (n : ℕ) (a : Stage n) (m : ℕ) : Type 0 where
    stage : Stage m
    grows_ : rank-at n a ≤ rank-at m stage

  later-on : (d n : ℕ) (a : Stage n) → Up ⊎ Later n a (d + n)
  later-on zero n a = let e : n ≡ 0 + n = omega arith in subst (λ m. Up ⊎ Later n a m) e (inr (record { stage = a; grows_ = omega arith }))
  later-on (suc d) n a = let e : suc (d + n) ≡ suc d + n = omega arith in subst (λ m. Up ⊎ Later n a m) e (by (later-on d n a))
    where
      on : (l : Later n a (d + n)) → Up ⊎ Next (d + n) l.stage → Up ⊎ Later n a (suc (d + n))
      on l (inl u) = inl u
      on l (inr b) = inr (record { stage = b.stage; grows_ = (let p = l.grows_ in let q = b.grows_ in omega (arith, p, q)) })

      by : Up ⊎ Later n a (d + n) → Up ⊎ Later n a (suc (d + n))
      by (inl u) = inl u
      by (inr l) = on l (next (d + n) l.stage)

  -- at most so many things are left to be done
  loop : (t n : ℕ) (a : Stage n) → 10 ≤ rank-at n a + t → Up
  loop zero n a h = absurd (let q = a.still in let m = rank-most (at_ n) q.conn in omega (arith, h, m))
  loop (suc t) n a h = by (is_left i.conn i.dialled (end_on (at_ n) Acceptor i.conn)) refl (loop t)
    where
      i : IsComing (at_ n) x y c
      i = comes laws g c x y (at_ n) (flows n) a.still a.going

      on : (m : ℕ) → IsDone (at_ m) x y c (s m) → (l : Later n a m) → Up ⊎ Next m l.stage → ((k : ℕ) (b : Stage k) → 10 ≤ rank-at k b + t → Up) → Up
      on m d l (inl u) more = u
      on m d l (inr b) more = more (suc m) b.stage (let p = l.grows_ in let q = b.done_ d in omega (arith, h, p, q))

      done : (m : ℕ) → IsDone (at_ m) x y c (s m) → Up ⊎ Later n a m → ((k : ℕ) (b : Stage k) → 10 ≤ rank-at k b + t → Up) → Up
      done m d (inl u) more = u
      done m d (inr l) more = on m d l (next m l.stage) more

      by : (b : Bool) → is_left i.conn i.dialled (end_on (at_ n) Acceptor i.conn) ≡ b → ((k : ℕ) (b : Stage k) → 10 ≤ rank-at k b + t → Up) → Up
      by false e more = let u = i.up e in (n, u.0, u.1)
      by true e more = let r = fair n (record { conn = i.conn; there = i.there; dialled = i.dialled; is = i.is; left = e }) in done (r.0 + n) r.1 (later-on r.0 n a) more

  pub some-time : Up
  some-time = loop 10 0 (record { still = quiet; going = begins laws g c x y w f dialled }) (omega arith)

pub fair_come_up : NodeLaws → (ss : List Setup) (hs : List Happening) → AreSetups ss → AllFit hs → FairComeUp (run hs (empty ss))
fair_come_up laws ss hs good fit x y c sx sy s differ fits dialled quiet all harmless fair = some-time laws (run hs (empty ss)) (flowing laws ss hs good fit) x y c sx sy s differ fits dialled quiet all harmless fair
