-- Of what came to an end nothing is left once a line has happened, so that each line takes its very body.
use Rattle.dist_audit.proofs.Words.{◌≡◌, ℕ, suc, ◌+◌, ◌^◌, ◌<◌, Bool, true, false, cond, ◌&&◌, ltb, List, [], ◌∷◌, ◌++◌, length, take, is_none, IfSome}
use Rattle.dist_audit.proofs.Words.{slice_get, Some, None, Option, option_map, option_to_list, option_and_then, sym, refl, ap, ◌∙◌, subst, arith, length-append}
use Rattle.dist_audit.proofs.Words.{take_at, w16, same_Some, to_be_bytes, Creation, after_first, body_frame, first_body, Side, Acceptor, Dialler, EndId}
use Rattle.dist_audit.proofs.Words.{is_dialing, Setup, step, Event, after_delivery, body_taken, change_to, conns_after_saying, says, spoken_on, text_to}
use Rattle.dist_audit.proofs.Words.{at_place, one_where, run, Conn, Text, World, empty, end_at, row_at, running, runs, Happening, if_holds, if_ok, if_there}
use Rattle.dist_audit.proofs.Words.{there, place-twice, placed, at-more, at-one, said_to, undelivered_text, Closed, AllApply, AreFollowed, AreOfOneWorld}
use Rattle.dist_audit.proofs.Words.{BeginsWith, IsFront, IsNext, TakeTheirs, UnlessOutside, after, come_of, before, begins, own, reach, reach_first, setups_of, with_mentions}
use Rattle.dist_audit.proofs.Words.{NodeLine, acceptor_of, dialler_of, is_among, target_of}
use Rattle.dist_core.specs.declared.event.Event.TheVariants as event
use Rattle.dist_world_model.specs.Happenings.{accept, accepted_by, applied_at, begin, happens, is_nonempty, is_open_end, new_conn, next_end, notify}
use Rattle.dist_world_model.specs.Happenings.{is_outside, notify_node, notify_opened, notify_outside, ticked_on, without_closing, world_after, ◌>>◌, conn_of, reach as happening_reach}
use Rattle.dist_world_model.specs.Rows.{EndRow, most_connections}
use Rattle.dist_world_model.specs.declared.happening.Happening.TheVariants as happening
use Rattle.dist_world_lives.specs.Stepping.{wire_of}
use Rattle.dist_audit.proofs.Outside.{nothing}
use Rattle.dist_audit.specs.Links.{conn_of as number_of}
use Rattle.dist_audit.specs.Audit as audit

-- nothing that came is left, on either side
abbrev pub IsQuiet : Conn → Type 0
IsQuiet k = ((let t = k.there in t.come) ≡ []) × ((let t = k.back in t.come) ≡ [])

abbrev pub AreQuiet : List Conn → Type 0
AreQuiet ks = (c : ℕ) (k : Conn) → slice_get ks c ≡ Some k → IsQuiet k

abbrev pub QuietIn : World → Type 0
QuietIn w = AreQuiet w.conns

quiet-at : (c : ℕ) (f : Conn → Conn) (ks : List Conn) → ((k : Conn) → slice_get ks c ≡ Some k → IsQuiet (f k)) → AreQuiet ks → AreQuiet (at_place c f ks)
quiet-at c f ks = at-one (λ d k. IsQuiet k) c f ks

-- ---- what is sent

quiet-says : (side : Side) (s : List ℕ) (k : Conn) → IsQuiet k → IsQuiet (says side s k)
quiet-says Dialler s k h = h
quiet-says Acceptor s k h = h

quiet-on : (ks : List Conn) (o : Option ℕ) (side : Side) (s : List ℕ) → AreQuiet ks → AreQuiet (spoken_on ks o side s)
quiet-on ks None side s h = h
quiet-on ks (Some c) side s h = quiet-at c (says side s) ks (λ k at. quiet-says side s k (h c k at)) h

quiet-spoken : (ks : List Conn) (o : Option EndRow) (s : List ℕ) → AreQuiet ks → AreQuiet (conns_after_saying ks o s)
quiet-spoken ks None s h = h
quiet-spoken ks (Some row) s h = quiet-on ks row.conn row.side s h

module _ (w : World) (h : QuietIn w) where
  quiet-noted : (i : ℕ) (v : Event) (fresh : ℕ) → IfSome (notify w i v fresh) QuietIn
  quiet-noted i v fresh =
      if_there QuietIn (slice_get w.lives i) _ (λ l at.
      if_holds QuietIn (runs l) _ (λ live.
      if_ok QuietIn (step l.node v fresh) _ (λ x is.
      quiet-spoken w.conns _ (let r = x.0 in r.say) h)))

  quiet-node : (node : ℕ) (v : Event) → IfSome (notify_node w node v) QuietIn
  quiet-node node v = if_there QuietIn (running w node) _ (λ i at. quiet-noted i v 0)

  quiet-reached : (node : ℕ) (id : EndId) (target : ℕ) → IfSome (happening_reach w node id target) QuietIn
  quiet-reached node id target =
      if_there QuietIn (running w node) _ (λ i at.
      if_there QuietIn (running w target) _ (λ j far.
      if_holds QuietIn (is_dialing (end_at w i id.0) && is_none (conn_of (row_at w i id.0)) && ltb (length w.conns) 281474976710656) _ (λ free.
      at-more (λ c k. IsQuiet k) w.conns (new_conn i id.0 j) (refl, refl) h)))

  quiet-opened : (node : ℕ) (id : EndId) → IfSome (notify_opened w node id) QuietIn
  quiet-opened node id =
      if_there QuietIn (running w node) _ (λ i at.
      if_there QuietIn (conn_of (row_at w i id.0)) _ (λ c on.
      quiet-noted i (event.Opened id c) 0))

  quiet-outside : (node : ℕ) (v : Event) (fresh : ℕ) → IfSome (notify_outside w node v fresh) QuietIn
  quiet-outside node v fresh =
      if_there QuietIn (running w node) _ (λ i at.
      if_holds QuietIn (is_outside w i v) _ (λ out.
      quiet-noted i v fresh))

quiet-accepted : (w : World) → QuietIn w → (c : ℕ) → IfSome (accept w c) QuietIn
quiet-accepted w h c =
    if_there QuietIn (slice_get w.conns c) _ (λ x at.
    if_holds QuietIn (is_none x.accepted) _ (λ free.
    let first = next_end (slice_get w.lives x.target) in
    quiet-noted (record w { conns = at_place c (accepted_by first) w.conns }) (quiet-at c (accepted_by first) w.conns (λ k at. h c k at) h) x.target (event.Incoming c) 0))

-- ---- happenings that apply

at-clock : (w : World) (e : Happening) (Q : World → Type 0) → IfSome (world_after (without_closing w) e) Q → IfSome (applied_at w e) Q
at-clock w e Q q = by (ltb w.clock 4611686018427387904)
  where
    by : (b : Bool) → IfSome (cond b (world_after (without_closing w) e) None) Q
    by true = q
    by false = tt

settled : (w : World) (o : Option World) → IfSome o QuietIn → one_where o + 0 ≡ 1 → QuietIn (ticked_on w o)
settled w None q e = absurd (omega (arith, e))
settled w (Some x) q e = q

pub quiet-happens : (w : World) (e : Happening) → IfSome (world_after (without_closing w) e) QuietIn → AllApply (e ∷ []) w → QuietIn (happens w e)
quiet-happens w e q a = settled w (applied_at w e) (at-clock w e QuietIn q) a

-- ---- a frame

-- a frame alone has its body at the front, and nothing behind it
pub record FramesAlone : Type 0 where
  pub front : (body : List ℕ) → length body < 2 ^ 16 → first_body w16 (body_frame w16 body) ≡ Some body
  pub behind : (body : List ℕ) → length body < 2 ^ 16 → after_first w16 (body_frame w16 body) ≡ []

-- the frame comes whole where nothing had come before
comes-whole : (t : Text) (body rest : List ℕ) → t.come ≡ [] → body_frame w16 body ++ rest ≡ t.said → (let d = after_delivery (2 + length body) t in d.come) ≡ body_frame w16 body
comes-whole t body rest none said =
    (λ j. none j ++ take (2 + length body) t.said)
    ∙ (ap (take (2 + length body)) (sym said) ∙ take_at (body_frame w16 body) rest (2 + length body) (length-append (to_be_bytes w16 (length body)) body))

text-at : (side : Side) (f : Text → Text) (k : Conn) → text_to side (change_to side f k) ≡ f (text_to side k)
text-at Dialler f k = refl
text-at Acceptor f k = refl

quiet-text : (side : Side) (k : Conn) → IsQuiet k → (let t = text_to side k in t.come) ≡ []
quiet-text Dialler k h = h.1
quiet-text Acceptor k h = h.0

quiet-taken : (side : Side) (n : ℕ) (k : Conn) → IsQuiet k → (let t = body_taken (after_delivery n (text_to side k)) in t.come) ≡ [] → IsQuiet (change_to side body_taken (change_to side (after_delivery n) k))
quiet-taken Dialler n k h e = (h.0, e)
quiet-taken Acceptor n k h e = (e, h.1)

-- where the text stands that begins with the frame of a body
record Stands (w : World) (i : ℕ) (id : EndId) (body : List ℕ) : Type 0 where
  place : ℕ
  row : EndRow
  conn : ℕ
  there : Conn
  rest : List ℕ
  runs_at : running w i ≡ Some place
  beside : row_at w place id.0 ≡ Some row
  on : row.conn ≡ Some conn
  at : slice_get w.conns conn ≡ Some there
  said : body_frame w16 body ++ rest ≡ (let t = text_to row.side there in t.said)

stands : (w : World) (i : ℕ) (id : EndId) (body : List ℕ) → BeginsWith (said_to w i id) body → Stands w i id body
stands w i id body b = by (running w i) refl b
  where
    by : (o : Option ℕ) → running w i ≡ o → BeginsWith (option_and_then (λ place. undelivered_text w (wire_of (row_at w place id.0))) o) body → Stands w i id body
    by None e1 b = absurd b
    by (Some place) e1 b = by-row (row_at w place id.0) refl b
      where
        by-row : (o : Option EndRow) → row_at w place id.0 ≡ o → BeginsWith (undelivered_text w (wire_of o)) body → Stands w i id body
        by-row None e2 b = absurd b
        by-row (Some r) e2 b = by-conn r.conn refl b
          where
            by-conn : (o : Option ℕ) → r.conn ≡ o → BeginsWith (undelivered_text w (option_map (λ c. (r.side, c)) o)) body → Stands w i id body
            by-conn None e3 b = absurd b
            by-conn (Some c) e3 b = by-there (slice_get w.conns c) refl b
              where
                by-there : (o : Option Conn) → slice_get w.conns c ≡ o → BeginsWith (option_map (λ k. (let t = text_to r.side k in t.said)) o) body → Stands w i id body
                by-there None e4 b = absurd b
                by-there (Some x) e4 b = record { place = place; row = r; conn = c; there = x; rest = b.0; runs_at = e1; beside = e2; on = e3; at = e4; said = b.1 }

-- a happening that applies, behind three tests
one-left : (o : Option World) (y : World) (a b c : Bool) → o ≡ cond a (cond b (cond c (Some y) None) None) None → one_where o + 0 ≡ 1 → o ≡ Some y
one-left o y true true true e n = e
one-left o y true true false e n = absurd (let m : one_where o + 0 ≡ 0 = ap (λ (x : Option World). one_where x + 0) e in omega (arith, m, n))
one-left o y true false c e n = absurd (let m : one_where o + 0 ≡ 0 = ap (λ (x : Option World). one_where x + 0) e in omega (arith, m, n))
one-left o y false b c e n = absurd (let m : one_where o + 0 ≡ 0 = ap (λ (x : Option World). one_where x + 0) e in omega (arith, m, n))

module _ (alone : FramesAlone) (w : World) (i : ℕ) (id : EndId) (body : List ℕ) (few : length body < 2 ^ 16) (s : Stands w i id body) (h : QuietIn w) where
  -- the world once the frame came
  abbrev y : World
  y = record (without_closing w) { conns = at_place s.conn (change_to (let r = s.row in r.side) (after_delivery (2 + length body))) w.conns }

  abbrev z : World
  z = record y { clock = w.clock + 1 }

  delivers : world_after (without_closing w) (happening.Deliver i id (2 + length body)) ≡ cond (is_open_end (end_at w s.place id.0)) (cond (ltb 0 (2 + length body) && is_nonempty (let r = s.row in let t = text_to r.side s.there in t.said)) (Some y) None) None
  delivers =
      there (running w i) s.place _ s.runs_at
      ∙ ap (λ o. is_open_end (end_at w s.place id.0) >> o)
      (there (row_at w s.place id.0) s.row _ s.beside
      ∙ (there (let r = s.row in r.conn) s.conn _ s.on
      ∙ there (slice_get w.conns s.conn) s.there _ s.at))

  has-come : AllApply (happening.Deliver i id (2 + length body) ∷ []) w → happens w (happening.Deliver i id (2 + length body)) ≡ z
  has-come a = ap (ticked_on w) (one-left (applied_at w (happening.Deliver i id (2 + length body))) y (ltb w.clock 4611686018427387904) (is_open_end (end_at w s.place id.0)) (ltb 0 (2 + length body) && is_nonempty (let r = s.row in let t = text_to r.side s.there in t.said))
      (ap (λ o. cond (ltb w.clock 4611686018427387904) o None) delivers) a)

  abbrev came-there : Conn
  came-there = change_to (let r = s.row in r.side) (after_delivery (2 + length body)) s.there

  stands-there : slice_get z.conns s.conn ≡ Some came-there
  stands-there = placed s.conn (change_to (let r = s.row in r.side) (after_delivery (2 + length body))) w.conns s.there s.at

  come-there : (let t = text_to (let r = s.row in r.side) came-there in t.come) ≡ body_frame w16 body
  come-there =
      ap (λ (t : Text). t.come) (text-at (let r = s.row in r.side) (after_delivery (2 + length body)) s.there)
      ∙ comes-whole (text_to (let r = s.row in r.side) s.there) body s.rest (quiet-text (let r = s.row in r.side) s.there (h s.conn s.there s.at)) s.said

  front-there : first_body w16 (let t = text_to (let r = s.row in r.side) came-there in t.come) ≡ Some body
  front-there = ap (first_body w16) come-there ∙ alone.front body few

  is-front : IsFront z i (event.Frame id body)
  is-front =
      ap (λ o. option_and_then (first_body w16) (option_and_then (λ place. come_of z (wire_of (row_at w place id.0))) o)) s.runs_at
      ∙ (ap (λ o. option_and_then (first_body w16) (come_of z (wire_of o))) s.beside
      ∙ (ap (λ o. option_and_then (first_body w16) (come_of z (option_map (λ c. ((let r = s.row in r.side), c)) o))) s.on
      ∙ (ap (λ o. option_and_then (first_body w16) (option_map (λ c. (let t = text_to (let r = s.row in r.side) c in t.come)) o)) stands-there
      ∙ front-there)))

  -- the world before the frame is given
  abbrev v : World
  v = record (without_closing z) { conns = at_place s.conn (change_to (let r = s.row in r.side) body_taken) z.conns }

  takes : (fresh : ℕ) → world_after (without_closing z) (happening.Take i id fresh) ≡ notify v s.place (event.Frame id body) fresh
  takes fresh =
      there (running w i) s.place _ s.runs_at
      ∙ (there (row_at w s.place id.0) s.row _ s.beside
      ∙ (there (let r = s.row in r.conn) s.conn _ s.on
      ∙ (there (slice_get z.conns s.conn) came-there _ stands-there
      ∙ there (first_body w16 (let t = text_to (let r = s.row in r.side) came-there in t.come)) body _ front-there)))

  quiet-v : QuietIn v
  quiet-v = let side = (let r = s.row in r.side) in let n = 2 + length body in
      subst AreQuiet (sym (place-twice s.conn (change_to side (after_delivery n)) (change_to side body_taken) w.conns))
      (quiet-at s.conn (λ k. change_to side body_taken (change_to side (after_delivery n) k)) w.conns
      (λ k at. subst (λ k. IsQuiet (change_to side body_taken (change_to side (after_delivery n) k))) (same_Some s.there k (sym s.at ∙ at))
      (quiet-taken side n s.there (h s.conn s.there s.at)
      (ap (after_first w16) (comes-whole (text_to side s.there) body s.rest (quiet-text side s.there (h s.conn s.there s.at)) s.said) ∙ alone.behind body few))) h)

  quiet-takes : (fresh : ℕ) → AllApply (happening.Take i id fresh ∷ []) z → QuietIn (happens z (happening.Take i id fresh))
  quiet-takes fresh a = quiet-happens z (happening.Take i id fresh) (subst (λ (o : Option World). IfSome o QuietIn) (sym (takes fresh)) (quiet-noted v quiet-v s.place (event.Frame id body) fresh)) a

-- ---- ONE LINE: its very body is at the front, and afterwards nothing is left

abbrev pub Leaves : World → Bool → ℕ → Event → World → Type 0
Leaves w b i e x = UnlessOutside b (IsFront w i e) × QuietIn x

quiet-reach : (w : World) → QuietIn w → (all : List NodeLine) (count k : ℕ) (o : Option (ℕ × EndId)) → AllApply (option_to_list (reach all count k o)) w → QuietIn (run (option_to_list (reach all count k o)) w)
quiet-reach w h all count k None a = h
quiet-reach w h all count k (Some x) a =
    let t = target_of count x.0 (acceptor_of k all) in
    quiet-happens w (happening.Reach x.0 x.1 t) (quiet-reached (without_closing w) h x.0 x.1 t) a

quiet-first : (w : World) → QuietIn w → (all : List NodeLine) (count k : ℕ) (b : Bool) → AllApply (option_to_list (cond b None (reach all count k (dialler_of k all)))) w → QuietIn (run (option_to_list (cond b None (reach all count k (dialler_of k all)))) w)
quiet-first w h all count k true a = h
quiet-first w h all count k false a = quiet-reach w h all count k (dialler_of k all) a

pub line-leaves : FramesAlone → (w : World) → QuietIn w → (all : List NodeLine) (count : ℕ) (ks js : List ℕ) (b : Bool) (i : ℕ) (e : Event) (fresh : ℕ)
    → UnlessOutside b (IsNext w i e) → AllApply (option_to_list (before all count ks b i e)) w → AllApply (own js b i e fresh ∷ []) (run (option_to_list (before all count ks b i e)) w)
    → Leaves (run (option_to_list (before all count ks b i e)) w) b i e (run (own js b i e fresh ∷ []) (run (option_to_list (before all count ks b i e)) w))
line-leaves alone w h all count ks js b i (event.Dial p o) fresh n a c = (nothing b, quiet-happens w (happening.Dial i p o) (quiet-node (without_closing w) h i (event.Dial p o)) c)
line-leaves alone w h all count ks js true i (event.Opened id k) fresh n a c =
    (tt, quiet-happens w (happening.Outside i (event.Opened id k) fresh) (quiet-outside (without_closing w) h i (event.Opened id k) fresh) c)
line-leaves alone w h all count ks js false i (event.Opened id k) fresh n a c =
    let x = run (option_to_list (reach_first all count ks k)) w in
    let q : QuietIn x = quiet-first w h all count k (is_among k ks) a in
    (tt, quiet-happens x (happening.Opened i id) (quiet-opened (without_closing x) q i id) c)
line-leaves alone w h all count ks js true i (event.Incoming k) fresh n a c =
    (tt, quiet-happens w (happening.Outside i (event.Incoming most_connections) fresh) (quiet-outside (without_closing w) h i (event.Incoming most_connections) fresh) c)
line-leaves alone w h all count ks js false i (event.Incoming k) fresh n a c =
    let x = run (option_to_list (reach_first all count ks k)) w in
    let q : QuietIn x = quiet-first w h all count k (is_among k ks) a in
    (tt, quiet-happens x (happening.Accept (number_of k js)) (quiet-accepted (without_closing x) q (number_of k js)) c)
line-leaves alone w h all count ks js true i (event.Frame id body) fresh n a c =
    (tt, quiet-happens w (happening.Outside i (event.Frame id body) fresh) (quiet-outside (without_closing w) h i (event.Frame id body) fresh) c)
line-leaves alone w h all count ks js false i (event.Frame id body) fresh n a c =
    let s = stands w i id body n.1 in
    let e = has-come alone w i id body n.0 s h a in
    subst (λ (x : World). AllApply (happening.Take i id fresh ∷ []) x → Leaves x false i (event.Frame id body) (happens x (happening.Take i id fresh))) (sym e) (λ d. (is-front alone w i id body n.0 s h, quiet-takes alone w i id body n.0 s h fresh d)) c
line-leaves alone w h all count ks js b i (event.Lost id y) fresh n a c = (nothing b, quiet-happens w (happening.Lose i id y) (quiet-node (without_closing w) h i (event.Lost id y)) c)
line-leaves alone w h all count ks js b i (event.Tick id) fresh n a c = (nothing b, quiet-happens w (happening.Tick i id) (quiet-node (without_closing w) h i (event.Tick id)) c)

-- ---- ALL LINES

quiet-begun : (w : World) (i : ℕ) (c : Creation) → QuietIn w → IfSome (begin w i c) QuietIn
quiet-begun w i c h =
    if_there QuietIn (slice_get w.setups i) _ (λ s at.
    if_holds QuietIn (is_none (running w i)) _ (λ free.
    if_holds QuietIn (ltb (length w.lives) 281474976710656) _ (λ few.
    h)))

stays-quiet : (w : World) → QuietIn w → (o : Option World) → IfSome o QuietIn → QuietIn (ticked_on w o)
stays-quiet w h None q = h
stays-quiet w h (Some x) q = q

quiet-begins : (w : World) (i : ℕ) (ss : List Setup) → QuietIn w → QuietIn (run (begins i ss) w)
quiet-begins w i [] h = h
quiet-begins w i (s ∷ ss) h =
    let e = happening.Begin i s.creation in
    let q = at-clock w e QuietIn (quiet-begun (without_closing w) i s.creation h) in
    quiet-begins (happens w e) (suc i) ss (stays-quiet w h (applied_at w e) q)

take-theirs : FramesAlone → (all : List NodeLine) (count : ℕ) (ks : List ℕ) (w : World) (ts : List NodeLine) → QuietIn w → AreFollowed all count ks w ts → TakeTheirs all count ks w ts
take-theirs alone all count ks w [] h f = tt
take-theirs alone all count ks w (t ∷ ts) h f =
    let g = f.0 in
    let l = t.line in
    let x = line-leaves alone w h all count ks (with_mentions ks t) t.outside t.node l.event l.fresh g.next g.before g.applies in
    (x.0, take-theirs alone all count (with_mentions ks t) (after all count ks w t) ts x.1 f.1)

-- in histories of one world each line takes its very body
pub all-take-theirs : FramesAlone → (cs : List Closed) (ts : List NodeLine) → AreOfOneWorld cs ts → TakeTheirs ts (length cs) [] (audit.world_before_lines cs) ts
all-take-theirs alone cs ts f = take-theirs alone ts (length cs) [] (audit.world_before_lines cs) ts (quiet-begins (empty (setups_of cs)) 0 (setups_of cs) (λ c k at. absurd cc)) f.followed
