-- A handshake of two running nodes, step by step: bytes come, and a frame is taken.
use Rattle.dist_world_model.specs.declared.happening.Happening.{Happening}
use Rattle.dist_world_model.proofs.Words.{◌≡◌, ℕ, suc, ◌+◌, ◌<◌, ◌≤◌, ◌≢◌, true, false, not, cond, ◌&&◌, ltb, List, [], ◌∷◌, ◌++◌, length, drop, slice_get, Some, None, Ok, Err, sym, refl, ap, ◌∙◌}
use Rattle.dist_world_model.proofs.Words.{arith, lt-ltb, false≢true, w16, first_body, Setup, NodeState, NodeLaws, End, EndId, Side, Acceptor, Dialler, Message, sender_to}
use Rattle.dist_world_model.proofs.Words.{after_delivery, body_taken, change_to, more_said, text_to, happens, is_nonempty, is_open_end, most_applied, notify, ticked_on, without_closing, world_after, at_place, first_where}
use Rattle.dist_world_model.proofs.Words.{Conn, Text, World, end_at, end_of_life, row_at, row_of_life, running, runs_for}
use Rattle.dist_world_model.proofs.{Conditions.holds, Conditions.there, Lookups.placed}
use Rattle.dist_world_model.specs.declared.happening.Happening.TheVariants as happening
use Rattle.std.proofs.Math.Seq.{take-length}
use Rattle.dist_frames.proofs.Splitting.{wide16, first_framed, after_framed, first_alone, after_alone}
use Rattle.dist_frames.specs.Stream.{after_first}
use Rattle.dist_messages.specs.Canonical.{canonical}
use Rattle.dist_core_ends.specs.Ends.{end_id, is_open}
use Rattle.dist_core_ends.specs.declared.known.End.TheVariants as ends
use Rattle.dist_core_setup.specs.Saying.{frame_of}
use Rattle.dist_core.specs.{Node.is_spent, Node.limits_of, Step.at_end, Step.effect_of, Step.framed_from, Step.in_end, Step.message_effect, Step.unless_spent}
use Rattle.dist_core.specs.declared.event.Event.TheVariants as event
use Rattle.dist_core.specs.declared.step_error.StepError.TheVariants as error
use Rattle.dist_world_progress.proofs.{Fitting.Said}
use Rattle.dist_world_progress.proofs.Stands.{Any, Now, Seat, Stand, now, stand-kept}

-- ---- frames

pub first-of : (side : Side) (m : Message) → Said side m → (rest : List ℕ) → first_body w16 (frame_of m ++ rest) ≡ Some (canonical m)
unfolding frame_of
first-of side m s rest = first_framed w16 wide16 (canonical m) rest s.short

pub behind-of : (side : Side) (m : Message) → Said side m → (rest : List ℕ) → after_first w16 (frame_of m ++ rest) ≡ rest
unfolding frame_of
behind-of side m s rest = after_framed w16 wide16 (canonical m) rest s.short

pub first-last : (side : Side) (m : Message) → Said side m → first_body w16 (frame_of m) ≡ Some (canonical m)
unfolding frame_of
first-last side m s = first_alone w16 wide16 (canonical m) s.short

pub behind-last : (side : Side) (m : Message) → Said side m → after_first w16 (frame_of m) ≡ []
unfolding frame_of
behind-last side m s = after_alone w16 wide16 (canonical m) s.short

-- a frame has bytes
pub frame-some : (m : Message) (rest : List ℕ) → is_nonempty (frame_of m ++ rest) ≡ true
unfolding frame_of
frame-some m rest = refl

pub frame-long : (m : Message) → is_nonempty (frame_of m) ≡ true
unfolding frame_of
frame-long m = refl

-- ---- a message that an end takes

-- what the end e makes of message m, when r was drawn: it says this, and becomes d
pub record Does (n : NodeState) (id : EndId) (r : ℕ) (e : End) (m : Message) (say : List ℕ) (d : End) : Type 0 where
  pub own : (let f = in_end n id r e m in let r = f.reply in r.end_) ≡ id
  pub this : (let f = in_end n id r e m in f.this) ≡ d
  pub said : (let f = in_end n id r e m in let r = f.reply in r.say) ≡ say

pub unspent : (n : NodeState) (left : ℕ) → n.steps + suc left ≤ (let l = limits_of n in l.steps) → is_spent n ≡ false
unspent n left h = let l = limits_of n in ap not (lt-ltb n.steps l.steps (omega (arith, h)))

-- what a frame leads to at an end that awaits it, where a step is left
pub frame-at : (n : NodeState) (id : EndId) (r : ℕ) (e : End) (side : Side) (m : Message) → slice_get n.ends id.0 ≡ Some e → sender_to e ≡ Some side → Said side m → effect_of n (event.Frame id (canonical m)) r ≡ cond (is_spent n) (Err error.Spent) (Ok (in_end n id r e m))
unfolding effect_of
frame-at n id r e side m at to said =
    ap (λ o. at_end o (λ d. framed_from n id r (canonical m) d (sender_to d))) at
    ∙ open_ e to
    ∙ ap (framed_from n id r (canonical m) e) to
    ∙ ap (λ o. unless_spent n (message_effect n id r e o)) said.read_as
  where
    open_ : (e : End) → sender_to e ≡ Some side → at_end (Some e) (λ d. framed_from n id r (canonical m) d (sender_to d)) ≡ framed_from n id r (canonical m) e (sender_to e)
    open_ ends.Unnamed h = refl
    open_ (ends.Attempt a) h = refl
    open_ (ends.Up r) h = refl
    open_ (ends.Closed w) h = absurd (let z : None ≡ Some side = h in cc)

frame-ok : (n : NodeState) (id : EndId) (r : ℕ) (e : End) (side : Side) (m : Message) → slice_get n.ends id.0 ≡ Some e → sender_to e ≡ Some side → Said side m → is_spent n ≡ false → effect_of n (event.Frame id (canonical m)) r ≡ Ok (in_end n id r e m)
frame-ok n id r e side m at to said left = frame-at n id r e side m at to said ∙ ap (λ b. cond b (Err error.Spent) (Ok (in_end n id r e m))) left

-- a frame that came is taken
taken : (laws : NodeLaws) (w : World) (a : Seat) (c : ℕ) (e : End) (left : ℕ) (P : NodeState → Type 0) (h : Stand w a (Some c) e (suc left) P) → w.clock < most_applied → (k : Conn) → slice_get w.conns c ≡ Some k → (side : Side) (m : Message) → Said side m
    → (let t = text_to a.side k in first_body w16 t.come) ≡ Some (canonical m) → sender_to e ≡ Some side → (r : ℕ) (say : List ℕ) (d : End) → Does h.life.node (end_id a.id) r e m say d → Now w (happens w (happening.Take a.node (end_id a.id) r)) a c d left Any say (at_place c (change_to a.side body_taken) w.conns)
taken laws w a c e left P h few k ak side m said first to r say d does =
    now laws w a c e left P h few (event.Frame (end_id a.id) (canonical m)) r (in_end h.life.node (end_id a.id) r e m) (frame-ok h.life.node (end_id a.id) r e side m h.is to said (unspent h.life.node left h.enough)) does.own (omega arith) d does.this say does.said Any tt
    (happening.Take a.node (end_id a.id) r) (at_place c (change_to a.side body_taken) w.conns)
    (there (running w a.node) a.place _ h.runs
    ∙ there (row_at w a.place a.id) h.row _ (ap (λ o. row_of_life o a.id) h.lives ∙ h.beside)
    ∙ there h.row.conn c _ h.on
    ∙ there (slice_get w.conns c) k _ ak
    ∙ there (let t = text_to h.row.side k in first_body w16 t.come) (canonical m) _ (ap (λ z. let t = text_to z k in first_body w16 t.come) h.side_is ∙ first)
    ∙ ap (λ z. notify (record (without_closing w) { conns = at_place c (change_to z body_taken) w.conns }) a.place (event.Frame (end_id a.id) (canonical m)) r) h.side_is)

-- ---- bytes come

-- what a delivery leaves
record Came (w x : World) (c : ℕ) (g : Conn → Conn) : Type 0 where
  lives : x.lives ≡ w.lives
  conns : x.conns ≡ at_place c g w.conns
  setups : x.setups ≡ w.setups
  clock : x.clock ≡ w.clock + 1

some-bytes : (s : List ℕ) → is_nonempty s ≡ true → 0 < length s
some-bytes [] h = absurd (false≢true h)
some-bytes (x ∷ xs) h = omega arith

dropped : (s : List ℕ) → drop (length s) s ≡ []
dropped [] = refl
dropped (x ∷ xs) = dropped xs

-- all bytes that were said come
all-come : (s : List ℕ) → after_delivery (length s) (record { said = s; come = [] }) ≡ record { said = []; come = s }
all-come s = λ i. record { said = dropped s i; come = take-length s i }

came : (w : World) (a : Seat) (c : ℕ) (e : End) (left : ℕ) (P : NodeState → Type 0) → Stand w a (Some c) e left P → w.clock < most_applied → is_open e ≡ true → (k : Conn) → slice_get w.conns c ≡ Some k → (bytes : List ℕ) → (let t = text_to a.side k in t.said) ≡ bytes → is_nonempty bytes ≡ true
    → Came w (happens w (happening.Deliver a.node (end_id a.id) (length bytes))) c (change_to a.side (after_delivery (length bytes)))
came w a c e left P h few open_ k ak bytes said some =
    let N : ℕ = length bytes in
    let hap : Happening = happening.Deliver a.node (end_id a.id) N in
    let x : World = record (without_closing w) { conns = at_place c (change_to h.row.side (after_delivery N)) w.conns } in
    let is : world_after (without_closing w) hap ≡ Some x =
    there (running w a.node) a.place _ h.runs
    ∙ holds (is_open_end (end_at (without_closing w) a.place a.id)) _ (ap is_open_end (ap (λ o. end_of_life o a.id) h.lives ∙ h.is) ∙ open_)
    ∙ there (row_at w a.place a.id) h.row _ (ap (λ o. row_of_life o a.id) h.lives ∙ h.beside)
    ∙ there h.row.conn c _ h.on
    ∙ there (slice_get w.conns c) k _ ak
    ∙ holds (ltb 0 N && is_nonempty (text_to h.row.side k).said) _ (λ i. lt-ltb 0 N (some-bytes bytes some) i && (ap is_nonempty (ap (λ z. (text_to z k).said) h.side_is ∙ said) ∙ some) i) in
    let g : happens w hap ≡ record x { clock = w.clock + 1 } = ap (ticked_on w) (ap (λ b. cond b (world_after (without_closing w) hap) None) (lt-ltb w.clock most_applied few) ∙ is) in
    record {
      lives = ap (λ (z : World). z.lives) g;
      conns = ap (λ (z : World). z.conns) g ∙ ap (λ z. at_place c (change_to z (after_delivery N)) w.conns) h.side_is;
      setups = ap (λ (z : World). z.setups) g;
      clock = ap (λ (z : World). z.clock) g;
    }

came-stand : (w x : World) (c : ℕ) (g : Conn → Conn) → Came w x c g → (a : Seat) (e : End) (left : ℕ) (P : NodeState → Type 0) → Stand w a (Some c) e left P → Stand x a (Some c) e left P
came-stand w x c g h a e left P = stand-kept w x a (ap (first_where (runs_for a.node)) h.lives) (ap (λ ls. slice_get ls a.place) h.lives) (Some c) e left P

-- ---- two ends of a connection

-- connection c of a world, its dialled end and its accepted one
pub record Link : Type 0 where
  pub x : ℕ
  pub y : ℕ
  pub p : ℕ
  pub q : ℕ
  pub i : ℕ
  pub j : ℕ
  pub c : ℕ
  pub sx : Setup
  pub sy : Setup
  pub setups : List Setup
  pub apart : p ≢ q

abbrev pub first : Link → Seat
first t = record { node = t.x; place = t.p; id = t.i; side = Dialler; setup = t.sx }

abbrev pub second : Link → Seat
second t = record { node = t.y; place = t.q; id = t.j; side = Acceptor; setup = t.sy }

abbrev pub conn_between : Link → Text → Text → Conn
conn_between t there back = record { life = t.p; dialler = t.i; target = t.q; accepted = Some t.j; there = there; back = back }

-- the dialled end is d, the accepted one e; this is on the way; m and n steps are left, and so many happenings
pub record Talk (w : World) (t : Link) (d e : End) (there back : Text) (m n left : ℕ) (Q : NodeState → Type 0) : Type 0 where
  pub dialled : Stand w (first t) (Some t.c) d m Any
  pub accepted : Stand w (second t) (Some t.c) e n Q
  pub conn : slice_get w.conns t.c ≡ Some (conn_between t there back)
  pub few : w.clock + left ≤ most_applied
  pub setups : w.setups ≡ t.setups

module _ (laws : NodeLaws) (w : World) (t : Link) (d e : End) (there back : Text) (m n left : ℕ) (Q : NodeState → Type 0) where
  -- bytes come to the dialled end
  pub come-x : Talk w t d e there back m n (suc left) Q → (s : List ℕ) → back ≡ record { said = s; come = [] } → is_nonempty s ≡ true → is_open d ≡ true
      → Talk (happens w (happening.Deliver t.x (end_id t.i) (length s))) t d e there (record { said = []; come = s }) m n left Q
  come-x h s is some open_ =
      let few = h.few in
      let f : Conn → Conn = change_to Dialler (after_delivery (length s)) in
      let x : World = happens w (happening.Deliver t.x (end_id t.i) (length s)) in
      let g = came w (first t) t.c d m Any h.dialled (omega (arith, few)) open_ (conn_between t there back) h.conn s (ap (λ (z : Text). z.said) is) some in
      let on = g.clock in
      record {
        dialled = came-stand w x t.c f g (first t) d m Any h.dialled;
        accepted = came-stand w x t.c f g (second t) e n Q h.accepted;
        conn = ap (λ cs. slice_get cs t.c) g.conns ∙ placed t.c f w.conns (conn_between t there back) h.conn ∙ ap (λ z. Some (conn_between t there z)) (ap (after_delivery (length s)) is ∙ all-come s);
        few = omega (arith, few, on);
        setups = g.setups ∙ h.setups;
      }

  -- bytes come to the accepted end
  pub come-y : Talk w t d e there back m n (suc left) Q → (s : List ℕ) → there ≡ record { said = s; come = [] } → is_nonempty s ≡ true → is_open e ≡ true
      → Talk (happens w (happening.Deliver t.y (end_id t.j) (length s))) t d e (record { said = []; come = s }) back m n left Q
  come-y h s is some open_ =
      let few = h.few in
      let f : Conn → Conn = change_to Acceptor (after_delivery (length s)) in
      let x : World = happens w (happening.Deliver t.y (end_id t.j) (length s)) in
      let g = came w (second t) t.c e n Q h.accepted (omega (arith, few)) open_ (conn_between t there back) h.conn s (ap (λ (z : Text). z.said) is) some in
      let on = g.clock in
      record {
        dialled = came-stand w x t.c f g (first t) d m Any h.dialled;
        accepted = came-stand w x t.c f g (second t) e n Q h.accepted;
        conn = ap (λ cs. slice_get cs t.c) g.conns ∙ placed t.c f w.conns (conn_between t there back) h.conn ∙ ap (λ z. Some (conn_between t z back)) (ap (after_delivery (length s)) is ∙ all-come s);
        few = omega (arith, few, on);
        setups = g.setups ∙ h.setups;
      }

  -- the dialled end takes a message
  pub take-x : (r : ℕ) → Talk w t d e there back (suc m) n (suc left) Q → (k : Message) → Said Acceptor k → first_body w16 back.come ≡ Some (canonical k) → sender_to d ≡ Some Acceptor → (rest say : List ℕ) → after_first w16 back.come ≡ rest → (f : End)
      → ((v : NodeState) → v.setup ≡ t.sx → Does v (end_id t.i) r d k say f)
      → Talk (happens w (happening.Take t.x (end_id t.i) r)) t f e (more_said say there) (record back { come = rest }) m n left Q
  take-x r h k said come to rest say behind f does =
      let few = h.few in
      let s = h.dialled in
      let g = taken laws w (first t) t.c d m Any s (omega (arith, few)) (conn_between t there back) h.conn Acceptor k said come to r say f (does s.life.node s.setup) in
      let went = g.went in
      let on = went.clock in
      record {
        dialled = g.stand;
        accepted = stand-kept w (happens w (happening.Take t.x (end_id t.i) r)) (second t) (went.runs t.y) (went.others t.q t.apart) (Some t.c) e n Q h.accepted;
        conn = g.conn (change_to Dialler body_taken (conn_between t there back)) (placed t.c (change_to Dialler body_taken) w.conns (conn_between t there back) h.conn) ∙ (λ i. Some (conn_between t (more_said say there) (record back { come = behind i })));
        few = omega (arith, few, on);
        setups = went.setups ∙ h.setups;
      }

  -- the accepted end takes a message
  pub take-y : (r : ℕ) → Talk w t d e there back m (suc n) (suc left) Q → (k : Message) → Said Dialler k → first_body w16 there.come ≡ Some (canonical k) → sender_to e ≡ Some Dialler → (rest say : List ℕ) → after_first w16 there.come ≡ rest → (f : End)
      → ((v : NodeState) → v.setup ≡ t.sy → Q v → Does v (end_id t.j) r e k say f)
      → Talk (happens w (happening.Take t.y (end_id t.j) r)) t d f (record there { come = rest }) (more_said say back) m n left Any
  take-y r h k said come to rest say behind f does =
      let few = h.few in
      let s = h.accepted in
      let g = taken laws w (second t) t.c e n Q s (omega (arith, few)) (conn_between t there back) h.conn Dialler k said come to r say f (does s.life.node s.setup s.known) in
      let went = g.went in
      let on = went.clock in
      record {
        dialled = stand-kept w (happens w (happening.Take t.y (end_id t.j) r)) (first t) (went.runs t.x) (went.others t.p (λ z. t.apart (sym z))) (Some t.c) d m Any h.dialled;
        accepted = g.stand;
        conn = g.conn (change_to Acceptor body_taken (conn_between t there back)) (placed t.c (change_to Acceptor body_taken) w.conns (conn_between t there back) h.conn) ∙ (λ i. Some (conn_between t (record there { come = behind i }) (more_said say back)));
        few = omega (arith, few, on);
        setups = went.setups ∙ h.setups;
      }
