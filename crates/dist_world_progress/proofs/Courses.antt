-- The course of a handshake that nobody disturbs: how its two ends stand, and what is on the way between them.
use Rattle.dist_world_model.proofs.Words.{◌≡◌, ℕ, ◌^◌, ◌<◌, ◌≤◌, arith, Bool, true, false, cond, ◌⊎◌, List, [], ◌++◌, slice_get, Some, None, Ok, Err, Option, Result, sym, refl, ap, ◌∙◌, subst}
use Rattle.dist_world_model.proofs.Words.{inl, inr, append_assoc, append-nil, false≢true, and_parts, same_Some, some_pair_parts, option_map, Name, Kind, In, Out, Up, is_claim, kind_in, holds, names, entry_in, replaced_by}
use Rattle.dist_world_model.proofs.Words.{Setup, NodeState, NodeLaws, End, EndId, Attempt, UpRecord, Why, Side, Acceptor, Dialler, Message, Effect, Event, StepError, Text, effect_of, sender_to, sender_in, waits_in, named_attempt, fresh_attempt}
use Rattle.dist_world_model.proofs.Words.{comes_up, reply_phase, supersedes, Entry, Form, StepRow, Heard, Taken}
use Rattle.dist_world_model.proofs.{HappeningEffects.IsPlain, Places.eqb-self, StepEffects.is_given, WholeFrames.on_way}
use Rattle.dist_world_progress.proofs.{Stages.stage_in, Stages.stage_of}
use Rattle.dist_world_progress.proofs.{FlowSteps.TakenOf, FlowSteps.came, FlowSteps.stayed, Lines.way-empty, Lines.way-first}
use Rattle.dist_world_progress.proofs.{Fitting.Handshake, Fitting.Said, Fitting.reply-said, Meeting.IsFor, Talks.Does, Talks.frame-at}
use Rattle.dist_world_progress.proofs.Exchange.{ack-said, at_x, at_x2, at_x3, at_y, does-ack, does-challenge, does-name, does-reply, does-status, status-said, the-ack, the-reply, up-x, up-y}
use Rattle.dist_messages.specs.{Canonical.canonical}
use Rattle.dist_messages.specs.declared.form.Form.TheVariants as form
use Rattle.dist_messages.specs.declared.message.Message.TheVariants as message
use Rattle.dist_messages.specs.declared.message.Status.TheVariants as status
use Rattle.dist_peers.specs.declared.entry.Entry.TheVariants as entry
use Rattle.dist_secret.specs.Cookies.{cookie_for}
use Rattle.dist_core_ends.specs.Ends.{is_open, same_kind}
use Rattle.dist_names.specs.Order.{same_name}
use Rattle.dist_core_ends.specs.declared.known.End.TheVariants as ends
use Rattle.dist_core_ends.specs.declared.phase.Phase.TheVariants as phase
use Rattle.dist_core_ends.specs.declared.why.Why.TheVariants as why
use Rattle.dist_core_setup.specs.Saying.{frame_of, greeting_text, name_text}
use Rattle.dist_core.specs.{Effects.form_of, Step.in_end}
use Rattle.dist_core.specs.Rows as core
use Rattle.dist_core.specs.declared.event.Event.TheVariants as event
use Rattle.dist_core.specs.declared.step_error.StepError.TheVariants as error

-- ---- what an event does to its own end, if that isn't lost

pub data Own (n : NodeState) (e : End) (v : Event) (f : Effect) : Type 0 where
  Begun : (b : Attempt) → e ≡ ends.Attempt b → b.phase ≡ phase.Dialing → IsPlain v → f.this ≡ ends.Attempt (record b { phase = phase.AwaitStatus }) → f.reply.say ≡ name_text n.setup b.form → Own n e v f
  Ceased : (b : Attempt) → e ≡ ends.Attempt b → b.phase ≡ phase.DoomedDialing → Own n e v f
  Ticked : (r : UpRecord) → e ≡ ends.Up r → IsPlain v → f.this ≡ ends.Up r → Own n e v f
  Framed : (id : EndId) → (body : List ℕ) → (side : Side) → v ≡ event.Frame id body → f.reply.end_ ≡ id → sender_to e ≡ Some side → Own n e v f

pub own-of : (laws : NodeLaws) (n : NodeState) (v : Event) (fresh : ℕ) (f : Effect) (e : End) → StepRow n v fresh f → is_given v ≡ false → ((id : EndId) (w : Why) → v ≡ event.Lost id w → ⊥) → slice_get n.ends f.reply.end_.0 ≡ Some e → Own n e v f
own-of laws n v fresh f e row ng spared at = by row
  where
    here : (id : EndId) (d : End) → f.reply.end_ ≡ id → slice_get n.ends id.0 ≡ Some d → e ≡ d
    here id d q h = same_Some e d (sym at ∙ ap (λ (i : EndId). slice_get n.ends i.0) q ∙ h)

    plain : (u : Event) → v ≡ u → IsPlain u → IsPlain v
    plain u is h = let Q : Event → Type 0 = λ z. IsPlain z in subst Q (sym is) h

    by : StepRow n v fresh f → Own n e v f
    by (core.Dials p o is idle sp full cr k) = absurd (false≢true (sym ng ∙ ap is_given is))
    by (core.Comes_in link is sp cr k) = absurd (false≢true (sym ng ∙ ap is_given is))
    by (core.Begins id link b is at' ph sp k) = Begun b (here id (ends.Attempt b) (ap (λ (f : Effect). f.reply.end_) k) at') ph (plain (event.Opened id link) is tt) (ap (λ (f : Effect). f.this) k) (ap (λ (f : Effect). f.reply.say) k)
    by (core.Ceases id link b is at' ph sp k) = Ceased b (here id (ends.Attempt b) (ap (λ (f : Effect). f.reply.end_) k) at') ph
    by (core.Loses id w d is at' op k) = absurd (spared id w is)
    by (core.Ticks id r is at' sp k) = Ticked r (here id (ends.Up r) (ap (λ (f : Effect). f.reply.end_) k) at') (plain (event.Tick id) is tt) (ap (λ (f : Effect). f.this) k)
    by (core.Fails id body d side x is at' to sp says k) = let q : f.reply.end_ ≡ id = ap (λ (f : Effect). f.reply.end_) k in Framed id body side is q (ap sender_to (here id d q at') ∙ to)
    by (core.Hears id body d side m is at' to sp says h) = let q = laws.own_end n id fresh d m f h in Framed id body side is q (ap sender_to (here id d q at') ∙ to)

-- no event of an end that is up, or without a name, or whose connection opened, begins anything
only-frame : (n : NodeState) (e : End) (v : Event) (f : Effect) (b : Attempt) → e ≡ ends.Attempt b → waits_in b.phase ≡ false → Own n e v f → (id : EndId) × (body : List ℕ) × (v ≡ event.Frame id body) × (f.reply.end_ ≡ id)
only-frame n e v f b un late (Begun c is ph plain this say) = absurd (let q : ends.Attempt b ≡ ends.Attempt c = sym un ∙ is in let z : b ≡ c = cc in false≢true (sym late ∙ ap (λ (a : Attempt). waits_in a.phase) z ∙ ap waits_in ph))
only-frame n e v f b un late (Ceased c is ph) = absurd (let q : ends.Attempt b ≡ ends.Attempt c = sym un ∙ is in let z : b ≡ c = cc in false≢true (sym late ∙ ap (λ (a : Attempt). waits_in a.phase) z ∙ ap waits_in ph))
only-frame n e v f b un late (Ticked r is plain this) = absurd (let q : ends.Attempt b ≡ ends.Up r = sym un ∙ is in cc)
only-frame n e v f b un late (Framed id body side is own to) = (id, body, is, own)

only-name : (n : NodeState) (e : End) (v : Event) (f : Effect) → e ≡ ends.Unnamed → Own n e v f → (id : EndId) × (body : List ℕ) × (v ≡ event.Frame id body) × (f.reply.end_ ≡ id)
only-name n e v f un (Begun c is ph plain this say) = absurd (let q : ends.Unnamed ≡ ends.Attempt c = sym un ∙ is in cc)
only-name n e v f un (Ceased c is ph) = absurd (let q : ends.Unnamed ≡ ends.Attempt c = sym un ∙ is in cc)
only-name n e v f un (Ticked r is plain this) = absurd (let q : ends.Unnamed ≡ ends.Up r = sym un ∙ is in cc)
only-name n e v f un (Framed id body side is own to) = (id, body, is, own)

only-tick : (n : NodeState) (e : End) (v : Event) (f : Effect) (r : UpRecord) → e ≡ ends.Up r → Own n e v f → IsPlain v × (f.this ≡ ends.Up r)
only-tick n e v f r un (Begun c is ph plain this say) = absurd (let q : ends.Up r ≡ ends.Attempt c = sym un ∙ is in cc)
only-tick n e v f r un (Ceased c is ph) = absurd (let q : ends.Up r ≡ ends.Attempt c = sym un ∙ is in cc)
only-tick n e v f r un (Ticked s is plain this) = (plain, this ∙ sym is ∙ un)
only-tick n e v f r un (Framed id body side is own to) = absurd (let z : None ≡ Some side = sym (ap sender_to un) ∙ to in cc)

-- the effect of a step that isn't refused
made : (b : Bool) (f g : Effect) → ◌≡◌ {A = Result Effect StepError} (Ok f) (cond b (Err error.Spent) (Ok g)) → f ≡ g
made true f g e = absurd cc
made false f g e = cc

-- ---- the end that a step changes besides its own

-- it holds the peer that the event's own end holds then
pub record Ousts (n : NodeState) (f : Effect) (z : EndId) : Type 0 where
  pub peer : Name
  pub kind : Kind
  pub then_ : Kind
  pub was : names kind z.0 (entry_in n.ends peer) ≡ true
  pub now : holds peer then_ f.this ≡ true

module _ (laws : NodeLaws) (n : NodeState) (v : Event) (fresh : ℕ) (f : Effect) (z : EndId) (s : End) (other : f.other ≡ Some (z, s)) where
  nothing : (g : Effect) → f ≡ g → g.other ≡ None → Ousts n f z
  nothing g k q = absurd (let u : None ≡ Some (z, s) = sym q ∙ ap (λ (f : Effect). f.other) (sym k) ∙ other in cc)

  takes : (g : Effect) (u : EndId) (d : End) (p : Name) (k l : Kind) → f ≡ g → g.other ≡ Some (u, d) → names k u.0 (entry_in n.ends p) ≡ true → holds p l g.this ≡ true → Ousts n f z
  takes g u d p k l is q was now =
      let e = some_pair_parts u z d s (sym q ∙ ap (λ (f : Effect). f.other) (sym is) ∙ other) in
      record { peer = p; kind = k; then_ = l; was = ap (λ (x : EndId). names k x.0 (entry_in n.ends p)) (sym e.0) ∙ was; now = ap (λ (f : Effect). holds p l f.this) is ∙ now }

  rises : (id : EndId) (say : List ℕ) (r : UpRecord) (p : Name) → r.peer ≡ p → (o : Option Entry) → entry_in n.ends p ≡ o → f ≡ comes_up id say r (replaced_by o) → Ousts n f z
  rises id say r p named None en k = nothing _ k refl
  rises id say r p named (Some (entry.Out x)) en k = nothing _ k refl
  rises id say r p named (Some (entry.In x)) en k = nothing _ k refl
  rises id say r p named (Some (entry.Up x)) en k = nothing _ k refl
  rises id say r p named (Some (entry.Challenged u x)) en k = takes _ u (ends.Closed why.Replaced) p Up Up k refl (ap (names Up u.0) en ∙ eqb-self u.0) (ap (same_name p) named ∙ laws.names.itself p)

  named-holds : (o : Form) (p : Name) → is_claim p In (option_map (λ k. record { peer = p; kind = k }) (kind_in (reply_phase o))) ≡ true
  named-holds form.New p = laws.names.itself p
  named-holds form.Old p = laws.names.itself p
  named-holds form.Five p = laws.names.itself p

  crosses : (id : EndId) (say : List ℕ) (b : Attempt) (x : EndId) (d : End) → holds b.peer In (ends.Attempt b) ≡ true → entry_in n.ends b.peer ≡ Some (entry.Out x) → f ≡ supersedes id say b x d → Ousts n f z
  crosses id say b x (ends.Closed w) h en k = takes _ x (ends.Closed w) b.peer Out In k refl (ap (names Out x.0) en ∙ eqb-self x.0) h
  crosses id say b x ends.Unnamed h en k = takes _ x ends.Unnamed b.peer Out In k refl (ap (names Out x.0) en ∙ eqb-self x.0) h
  crosses id say b x (ends.Attempt a) h en k = takes _ x (ends.Attempt a) b.peer Out In k refl (ap (names Out x.0) en ∙ eqb-self x.0) h
  crosses id say b x (ends.Up r) h en k = takes _ x (ends.Up r) b.peer Out In k refl (ap (names Out x.0) en ∙ eqb-self x.0) h

  taken-ousts : (id : EndId) (b : Attempt) → holds b.peer In (ends.Attempt b) ≡ true → Taken n id b f → Ousts n f z
  taken-ousts id b h (core.Accepts en k) = nothing _ k refl
  taken-ousts id b h (core.Crosses x en g k) = crosses id _ b x _ h en k
  taken-ousts id b h (core.Declines x en g k) = nothing _ k refl
  taken-ousts id b h (core.Comes_again x en k) = takes _ x (ends.Closed why.Replaced) b.peer In In k refl (ap (names In x.0) en ∙ eqb-self x.0) h
  taken-ousts id b h (core.Asks_alive x en k) = nothing _ k refl
  taken-ousts id b h (core.Asks_again u x en k) = takes _ x (ends.Closed why.Replaced) b.peer In In k refl (ap (names In x.0) en ∙ eqb-self x.0) (laws.names.itself b.peer)

  heard-ousts : (id : EndId) (e : End) (m : Message) → Heard n id fresh e m f → Ousts n f z
  heard-ousts id e m (core.Closes say w cause k) = nothing _ k refl
  heard-ousts id e m (core.Names u flags c p un mm ok t) = taken-ousts id (named_attempt u flags c p fresh) (named-holds u p) t
  heard-ousts id e m (core.Goes_on st b un ph mm go k) = nothing _ k refl
  heard-ousts id e m (core.Insists b un ph mm k) = nothing _ k refl
  heard-ousts id e m (core.Replies u r flags challenge c p b un ph mm sn fl k) = nothing _ k refl
  heard-ousts id e m (core.Challenges b un ph mm k) = nothing _ k refl
  heard-ousts id e m (core.Complements high c b un ph mm fl k) = nothing _ k refl
  heard-ousts id e m (core.Acknowledged digest b un ph mm right k) = rises id _ _ b.peer refl (entry_in n.ends b.peer) refl k
  heard-ousts id e m (core.Replied challenge digest b un ph mm right k) = rises id _ _ b.peer refl (entry_in n.ends b.peer) refl k

  pub ousts : StepRow n v fresh f → Ousts n f z
  ousts (core.Dials p o is idle sp full cr k) = nothing _ k refl
  ousts (core.Comes_in link is sp cr k) = nothing _ k refl
  ousts (core.Begins id link b is at ph sp k) = nothing _ k refl
  ousts (core.Ceases id link b is at ph sp k) = nothing _ k refl
  ousts (core.Loses id w e is at op k) = nothing _ k refl
  ousts (core.Ticks id r is at sp k) = nothing _ k refl
  ousts (core.Fails id body e side x is at to sp says k) = nothing _ k refl
  ousts (core.Hears id body e side m is at to sp says h) = heard-ousts id e m h

-- ---- the peer of an end

abbrev pub peer_in : End → Option Name
peer_in ends.Unnamed = None
peer_in (ends.Attempt a) = Some a.peer
peer_in (ends.Up r) = Some r.peer
peer_in (ends.Closed w) = None

pub holds-peer : (laws : NodeLaws) (e : End) (p : Name) (k : Kind) → holds p k e ≡ true → peer_in e ≡ Some p
holds-peer laws ends.Unnamed p k h = absurd (false≢true h)
holds-peer laws (ends.Closed w) p k h = absurd (false≢true h)
holds-peer laws (ends.Up r) p k h = ap (λ (q : Name). Some q) (sym (laws.names.one_name p r.peer (and_parts (same_kind k Up) (same_name p r.peer) h).1))
holds-peer laws (ends.Attempt a) p k h = by (kind_in a.phase) h
  where
    by : (o : Option Kind) → is_claim p k (option_map (λ k. record { peer = a.peer; kind = k }) o) ≡ true → Some a.peer ≡ Some p
    by None h = absurd (false≢true h)
    by (Some l) h = ap (λ (q : Name). Some q) (sym (laws.names.one_name p a.peer (and_parts (same_kind k l) (same_name p a.peer) h).1))

-- ---- the course

-- two nodes that understand each other
pub record Match : Type 0 where
  pub sx : Setup
  pub sy : Setup
  pub cookie : cookie_for sx.cookies sy.name ≡ cookie_for sy.cookies sx.name
  pub hs : Handshake sx sy

module _ (laws : NodeLaws) (g : Match) where
  open g use {sx, sy, cookie, hs}

  abbrev pub d_dialing : End
  d_dialing = ends.Attempt (fresh_attempt sy.name hs.opens)

  abbrev pub d_named : End
  d_named = ends.Attempt (at_x laws sx sy 0 0 cookie hs)

  abbrev pub d_let : End
  d_let = ends.Attempt (at_x2 laws sx sy 0 0 cookie hs)

  abbrev pub d_replied : ℕ → End
  d_replied cx = ends.Attempt (at_x3 laws sx sy cx 0 cookie hs)

  abbrev pub d_up : ℕ → UpRecord
  d_up cx = up-x laws sx sy cx 0 cookie hs

  abbrev pub a_named : ℕ → End
  a_named cy = ends.Attempt (at_y laws sx sy 0 cy cookie hs)

  abbrev pub a_up : ℕ → UpRecord
  a_up cy = up-y laws sx sy 0 cy cookie hs

  abbrev reply_of : ℕ → ℕ → Message
  reply_of cx cy = the-reply laws sx sy cx cy cookie hs

  abbrev ack_of : ℕ → Message
  ack_of cx = the-ack laws sx sy cx 0 cookie hs

  -- not accepted, or without a name
  abbrev pub IsNew : Option End → Type 0
  IsNew a = (a ≡ None) ⊎ (a ≡ Some ends.Unnamed)

  -- HOW IT STANDS: this is on the way there and back, and these are the dialled end and the accepted one
  pub data Course (there back : List ℕ) (d a : Option End) : Type 0 where
    Unopened : d ≡ Some d_dialing → IsNew a → there ≡ [] → back ≡ [] → Course there back d a
    Named : d ≡ Some d_named → IsNew a → there ≡ name_text sx (form_of hs.opens) → back ≡ [] → Course there back d a
    Greeted : (cy : ℕ) → cy < 2 ^ 32 → d ≡ Some d_named → a ≡ Some (a_named cy) → there ≡ [] → back ≡ greeting_text sy status.Ok hs.form cy → Course there back d a
    Challenged : (cy : ℕ) → cy < 2 ^ 32 → d ≡ Some d_let → a ≡ Some (a_named cy) → there ≡ [] → back ≡ frame_of (hs.challenge cy) → Course there back d a
    Replied : (cx cy : ℕ) → cx < 2 ^ 32 → d ≡ Some (d_replied cx) → a ≡ Some (a_named cy) → there ≡ frame_of (reply_of cx cy) → back ≡ [] → Course there back d a
    Acked : (cx cy : ℕ) → (rest : List ℕ) → d ≡ Some (d_replied cx) → a ≡ Some (ends.Up (a_up cy)) → back ≡ frame_of (ack_of cx) ++ rest → Course there back d a
    Both : (cx cy : ℕ) → d ≡ Some (ends.Up (d_up cx)) → a ≡ Some (ends.Up (a_up cy)) → Course there back d a

  -- the connection is accepted
  pub course-accepted : (t k : List ℕ) (d : Option End) → Course t k d None → Course t k d (Some ends.Unnamed)
  course-accepted t k d (Unopened p n x y) = Unopened p (inr refl) x y
  course-accepted t k d (Named p n x y) = Named p (inr refl) x y
  course-accepted t k d (Greeted cy s p q x y) = absurd (let z : None ≡ Some (a_named cy) = q in cc)
  course-accepted t k d (Challenged cy s p q x y) = absurd (let z : None ≡ Some (a_named cy) = q in cc)
  course-accepted t k d (Replied cx cy s p q x y) = absurd (let z : None ≡ Some (a_named cy) = q in cc)
  course-accepted t k d (Acked cx cy rest p q y) = absurd (let z : None ≡ Some (ends.Up (a_up cy)) = q in cc)
  course-accepted t k d (Both cx cy p q) = absurd (let z : None ≡ Some (ends.Up (a_up cy)) = q in cc)

  -- the dialled end is open, and y is its peer
  pub dialled-peer : (t k : List ℕ) (e : End) (a : Option End) → Course t k (Some e) a → (is_open e ≡ true) × (peer_in e ≡ Some sy.name)
  dialled-peer t k e a c = by c
    where
      at : (d : End) → Some e ≡ Some d → is_open d ≡ true → peer_in d ≡ Some sy.name → (is_open e ≡ true) × (peer_in e ≡ Some sy.name)
      at d p o q = let z = same_Some e d p in (ap is_open z ∙ o, ap peer_in z ∙ q)

      by : Course t k (Some e) a → (is_open e ≡ true) × (peer_in e ≡ Some sy.name)
      by (Unopened p n x y) = at d_dialing p refl refl
      by (Named p n x y) = at d_named p refl refl
      by (Greeted cy s p q x y) = at d_named p refl refl
      by (Challenged cy s p q x y) = at d_let p refl refl
      by (Replied cx cy s p q x y) = at (d_replied cx) p refl refl
      by (Acked cx cy rest p q y) = at (d_replied cx) p refl refl
      by (Both cx cy p q) = at (ends.Up (d_up cx)) p refl refl

  -- the accepted end is open, and x is its peer once it has one
  pub accepted-peer : (t k : List ℕ) (d : Option End) (e : End) → Course t k d (Some e) → (is_open e ≡ true) × ((e ≡ ends.Unnamed) ⊎ (peer_in e ≡ Some sx.name))
  accepted-peer t k d e c = by c
    where
      new : IsNew (Some e) → (is_open e ≡ true) × ((e ≡ ends.Unnamed) ⊎ (peer_in e ≡ Some sx.name))
      new (inl q) = absurd (let z : Some e ≡ None = q in cc)
      new (inr q) = let z = same_Some e ends.Unnamed q in (ap is_open z, inl z)

      at : (a : End) → Some e ≡ Some a → is_open a ≡ true → peer_in a ≡ Some sx.name → (is_open e ≡ true) × ((e ≡ ends.Unnamed) ⊎ (peer_in e ≡ Some sx.name))
      at a p o q = let z = same_Some e a p in (ap is_open z ∙ o, inr (ap peer_in z ∙ q))

      by : Course t k d (Some e) → (is_open e ≡ true) × ((e ≡ ends.Unnamed) ⊎ (peer_in e ≡ Some sx.name))
      by (Unopened p n x y) = new n
      by (Named p n x y) = new n
      by (Greeted cy s p q x y) = at (a_named cy) q refl refl
      by (Challenged cy s p q x y) = at (a_named cy) q refl refl
      by (Replied cx cy s p q x y) = at (a_named cy) q refl refl
      by (Acked cx cy rest p q y) = at (ends.Up (a_up cy)) q refl refl
      by (Both cx cy p q) = at (ends.Up (a_up cy)) q refl refl

  -- the accepted end is new, or holds x
  pub data Holding (a : Option End) : Type 0 where
    New : IsNew a → Holding a
    Held : (e : End) (k : Kind) → a ≡ Some e → holds sx.name k e ≡ true → 1 ≤ stage_of (Some e) → Holding a

  pub holding : (t k : List ℕ) (d a : Option End) → Course t k d a → Holding a
  holding t k d a c = by c
    where
      named : (cy : ℕ) → a ≡ Some (a_named cy) → Holding a
      named cy q = Held (a_named cy) In q (ap (λ z. is_claim sx.name In (option_map (λ k. record { peer = sx.name; kind = k }) (kind_in z))) hs.replies ∙ laws.names.itself sx.name)
          (let s : stage_in (reply_phase hs.form) ≡ 3 = ap stage_in hs.replies in omega (arith, s))

      by : Course t k d a → Holding a
      by (Unopened p n x y) = New n
      by (Named p n x y) = New n
      by (Greeted cy s p q x y) = named cy q
      by (Challenged cy s p q x y) = named cy q
      by (Replied cx cy s p q x y) = named cy q
      by (Acked cx cy rest p q y) = Held (ends.Up (a_up cy)) Up q (laws.names.itself sx.name) (omega arith)
      by (Both cx cy p q) = Held (ends.Up (a_up cy)) Up q (laws.names.itself sx.name) (omega arith)

  -- ---- an event of one of the two ends

  module _ (n : NodeState) (v : Event) (fresh : ℕ) (small : fresh < 2 ^ 32) (f : Effect) (ok : effect_of n v fresh ≡ Ok f) (e : End) (at : slice_get n.ends f.reply.end_.0 ≡ Some e) (own : Own n e v f) (x y : Text) (taken : TakenOf v x y) where
    abbrev IsFrame : Type 0
    IsFrame = (id : EndId) × (body : List ℕ) × (v ≡ event.Frame id body) × (f.reply.end_ ≡ id)

    none : on_way x ≡ [] → IsFrame → ⊥
    none q (id, body, is, me) = way-empty x body q (came v x y taken id body is).0

    pub record Hears (say : List ℕ) (d : End) (rest : List ℕ) : Type 0 where
      pub this : f.this ≡ d
      pub said : f.reply.say ≡ say
      pub left : on_way y ≡ rest

    hear : (d : End) → e ≡ d → (side : Side) (m : Message) (rest : List ℕ) → sender_to d ≡ Some side → Said side m → on_way x ≡ frame_of m ++ rest → (say : List ℕ) (to : End) → ((id : EndId) → Does n id fresh d m say to) → IsFrame → Hears say to rest
    unfolding frame_of
    hear d un side m rest awaits said way say to does (id, body, is, me) =
        let c = came v x y taken id body is in
        let w = way-first x body (canonical m) rest way said.short c.0 in
        let at-id : slice_get n.ends id.0 ≡ Some d = ap (λ (i : EndId). slice_get n.ends i.0) (sym me) ∙ at ∙ ap (λ (z : End). Some z) un in
        let z : event.Frame id body ≡ event.Frame id (canonical m) = ap (event.Frame id) w.0 in
        let same : f ≡ in_end n id fresh d m = made _ f (in_end n id fresh d m) (sym ok ∙ ap (λ u. effect_of n u fresh) (is ∙ z) ∙ frame-at n id fresh d side m at-id awaits said) in
        let h = does id in
        record { this = ap (λ (f : Effect). f.this) same ∙ h.this; said = ap (λ (f : Effect). f.reply.say) same ∙ h.said; left = ap on_way c.1 ∙ w.1 }

    unmoved : IsPlain v → y ≡ x
    unmoved plain = stayed v x y taken (λ id body is. let Q : Event → Type 0 = λ u. IsPlain u in subst Q is plain)

    one : (m : Message) → on_way x ≡ frame_of m → on_way x ≡ frame_of m ++ []
    one m h = h ∙ sym (append-nil (frame_of m))

    first : (t say : List ℕ) → t ≡ [] → t ++ say ≡ say
    first t say h = ap (λ z. z ++ say) h

    -- the dialled end
    pub dialled-goes : n.setup ≡ sx → (there : List ℕ) (a : Option End) → Course there (on_way x) (Some e) a → Course (there ++ f.reply.say) (on_way y) (Some f.this) a
    dialled-goes setup there a c = by c
      where
        it : (d : End) → f.this ≡ d → Some f.this ≡ Some d
        it d q = ap (λ (z : End). Some z) q

        by : Course there (on_way x) (Some e) a → Course (there ++ f.reply.say) (on_way y) (Some f.this) a
        by (Unopened p new t k) = begins own
          where
            un : e ≡ d_dialing
            un = same_Some e d_dialing p

            begins : Own n e v f → Course (there ++ f.reply.say) (on_way y) (Some f.this) a
            begins (Begun b is ph plain this say) =
                let q : ends.Attempt b ≡ d_dialing = sym is ∙ un in
                let z : b ≡ fresh_attempt sy.name hs.opens = cc in
                Named (it d_named (this ∙ ap (λ (b : Attempt). ends.Attempt (record b { phase = phase.AwaitStatus })) z)) new
                (first there f.reply.say t ∙ say ∙ (λ i. name_text (setup i) (z i).form)) (ap on_way (unmoved plain) ∙ k)
            begins (Ceased b is ph) = absurd (let q : ends.Attempt b ≡ d_dialing = sym is ∙ un in let z : b ≡ fresh_attempt sy.name hs.opens = cc in let u : phase.Dialing ≡ phase.DoomedDialing = sym (ap (λ (a : Attempt). a.phase) z) ∙ ph in cc)
            begins (Ticked r is plain this) = absurd (let q : ends.Up r ≡ d_dialing = sym is ∙ un in cc)
            begins (Framed id body side is me to) = absurd (none k (id, body, is, me))
        by (Named p new t k) = absurd (none k (only-frame n e v f (at_x laws sx sy 0 0 cookie hs) (same_Some e d_named p) refl own))
        by (Greeted cy s p q t k) =
            let h = hear d_named (same_Some e d_named p) Acceptor (message.Status status.Ok) (frame_of (hs.challenge cy)) refl (status-said laws sx sy 0 cy cookie hs Acceptor status.Ok refl) (k ∙ ap (λ m. frame_of (message.Status status.Ok) ++ frame_of m) (hs.challenges cy)) [] d_let (λ id. does-status laws sx sy 0 cy cookie hs n fresh id)
            (only-frame n e v f (at_x laws sx sy 0 0 cookie hs) (same_Some e d_named p) refl own) in
            Challenged cy s (it d_let h.this) q (first there f.reply.say t ∙ h.said) h.left
        by (Challenged cy s p q t k) =
            let h = hear d_let (same_Some e d_let p) Acceptor (hs.challenge cy) [] refl (hs.challenge_said cy s) (one (hs.challenge cy) k) (frame_of (reply_of fresh cy)) (d_replied fresh) (λ id. does-challenge laws sx sy fresh cy cookie hs n id setup)
            (only-frame n e v f (at_x2 laws sx sy 0 0 cookie hs) (same_Some e d_let p) refl own) in
            Replied fresh cy small (it (d_replied fresh) h.this) q (first there f.reply.say t ∙ h.said) h.left
        by (Replied cx cy s p q t k) = absurd (none k (only-frame n e v f (at_x3 laws sx sy cx 0 cookie hs) (same_Some e (d_replied cx) p) refl own))
        by (Acked cx cy rest p q k) =
            let h = hear (d_replied cx) (same_Some e (d_replied cx) p) Acceptor (ack_of cx) rest refl (ack-said laws sx sy cx 0 cookie hs) k [] (ends.Up (d_up cx)) (λ id. does-ack laws sx sy cx 0 cookie hs n fresh id setup)
            (only-frame n e v f (at_x3 laws sx sy cx 0 cookie hs) (same_Some e (d_replied cx) p) refl own) in
            Both cx cy (it (ends.Up (d_up cx)) h.this) q
        by (Both cx cy p q) = Both cx cy (it (ends.Up (d_up cx)) (only-tick n e v f (d_up cx) (same_Some e (ends.Up (d_up cx)) p) own).1) q

    -- the accepted end
    pub accepted-goes : n.setup ≡ sy → (e ≡ ends.Unnamed → IsFor sx.name None n) → (back : List ℕ) (d : Option End) → Course (on_way x) back d (Some e) → Course (on_way y) (back ++ f.reply.say) d (Some f.this)
    accepted-goes setup free back d c = by c
      where
        it : (a : End) → f.this ≡ a → Some f.this ≡ Some a
        it a q = ap (λ (z : End). Some z) q

        new : IsNew (Some e) → e ≡ ends.Unnamed
        new (inl q) = absurd (let z : Some e ≡ None = q in cc)
        new (inr q) = same_Some e ends.Unnamed q

        late : waits_in (reply_phase hs.form) ≡ false
        late = ap waits_in hs.replies

        by : Course (on_way x) back d (Some e) → Course (on_way y) (back ++ f.reply.say) d (Some f.this)
        by (Unopened p q t k) = absurd (none t (only-name n e v f (new q) own))
        by (Named p q t k) =
            let un = new q in
            let h = hear ends.Unnamed un Dialler hs.name [] refl hs.name_said (one hs.name (t ∙ ap frame_of hs.names)) (greeting_text sy status.Ok hs.form fresh) (a_named fresh) (λ id. does-name laws sx sy 0 fresh cookie hs n id setup (free un)) (only-name n e v f un own) in
            Greeted fresh small p (it (a_named fresh) h.this) h.left (first back f.reply.say k ∙ h.said)
        by (Greeted cy s p q t k) = absurd (none t (only-frame n e v f (at_y laws sx sy 0 cy cookie hs) (same_Some e (a_named cy) q) late own))
        by (Challenged cy s p q t k) = absurd (none t (only-frame n e v f (at_y laws sx sy 0 cy cookie hs) (same_Some e (a_named cy) q) late own))
        by (Replied cx cy s p q t k) =
            let h = hear (a_named cy) (same_Some e (a_named cy) q) Dialler (reply_of cx cy) [] (ap sender_in hs.replies) (reply-said laws sx sy.name cx cy s) (one (reply_of cx cy) t) (frame_of (ack_of cx)) (ends.Up (a_up cy)) (λ id. does-reply laws sx sy cx cy cookie hs n fresh id setup)
            (only-frame n e v f (at_y laws sx sy 0 cy cookie hs) (same_Some e (a_named cy) q) late own) in
            Acked cx cy [] p (it (ends.Up (a_up cy)) h.this) (first back f.reply.say k ∙ h.said ∙ sym (append-nil (frame_of (ack_of cx))))
        by (Acked cx cy rest p q k) =
            Acked cx cy (rest ++ f.reply.say) p (it (ends.Up (a_up cy)) (only-tick n e v f (a_up cy) (same_Some e (ends.Up (a_up cy)) q) own).1) (ap (λ z. z ++ f.reply.say) k ∙ append_assoc (frame_of (ack_of cx)) rest f.reply.say)
        by (Both cx cy p q) = Both cx cy p (it (ends.Up (a_up cy)) (only-tick n e v f (a_up cy) (same_Some e (ends.Up (a_up cy)) q) own).1)
