-- What a step does, as far as rows see it: one case for each thing that can be done, and what that says of its reply.
use Rattle.dist_world_model.proofs.Words.{◌≡◌, ℕ, Bool, true, false, eqb, List, [], is_some, slice_get, Some, None, Ok, Option, sym, refl, ap, ◌∙◌, subst}
use Rattle.dist_world_model.proofs.Words.{Name, Form, Message, Side, Acceptor, Dialler, Opening, replaced_by, is_greater, EndId, entry_in, names}
use Rattle.dist_world_model.proofs.Words.{Attempt, End, UpRecord, In, Out, Phase, Why, named_attempt, closes, comes_up, dooms_other, fresh_attempt, goes_on}
use Rattle.dist_world_model.proofs.Words.{held_back, reply_phase, shuts, shuts_other, superseded_end, superseded_in, supersedes, NodeState, new_id, Heard}
use Rattle.dist_world_model.proofs.Words.{StepRow, Taken, effect_of, Effect, Event, says, NodeLaws, given_by}
use Rattle.dist_world_model.proofs.EndStates.{dialled_stand, named_stand, ready_stand, stand_in, stand_of}
use Rattle.dist_messages.specs.declared.form.Form.TheVariants as form
use Rattle.dist_peers.specs.declared.entry.Entry.TheVariants as entry
use Rattle.dist_core_ends.specs.declared.known.End.TheVariants as ends
use Rattle.dist_core_ends.specs.declared.phase.Phase.TheVariants as phase
use Rattle.dist_core_ends.specs.declared.why.Why.TheVariants as why
use Rattle.dist_core.specs.Rows as core
use Rattle.dist_core.specs.declared.event.Event.TheVariants as event
use Rattle.dist_core.specs.declared.reply.Note.TheVariants as note

abbrev pub greater_at : NodeState → Name → Bool
greater_at n p = is_greater n.setup.name p

-- the event gives out an end
abbrev pub is_given : Event → Bool
is_given v = is_some (given_by 0 v)

-- the end that was there before and that an event is of
abbrev pub own_id : Event → Option EndId
own_id (event.Opened id link) = Some id
own_id (event.Frame id body) = Some id
own_id (event.Lost id w) = Some id
own_id (event.Tick id) = Some id
own_id v = None

-- WHAT AN EVENT DOES TO ITS OWN END, which was there before
pub data Work (n : NodeState) (id : EndId) : End → Effect → Type 0 where
  -- it is closed
  Shuts : (say : List ℕ) → (w : Why) → (e : End) → Work n id e (shuts id say w note.Nothing)
  -- it goes on, and its row says the same
  Goes : (say : List ℕ) → (e d : End) → ((side : Side) → stand_of side d ≡ stand_of side e) → Work n id e (goes_on id say d note.Nothing)
  -- the reply is sent
  Says : (say : List ℕ) → (b d : Attempt) → stand_in b.peer b.phase ≡ dialled_stand b.peer false false → stand_in d.peer d.phase ≡ dialled_stand b.peer false true
      → Work n id (ends.Attempt b) (goes_on id say (ends.Attempt d) note.ReplySaid)
  -- it comes up, in place of another perhaps
  Rises : (say : List ℕ) → (b : Attempt) → (r : UpRecord) → (side : Side) → stand_in b.peer b.phase ≡ ready_stand side b.peer → r.peer ≡ b.peer
      → Work n id (ends.Attempt b) (comes_up id say r (replaced_by (entry_in n.ends b.peer)))
  -- a name is taken while no end that is not up holds that peer
  Takes : (say : List ℕ) → (a : Attempt) → stand_in a.peer a.phase ≡ named_stand a.peer → ((x : ℕ) → names Out x (entry_in n.ends a.peer) ≡ false)
      → ((x : ℕ) → names In x (entry_in n.ends a.peer) ≡ false) → Work n id ends.Unnamed (goes_on id say (ends.Attempt a) (note.NameTaken a.peer None))
  -- likewise, in place of another accepted end
  Takes_over : (say : List ℕ) → (a : Attempt) → (x : EndId) → stand_in a.peer a.phase ≡ named_stand a.peer → ((y : ℕ) → names Out y (entry_in n.ends a.peer) ≡ false)
      → ((y : ℕ) → names In y (entry_in n.ends a.peer) ≡ eqb x.0 y) → Work n id ends.Unnamed (shuts_other id say (ends.Attempt a) x why.Replaced (note.NameTaken a.peer None))
  -- names cross: the other's is the lesser, and refused
  Refuses : (say : List ℕ) → (p : Name) → (x : EndId) → entry_in n.ends p ≡ Some (entry.Out x) → greater_at n p ≡ true
      → Work n id ends.Unnamed (shuts id say why.Crossed (note.NameTaken p None))
  -- names cross: the own is the lesser, and doomed
  Dooms : (say : List ℕ) → (a : Attempt) → (x : EndId) → (b d : Attempt) → stand_in a.peer a.phase ≡ named_stand a.peer → entry_in n.ends a.peer ≡ Some (entry.Out x)
      → greater_at n a.peer ≡ false → slice_get n.ends x.0 ≡ Some (ends.Attempt b) → stand_in b.peer b.phase ≡ dialled_stand b.peer false false
      → stand_in d.peer d.phase ≡ dialled_stand b.peer true false
      → Work n id ends.Unnamed (dooms_other id say (ends.Attempt a) a.peer x (ends.Attempt d))
  -- names cross: the own is the lesser, and closed
  Drops : (say : List ℕ) → (a : Attempt) → (x : EndId) → stand_in a.peer a.phase ≡ named_stand a.peer → entry_in n.ends a.peer ≡ Some (entry.Out x)
      → greater_at n a.peer ≡ false → Work n id ends.Unnamed (shuts_other id say (ends.Attempt a) x why.Crossed (note.NameTaken a.peer None))

-- WHAT A STEP DOES
pub data Deed (n : NodeState) (v : Event) : Effect → Type 0 where
  Dials : (p : Name) → (o : Opening) → v ≡ event.Dial p o → entry_in n.ends p ≡ None → Deed n v (goes_on (new_id n) [] (ends.Attempt (fresh_attempt p o)) note.Nothing)
  Comes_in : (link : ℕ) → v ≡ event.Incoming link → Deed n v (goes_on (new_id n) [] ends.Unnamed note.Nothing)
  Works : (id : EndId) → (e : End) → (f : Effect) → own_id v ≡ Some id → slice_get n.ends id.0 ≡ Some e → Work n id e f → Deed n v f

pub own-not-given : (v : Event) (id : EndId) → own_id v ≡ Some id → is_given v ≡ false
own-not-given (event.Dial p o) id h = absurd cc
own-not-given (event.Incoming link) id h = absurd cc
own-not-given v id h = refl

module _ (n : NodeState) (id : EndId) where
  -- an end that an entry has as dialled
  crossed : (a : Attempt) (x : EndId) (say : List ℕ) → stand_in a.peer a.phase ≡ named_stand a.peer → entry_in n.ends a.peer ≡ Some (entry.Out x) → greater_at n a.peer ≡ false
      → (o : Option End) → slice_get n.ends x.0 ≡ o → Work n id ends.Unnamed (supersedes id say a x (superseded_end o))
  crossed a x say s e g (Some (ends.Attempt b)) at = by b.phase refl
    where
      by : (q : Phase) → b.phase ≡ q → Work n id ends.Unnamed (supersedes id say a x (superseded_in b q))
      by phase.Dialing ph = Dooms say a x b (record b { phase = phase.DoomedDialing }) s e g at (ap (stand_in b.peer) ph) refl
      by phase.AwaitStatus ph = Dooms say a x b (record b { phase = phase.Doomed }) s e g at (ap (stand_in b.peer) ph) refl
      by q ph = Drops say a x s e g
  crossed a x say s e g o at = Drops say a x s e g

  taken : (a : Attempt) (f : Effect) → stand_in a.peer a.phase ≡ named_stand a.peer → Taken n id a f → Work n id ends.Unnamed f
  taken a f s (core.Accepts e k) = subst (Work n id ends.Unnamed) (sym k) (Takes _ a s (λ x. ap (names Out x) e) (λ x. ap (names In x) e))
  taken a f s (core.Declines x e g k) = subst (Work n id ends.Unnamed) (sym k) (Refuses _ a.peer x e g)
  taken a f s (core.Crosses x e g k) = subst (Work n id ends.Unnamed) (sym k) (crossed a x _ s e g (slice_get n.ends x.0) refl)
  taken a f s (core.Comes_again x e k) = subst (Work n id ends.Unnamed) (sym k) (Takes_over _ a x s (λ y. ap (names Out y) e) (λ y. ap (names In y) e))
  taken a f s (core.Asks_alive x e k) = subst (Work n id ends.Unnamed) (sym k) (Takes _ (held_back a) refl (λ y. ap (names Out y) e) (λ y. ap (names In y) e))
  taken a f s (core.Asks_again u x e k) = subst (Work n id ends.Unnamed) (sym k) (Takes_over _ (held_back a) x refl (λ y. ap (names Out y) e) (λ y. ap (names In y) e))

  reply-stand : (p : Name) (o : Form) → stand_in p (reply_phase o) ≡ named_stand p
  reply-stand p form.New = refl
  reply-stand p form.Old = refl
  reply-stand p form.Five = refl

  moved : (e d : End) (f g : Effect) → e ≡ d → f ≡ g → Work n id d g → Work n id e f
  moved e d f g un k w = subst (λ x. Work n id x f) (sym un) (subst (Work n id d) (sym k) w)

  goes : (e : End) (f : Effect) (say : List ℕ) (b d : Attempt) → e ≡ ends.Attempt b → stand_in d.peer d.phase ≡ stand_in b.peer b.phase
      → f ≡ goes_on id say (ends.Attempt d) note.Nothing → Work n id e f
  goes e f say b d un s k = moved e (ends.Attempt b) f _ un k (Goes say (ends.Attempt b) (ends.Attempt d) (λ side. ap Some s))

  heard : (fresh : ℕ) (e : End) (m : Message) (f : Effect) → Heard n id fresh e m f → Work n id e f
  heard fresh e m f (core.Closes say w cause k) = moved e e f _ refl k (Shuts say w e)
  heard fresh e m f (core.Names o flags c p un mm ok t) = subst (λ d. Work n id d f) (sym un) (taken (named_attempt o flags c p fresh) f (reply-stand p o) t)
  heard fresh e m f (core.Goes_on s b un ph mm go k) = goes e f _ b _ un (sym (ap (stand_in b.peer) ph)) k
  heard fresh e m f (core.Insists b un ph mm k) = goes e f _ b _ un (sym (ap (stand_in b.peer) ph)) k
  heard fresh e m f (core.Replies o r flags challenge c p b un ph mm sn fl k) = moved e (ends.Attempt b) f _ un k (Says _ b _ (ap (stand_in b.peer) ph) refl)
  heard fresh e m f (core.Challenges b un ph mm k) = goes e f _ b _ un (reply-stand b.peer b.form ∙ sym (ap (stand_in b.peer) ph)) k
  heard fresh e m f (core.Complements high c b un ph mm fl k) = goes e f _ b _ un (sym (ap (stand_in b.peer) ph)) k
  heard fresh e m f (core.Acknowledged digest b un ph mm right k) = moved e (ends.Attempt b) f _ un k (Rises _ b _ Dialler (ap (stand_in b.peer) ph) refl)
  heard fresh e m f (core.Replied challenge digest b un ph mm right k) = moved e (ends.Attempt b) f _ un k (Rises _ b _ Acceptor (ap (stand_in b.peer) ph) refl)

module _ (laws : NodeLaws) (n : NodeState) where
  closed : (v : Event) (f : Effect) (id : EndId) (w : Why) (e : End) → own_id v ≡ Some id → slice_get n.ends id.0 ≡ Some e → f ≡ closes id w → Deed n v f
  closed v f id w e is at k = subst (Deed n v) (sym k) (Works id e _ is at (Shuts [] w e))

  row : (v : Event) (fresh : ℕ) (f : Effect) → StepRow n v fresh f → Deed n v f
  row v fresh f (core.Dials p o is idle sp full cr k) = subst (Deed n v) (sym k) (Dials p o is idle)
  row v fresh f (core.Comes_in link is sp cr k) = subst (Deed n v) (sym k) (Comes_in link is)
  row v fresh f (core.Begins id link b is at ph sp k) = Works id (ends.Attempt b) f (ap own_id is) at (goes n id (ends.Attempt b) f _ b _ refl (sym (ap (stand_in b.peer) ph)) k)
  row v fresh f (core.Ceases id link b is at ph sp k) = closed v f id _ (ends.Attempt b) (ap own_id is) at k
  row v fresh f (core.Loses id w e is at op k) = closed v f id w e (ap own_id is) at k
  row v fresh f (core.Ticks id r is at sp k) = subst (Deed n v) (sym k) (Works id (ends.Up r) _ (ap own_id is) at (Goes _ (ends.Up r) (ends.Up r) (λ side. refl)))
  row v fresh f (core.Fails id body e side x is at to sp says k) = closed v f id _ e (ap own_id is) at k
  row v fresh f (core.Hears id body e side m is at to sp says h) = Works id e f (ap own_id is) at (heard n id fresh e m f h)

  -- EACH STEP IS ONE OF THESE DEEDS
  pub deed_of : (v : Event) (fresh : ℕ) (f : Effect) → effect_of n v fresh ≡ Ok f → Deed n v f
  deed_of v fresh f is = row v fresh f (laws.row n v fresh f is)
