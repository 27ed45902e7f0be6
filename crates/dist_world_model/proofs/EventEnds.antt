-- What a deed says of its reply: which end it is of, and what happens to another.
use Rattle.dist_world_model.proofs.Words.{◌≡◌, ℕ, true, false, ◌⊎◌, List, [], length, is_some, slice_get, Some, None, Option, option_map, sym, refl, ap, ◌∙◌}
use Rattle.dist_world_model.proofs.Words.{subst, Dialler, inl, inr, eqb-true, both_ways, false≢true, same_Some, some_pair_parts, Name, Side, Opening, replaced_by, EndId}
use Rattle.dist_world_model.proofs.Words.{entry_in, Attempt, End, UpRecord, Phase, Why, NodeState, Effect, Event, dooms, rises, says_reply, takes_name}
use Rattle.dist_world_model.proofs.EndStates.{Stand, dialled_stand, ready_stand, stand_in, stand_of}
use Rattle.dist_world_model.proofs.StepEffects.{Comes_in, Deed, Dials, Dooms, Drops, Goes, Refuses, Rises, Says, Shuts, Takes, Takes_over, Work, Works, is_given}
use Rattle.dist_world_model.proofs.StepEffects.{own-not-given, own_id}
use Rattle.dist_world_model.proofs.Wires.{Noted, NotedIn, Voice}
use Rattle.dist_core_ends.specs.declared.known.End.TheVariants as ends
use Rattle.dist_core_ends.specs.declared.phase.Phase.TheVariants as phase
use Rattle.dist_core_ends.specs.declared.why.Why.TheVariants as why
use Rattle.dist_core.specs.declared.event.Event.TheVariants as event
use Rattle.dist_core.specs.declared.reply.Note.TheVariants as note

pub none-of : (o : Option ℕ) → is_some o ≡ false → o ≡ None
none-of None h = refl
none-of (Some n) h = absurd (false≢true (sym h))

-- nothing is noted in it
abbrev pub IsHush : End → Type 0
IsHush e = (own other : Voice) → Noted own other e

-- an event that gives out an end
pub record Gives (n : NodeState) (f : Effect) : Type 0 where
  pub note : f.reply.note ≡ note.Nothing
  pub up : f.reply.up ≡ None
  pub closed : f.reply.closed ≡ None
  pub say : f.reply.say ≡ []
  pub id : f.reply.end_.0 ≡ length n.ends
  pub hush : IsHush f.this

-- the end that comes up
pub record Climbs (n : NodeState) (f : Effect) : Type 0 where
  pub was : Attempt
  pub kept : UpRecord
  pub side : Side
  pub at_ : slice_get n.ends f.reply.end_.0 ≡ Some (ends.Attempt was)
  pub ready : stand_in was.peer was.phase ≡ ready_stand side was.peer
  pub now : f.this ≡ ends.Up kept
  pub spares : (i : ℕ) → dooms f.reply.note i ≡ false

pub end-of : (n : NodeState) (id : EndId) (e : End) (f : Effect) → Work n id e f → f.reply.end_ ≡ id
end-of n id e f (Shuts say w d) = refl
end-of n id e f w = refl

unrisen : (p : Name) (q : Phase) → (stand_in p q).rose ≡ true → ⊥
unrisen p phase.Dialing e = absurd cc
unrisen p phase.DoomedDialing e = absurd cc
unrisen p phase.AwaitStatus e = absurd cc
unrisen p phase.Doomed e = absurd cc
unrisen p phase.AwaitChallenge e = absurd cc
unrisen p phase.AwaitAck e = absurd cc
unrisen p phase.AwaitTrue e = absurd cc
unrisen p phase.AwaitComplement e = absurd cc
unrisen p phase.AwaitReply e = absurd cc

doomed-hush : (d : Attempt) (p : Name) → stand_in d.peer d.phase ≡ dialled_stand p true false → IsHush (ends.Attempt d)
doomed-hush d p h a b = by d.phase (ap (λ (s : Stand). s.doomed) h)
  where
    by : (q : Phase) → (stand_in d.peer q).doomed ≡ true → NotedIn a b d q
    by phase.AwaitAck e = absurd cc
    by phase.AwaitTrue e = absurd cc
    by phase.AwaitComplement e = absurd cc
    by phase.AwaitReply e = absurd cc
    by q e = tt

module _ (n : NodeState) (v : Event) where
  pub gives : (f : Effect) → Deed n v f → is_given v ≡ true → Gives n f
  gives f (Dials p o is idle) g = record { note = refl; up = refl; closed = refl; say = refl; id = refl; hush = λ a b. tt }
  gives f (Comes_in link is) g = record { note = refl; up = refl; closed = refl; say = refl; id = refl; hush = λ a b. tt }
  gives f (Works id e g own at w) h = absurd (both_ways (is_given v) (own-not-given v id own) h)

  pub own-end : (f : Effect) → Deed n v f → is_given v ≡ false → (e : End) × (slice_get n.ends f.reply.end_.0 ≡ Some e)
  own-end f (Dials p o is idle) g = absurd (both_ways (is_given v) g (ap is_given is))
  own-end f (Comes_in link is) g = absurd (both_ways (is_given v) g (ap is_given is))
  own-end f (Works id e g own at w) h = (e, ap (λ (y : EndId). slice_get n.ends y.0) (end-of n id e g w) ∙ at)

  -- a frame is taken by the event's own end
  pub frame-end : (f : Effect) (id : EndId) (body : List ℕ) → Deed n v f → v ≡ event.Frame id body → f.reply.end_ ≡ id
  frame-end f id body (Dials p o is idle) h = absurd (let z = ap own_id (sym is ∙ h) in cc)
  frame-end f id body (Comes_in link is) h = absurd (let z = ap own_id (sym is ∙ h) in cc)
  frame-end f id body (Works x e g own at w) h = let z : Some x ≡ Some id = sym own ∙ ap own_id h in end-of n x e g w ∙ same_Some x id z

  -- the end that an event names is that of the reply
  pub named-end : (f : Effect) (id : EndId) → Deed n v f → own_id v ≡ Some id → f.reply.end_ ≡ id
  named-end f id (Dials p o is idle) h = absurd (let z = ap own_id (sym is) ∙ h in cc)
  named-end f id (Comes_in link is) h = absurd (let z = ap own_id (sym is) ∙ h in cc)
  named-end f id (Works x e g own at w) h = end-of n x e g w ∙ same_Some x id (sym own ∙ h)

  -- the peer that is dialled has no entry
  pub dial-idle : (f : Effect) → Deed n v f → (p : Name) (o : Opening) → v ≡ event.Dial p o → entry_in n.ends p ≡ None
  dial-idle f (Dials q u is idle) p o h = let z : event.Dial q u ≡ event.Dial p o = sym is ∙ h in let e : q ≡ p = cc in ap (entry_in n.ends) (sym e) ∙ idle
  dial-idle f (Comes_in link is) p o h = absurd (let z : event.Incoming link ≡ event.Dial p o = sym is ∙ h in cc)
  dial-idle f (Works id e g own at w) p o h = absurd (let z : Some id ≡ None = sym own ∙ ap own_id h in cc)

  -- where the reply is sent, an end comes up, a name is taken
  pub sayer : (f : Effect) → Deed n v f → says_reply f.reply.note ≡ true → (b : Attempt) × (slice_get n.ends f.reply.end_.0 ≡ Some (ends.Attempt b)) × (stand_in b.peer b.phase ≡ dialled_stand b.peer false false)
  sayer f (Works id e g own at (Says say b d s q)) h = (b, at, s)
  sayer f d h = absurd cc

  pub climber : (f : Effect) → Deed n v f → rises f.reply.up ≡ true → Climbs n f
  climber f (Works id e g own at (Rises say b r side s p)) h = record { was = b; kept = r; side = side; at_ = at; ready = s; now = refl; spares = λ i. refl }
  climber f d h = absurd cc

  pub taker : (f : Effect) → Deed n v f → takes_name f.reply.note ≡ true → slice_get n.ends f.reply.end_.0 ≡ Some ends.Unnamed
  taker f (Works id e g own at (Takes say a s o i)) h = at
  taker f (Works id e g own at (Takes_over say a x s o i)) h = at
  taker f (Works id e g own at (Refuses say p x en gr)) h = at
  taker f (Works id e g own at (Dooms say a x b d s en gr atx sb sd)) h = at
  taker f (Works id e g own at (Drops say a x s en gr)) h = at
  taker f d h = absurd cc

  -- the end that is doomed was dialled and not up
  pub doomer : (f : Effect) → Deed n v f → (i : ℕ) → dooms f.reply.note i ≡ true → (b : Attempt) × (slice_get n.ends i ≡ Some (ends.Attempt b)) × (stand_in b.peer b.phase ≡ dialled_stand b.peer false false)
  doomer f (Works id e g own at (Dooms say a x b d s en gr atx sb sd)) i h = (b, ap (slice_get n.ends) (sym (eqb-true x.0 i h)) ∙ atx, sb)
  doomer f d i h = absurd cc

  -- the other end that changes: nothing is noted in it
  abbrev IsSpent : Effect → Type 0
  IsSpent f = (x : EndId) (s : End) → f.other ≡ Some (x, s) → IsHush s

  shut-spent : (y : EndId) (w : Why) (x : EndId) (s : End) → ◌≡◌ {A = Option (EndId × End)} (Some (y, ends.Closed w)) (Some (x, s)) → IsHush s
  shut-spent y w x s e = let z = some_pair_parts y x (ends.Closed w) s e in subst IsHush z.1 (λ a b. tt)

  pub other-spent : (f : Effect) → Deed n v f → IsSpent f
  other-spent f (Works id e g own at (Rises say b r side p q)) x s h = by (replaced_by (entry_in n.ends b.peer)) h
    where
      by : (o : Option EndId) → option_map {U = EndId × End} (λ y. (y, ends.Closed why.Replaced)) o ≡ Some (x, s) → IsHush s
      by None q = absurd cc
      by (Some y) q = shut-spent y why.Replaced x s q
  other-spent f (Works id e g own at (Takes_over say a y st o i)) x s h = shut-spent y why.Replaced x s h
  other-spent f (Works id e g own at (Drops say a y st en gr)) x s h = shut-spent y why.Crossed x s h
  other-spent f (Works id e g own at (Dooms say a y b d st en gr aty sb sd)) x s h =
      let z = some_pair_parts y x (ends.Attempt d) s h in subst IsHush z.1 (doomed-hush d b.peer sd)
  other-spent f d x s h = absurd cc

  -- an end that is up was up before with that peer, or comes up
  pub up-own : (f : Effect) → Deed n v f → (kept : UpRecord) → f.this ≡ ends.Up kept
      → ((r : UpRecord) × (slice_get n.ends f.reply.end_.0 ≡ Some (ends.Up r)) × (r.peer ≡ kept.peer)) ⊎ (f.reply.up ≡ Some kept)
  up-own f (Works id e g own at (Rises say b r side s p)) kept h = inr (let z : r ≡ kept = cc in ap Some z)
  up-own f (Works id e g own at (Goes say x d same)) kept h = by e at (sym (same Dialler) ∙ ap (stand_of Dialler) h)
    where
      by : (e : End) → slice_get n.ends id.0 ≡ Some e → stand_of Dialler e ≡ stand_of Dialler (ends.Up kept)
          → ((r : UpRecord) × (slice_get n.ends id.0 ≡ Some (ends.Up r)) × (r.peer ≡ kept.peer)) ⊎ (f.reply.up ≡ Some kept)
      by (ends.Up r) at q = inl (r, at, (let z : Some r.peer ≡ Some kept.peer = ap (λ (s : Stand). s.peer) (same_Some _ _ q) in cc))
      by (ends.Attempt a) at q = absurd (let z = ap (λ (s : Stand). s.rose) (same_Some _ _ q) in unrisen a.peer a.phase z)
      by ends.Unnamed at q = absurd (let z : false ≡ true = ap (λ (s : Stand). s.rose) (same_Some _ _ q) in cc)
      by (ends.Closed w) at q = absurd cc
  up-own f d kept h = absurd cc

  -- another end that changes is not up then
  pub other-not-up : (f : Effect) → Deed n v f → (x : EndId) (s : End) → f.other ≡ Some (x, s) → (kept : UpRecord) → s ≡ ends.Up kept → ⊥
  other-not-up f (Works id e g own at (Rises say b r side p q)) x s h kept u = by (replaced_by (entry_in n.ends b.peer)) h
    where
      by : (o : Option EndId) → option_map {U = EndId × End} (λ y. (y, ends.Closed why.Replaced)) o ≡ Some (x, s) → ⊥
      by None q = absurd cc
      by (Some y) q = let z = some_pair_parts y x (ends.Closed why.Replaced) s q in let k = z.1 ∙ u in cc
  other-not-up f (Works id e g own at (Takes_over say a y st o i)) x s h kept u = let z = some_pair_parts y x (ends.Closed why.Replaced) s h in let k = z.1 ∙ u in cc
  other-not-up f (Works id e g own at (Drops say a y st en gr)) x s h kept u = let z = some_pair_parts y x (ends.Closed why.Crossed) s h in let k = z.1 ∙ u in cc
  other-not-up f (Works id e g own at (Dooms say a y b d st en gr aty sb sd)) x s h kept u = let z = some_pair_parts y x (ends.Attempt d) s h in let k = z.1 ∙ u in cc
  other-not-up f d x s h kept u = absurd cc
