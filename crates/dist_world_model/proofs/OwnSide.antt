-- What an event does to its own end's side of a connection.
use Rattle.dist_world_model.proofs.Words.{◌≡◌, ℕ, ◌^◌, ◌<◌, Bool, true, false, cond, ◌&&◌, List, [], is_some, slice_get, Some, None, Option, sym, refl, ap, ◌∙◌}
use Rattle.dist_world_model.proofs.Words.{subst, arith, common, handshake_23, has_all, high_half, low_half, of_halves, Name, Creation, Flags, read, is_said_by}
use Rattle.dist_world_model.proofs.Words.{Form, Message, Side, Acceptor, Dialler, Status, EndId, Attempt, End, Phase, Why, announced_by, knows_six, Setup}
use Rattle.dist_world_model.proofs.Words.{complete_flags, named_attempt, closes, goes_on, held_back, moves, reply_phase, shuts, superseded_end, supersedes}
use Rattle.dist_world_model.proofs.Words.{NodeState, Closing, Heard, IsChallenge, IsName, StepRow, Taken, sender_in, sender_to, Effect, Event, Reply, says}
use Rattle.dist_world_model.proofs.Words.{NodeLaws, EndRow, once, past, peer_by, rises, row_after, says_reply, takes_name}
use Rattle.dist_world_model.proofs.EndRows.{attempt-row, before-once, not-acceptor, not-new, row-of-phase, same-end, unnamed-side}
use Rattle.dist_world_model.proofs.{EndStates.Fits, EndStates.Stand, EndStates.stand_in, RowMarks.once-false, RowMarks.once-some, WholeFrames.Whole}
use Rattle.dist_world_model.proofs.SentFrames.{IsFit, ack-said, challenge-said, greeting-said, name-said, nothing-said, reply-said, status-said, tick-said}
use Rattle.dist_world_model.proofs.Wires.{IsEnd, IsHalf, IsKnown, Marks, May, MayAnswer, MaySay, Noted, NotedBy, NotedIn, Quiet, Said, Voice, end-quiet}
use Rattle.dist_world_model.proofs.Wires.{is_newer, marks_of, quiet-refl, voice}
use Rattle.std.proofs.Math.Bool as bool
use Rattle.dist_messages.specs.declared.form.Form.TheVariants as form
use Rattle.dist_messages.specs.declared.message.Message.TheVariants as message
use Rattle.dist_messages.specs.declared.message.Status.TheVariants as status
use Rattle.dist_core_ends.specs.declared.known.End.TheVariants as ends
use Rattle.dist_core_ends.specs.declared.phase.Phase.TheVariants as phase
use Rattle.dist_core_ends.specs.declared.why.Why.TheVariants as why
use Rattle.dist_core_setup.specs.Saying.{status_text, greeting_text, challenge_text, tick_text, name_text}
use Rattle.dist_core.specs.Rows as core
use Rattle.dist_core.specs.declared.event.Event.TheVariants as event
use Rattle.dist_core.specs.declared.reply.Note.TheVariants as note

-- the other side
abbrev pub away : Side → Side
away Dialler = Acceptor
away Acceptor = Dialler

plain-quiet : (t : ℕ) (doom shut : Bool) (r : Reply) (x : EndRow) → r.note ≡ note.Nothing → r.up ≡ None → Quiet (Some x) (Some (row_after t true doom shut r x))
plain-quiet t doom shut r x nt up = record {
  marks = (λ j. record { named = once (takes_name (nt j)) t x.named; replied = once (says_reply (nt j)) t x.replied; rose = once (rises (up j)) t x.rose })
      ∙ (λ j. record { named = once-false t x.named j; replied = once-false t x.replied j; rose = once-false t x.rose j });
  peer = λ s h. ap (λ k. cond (takes_name k) (peer_by k x.peer) x.peer) nt;
}

status-may : (side : Side) (own other : Voice) (z : Marks) (k : Status) → May side own other z (message.Status k)
status-may Dialler own other z k = tt
status-may Acceptor own other z k = tt

-- an end reads what the other side sends
sender-side : (e : End) (x : EndRow) (s : Side) → Fits e x → sender_to e ≡ Some s → s ≡ away x.side
sender-side ends.Unnamed x s f h = let z : Dialler ≡ s = cc in sym z ∙ ap away (sym (unnamed-side x f))
sender-side (ends.Attempt b) x s f h = by b.phase h ∙ ap away (ap (λ (z : Stand). z.side) (attempt-row b x f))
  where
    by : (q : Phase) → sender_in q ≡ Some s → s ≡ away (stand_in b.peer q).side
    by phase.Dialing h = absurd cc
    by q h = cc
sender-side e x s f h = absurd cc

-- a number that is there was written before t
abbrev pub IsPast : ℕ → Marks → Type 0
IsPast t z = (past t z.named ≡ is_some z.named) × (past t z.replied ≡ is_some z.replied) × (past t z.rose ≡ is_some z.rose)

-- ---- both sides

-- the event's own end e of this side, with the row x; it is an end of a connection whose other row is y
pub record Own (n : NodeState) (m : Setup) (side : Side) (t : ℕ) (x : EndRow) (y : Option EndRow) (e : End) : Type 0 where
  pub fit : IsFit n.setup
  pub side_is : x.side ≡ side
  pub fits : Fits e x
  pub past_far : IsPast t (marks_of y)
  pub text : List ℕ
  pub wired : IsEnd side (voice n.setup) (voice m) text (Some x) y (Some e)

-- it is one afterwards
abbrev pub Kept : NodeState → Setup → Side → ℕ → EndRow → Option EndRow → Effect → Type 0
Kept n m side t x y f = (doom shut : Bool) → IsEnd side (voice n.setup) (voice m) f.reply.say (Some (row_after t true doom shut f.reply x)) y (Some f.this)

module _ (laws : NodeLaws) (n : NodeState) (m : Setup) (side : Side) (t : ℕ) (x : EndRow) (y : Option EndRow) (e : End) (own : Own n m side t x y e) where
  abbrev Says : List ℕ → Type 0
  Says say = Whole (Said side (May side (voice n.setup) (voice m) (marks_of (Some x)))) say

  nothing : Says []
  nothing = nothing-said side (May side (voice n.setup) (voice m) (marks_of (Some x)))

  -- its row says the same
  plain : (f : Effect) → f.reply.note ≡ note.Nothing → f.reply.up ≡ None → Says f.reply.say → Noted (voice n.setup) (voice m) f.this → Kept n m side t x y f
  plain f nt up s d doom shut =
      let w = own.wired in
      end-quiet side (voice n.setup) (voice m) f.reply.say (Some x) _ y y (Some f.this) (Some f.this) (plain-quiet t doom shut f.reply x nt up) (quiet-refl y) (λ a b h. h) (record { said = s; follows = w.follows; peer = w.peer; noted = d })

  at-end : (d : End) → e ≡ d → Fits d x
  at-end d un = subst (λ d. Fits d x) un own.fits

  -- an attempt in this phase has the side of that phase
  side-of : (b : Attempt) (q : Phase) → e ≡ ends.Attempt b → b.phase ≡ q → side ≡ (stand_in b.peer q).side
  side-of b q un ph = sym own.side_is ∙ row-of-phase b x q (at-end (ends.Attempt b) un) ph

  noted-in : (b : Attempt) (q : Phase) → e ≡ ends.Attempt b → b.phase ≡ q → NotedIn (voice n.setup) (voice m) b q
  noted-in b q un ph = let w = own.wired in let P : End → Type 0 = λ d. Noted (voice n.setup) (voice m) d in let Q : Phase → Type 0 = λ q. NotedIn (voice n.setup) (voice m) b q in subst Q ph (subst P un w.noted)

  says-status : (k : Status) → is_said_by k side ≡ true → (say : List ℕ) → say ≡ status_text k → Says say
  says-status k b say h = subst Says (sym h) (status-said laws side (May side (voice n.setup) (voice m) (marks_of (Some x))) k b (status-may side (voice n.setup) (voice m) (marks_of (Some x)) k))

  closing : (k : Message) (say : List ℕ) (w : Why) → Closing n e k say w → Says say
  closing k say w c = by c
    where
      none : say ≡ [] → Says say
      none h = subst Says (sym h) nothing

      by : Closing n e k say w → Says say
      by (core.Unawaited a h z) = none h
      by (core.Refuses_name o flags c p un is r h z) = says-status status.NotAllowed (ap (is_said_by status.NotAllowed) (sym own.side_is ∙ unnamed-side x (at-end ends.Unnamed un))) say h
      by (core.Turned_down s b un ph mm d h z) = none h
      by (core.Given_up b un ph mm h z) = none h
      by (core.Doomed_alive b un ph mm h z) = says-status status.False (ap (is_said_by status.False) (side-of b phase.Doomed un ph)) say h
      by (core.Doomed_other s b un ph mm a h z) = none h
      by (core.Wrong_name o r flags ch c p b un ph mm sn h z) = none h
      by (core.Lacking_challenge o r flags ch c p b un ph mm sn fl h z) = none h
      by (core.Lacking_complement high c b un ph mm fl h z) = none h
      by (core.Wrong_ack digest b un ph mm r h z) = none h
      by (core.Wrong_reply ch digest b un ph mm r h z) = none h

  module _ (v : Event) (fresh : ℕ) (f : Effect) (takes : (id : EndId) (body : List ℕ) → v ≡ event.Frame id body → Said (away side) (May (away side) (voice m) (voice n.setup) (marks_of y)) body) where
    step : ((id : EndId) (b : Attempt) → e ≡ ends.Attempt b → b.phase ≡ phase.Dialing → Kept n m side t x y (moves id (name_text n.setup b.form) b phase.AwaitStatus))
        → ((id : EndId) (k : Message) → May (away side) (voice m) (voice n.setup) (marks_of y) k → Heard n id fresh e k f → Kept n m side t x y f)
        → slice_get n.ends f.reply.end_.0 ≡ Some e → StepRow n v fresh f → Kept n m side t x y f
    step begins hears at row = by row
      where
        closed : (id : EndId) (w : Why) → f ≡ closes id w → Kept n m side t x y f
        closed id w k = subst (Kept n m side t x y) (sym k) (plain (closes id w) refl refl nothing tt)

        by : StepRow n v fresh f → Kept n m side t x y f
        by (core.Dials p o is idle sp full cr k) = absurd (not-new n e (ap (λ (f : Effect). slice_get n.ends f.reply.end_.0) (sym k) ∙ at))
        by (core.Comes_in link is sp cr k) = absurd (not-new n e (ap (λ (f : Effect). slice_get n.ends f.reply.end_.0) (sym k) ∙ at))
        by (core.Begins id link b is at' ph sp k) = subst (Kept n m side t x y) (sym k) (begins id b (same-end n id e (ends.Attempt b) (ap (λ (f : Effect). slice_get n.ends f.reply.end_.0) (sym k) ∙ at) at') ph)
        by (core.Ceases id link b is at' ph sp k) = closed id why.Crossed k
        by (core.Loses id w d is at' op k) = closed id w k
        by (core.Ticks id r is at' sp k) =
            let z : e ≡ ends.Up r = same-end n id e (ends.Up r) (ap (λ (f : Effect). slice_get n.ends f.reply.end_.0) (sym k) ∙ at) at' in
            let w = own.wired in
            subst (Kept n m side t x y) (sym k) (plain (goes_on id tick_text (ends.Up r) note.Nothing) refl refl (tick-said side _) (let P : End → Type 0 = λ d. Noted (voice n.setup) (voice m) d in subst P z w.noted))
        by (core.Fails id body d s z is at' to sp says k) = closed id why.Malformed k
        by (core.Hears id body d s k is at' to sp says h) =
            let me : f.reply.end_ ≡ id = laws.own_end n id fresh d k f h in
            let z : d ≡ e = same-end n id d e at' (ap (λ (y : EndId). slice_get n.ends y.0) (sym me) ∙ at) in
            let from : s ≡ away side = sender-side e x s own.fits (ap sender_to (sym z) ∙ to) ∙ ap away own.side_is in
            let said = takes id body is in
            hears id k (said.read_as k (ap (λ u. read u body) (sym from) ∙ says)) (let P : End → Type 0 = λ u. Heard n id fresh u k f in subst P z h)

-- ---- a dialled end

module _ (laws : NodeLaws) (n : NodeState) (m : Setup) (t : ℕ) (x : EndRow) (y : Option EndRow) (e : End) (own : Own n m Dialler t x y e) (fresh : ℕ) (small : fresh < 2 ^ 32) (f : Effect) where
  abbrev far : Marks
  far = marks_of y

  not-accepted : (b : Attempt) (q : Phase) → e ≡ ends.Attempt b → b.phase ≡ q → (stand_in b.peer q).side ≡ Acceptor → ⊥
  not-accepted b q un ph s = let z : Dialler ≡ Acceptor = side-of laws n m Dialler t x y e own b q un ph ∙ s in absurd cc

  -- what is noted of a challenge
  challenge-noted : (b : Attempt) (o : Form) (r : ℕ) (flags : Flags) (ch : ℕ) (c : Option Creation) (p : Name) (k : Message) → IsChallenge n.setup b o r flags ch c p k → MayAnswer (voice m) (voice n.setup) far.named far.rose k
      → (is_some far.named ≡ true) × (p ≡ m.name) × IsKnown (voice n.setup) (voice m) flags.0 c
  challenge-noted b o r flags ch c p k (core.New_challenge d six mm oo rr cr) may =
      let g : MayAnswer (voice m) (voice n.setup) far.named far.rose (message.NewChallenge flags ch d p) = subst (MayAnswer (voice m) (voice n.setup) far.named far.rose) mm may in
      let both : (knows_six n.setup && knows_six m) ≡ true = bool.and_comm (knows_six n.setup) (knows_six m) ∙ g.1 in
      (g.0, g.4, record { shared = ap (common (announced_by n.setup)) g.2; known = cr ∙ ap Some g.3 ∙ sym (ap (λ v. cond v (Some m.creation) None) both) })
  challenge-noted b o r flags ch c p k (core.Old_challenge older mm oo rr cr) may =
      let g : MayAnswer (voice m) (voice n.setup) far.named far.rose (message.OldChallenge flags.0 ch p) = subst (MayAnswer (voice m) (voice n.setup) far.named far.rose) mm may in
      let both : (knows_six n.setup && knows_six m) ≡ false = bool.and_comm (knows_six n.setup) (knows_six m) ∙ g.1 in
      (g.0, g.3, record { shared = ap (common (announced_by n.setup)) g.2 ∙ laws.sayings.halves n.setup m both; known = cr ∙ sym (ap (λ v. cond v (Some m.creation) None) both) })

  begins : (id : EndId) (b : Attempt) → e ≡ ends.Attempt b → b.phase ≡ phase.Dialing → Kept n m Dialler t x y (moves id (name_text n.setup b.form) b phase.AwaitStatus)
  begins id b un ph = plain laws n m Dialler t x y e own (moves id (name_text n.setup b.form) b phase.AwaitStatus) refl refl (name-said laws n.setup own.fit x.replied b.form) tt

  hears : (id : EndId) (k : Message) → MayAnswer (voice m) (voice n.setup) far.named far.rose k → Heard n id fresh e k f → Kept n m Dialler t x y f
  hears id k may (core.Closes say w cause z) = subst (Kept n m Dialler t x y) (sym z) (plain laws n m Dialler t x y e own (shuts id say w note.Nothing) refl refl (closing laws n m Dialler t x y e own k say w cause) tt)
  hears id k may (core.Names o flags c p un mm ok tk) = absurd (not-acceptor x own.side_is (unnamed-side x (at-end laws n m Dialler t x y e own ends.Unnamed un)))
  hears id k may (core.Goes_on st b un ph mm go z) = subst (Kept n m Dialler t x y) (sym z) (plain laws n m Dialler t x y e own (moves id [] b phase.AwaitChallenge) refl refl (nothing laws n m Dialler t x y e own) tt)
  hears id k may (core.Insists b un ph mm z) = subst (Kept n m Dialler t x y) (sym z) (plain laws n m Dialler t x y e own (moves id (status_text status.True) b phase.AwaitChallenge) refl refl (says-status laws n m Dialler t x y e own status.True refl _ refl) tt)
  hears id k may (core.Replies o r flags ch c p b un ph cs sn fl z) =
      let g = challenge-noted b o r flags ch c p k cs may in
      let w = own.wired in let late = own.past_far in let order = w.follows in
      let name : x.peer ≡ Some m.name = ap (λ (s : Stand). s.peer) (sym (attempt-row b x (at-end laws n m Dialler t x y e own (ends.Attempt b) un)) ∙ ap (stand_in b.peer) ph) ∙ ap Some (laws.names.one_name b.peer p sn ∙ g.1) in
      subst (Kept n m Dialler t x y) (sym z) (λ doom shut. record {
        said = reply-said laws n.setup own.fit (once true t x.replied) o b.peer fresh ch small (once-some t x.replied);
        follows = (before-once t far.named x.replied (late.0 ∙ g.0) order.0, λ j h. order.1 j (sym (once-false t x.rose) ∙ h));
        peer = λ h. name;
        noted = g.2;
      })
  hears id k may (core.Challenges b un ph mm z) = absurd (not-accepted b phase.AwaitTrue un ph refl)
  hears id k may (core.Complements high c b un ph mm fl z) = absurd (not-accepted b phase.AwaitComplement un ph refl)
  hears id k may (core.Acknowledged digest b un ph mm right z) =
      let g : MayAnswer (voice m) (voice n.setup) far.named far.rose (message.Ack digest) = subst (MayAnswer (voice m) (voice n.setup) far.named far.rose) mm may in
      let q : IsKnown (voice n.setup) (voice m) b.flags.0 b.creation = noted-in laws n m Dialler t x y e own b phase.AwaitAck un ph in
      let w = own.wired in let late = own.past_far in let order = w.follows in
      subst (Kept n m Dialler t x y) (sym z) (λ doom shut. record {
        said = nothing-said Dialler (MaySay (voice n.setup) (once false t x.replied));
        follows = (λ j h. order.0 j (sym (once-false t x.replied) ∙ h), before-once t far.rose x.rose (late.2 ∙ g) order.1);
        peer = λ h. w.peer (ap is_some (sym (once-false t x.replied)) ∙ h);
        noted = (q.shared, q.known);
      })
  hears id k may (core.Replied ch digest b un ph mm right z) = absurd (not-accepted b phase.AwaitReply un ph refl)

-- ---- an accepted end

halves : (a h l : ℕ) → h ≡ high_half a → l ≡ low_half a → of_halves h (low_half l) ≡ a
halves a h l e g = omega (arith, e, g)

module _ (laws : NodeLaws) (n : NodeState) (m : Setup) (t : ℕ) (x : EndRow) (y : Option EndRow) (e : End) (own : Own n m Acceptor t x y e) (fresh : ℕ) (small : fresh < 2 ^ 32) where
  abbrev reads : Message → Type 0
  reads = MaySay (voice m) (marks_of y).replied

  abbrev sends : Option ℕ → Option ℕ → Message → Type 0
  sends = MayAnswer (voice n.setup) (voice m)

  abbrev notes : End → Type 0
  notes = Noted (voice n.setup) (voice m)

  not-dialled : (b : Attempt) (q : Phase) → e ≡ ends.Attempt b → b.phase ≡ q → (stand_in b.peer q).side ≡ Dialler → ⊥
  not-dialled b q un ph s = let z : Acceptor ≡ Dialler = side-of laws n m Acceptor t x y e own b q un ph ∙ s in absurd cc

  -- a name that is the other node's was taken
  named-kept : (f : Effect) (p : Name) (z : Option EndId) → p ≡ m.name → f.reply.note ≡ note.NameTaken p z → f.reply.up ≡ None → ((a b : Option ℕ) → is_some a ≡ true → Whole (Said Acceptor (sends a b)) f.reply.say) → notes f.this → Kept n m Acceptor t x y f
  named-kept f p z name nt up s d doom shut =
      let nm : once (true && takes_name f.reply.note) t x.named ≡ once true t x.named = ap (λ k. once (takes_name k) t x.named) nt in
      let ro : once (true && rises f.reply.up) t x.rose ≡ x.rose = ap (λ k. once (rises k) t x.rose) up ∙ once-false t x.rose in
      let pe : cond (true && takes_name f.reply.note) (peer_by f.reply.note x.peer) x.peer ≡ Some p = ap (λ k. cond (takes_name k) (peer_by k x.peer) x.peer) nt in
      let w = own.wired in
      record {
        said = s (once (true && takes_name f.reply.note) t x.named) (once (true && rises f.reply.up) t x.rose) (ap is_some nm ∙ once-some t x.named);
        follows = λ k h. w.follows k (sym ro ∙ h);
        peer = λ h. pe ∙ ap Some name;
        noted = d;
      }

  -- what is noted of a name, by the form that it opens
  abbrev Named_noted : Flags → Option Creation → Name → Form → Type 0
  Named_noted flags c p o = ((knows_six n.setup && knows_six m) ≡ is_newer o) × notes (ends.Attempt (named_attempt o flags c p fresh)) × notes (ends.Attempt (held_back (named_attempt o flags c p fresh)))

  known-noted : (flags : Flags) (c : Option Creation) (p : Name) (v : Bool) → (knows_six n.setup && knows_six m) ≡ v → flags.0 ≡ low_half (announced_by m) → c ≡ None → Named_noted flags c p (cond v form.Old form.Five)
  known-noted flags c p true v f cr = let w : IsHalf (voice n.setup) (voice m) flags.0 = record { both = v; half = f } in (v, w, w)
  known-noted flags c p false v f cr =
      let w : IsKnown (voice n.setup) (voice m) flags.0 c = record { shared = ap (common (announced_by n.setup)) f ∙ laws.sayings.halves n.setup m v; known = cr ∙ sym (ap (λ u. cond u (Some m.creation) None) v) } in
      (v, w, (v, w))

  named-noted : (o : Form) (flags : Flags) (c : Option Creation) (p : Name) (k : Message) → IsName n.setup o flags c p k → reads k → (p ≡ m.name) × Named_noted flags c p o
  named-noted o flags c p k (core.New_name d six mm oo cr) g =
      let h : reads (message.NewName flags d p) = subst reads mm g in
      let both : (knows_six n.setup && knows_six m) ≡ true = ap (λ v. v && knows_six m) six ∙ h.0 in
      let w : IsKnown (voice n.setup) (voice m) flags.0 c = record { shared = ap (common (announced_by n.setup)) h.1; known = cr ∙ ap Some h.2 ∙ sym (ap (λ v. cond v (Some m.creation) None) both) } in
      (h.3, subst (Named_noted flags c p) (sym oo) (both, w, (both, w)))
  named-noted o flags c p k (core.Old_name mm oo cr) g =
      let h : reads (message.OldName flags.0 p) = subst reads mm g in
      let both : (knows_six n.setup && has_all flags.0 handshake_23) ≡ (knows_six n.setup && knows_six m) = ap (λ v. knows_six n.setup && v) (ap (λ f. has_all f handshake_23) h.0 ∙ laws.sayings.versions m) in
      (h.1, subst (Named_noted flags c p) (sym (oo ∙ ap (λ v. cond v form.Old form.Five) both)) (known-noted flags c p (knows_six n.setup && knows_six m) refl h.0 cr))

  taken : (f : Effect) (id : EndId) (b : Attempt) → b.peer ≡ m.name → b.challenge < 2 ^ 32 → (knows_six n.setup && knows_six m) ≡ is_newer b.form → notes (ends.Attempt b) → notes (ends.Attempt (held_back b)) → Taken n id b f → Kept n m Acceptor t x y f
  taken f id b name sm nw nt ht = by
    where
      greets : (k : Status) → is_said_by k Acceptor ≡ true → (a c : Option ℕ) → is_some a ≡ true → Whole (Said Acceptor (sends a c)) (greeting_text n.setup k b.form b.challenge)
      greets k s a c h = greeting-said laws n.setup (voice m) own.fit a c k b.challenge b.form s sm h nw

      answers : (k : Status) → is_said_by k Acceptor ≡ true → (a c : Option ℕ) → is_some a ≡ true → Whole (Said Acceptor (sends a c)) (status_text k)
      answers k s a c h = status-said laws Acceptor (sends a c) k s tt

      to : (g : Effect) (z : Option EndId) → f ≡ g → g.reply.note ≡ note.NameTaken b.peer z → g.reply.up ≡ None → ((a c : Option ℕ) → is_some a ≡ true → Whole (Said Acceptor (sends a c)) g.reply.say) → notes g.this → Kept n m Acceptor t x y f
      to g z k nt up s d = subst (Kept n m Acceptor t x y) (sym k) (named-kept g b.peer z name nt up s d)

      crossed : (z : EndId) (s : End) → f ≡ supersedes id (greeting_text n.setup status.OkSimultaneous b.form b.challenge) b z s → Kept n m Acceptor t x y f
      crossed z (ends.Closed w) k = to _ None k refl refl (greets status.OkSimultaneous refl) nt
      crossed z s k = to _ (Some z) k refl refl (greets status.OkSimultaneous refl) nt

      by : Taken n id b f → Kept n m Acceptor t x y f
      by (core.Accepts en k) = to _ None k refl refl (greets status.Ok refl) nt
      by (core.Crosses z en g k) = crossed z (superseded_end (slice_get n.ends z.0)) k
      by (core.Declines z en g k) = to _ None k refl refl (answers status.Nok refl) tt
      by (core.Comes_again z en k) = to _ None k refl refl (greets status.Ok refl) nt
      by (core.Asks_alive z en k) = to _ None k refl refl (answers status.Alive refl) ht
      by (core.Asks_again u z en k) = to _ None k refl refl (answers status.Alive refl) ht

  answered-noted : (b : Attempt) (o : Form) → NotedBy (voice n.setup) (voice m) b o → NotedIn (voice n.setup) (voice m) (record b { phase = reply_phase o; challenge = fresh }) (reply_phase o)
  answered-noted b form.New h = h.1
  answered-noted b form.Old h = h
  answered-noted b form.Five h = h.1

  newer-noted : (b : Attempt) (o : Form) → NotedBy (voice n.setup) (voice m) b o → (knows_six n.setup && knows_six m) ≡ is_newer o
  newer-noted b form.New h = h.0
  newer-noted b form.Old h = h.both
  newer-noted b form.Five h = h.0

  heard-accept : (f : Effect) (id : EndId) (k : Message) → reads k → Heard n id fresh e k f → Kept n m Acceptor t x y f
  heard-accept f id k may (core.Closes say w cause z) = subst (Kept n m Acceptor t x y) (sym z) (plain laws n m Acceptor t x y e own (shuts id say w note.Nothing) refl refl (closing laws n m Acceptor t x y e own k say w cause) tt)
  heard-accept f id k may (core.Names o flags c p un mm ok tk) = let g = named-noted o flags c p k mm may in let s = g.1 in taken f id (named_attempt o flags c p fresh) g.0 small s.0 s.1 s.2 tk
  heard-accept f id k may (core.Goes_on st b un ph mm go z) = absurd (not-dialled b phase.AwaitStatus un ph refl)
  heard-accept f id k may (core.Insists b un ph mm z) = absurd (not-dialled b phase.AwaitStatus un ph refl)
  heard-accept f id k may (core.Replies o r flags ch c p b un ph mm sn fl z) = absurd (not-dialled b phase.AwaitChallenge un ph refl)
  heard-accept f id k may (core.Challenges b un ph mm z) =
      let has : is_some x.named ≡ true = ap (λ (s : Stand). s.named) (sym (attempt-row b x (at-end laws n m Acceptor t x y e own (ends.Attempt b) un)) ∙ ap (stand_in b.peer) ph) in
      let q = noted-in laws n m Acceptor t x y e own b phase.AwaitTrue un ph in
      subst (Kept n m Acceptor t x y) (sym z) (plain laws n m Acceptor t x y e own (goes_on id (challenge_text n.setup b.form fresh) (ends.Attempt (record b { phase = reply_phase b.form; challenge = fresh })) note.Nothing) refl refl
      (challenge-said laws n.setup (voice m) own.fit x.named x.rose fresh small has b.form (newer-noted b b.form q)) (answered-noted b b.form q))
  heard-accept f id k may (core.Complements high c b un ph mm fl z) =
      let g : reads (message.Complement high c) = subst reads mm may in
      let w : IsHalf (voice n.setup) (voice m) b.flags.0 = noted-in laws n m Acceptor t x y e own b phase.AwaitComplement un ph in
      subst (Kept n m Acceptor t x y) (sym z) (plain laws n m Acceptor t x y e own (goes_on id [] (ends.Attempt (record b { phase = phase.AwaitReply; flags = complete_flags b high; creation = Some c })) note.Nothing) refl refl (nothing laws n m Acceptor t x y e own)
      (record { shared = ap (common (announced_by n.setup)) (halves (announced_by m) high b.flags.0 g.0 w.half); known = ap Some g.1 ∙ sym (ap (λ v. cond v (Some m.creation) None) w.both) }))
  heard-accept f id k may (core.Acknowledged digest b un ph mm right z) = absurd (not-dialled b phase.AwaitAck un ph refl)
  heard-accept f id k may (core.Replied ch digest b un ph mm right z) =
      let g : reads (message.Reply ch digest) = subst reads mm may in
      let q : IsKnown (voice n.setup) (voice m) b.flags.0 b.creation = noted-in laws n m Acceptor t x y e own b phase.AwaitReply un ph in
      let w = own.wired in let late = own.past_far in
      subst (Kept n m Acceptor t x y) (sym z) (λ doom shut. record {
        said = ack-said laws n.setup (voice m) own.fit (once false t x.named) (once true t x.rose) b.peer ch (once-some t x.rose);
        follows = before-once t (marks_of y).replied x.rose (late.1 ∙ g) w.follows;
        peer = λ h. w.peer (ap is_some (sym (once-false t x.named)) ∙ h);
        noted = (q.shared, q.known);
      })

-- WHAT AN EVENT DOES TO ITS END'S SIDE OF A CONNECTION
pub did : (laws : NodeLaws) (n : NodeState) (m : Setup) (side : Side) (t : ℕ) (x : EndRow) (y : Option EndRow) (e : End) → Own n m side t x y e → (v : Event) (fresh : ℕ) (f : Effect) → fresh < 2 ^ 32
    → ((id : EndId) (body : List ℕ) → v ≡ event.Frame id body → Said (away side) (May (away side) (voice m) (voice n.setup) (marks_of y)) body) → slice_get n.ends f.reply.end_.0 ≡ Some e → StepRow n v fresh f → Kept n m side t x y f
did laws n m Dialler t x y e own v fresh f small takes = step laws n m Dialler t x y e own v fresh f takes (begins laws n m t x y e own fresh small f) (hears laws n m t x y e own fresh small f)
did laws n m Acceptor t x y e own v fresh f small takes = step laws n m Acceptor t x y e own v fresh f takes
    (λ id b un ph. absurd (not-dialled laws n m t x y e own fresh small b phase.Dialing un ph refl)) (heard-accept laws n m t x y e own fresh small f)
