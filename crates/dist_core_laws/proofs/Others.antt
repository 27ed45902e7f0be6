-- The other end that a step changes: it is open, and not the event's own.
use Rattle.dist_peers.specs.declared.entry.Entry.TheVariants as entry
use Rattle.dist_core_ends.specs.declared.known.End.TheVariants as ends
use Rattle.dist_core_ends.specs.declared.phase.Phase.TheVariants as phase
use Rattle.dist_core_ends.specs.declared.why.Why.TheVariants as why
use Rattle.dist_core.specs.declared.{effect.Effect.Effect, event.Event.Event}
use Rattle.dist_core.proofs.{Closings.heard-end, Replies.other-of, Rows.row-in}
use Rattle.dist_core.proofs.Words.{some_pair_parts, Message, Attempt, End, Kind, Phase, In, Out, Up, ◌≡◌, ℕ, true, false, eqb, slice_get, Some, None, Ok}
use Rattle.dist_core.proofs.Words.{Option, option_map, sym, refl, ap, ◌∙◌, subst, eq-eqb, false≢true, Name, replaced_by, EndId, Entry, AreLegal, entry_in}
use Rattle.dist_core.proofs.Words.{is_claim, is_held, is_open, kind_in, names, named_attempt, superseded_end, NodeState, Accepts, Acknowledged, Asks_again}
use Rattle.dist_core.proofs.Words.{Asks_alive, Begins, Ceases, Challenges, Closes, Comes_again, Comes_in, Complements, Crosses, Declines, Dials, Fails, Goes_on}
use Rattle.dist_core.proofs.Words.{Heard, Hears, Insists, Loses, Names, Replied, Replies, StepRow, Taken, Ticks, effect_of}
use Rattle.dist_core_laws.specs.Laws.{IsOther}

-- an end that holds a peer exists, and is open
holder : (p : Name) (k : Kind) (o : Option End) → is_held p k o ≡ true → (e : End) × (o ≡ Some e) × (is_open e ≡ true)
holder p k (Some (ends.Attempt b)) h = (ends.Attempt b, refl, refl)
holder p k (Some (ends.Up r)) h = (ends.Up r, refl, refl)
holder p k o h = absurd (false≢true h)

nothing : (f : Effect) (x : EndId) (s : End) → f.other ≡ None → f.other ≡ Some (x, s) → ⊥
nothing f x s is e = let bad : ◌≡◌ {A = Option (EndId × End)} None (Some (x, s)) = sym is ∙ e in absurd cc

module _ (n : NodeState) (legal : AreLegal n.ends) (x : EndId) (s : End) where
  -- an end that the entry of p names as k, and that is not the event's own end
  apart-from : (id : EndId) (p : Name) (k : Kind) (o : Option Entry) → entry_in n.ends p ≡ o → names k x.0 o ≡ true → is_held p k (slice_get n.ends id.0) ≡ false → IsOther n id x
  apart-from id p k o e h own =
      let held : is_held p k (slice_get n.ends x.0) ≡ true = legal p k x.0 ∙ ap (names k x.0) e ∙ h in
      let g = holder p k (slice_get n.ends x.0) held in
      record {
        kept = g.0;
        there = g.1;
        opened = g.2;
        peer = p;
        kind = k;
        held = sym (ap (is_held p k) g.1) ∙ held;
        apart = λ at. absurd (false≢true (sym own ∙ ap (λ (y : EndId). is_held p k (slice_get n.ends y.0)) (sym at) ∙ held));
      }

  names-it : (y : EndId) → y ≡ x → eqb y.0 x.0 ≡ true
  names-it y at = ap (λ (z : EndId). eqb y.0 z.0) (sym at) ∙ eq-eqb y.0 y.0 refl

  by-taken : (id : EndId) (b : Attempt) (f : Effect) → slice_get n.ends id.0 ≡ Some ends.Unnamed → Taken n id b f → f.other ≡ Some (x, s) → IsOther n id x
  by-taken id b f un (Accepts is k) o = absurd (nothing f x s (ap (λ (f : Effect). f.other) k) o)
  by-taken id b f un (Crosses y is g k) o =
      let at : y ≡ x = other-of id _ b y (superseded_end (slice_get n.ends y.0)) x s (ap (λ (f : Effect). f.other) (sym k) ∙ o) in
      apart-from id b.peer Out _ is (names-it y at) (ap (is_held b.peer Out) un)
  by-taken id b f un (Declines y is g k) o = absurd (nothing f x s (ap (λ (f : Effect). f.other) k) o)
  by-taken id b f un (Comes_again y is k) o =
      let at : y ≡ x = (some_pair_parts y x _ s (ap (λ (f : Effect). f.other) (sym k) ∙ o)).0 in
      apart-from id b.peer In _ is (names-it y at) (ap (is_held b.peer In) un)
  by-taken id b f un (Asks_alive y is k) o = absurd (nothing f x s (ap (λ (f : Effect). f.other) k) o)
  by-taken id b f un (Asks_again y z is k) o =
      let at : z ≡ x = (some_pair_parts z x _ s (ap (λ (f : Effect). f.other) (sym k) ∙ o)).0 in
      apart-from id b.peer In _ is (names-it z at) (ap (is_held b.peer In) un)

  -- an end that comes up replaces another one
  by-rising : (id : EndId) (b : Attempt) (ph : Phase) → slice_get n.ends id.0 ≡ Some (ends.Attempt b) → b.phase ≡ ph → ((q : Name) → is_claim q Up (option_map (λ l. record { peer = b.peer; kind = l }) (kind_in ph)) ≡ false)
      → (u : Option Entry) → entry_in n.ends b.peer ≡ u → option_map {U = EndId × End} (λ (y : EndId). (y, ends.Closed why.Replaced)) (replaced_by u) ≡ Some (x, s) → IsOther n id x
  by-rising id b ph at is low (Some (entry.Challenged u y)) before o =
      apart-from id b.peer Up _ before (names-it u ((some_pair_parts u x _ s o).0))
      (ap (is_held b.peer Up) at ∙ ap (λ q. is_claim b.peer Up (option_map (λ l. record { peer = b.peer; kind = l }) (kind_in q))) is ∙ low b.peer)
  by-rising id b ph at is low u before o = absurd cc

  by-heard : (id : EndId) (fresh : ℕ) (d : End) (m : Message) (f : Effect) → slice_get n.ends id.0 ≡ Some d → Heard n id fresh d m f → f.other ≡ Some (x, s) → IsOther n id x
  by-heard id fresh d m f at (Closes say w cause k) o = absurd (nothing f x s (ap (λ (f : Effect). f.other) k) o)
  by-heard id fresh d m f at (Names nm flags c p un mm ok t) o = by-taken id (named_attempt nm flags c p fresh) f (at ∙ ap Some un) t o
  by-heard id fresh d m f at (Goes_on st b un ph mm go k) o = absurd (nothing f x s (ap (λ (f : Effect). f.other) k) o)
  by-heard id fresh d m f at (Insists b un ph mm k) o = absurd (nothing f x s (ap (λ (f : Effect). f.other) k) o)
  by-heard id fresh d m f at (Replies o0 r0 flags challenge c p b un ph mm sn fl k) o = absurd (nothing f x s (ap (λ (f : Effect). f.other) k) o)
  by-heard id fresh d m f at (Challenges b un ph mm k) o = absurd (nothing f x s (ap (λ (f : Effect). f.other) k) o)
  by-heard id fresh d m f at (Complements high c b un ph mm fl k) o = absurd (nothing f x s (ap (λ (f : Effect). f.other) k) o)
  by-heard id fresh d m f at (Acknowledged digest b un ph mm right k) o = by-rising id b phase.AwaitAck (at ∙ ap Some un) ph (λ q. refl) (entry_in n.ends b.peer) refl (ap (λ (f : Effect). f.other) (sym k) ∙ o)
  by-heard id fresh d m f at (Replied challenge digest b un ph mm right k) o = by-rising id b phase.AwaitReply (at ∙ ap Some un) ph (λ q. refl) (entry_in n.ends b.peer) refl (ap (λ (f : Effect). f.other) (sym k) ∙ o)

  pub other-row : (v : Event) (fresh : ℕ) (f : Effect) → StepRow n v fresh f → f.other ≡ Some (x, s) → IsOther n f.reply.end_ x
  other-row v fresh f (Dials p nm is idle sp full cr k) o = absurd (nothing f x s (ap (λ (f : Effect). f.other) k) o)
  other-row v fresh f (Comes_in link is sp cr k) o = absurd (nothing f x s (ap (λ (f : Effect). f.other) k) o)
  other-row v fresh f (Begins id link b is at ph sp k) o = absurd (nothing f x s (ap (λ (f : Effect). f.other) k) o)
  other-row v fresh f (Ceases id link b is at ph sp k) o = absurd (nothing f x s (ap (λ (f : Effect). f.other) k) o)
  other-row v fresh f (Loses id w e is at opened k) o = absurd (nothing f x s (ap (λ (f : Effect). f.other) k) o)
  other-row v fresh f (Ticks id r is at sp k) o = absurd (nothing f x s (ap (λ (f : Effect). f.other) k) o)
  other-row v fresh f (Fails id body e side y is at to sp says k) o = absurd (nothing f x s (ap (λ (f : Effect). f.other) k) o)
  other-row v fresh f (Hears id body e side m is at to sp says h) o = subst-end (sym (heard-end n id fresh e m f h)) (by-heard id fresh e m f at h o)
    where
      subst-end : {y z : EndId} → y ≡ z → IsOther n y x → IsOther n z x
      subst-end e h = let P : EndId → Type 0 = λ (y : EndId). IsOther n y x in subst P e h

pub another : (n : NodeState) → AreLegal n.ends → (v : Event) (fresh : ℕ) (f : Effect) (x : EndId) (s : End) → effect_of n v fresh ≡ Ok f → f.other ≡ Some (x, s) → IsOther n f.reply.end_ x
another n legal v fresh f x s is o = other-row n legal x s v fresh f (row-in n v fresh f is) o
