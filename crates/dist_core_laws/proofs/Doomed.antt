-- A doomed end is closed by its next event, and until then it stays.
use Rattle.dist_core_ends.specs.declared.known.End.TheVariants as ends
use Rattle.dist_core_ends.specs.declared.phase.Phase.TheVariants as phase
use Rattle.dist_core_ends.specs.declared.why.Why.TheVariants as why
use Rattle.dist_core.specs.declared.{effect.Effect.Effect, event.Event.Event, reply.Reply.Reply}
use Rattle.dist_core.proofs.{Closings.heard-end, Rows.row-in}
use Rattle.dist_core.proofs.Words.{Message, Attempt, End, Kind, Phase, Why, ◌≡◌, ℕ, true, ◌⊎◌, length, slice_get, Some, None, Ok, Option, option_map, sym, ap}
use Rattle.dist_core.proofs.Words.{◌∙◌, subst, inl, inr, arith, false≢true, slice_get_past, Name, EndId, AreLegal, holds, is_claim, kind_in, NodeState}
use Rattle.dist_core.proofs.Words.{ends_after, new_id, Acknowledged, Begins, Ceases, Challenges, Closes, Comes_in, Complements, Dials, Fails, Goes_on, Heard}
use Rattle.dist_core.proofs.Words.{Hears, Insists, Loses, Names, Replied, Replies, StepRow, Ticks, effect_of, step}
use Rattle.dist_core_laws.specs.Laws.{IsOther, is_doomed, doomed_in}
use Rattle.dist_core_laws.proofs.{Others.another, Succeeding.has-effect, Succeeding.stands-as}

-- the effect closes its own end, and brings nothing up
pub record Shuts (f : Effect) : Type 0 where
  pub cause : Why
  pub closed : f.this ≡ ends.Closed cause
  pub up : f.reply.up ≡ None

-- an attempt whose phase is known
in-phase : (e : End) (b : Attempt) (ph : Phase) → e ≡ ends.Attempt b → b.phase ≡ ph → is_doomed e ≡ doomed_in ph
in-phase e b ph is at = ap is_doomed is ∙ ap doomed_in at

module _ (n : NodeState) where
  by-heard : (id : EndId) (fresh : ℕ) (e : End) (m : Message) (f : Effect) → is_doomed e ≡ true → Heard n id fresh e m f → Shuts f
  by-heard id fresh e m f d (Closes say w cause k) = record { cause = w; closed = ap (λ (f : Effect). f.this) k; up = ap (λ (f : Effect). f.reply.up) k }
  by-heard id fresh e m f d (Names o flags c p un mm ok t) = absurd (false≢true (sym (ap is_doomed un) ∙ d))
  by-heard id fresh e m f d (Goes_on s b un ph mm go k) = absurd (false≢true (sym (in-phase e b _ un ph) ∙ d))
  by-heard id fresh e m f d (Insists b un ph mm k) = absurd (false≢true (sym (in-phase e b _ un ph) ∙ d))
  by-heard id fresh e m f d (Replies o0 r0 flags challenge c p b un ph mm sn fl k) = absurd (false≢true (sym (in-phase e b _ un ph) ∙ d))
  by-heard id fresh e m f d (Challenges b un ph mm k) = absurd (false≢true (sym (in-phase e b _ un ph) ∙ d))
  by-heard id fresh e m f d (Complements high c b un ph mm fl k) = absurd (false≢true (sym (in-phase e b _ un ph) ∙ d))
  by-heard id fresh e m f d (Acknowledged digest b un ph mm right k) = absurd (false≢true (sym (in-phase e b _ un ph) ∙ d))
  by-heard id fresh e m f d (Replied challenge digest b un ph mm right k) = absurd (false≢true (sym (in-phase e b _ un ph) ∙ d))

  -- the end that a known reply names
  at-own : (f : Effect) (id : EndId) (e d : End) → f.reply.end_ ≡ id → slice_get n.ends f.reply.end_.0 ≡ Some e → slice_get n.ends id.0 ≡ Some d → e ≡ d
  at-own f id e d own at there = let same : Some e ≡ Some d = sym at ∙ ap (λ (y : EndId). slice_get n.ends y.0) own ∙ there in cc

  past-all : (f : Effect) (e : End) → f.reply.end_ ≡ new_id n → slice_get n.ends f.reply.end_.0 ≡ Some e → Shuts f
  past-all f e own at =
      let none : slice_get n.ends (length n.ends) ≡ None = slice_get_past n.ends (length n.ends) (omega arith) in
      let bad : None ≡ Some e = sym none ∙ sym (ap (λ (y : EndId). slice_get n.ends y.0) own) ∙ at in
      absurd cc

  by-row : (v : Event) (fresh : ℕ) (f : Effect) (e : End) → slice_get n.ends f.reply.end_.0 ≡ Some e → is_doomed e ≡ true → StepRow n v fresh f → Shuts f
  by-row v fresh f e at d (Dials p o is idle sp full cr k) = past-all f e (ap (λ (f : Effect). f.reply.end_) k) at
  by-row v fresh f e at d (Comes_in link is sp cr k) = past-all f e (ap (λ (f : Effect). f.reply.end_) k) at
  by-row v fresh f e at d (Begins id link b is there ph sp k) =
      absurd (false≢true (sym (in-phase e b phase.Dialing (at-own f id e (ends.Attempt b) (ap (λ (f : Effect). f.reply.end_) k) at there) ph) ∙ d))
  by-row v fresh f e at d (Ceases id link b is there ph sp k) = record { cause = why.Crossed; closed = ap (λ (f : Effect). f.this) k; up = ap (λ (f : Effect). f.reply.up) k }
  by-row v fresh f e at d (Loses id w c is there opened k) = record { cause = w; closed = ap (λ (f : Effect). f.this) k; up = ap (λ (f : Effect). f.reply.up) k }
  by-row v fresh f e at d (Ticks id r is there sp k) =
      absurd (false≢true (sym (ap is_doomed (at-own f id e (ends.Up r) (ap (λ (f : Effect). f.reply.end_) k) at there)) ∙ d))
  by-row v fresh f e at d (Fails id body c side x is there to sp says k) = record { cause = why.Malformed; closed = ap (λ (f : Effect). f.this) k; up = ap (λ (f : Effect). f.reply.up) k }
  by-row v fresh f e at d (Hears id body c side m is there to sp says h) =
      by-heard id fresh c m f (sym (ap is_doomed (at-own f id e c (heard-end n id fresh c m f h) at there)) ∙ d) h

  pub shuts-own : (v : Event) (fresh : ℕ) (f : Effect) (e : End) → effect_of n v fresh ≡ Ok f → slice_get n.ends f.reply.end_.0 ≡ Some e → is_doomed e ≡ true → Shuts f
  shuts-own v fresh f e is at d = by-row v fresh f e at d (row-in n v fresh f is)

-- a doomed end holds no peer
holds-none : (p : Name) (k : Kind) (e : End) → is_doomed e ≡ true → holds p k e ≡ true → ⊥
holds-none p k (ends.Attempt a) d h = by a.phase d h
  where
    by : (ph : Phase) → doomed_in ph ≡ true → is_claim p k (option_map (λ l. record { peer = a.peer; kind = l }) (kind_in ph)) ≡ true → ⊥
    by phase.DoomedDialing d h = false≢true h
    by phase.Doomed d h = false≢true h
    by ph d h = false≢true d
holds-none p k e d h = false≢true d

-- what stands in the place of a doomed end afterwards
abbrev Becomes : End → Option End → Type 0
Becomes e o = (o ≡ Some e) ⊎ ((w : Why) × (o ≡ Some (ends.Closed w)))

module _ (n : NodeState) (legal : AreLegal n.ends) (v : Event) (fresh : ℕ) (f : Effect) (is : effect_of n v fresh ≡ Ok f) (x : EndId) (e : End) (at : slice_get n.ends x.0 ≡ Some e) (d : is_doomed e ≡ true) where
  becomes : Becomes e (slice_get (ends_after n.ends f) x.0)
  becomes = stands-as n v fresh f x.0 legal is (Becomes e)
      (λ place. let h = shuts-own n v fresh f e is (ap (slice_get n.ends) place ∙ at) d in inr (h.cause, ap Some h.closed))
      (λ y s o place. absurd (not-other y s o place)) (inl at)
    where
      not-other : (y : EndId) (s : End) → f.other ≡ Some (y, s) → y.0 ≡ x.0 → ⊥
      not-other y s o place =
          let i : IsOther n f.reply.end_ y = another n legal v fresh f y s is o in
          let same : Some i.kept ≡ Some e = sym i.there ∙ ap (slice_get n.ends) place ∙ at in
          let kept : i.kept ≡ e = cc in
          holds-none i.peer i.kind e d (ap (holds i.peer i.kind) (sym kept) ∙ i.held)

pub stays-or-closes : (n : NodeState) (v : Event) (fresh : ℕ) (r : Reply) (m : NodeState) (x : EndId) (e : End) → AreLegal n.ends → step n v fresh ≡ Ok (r, m) → slice_get n.ends x.0 ≡ Some e → is_doomed e ≡ true → Becomes e (slice_get m.ends x.0)
stays-or-closes n v fresh r m x e legal is at d =
    let h = has-effect n v fresh r m is in
    subst (λ (k : NodeState). Becomes e (slice_get k.ends x.0)) (sym h.node) (becomes n legal v fresh h.effect h.is x e at d)
