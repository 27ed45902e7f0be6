-- An attempt that goes on in its place.
use Rattle.dist_core_ends.proofs.Words.{◌≡◌, ℕ, true, List, [], set, IsSome, slice_get, Some, None, Option, option_map, sym, refl, ap, ◌∙◌, subst, arith}
use Rattle.dist_core_ends.proofs.Words.{false≢true, slice_get_within, Name, Table, entry_of, is_waiting, replaced_by, EndId, Entry, Fits, AsksShift, HasEntry}
use Rattle.dist_core_ends.proofs.Words.{claim_at, put_end, table_after_shift, Agree, AreLegal, Claim, claim_of, entry_in, kind_in, names, same_kind, table_of}
use Rattle.dist_core_ends.proofs.Words.{CanRise, at_stage, replaced_end, Attempt, End, Stage, UpRecord, Kind, In, Out, Up, Phase}
use Rattle.dist_core_ends.proofs.{Agreement.entry-agreed, Keeping.put-within, Legal.legal, Tables.table-agreed}
use Rattle.dist_core_ends.proofs.Fitting.{claims, named-at, own-claim, same-shift, stays-open, fit-keeps}
use Rattle.std.specs.FinMap as map
use Rattle.dist_peers.specs.declared.entry.Entry.TheVariants as entry
use Rattle.dist_core_ends.specs.declared.known.End.TheVariants as ends
use Rattle.dist_core_ends.specs.declared.phase.Phase.TheVariants as phase

-- an end took the place of another
pub put-there : (es new : List End) (i : ℕ) (d e : End) → slice_get es i ≡ Some d → new ≡ set es i e → new ≡ put_end es i e
put-there es new i d e at is = is ∙ put-within es i e (slice_get_within es i d at)

-- what holds with the table that the ends make holds with one that agrees with them
pub fit-kept : (me : Name) (es : List End) (t : Table) (id : EndId) (this : End) (other : Option (EndId × End)) → (AreLegal es → Fits me es (table_of es) id this other) → Agree (map.get t) es → Fits me es t id this other
fit-kept me es t id this other h a = rw (table-agreed t es a) (h (legal (map.get t) es a))

-- ---- an end that holds a peer makes its entry

named-some : (k : Kind) (i : ℕ) (o : Option Entry) → names k i o ≡ true → IsSome o
named-some Out i None h = absurd (false≢true h)
named-some In i None h = absurd (false≢true h)
named-some Up i None h = absurd (false≢true h)
named-some k i (Some e) h = refl

own-kind : (k : Kind) → same_kind k k ≡ true
own-kind Out = refl
own-kind In = refl
own-kind Up = refl

pub held-entry : (es : List End) (t : Table) → Agree (map.get t) es → (id : EndId) → HasEntry t (claim_at (slice_get es id.0))
held-entry es t a id = by (claim_at (slice_get es id.0)) refl
  where
    by : (c : Option Claim) → claim_at (slice_get es id.0) ≡ c → HasEntry t c
    by None was = tt
    by (Some c) was = named-some c.kind id.0 (map.get t c.peer) (named-at [] es t a c.peer (map.get t c.peer) refl id (Some c) was c.kind ∙ own-claim c.peer c.kind c.kind ∙ own-kind c.kind)

-- ---- an attempt that holds its peer as before

module _ (es : List End) (t : Table) (a : Agree (map.get t) es) (id : EndId) (to : Stage) (b : Attempt) (at : slice_get es id.0 ≡ Some (ends.Attempt b)) (held : kind_in to.phase ≡ kind_in b.phase) where
  same-claim : claim_of (ends.Attempt (at_stage b to)) ≡ claim_of (ends.Attempt b)
  same-claim = ap (λ (k : Option Kind). option_map {U = Claim} (λ l. record { peer = b.peer; kind = l }) k) held

  pub advance-fits : Fits [] es t id (ends.Attempt (at_stage b to)) None
  advance-fits =
      fit-keeps [] es t a id (ends.Attempt (at_stage b to)) (claim_of (ends.Attempt b)) (stays-open (slice_get es id.0) (ends.Attempt b) (ends.Attempt (at_stage b to)) at refl) (ap claim_at at) same-claim (omega (arith, slice_get_within es id.0 (ends.Attempt b) at))

  pub advance-table : t ≡ table_after_shift t [] id (claim_at (slice_get es id.0)) (claim_of (ends.Attempt (at_stage b to)))
  advance-table = sym ((λ j. table_after_shift t [] id (claim_at (at j)) (same-claim j)) ∙ same-shift t [] id (claim_of (ends.Attempt b)))

-- ---- an attempt that comes up

module _ (t : Table) (me : Name) (id : EndId) (r : UpRecord) where
  abbrev held-in : Name → Phase → Option Claim
  held-in p h = option_map (λ k. record { peer = p; kind = k }) (kind_in h)

  waits-in : (p : Name) (h : Phase) → IsSome (kind_in h) → AsksShift t me id (held-in p h) (claims r.peer Up) → is_waiting id (entry_of t r.peer) ≡ true
  waits-in p phase.DoomedDialing held asks = absurd cc
  waits-in p phase.Doomed held asks = absurd cc
  waits-in p h held asks = asks

  rises-in : (p : Name) (h : Phase) → IsSome (kind_in h) → table_after_shift t me id (held-in p h) (claims r.peer Up) ≡ map.insert t r.peer (entry.Up id)
  rises-in p phase.DoomedDialing held = absurd cc
  rises-in p phase.Doomed held = absurd cc
  rises-in p h held = refl

  pub rise-waits : (o : Option End) → CanRise o r.peer → AsksShift t me id (claim_at o) (claim_of (ends.Up r)) → is_waiting id (entry_of t r.peer) ≡ true
  rise-waits o h asks =
      let P : Option End → Type 0 = λ x. AsksShift t me id (claim_at x) (claim_of (ends.Up r)) in
      let b = h.0 in
      waits-in b.peer b.phase h.3 (subst P h.1 asks)

  pub rise-table : (o : Option End) → CanRise o r.peer → map.insert t r.peer (entry.Up id) ≡ table_after_shift t me id (claim_at o) (claim_of (ends.Up r))
  rise-table o h =
      let b = h.0 in
      sym (ap (λ (x : Option End). table_after_shift t me id (claim_at x) (claim_of (ends.Up r))) h.1 ∙ rises-in b.peer b.phase h.3)

pub rise-fits : (me : Name) (es : List End) (t : Table) (id : EndId) (r : UpRecord)
    → (AreLegal es → Fits me es (table_of es) id (ends.Up r) (replaced_end (replaced_by (entry_in es r.peer)))) → Agree (map.get t) es
    → Fits me es t id (ends.Up r) (replaced_end (replaced_by (entry_of t r.peer)))
rise-fits me es t id r h a = rw (sym (entry-agreed (map.get t) es a r.peer)) (fit-kept me es t id (ends.Up r) (replaced_end (replaced_by (entry_in es r.peer))) h a)
