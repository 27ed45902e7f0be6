-- The up end of a peer is that of its entry.
use Rattle.dist_core_ends.proofs.Words.{◌≡◌, ℕ, true, List, ◌==◌, slice_get, Some, Option, option_and_then, sym, refl, ap, ◌∙◌, eq-eqb, eqb-true, Name}
use Rattle.dist_core_ends.proofs.Words.{same_name, itself_lem, one_lem, EndId, Entry, FindsUp, end_id, holds_at, is_held, names, record_in, up_from, up_id}
use Rattle.dist_core_ends.proofs.Words.{up_pair, End, UpRecord, Up}
use Rattle.dist_peers.specs.declared.entry.Entry.TheVariants as entry
use Rattle.dist_core_ends.specs.declared.known.End.TheVariants as ends

itself : (p q : Name) → q ≡ p → same_name p q ≡ true
itself p q e = ap (same_name p) e ∙ itself_lem p

module _ (es : List End) (p : Name) (o : Option Entry) (agree : (i : ℕ) → holds_at es p Up i ≡ names Up i o) where
  at-own : (i : ℕ) (x : EndId) (kept : UpRecord) → slice_get es i ≡ Some (ends.Up kept) → (x.0 == i) ≡ true → record_in x (slice_get es x.0) ≡ up_pair i kept
  at-own i x kept at e =
      let same : x ≡ end_id i = ap end_id (eqb-true x.0 i e) in
      ap (λ (y : EndId). record_in y (slice_get es y.0)) same ∙ ap (record_in (end_id i)) at

  by-entry : (i : ℕ) (kept : UpRecord) → slice_get es i ≡ Some (ends.Up kept) → (q : Option Entry) → names Up i q ≡ true → up_from es (option_and_then up_id q) ≡ up_pair i kept
  by-entry i kept at (Some (entry.Up x)) e = at-own i x kept at e
  by-entry i kept at (Some (entry.Challenged up x)) e = at-own i up kept at e
  by-entry i kept at q e = absurd cc

  pub up-only : (i : ℕ) (kept : UpRecord) → slice_get es i ≡ Some (ends.Up kept) → kept.peer ≡ p → up_from es (option_and_then up_id o) ≡ up_pair i kept
  up-only i kept at same = by-entry i kept at o (sym (agree i) ∙ (ap (is_held p Up) at ∙ itself p kept.peer same))

  at-end : (x : EndId) (s : Option End) → slice_get es x.0 ≡ s → is_held p Up s ≡ true → FindsUp es p (record_in x s)
  at-end x (Some (ends.Up r)) at e = (at, sym (one_lem p r.peer e))
  at-end x s at e = tt

  named-own : (x : EndId) → names Up x.0 o ≡ true → FindsUp es p (record_in x (slice_get es x.0))
  named-own x e = at-end x (slice_get es x.0) refl (agree x.0 ∙ e)

  pub up-found : FindsUp es p (up_from es (option_and_then up_id o))
  up-found = by o refl
    where
      by : (q : Option Entry) → o ≡ q → FindsUp es p (up_from es (option_and_then up_id q))
      by (Some (entry.Up x)) e = named-own x (ap (names Up x.0) e ∙ eq-eqb x.0 x.0 refl)
      by (Some (entry.Challenged up x)) e = named-own up (ap (names Up up.0) e ∙ eq-eqb up.0 up.0 refl)
      by q e = tt
