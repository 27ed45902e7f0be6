-- The connection of an end that is up.
use Rattle.dist_core_ends.specs.Ends.{FindsUp, end_id, up_pair}
use Rattle.dist_core_ends.specs.declared.known.End.TheVariants as ends
use Rattle.std.specs.Prelude.{IsTrue, ◌↔◌}
use Rattle.dist_world_model.proofs.HappeningEffects.{none-by}
use Rattle.dist_world_model.proofs.Words.{UpRecord, ◌≡◌, ◌∙◌, ap, ℕ, slice_get, Some, None, Option, option_map, refl, is_none, same_Some, Name, EndId, conn_of, Life}
use Rattle.dist_world_lives.specs.Links.{link_of_record, FindsLink, IsFooledBy, is_unlinked}

pub link_found : (l : Life) (p : Name) (o : Option (EndId × UpRecord)) → FindsUp l.node.ends p o → FindsLink l p (link_of_record l.rows o)
link_found l p None k = tt
link_found l p (Some x) k = by (conn_of (slice_get l.rows (let y = x.0 in y.0))) refl
  where
    by : (o : Option ℕ) → conn_of (slice_get l.rows (let y = x.0 in y.0)) ≡ o → FindsLink l p (option_map {U = ℕ × UpRecord} (λ c. (c, x.1)) o)
    by None e = tt
    by (Some c) e = (x.0, k, e)

-- the end that is up with a peer is the one that has a connection or none
pub fooled_by : (l : Life) (p : Name) (o : Option (EndId × UpRecord)) → FindsUp l.node.ends p o
    → ((i : ℕ) (kept : UpRecord) → slice_get l.node.ends i ≡ Some (ends.Up kept) → kept.peer ≡ p → o ≡ up_pair i kept) → IsTrue (is_unlinked l.rows o) ↔ IsFooledBy l p
fooled_by l p None found only = (λ e. absurd cc, λ k. let z : None ≡ up_pair k.id k.kept = only k.id k.kept k.is_up k.peer in absurd cc)
fooled_by l p (Some x) found only = (
  λ e. record { id = (let y = x.0 in y.0); kept = x.1; is_up = found.0; peer = found.1; unlinked = none-by _ e },
  λ k. (
      let z : Some x ≡ up_pair k.id k.kept = only k.id k.kept k.is_up k.peer in
      let same : x.0 ≡ end_id k.id = ap (λ (y : EndId × UpRecord). y.0) (same_Some _ _ z) in
      ap (λ (y : EndId). is_none (conn_of (slice_get l.rows y.0))) same ∙ ap is_none k.unlinked),
)
