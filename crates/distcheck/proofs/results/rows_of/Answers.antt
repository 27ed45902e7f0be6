-- One row more.
use Rattle.std.proofs.Common.{[], ◌∷◌, refl}
use Rattle.std.proofs.lemmas.List.Concat.{flat_map-append}
use Rattle.std.proofs.lemmas.List.Elements.{All-push}
use Rattle.distcheck.specs.Rows.{IsRow}
use Rattle.distcheck.proofs.results.rows_of.Goals as goal

pub loop-talks-preserved-in-Continue-1 : goal.loop-talks-preserved-in-Continue-1
loop-talks-preserved-in-Continue-1 c = rw c.in_ok-push.ensures.items record {
  rows = All-push IsRow _ _ c.loop-talks.invariant.rows c.row_of.ensures.row;
  talks = rw (
    flat_map-append (λ row. row.talks.now) c.loop-talks.rows.items (c.row_of.result ∷ []),
    flat_map-append (λ part. part.now) c.loop-talks.yielded (c.in-Some.talks ∷ []),
    c.loop-talks.invariant.talks,
    c.row_of.ensures.talks,
  ) refl;
}
