-- The rows so far have the talks of the parts so far, and each the worst verdict of its own.
use Rattle.std.specs.Prelude.{◌≡◌, All}
use Rattle.std.specs.List.{flat_map}
use Rattle.distcheck.specs.Rows.{IsRow}
use Rattle.distcheck.proofs.results.rows_of.Given as goal

abbrev pub invariant-loop-talks : goal.invariant-loop-talks
invariant-loop-talks l = record {
  rows : All IsRow l.rows.items;
  talks : flat_map (λ row. row.talks.now) l.rows.items ≡ flat_map (λ part. part.now) l.yielded;
}
