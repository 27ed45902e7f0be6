use Rattle.std.proofs.{Common.[], Common.arith, Common.refl, lemmas.List.nil_from_length}
use Rattle.dist_script.proofs.Fronts.{on_err, front_none, more_put, all_put, part_put, stopped_put, split_here}
use Rattle.dist_script.proofs.pieces.put_bytes.Goals as goal

pub returns-then-is_empty-clause-text : goal.returns-then-is_empty-clause-text
returns-then-is_empty-clause-text g c = all_put _ _ c.args.bytes.now c.writes.rest.now c.writes.invariant (nil_from_length c.writes.rest.now (grind arith))

pub returns-in_err-put_some-clause-cut : goal.returns-in_err-put_some-clause-cut
returns-in_err-put_some-clause-cut g c =
    on_err c.from_residual.result (part_put _ _ _ c.args.bytes.now c.writes.rest.now c.writes.invariant _ _ (front_none _ _ [] c.in_err-put_some.ensures.kept) refl)

pub writes-preserved : goal.writes-preserved
writes-preserved g c =
    more_put _ _ _ c.args.bytes.now c.writes.rest.now c.writes.invariant _ _ c.in_ok-put_some.ensures.text (split_here c.writes.rest.now c.split_at.result.1.now c.in_ok-put_some.field-0 c.split_at.ensures.back)

pub returns-clause-cut : goal.returns-clause-cut
returns-clause-cut g c = stopped_put _ _ c.args.bytes.now c.writes.rest.now c.writes.invariant
