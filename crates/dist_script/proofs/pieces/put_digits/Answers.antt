use Rattle.std.proofs.Common.{arith}
use Rattle.dist_script.proofs.{Fronts.on_err, Fronts.more_put, Fronts.part_put, Fronts.all_put, Printing.hex_parts, Printing.hex_done}
use Rattle.dist_script.proofs.pieces.put_digits.Goals as goal

pub loop-rest-preserved : goal.loop-rest-preserved
loop-rest-preserved g c =
    more_put _ _ _ _ _ c.loop-rest.invariant _ _ c.in_ok-short_hex.ensures.text
    (hex_parts c.split_at.result.0.now c.split_at.result.1.now c.loop-rest.rest.now _ c.split_at.ensures.front c.split_at.ensures.back)

pub returns-in_err-short_hex-clause-cut : goal.returns-in_err-short_hex-clause-cut
returns-in_err-short_hex-clause-cut g c =
    on_err c.from_residual.result (part_put _ _ _ _ _ c.loop-rest.invariant _ _ c.in_err-short_hex.ensures.cut
    (hex_parts c.split_at.result.0.now c.split_at.result.1.now c.loop-rest.rest.now _ c.split_at.ensures.front c.split_at.ensures.back))

pub returns-clause-text : goal.returns-clause-text
returns-clause-text g c = all_put _ _ _ _ c.loop-rest.invariant (hex_done c.loop-rest.rest.now (grind arith))
