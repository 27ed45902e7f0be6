use Rattle.std.proofs.Common.{arith}
use Rattle.dist_names.proofs.Numerals.{begun, one_more, stopped, all_read}
use Rattle.dist_names.proofs.numbers.number_in.Goals as goal

pub loop-byte-init : goal.loop-byte-init
loop-byte-init c = begun c.args.radix c.args.word.now (grind arith)

pub returns-in_default : goal.returns-in_default
returns-in_default c =
    let l = c.loop-byte in
    stopped c.args.radix c.args.word.now l.byte-index l.value l.invariant (omega arith) (omega arith) c.in_default.ensures

pub loop-byte-preserved : goal.loop-byte-preserved
loop-byte-preserved c =
    let l = c.loop-byte in
    one_more c.args.radix c.args.word.now l.byte-index l.value l.invariant (omega arith) _ c.in-Some.ensures.0.0 c.in-Some.ensures.1 (omega (arith, c.in-Some.ensures.0.1, c.in-Some.ensures.1))

pub returns : goal.returns
returns c =
    let l = c.loop-byte in
    all_read c.args.radix c.args.word.now l.byte-index l.value l.invariant (omega arith)
