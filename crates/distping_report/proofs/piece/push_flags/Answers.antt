use Rattle.std.proofs.Common.{string_bytes, arith}
use Rattle.distping_report.specs.Texts.{flag_text}
use Rattle.distping_report.proofs.Behind.{texts_more}
use Rattle.distping_report.proofs.piece.push_flags.Goals as goal

pub loop-flag-preserved : goal.loop-flag-preserved
loop-flag-preserved c =
    texts_more (flag_text c.args.flags.0) (string_bytes c.args.text.now) _ _ c.args.all.now c.loop-flag.flag-index _ (omega arith) c.loop-flag.invariant c.in_ok-push_flag.ensures
