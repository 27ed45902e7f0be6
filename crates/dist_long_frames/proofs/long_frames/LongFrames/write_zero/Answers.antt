use Rattle.std.proofs.Common.{refl, ◌∙◌, arith}
use Rattle.dist_long_frames.proofs.Pieces.{led-after, writes-dropped}
use Rattle.dist_long_frames.proofs.long_frames.LongFrames.write_zero.Goals as goal

pub invariant_of-self-2 : goal.invariant_of-self-2
invariant_of-self-2 g c =
    let writes = c.in-Bytes.ensures in
    record { led = λ bytes e. c.after_all-self.ensures ∙ led-after _ _ _ _ writes.written c.args.self.now.led bytes e }

pub returns-else-count-eq0 : goal.returns-else-count-eq0
returns-else-count-eq0 g c =
    record { writes = writes-dropped _ _ _ _ _ _ _ c.requires.shared (omega (arith, c.if-count-eq0.false)) refl c.args.self.now.led c.in-Bytes.ensures }
