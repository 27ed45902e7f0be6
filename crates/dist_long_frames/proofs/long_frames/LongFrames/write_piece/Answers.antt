use Rattle.std.proofs.Common.{◌∙◌}
use Rattle.dist_long_frames.proofs.Pieces.{led-after, writes-shared}
use Rattle.dist_long_frames.proofs.long_frames.LongFrames.write_piece.Goals as goal

pub invariant_of-self-2 : goal.invariant_of-self-2
invariant_of-self-2 g c =
    let writes = c.in-Bytes.ensures in
    record { led = λ bytes e. c.after_all-self.ensures ∙ led-after _ _ _ _ writes.written c.args.self.now.led bytes e }

pub returns : goal.returns
returns g c = record { writes = writes-shared _ _ _ _ _ _ c.requires.shared c.requires.here c.args.self.now.led c.in-Bytes.ensures }
