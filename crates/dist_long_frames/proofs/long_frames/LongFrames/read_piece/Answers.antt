use Rattle.std.proofs.Common.{arith, sym, ◌∙◌, subst}
use Rattle.dist_stream.specs.Stream.{Reads}
use Rattle.dist_stream.specs.declared.stream.Heard.TheVariants as heard
use Rattle.dist_long_frames.specs.State.{long_state}
use Rattle.dist_long_frames.proofs.Pieces.{reads-shared}
use Rattle.dist_long_frames.proofs.long_frames.LongFrames.read_piece.Goals as goal

pub returns-then-is_shared : goal.returns-then-is_shared
returns-then-is_shared g c =
    let before = g.S.Stream.meaning c.args.self.now.stream in
    let behind = g.S.Stream.meaning c.read-heard.new.self in
    let reading = c.args.self.now.reading in
    let room = c.read-heard.new.room in
    let count = c.in-Bytes.count in
    let shared = sym c.is_shared-is_shared.ensures ∙ c.if-is_shared.true in
    record {
      reads = subst (λ p. Reads (long_state reading before) (long_state p behind) room (heard.Bytes count)) (sym c.after_all-self.ensures)
          (reads-shared reading before behind room count shared (omega (arith, c.requires.here, c.read-heard.auto.room)) c.in-Bytes.ensures);
    }
