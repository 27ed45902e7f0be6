-- The pieces so far stand there.
use Rattle.std.proofs.Common.{◌≡◌, string_bytes, take}
use Rattle.std.specs.List.{flat_map}
use Rattle.distping_report.specs.Texts.{piece_text}
use Rattle.distping_report.proofs.piece.line_of.Given as goal

abbrev pub invariant-loop-piece : goal.invariant-loop-piece
invariant-loop-piece l = string_bytes l.line ≡ flat_map piece_text (take l.piece-index l.pieces)
