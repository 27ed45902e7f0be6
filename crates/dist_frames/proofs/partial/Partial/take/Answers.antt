use Rattle.std.proofs.Common.{◌≡◌, ◌++◌, drop, ap, ◌∙◌, arith, w32}
use Rattle.std.specs.Int.{to_be_bytes}
use Rattle.dist_frames.specs.Stream.{packets, partial}
use Rattle.dist_frames.proofs.Owing.{header_done, joined}
use Rattle.dist_frames.proofs.partial.Partial.take.Goals as goal

whole : (c : goal.After-self-5-1) → c.args.self.now ++ c.args.piece.now ≡ to_be_bytes w32 c.number_of-self-inside.result ++ drop c.min-used.result c.args.piece.now
whole c = joined c.args.self.now c.self.inside.header c.fill-self-inside.result c.args.piece.now c.self.inside.owed c.self.inside.len c.min-used.result c.number_of-self-inside.result c.if-self-gt0.false c.self.view_is c.fill-self-inside.ensures.filled c.fill-self-inside.ensures.len c.if-self-lt4.false c.number_of-self-inside.ensures

pub returns-clause-count : goal.returns-clause-count
returns-clause-count c = ap packets (whole c) ∙ (header_done c.number_of-self-inside.result c.fill-self-inside.result (drop c.min-used.result c.args.piece.now) (omega arith)).count

pub returns-clause-left : goal.returns-clause-left
returns-clause-left c = ap partial (whole c) ∙ (header_done c.number_of-self-inside.result c.fill-self-inside.result (drop c.min-used.result c.args.piece.now) (omega arith)).left
