use Rattle.std.proofs.Common.{ap, ◌∙◌, rules}
use Rattle.dist_frames.specs.Reader.{to_come}
use Rattle.dist_frames.proofs.Readers.{drops_next}
use Rattle.dist_frames.proofs.frames.Frames.drop_front.Goals as goal

pub returns-clause-rest : goal.returns-clause-rest
returns-clause-rest c = ap to_come (search rules) ∙ drops_next c.args.self.now
