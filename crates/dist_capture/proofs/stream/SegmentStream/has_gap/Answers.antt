use Rattle.std.proofs.Common.{is_some, position, nat_lt, ap, ◌∙◌}
use Rattle.dist_capture.specs.Streams.{Gathering}
use Rattle.dist_capture.proofs.Ending.{gap_there}
use Rattle.dist_capture.proofs.stream.SegmentStream.has_gap.Goals as goal

pub returns : goal.returns
returns c =
    ap (nat_lt 0) c.len.ensures ∙ gap_there c.self.inside.places c.self.invariant.1 ∙ ap (λ (s : Gathering). is_some (position is_some s.waiting)) c.self.view_is
