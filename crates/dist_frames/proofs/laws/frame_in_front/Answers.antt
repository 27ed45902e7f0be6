use Rattle.std.proofs.Common.{w16}
use Rattle.dist_frames.proofs.Splitting.{wide16, first_framed, after_framed, first_alone, after_alone}
use Rattle.dist_frames.proofs.laws.frame_in_front.Goals as goal

pub returns-clause-body : goal.returns-clause-body
returns-clause-body c = first_framed w16 wide16

pub returns-clause-behind : goal.returns-clause-behind
returns-clause-behind c = after_framed w16 wide16

pub returns-clause-alone : goal.returns-clause-alone
returns-clause-alone c = first_alone w16 wide16

pub returns-clause-nothing : goal.returns-clause-nothing
returns-clause-nothing c = after_alone w16 wide16
