use Rattle.dist_frames.proofs.Times.{heard-in-time, silent-given-up}
use Rattle.dist_frames.proofs.link_laws.a_silent_peer_is_given_up.Goals as goal

pub returns-clause-heard : goal.returns-clause-heard
returns-clause-heard c = heard-in-time

pub returns-clause-silent : goal.returns-clause-silent
returns-clause-silent c = silent-given-up
