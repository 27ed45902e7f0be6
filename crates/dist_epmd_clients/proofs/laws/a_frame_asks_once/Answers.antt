use Rattle.dist_epmd_clients.proofs.Frames.{front_waits, whole_asks, behind_asks}
use Rattle.dist_epmd_clients.proofs.laws.a_frame_asks_once.Goals as goal

pub returns-clause-front : goal.returns-clause-front
returns-clause-front c = front_waits

pub returns-clause-whole : goal.returns-clause-whole
returns-clause-whole c = whole_asks

pub returns-clause-behind : goal.returns-clause-behind
returns-clause-behind c = behind_asks
