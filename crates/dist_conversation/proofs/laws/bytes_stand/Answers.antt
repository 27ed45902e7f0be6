use Rattle.dist_conversation.proofs.Standing.{bytes_stand}
use Rattle.dist_conversation.proofs.laws.bytes_stand.Goals as goal

pub returns : goal.returns
returns c = bytes_stand
