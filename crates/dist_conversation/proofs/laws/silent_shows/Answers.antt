use Rattle.dist_conversation.proofs.Concluding.{silent_shows}
use Rattle.dist_conversation.proofs.laws.silent_shows.Goals as goal

pub returns : goal.returns
returns c = silent_shows
