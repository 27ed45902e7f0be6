use Rattle.dist_conversation.proofs.Concluding.{up_shows}
use Rattle.dist_conversation.proofs.laws.up_shows.Goals as goal

pub returns : goal.returns
returns c = up_shows
