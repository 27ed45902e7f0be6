use Rattle.dist_conversation.proofs.Concluding.{wrong_cookie_shows}
use Rattle.dist_conversation.proofs.laws.wrong_cookie_shows.Goals as goal

pub returns : goal.returns
returns c = wrong_cookie_shows
