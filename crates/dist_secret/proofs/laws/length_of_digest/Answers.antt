use Rattle.dist_secret.proofs.Digests.{digest_length}
use Rattle.dist_secret.proofs.laws.length_of_digest.Goals as goal

pub returns : goal.returns
returns c = digest_length
