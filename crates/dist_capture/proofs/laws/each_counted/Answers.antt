use Rattle.dist_capture.proofs.Counted as lemmas
use Rattle.dist_capture.proofs.laws.each_counted.Goals as goal

pub returns : goal.returns
returns c = lemmas.each_counted
