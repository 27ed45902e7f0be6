use Rattle.dist_conformance.proofs.Decided.{kept}
use Rattle.dist_conformance.proofs.laws.kept_by_a_match.Goals as goal

pub returns : goal.returns
returns c = λ demand o p e. let f = kept demand o p e in (f.patterns, f.among, f.is)
