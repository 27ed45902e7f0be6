use Rattle.distping.proofs.Trying.{outcome_comes}
use Rattle.distping.proofs.links.probing.probe.Goals as goal

pub returns-clause-comes : goal.returns-clause-comes
returns-clause-comes c =
    outcome_comes c.args.dial.now c.in_ok-all.all c.into_outcome.result c.into_outcome.ensures.some c.into_outcome.ensures.none c.in_ok-all.ensures.comes
