use Rattle.dist_core_laws.proofs.Limits.{within_first, within_runs, within_step}
use Rattle.dist_core_laws.proofs.limit_laws.limits_are_kept.Goals as goal

pub returns : goal.returns
returns c = record { runs = within_runs; first = within_first; step = within_step }
