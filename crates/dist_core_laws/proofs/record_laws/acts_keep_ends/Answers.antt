use Rattle.dist_core_laws.proofs.Records.{ends_stay, steps_stay, legal_runs, within_runs, limits_runs}
use Rattle.dist_core_laws.proofs.record_laws.acts_keep_ends.Goals as goal

pub returns : goal.returns
returns c = record { legal = legal_runs; within = within_runs; limits = limits_runs; ends = ends_stay; steps = steps_stay }
