use Rattle.dist_core_laws.proofs.Records.{right_runs, right_first, right_step, right_change, right_act}
use Rattle.dist_core_laws.proofs.record_laws.records_stay_right.Goals as goal

pub returns : goal.returns
returns c = record { runs = right_runs; first = right_first; step = right_step; change = right_change; act = right_act }
