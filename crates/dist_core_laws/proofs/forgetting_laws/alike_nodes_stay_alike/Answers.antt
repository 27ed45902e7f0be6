use Rattle.dist_core_laws.proofs.Forgetting.{never_forgets, same_acts, same_run}
use Rattle.dist_core_laws.proofs.forgetting_laws.alike_nodes_stay_alike.Goals as goal

pub returns : goal.returns
returns c = record { runs = λ m n events. same_run events m n; acts = same_acts; never = never_forgets }
