use Rattle.dist_world_model.proofs.{AgreementOfWorlds.agreement_holds, OwnSetups.as-begun, ReachedWorlds.open_agree, ReachedWorlds.reached_agree, ReachedWorlds.reached_traced}
use Rattle.dist_world_model.proofs.laws.nodes_agree.Goals as goal

pub returns : goal.returns
returns c = record { begun = as-begun; traced = reached_traced; runs = agreement_holds c.nodes_keep_laws.ensures; reached = reached_agree c.nodes_keep_laws.ensures; strangers = open_agree c.nodes_keep_laws.ensures }
