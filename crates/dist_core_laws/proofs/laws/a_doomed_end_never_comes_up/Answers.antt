use Rattle.dist_core_laws.proofs.Doomed.{shuts-own, stays-or-closes}
use Rattle.dist_core_laws.proofs.laws.a_doomed_end_never_comes_up.Goals as goal

pub returns : goal.returns
returns c = record { step = stays-or-closes; up = λ n v fresh f e is at d. (let h = shuts-own n v fresh f e is at d in h.up) }
