use Rattle.dist_core_laws.proofs.Others.{another}
use Rattle.dist_core_laws.proofs.laws.another_end_is_replaced.Goals as goal

pub returns : goal.returns
returns c n v fresh f x s legal is o = another n legal v fresh f x s is o
