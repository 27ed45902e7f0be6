use Rattle.std.proofs.{Common.arith, lemmas.Grind.common_steps}
use Rattle.dist_secret.proofs.cookie.read_text.Goals as goal

pub returns-then-not-all_may_follow : goal.returns-then-not-all_may_follow
returns-then-not-all_may_follow c = grind (arith, common_steps)

pub returns : goal.returns
returns c = grind (arith, common_steps)

pub returns-in_err-from_slice : goal.returns-in_err-from_slice
returns-in_err-from_slice c = grind (arith, common_steps)
