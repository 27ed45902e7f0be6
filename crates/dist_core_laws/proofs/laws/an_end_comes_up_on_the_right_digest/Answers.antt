use Rattle.dist_core.proofs.Rows.{row-in}
use Rattle.dist_core_laws.proofs.Rises.{by-row}
use Rattle.dist_core_laws.proofs.laws.an_end_comes_up_on_the_right_digest.Goals as goal

pub returns : goal.returns
returns c n v fresh f r is e = by-row n r v fresh f (row-in n v fresh f is) e
