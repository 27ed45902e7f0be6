use Rattle.dist_core.proofs.Rows.{row-in}
use Rattle.dist_core_laws.proofs.Answering.{by-row}
use Rattle.dist_core_laws.proofs.laws.a_reply_is_said_to_the_dialled_name.Goals as goal

pub returns : goal.returns
returns c n v fresh f legal is o = by-row n legal v fresh f (row-in n v fresh f is) o
