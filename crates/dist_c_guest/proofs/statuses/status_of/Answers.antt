use Rattle.dist_c_guest.proofs.Spelled.{no_tag, other_tag}
use Rattle.dist_c_guest.proofs.statuses.status_of.Goals as goal

pub returns-in_default : goal.returns-in_default
returns-in_default c = no_tag c.args.body.now c.in_default.len_below

pub returns-then-tag-ne115 : goal.returns-then-tag-ne115
returns-then-tag-ne115 c = other_tag c.args.body.now c.in-len1-up.len_at_least c.if-tag-ne115.true
