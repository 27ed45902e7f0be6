use Rattle.dist_audit.proofs.auditing.play_in_order.Goals as goal

pub returns-clause-played : goal.returns-clause-played
returns-clause-played c = (c.in_ok-lines.lines, c.in_ok-lines.ensures.ok, c.in_ok-play.ensures.world, c.in_ok-play.ensures.one_world, c.strangers.ensures)
