use Rattle.std.proofs.Common.{rules}
use Rattle.dist_secret.proofs.Copies.{next_more}
use Rattle.dist_secret.proofs.cookies.copy_entries.Goals as goal

pub loop-row-preserved : goal.loop-row-preserved
loop-row-preserved c =
    next_more c.args.cookies.now.entries c.loop-row.copy.entries c.insert.new.self.entries c.loop-row.row-iterator c.next.new.self
    (c.in-Some.row.0.now, c.in-Some.row.1.now) c.in_ok-name.name c.in_ok-cookie.cookie c.iter-row-items.ensures.ordered
    c.loop-row.invariant c.in-Some.ensures.steps c.in_ok-name.ensures c.in_ok-cookie.ensures (search rules)
