use Rattle.std.proofs.Common.{rules}
use Rattle.distnode.proofs.matched.order_in.Goals as goal

pub returns-in-cookie : goal.returns-in-cookie
returns-in-cookie c =
    let found = c.cookie_order.ensures c.args.usual in
    search rules

pub returns-in-run : goal.returns-in-run
returns-in-run c =
    let found = c.run_order.ensures c.args.usual in
    search rules
