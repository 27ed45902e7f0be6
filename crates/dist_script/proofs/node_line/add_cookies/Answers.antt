use Rattle.dist_script.proofs.Rows.{one_cookie, last_cookie}
use Rattle.dist_script.proofs.node_line.add_cookies.Goals as goal

pub cookies-preserved : goal.cookies-preserved
cookies-preserved c =
    rw c.in_ok-add_cookie.ensures.rest (one_cookie c.args.cookies.now c.cookies.cookies c.args.words.now c.cookies.words c.cookies.invariant c.skip.new.self _ c.cookies-test.ensures c.in_ok-add_cookie.ensures.adds)

pub returns : goal.returns
returns c = last_cookie c.args.cookies.now c.cookies.cookies c.args.words.now c.cookies.words c.cookies.invariant c.skip.new.self c.cookies-test.ensures.0 c.cookies-test.ensures.1
