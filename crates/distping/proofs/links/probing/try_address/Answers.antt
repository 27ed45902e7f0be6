use Rattle.std.proofs.Common.{subst}
use Rattle.distping.specs.Coming.{OutcomeComes}
use Rattle.distping.proofs.Trying.{push_comes}
use Rattle.distping.proofs.links.probing.try_address.Goals as goal

pub returns-clause-comes : goal.returns-clause-comes
returns-clause-comes c = λ before.
    let found = (let attempt = c.probe_node.new.self in attempt.found) in
    let came = subst (λ d. OutcomeComes d found c.probe_node.result) c.in_ok-attempt.ensures.dial c.probe_node.ensures.comes in
    push_comes c.args.dial.now c.args.all.now c.push.new.self found c.in_ok-verdict.verdict c.args.all.now.paired c.in_ok-push.ensures.found
    c.in_ok-push.ensures.verdict (c.in_ok-verdict.ensures c.args.dial.now found came) before
