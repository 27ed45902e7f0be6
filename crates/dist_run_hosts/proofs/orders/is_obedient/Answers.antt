use Rattle.std.proofs.Common.{All, refl, sym, subst}
use Rattle.dist_run_hosts.specs.Orders.{HaveOpenings, IsObeyed, LineIsObeyed, lines_in}
use Rattle.dist_run_hosts.proofs.Obeying.{all-peers, each-order, each-line}
use Rattle.dist_run_hosts.proofs.orders.is_obedient.Goals as goal

pub returns-then-have_openings : goal.returns-then-have_openings
returns-then-have_openings c =
    let orders = c.as_slice-orders.result.now in
    let faults = c.args.faults.now in
    let closed = c.args.closed.now in
    let says = c.are_named.ensures in
    let lines = c.as_slice-lines.ensures.value in (
      λ t. record {
        each = subst (λ o. (to : _) → IsObeyed o faults closed to) c.as_slice-orders.ensures (all-peers orders faults closed (says.0 t).0 (subst (All (LineIsObeyed orders faults closed)) lines (says.0 t).1));
        openings = subst (λ n. HaveOpenings n (lines_in closed)) c.as_slice-nodes.ensures (subst (HaveOpenings c.as_slice-nodes.result.now) lines (c.if-have_openings.ensures.0 refl));
      },
      λ h.
          let each = subst (λ o. (to : _) → IsObeyed o faults closed to) (sym c.as_slice-orders.ensures) h.each in
          says.1 (each-order orders faults closed each orders, each-line orders faults closed each c.as_slice-lines.result.now),
    )
