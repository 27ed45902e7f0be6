use Rattle.std.proofs.Common.{refl, length, subst}
use Rattle.dist_run_hosts.specs.Orders.{RiseWithin}
use Rattle.dist_run_hosts.proofs.orders.are_obeyed.Goals as goal

pub returns-then-rise_within : goal.returns-then-rise_within
returns-then-rise_within c = (
  λ t. record {
    numbers = subst (λ o. RiseWithin 0 (length o) c.args.faults.now) c.as_slice.ensures (c.if-rise_within.ensures.0 refl);
    dials = c.are_obedient.ensures.0 t;
  },
  λ h. c.are_obedient.ensures.1 h.dials,
)
