use Rattle.std.proofs.Common.{◌+◌, List, [], ◌∷◌, ◌++◌, sym, ap, ◌∙◌, add-one, rules}
use Rattle.dist_locked.specs.{Orders.orders_below, declared.rule.DialOrder.DialOrder}
use Rattle.dist_locked.proofs.dispatching.dispatch.Goals as goal

pub loop-number-init : goal.loop-number-init
loop-number-init c = search rules

pub put_one-requires-2-clause-room : goal.put_one-requires-2-clause-room
put_one-requires-2-clause-room c = search rules

pub put_one-requires-3-clause-room : goal.put_one-requires-3-clause-room
put_one-requires-3-clause-room c = search rules

pub returns-clause-put : goal.returns-clause-put
returns-clause-put c = search rules

pub loop-number-preserved : goal.loop-number-preserved
loop-number-preserved g c = (
  c.put_one.ensures.own ∙ c.loop-number.invariant.0,
  c.put_one.ensures.own ∙ c.loop-number.invariant.1,
  c.put_one.ensures.put ∙ (ap (λ (orders : List DialOrder). orders ++ record { 0 = c.loop-number.number } ∷ []) c.loop-number.invariant.2 ∙ ap orders_below (sym (add-one c.loop-number.number))),
  c.put_one.ensures.longer ∙ ap (λ n. n + 1) c.loop-number.invariant.3,
)
