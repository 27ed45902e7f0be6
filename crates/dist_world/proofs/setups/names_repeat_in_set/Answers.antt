use Rattle.std.proofs.Common.{◌≡◌, suc, ◌-◌, ◌<◌, true, get_or, drop, length, sym, ◌∙◌, subst, arith}
use Rattle.dist_world.specs.Setups.{is_named}
use Rattle.dist_world.proofs.Naming.{named_behind}
use Rattle.dist_world.proofs.setups.names_repeat_in_set.Goals as goal

pub returns-then-branch : goal.returns-then-branch
returns-then-branch c =
    let i = c.loop-i.i - 1 in
    let one = get_or c.args.setups.now i c.index-setups-i.result in
    let next : c.loop-i.i ≡ suc i = omega (arith, c.loop-i-test.true) in
    let few : i < length c.args.setups.now = omega (arith, c.loop-i-test.true, c.loop-i.invariant.0) in
    let named : is_named (drop c.loop-i.i c.args.setups.now) one.name ≡ true = sym (c.loop-i.invariant.2 one.name) ∙ sym c.in_ok-put_name.ensures.was ∙ c.if-branch.true in
    sym (named_behind c.args.setups.now i c.index-setups-i.result few (subst (λ k. is_named (drop k c.args.setups.now) one.name ≡ true) next named))
