-- One address more.
use Rattle.std.proofs.Common.{◌∙◌, ◌∷◌, [], arith, ap, length, subst, sym}
use Rattle.std.proofs.lemmas.List.{Elements.All-push, length-append}
use Rattle.std.specs.List.{All}
use Rattle.distping.specs.Trying.{IsMissed}
use Rattle.distping.proofs.links.probing.find_node.Goals as goal

pub loop-address-preserved : goal.loop-address-preserved
loop-address-preserved c =
    let before = c.loop-address.all.verdicts.items in
    let verdict = c.in_ok-try_address.field-0 in
    let more = c.in_ok-try_address.ensures.verdict in
    let longer = ap length more ∙ length-append before (verdict ∷ []) in
    let many = c.loop-address.invariant.2 in (
      c.in_ok-try_address.ensures.comes c.loop-address.invariant.0,
      subst (All IsMissed) (sym more) (All-push IsMissed before verdict c.loop-address.invariant.1 (sym c.if-is_found.ensures)),
      omega (arith, longer, many),
    )
