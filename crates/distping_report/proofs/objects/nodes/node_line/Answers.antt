-- The members of a node, one behind the other.
use Rattle.std.proofs.{Common.arith, Common.refl, lemmas.Result.IfOk-weaker}
use Rattle.distping_report.proofs.Shallow.{PutsFlat, flat_both, flat_line, flat_named, flat_values, value_flat}
use Rattle.distping_report.proofs.objects.nodes.node_line.Goals as goal

pub returns : goal.returns
returns c =
    let names = flat_values c.name_members.result _ c.name_members.ensures c.in_ok-put_members.ensures in
    let address : PutsFlat _ c.put_members.new.out c.put_members-2.new.out = record {
      flat = omega (arith, value_flat c.address_or_null.result);
      put = c.in_ok-put_members-2.ensures;
    } in
    let answer : PutsFlat _ c.put_registration.new.out c.put_members-3.new.out = record {
      flat = omega (arith, value_flat c.number_or_null.result, value_flat c.status_or_null.result);
      put = c.in_ok-put_members-3.ensures;
    } in
    let judged = flat_values c.verdict_members.result _ c.verdict_members.ensures c.in_ok-put_members-4.ensures in
    let asked = flat_both (flat_both names address) (flat_named c.in_ok-put_registration.ensures) in
    let puts = flat_both (flat_both (flat_both (flat_both asked answer) (flat_named c.in_ok-put_peer.ensures)) judged) (flat_named c.in_ok-put_tries.ensures) in
    IfOk-weaker c.end_line.result _ _ (λ line ends. record {
      layout = _;
      object = flat_line c.in_ok-out.ensures puts ends;
      found = (refl, (refl, (refl, (refl, tt))));
    }) c.end_line.ensures
