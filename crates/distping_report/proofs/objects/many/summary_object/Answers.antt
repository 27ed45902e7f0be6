-- The members of the summary, one behind the other.
use Rattle.std.proofs.{Common.ap, Common.arith, Common.decimal, Common.refl, Common.Some, lemmas.Result.IfOk-weaker}
use Rattle.json.specs.Json as json
use Rattle.distping_report.proofs.Shallow.{PutsFlat, flat_both, flat_line, flat_named}
use Rattle.distping_report.proofs.objects.many.summary_object.Goals as goal

pub returns : goal.returns
returns c =
    let front : PutsFlat _ c.in_ok-out.out c.put_members.new.out = record { flat = omega arith; put = c.in_ok-put_members.ensures } in
    let pairs : PutsFlat _ c.put_counts.new.out c.put_members-2.new.out = record { flat = omega arith; put = c.in_ok-put_members-2.ensures } in
    let exit : PutsFlat _ c.put_counts-2.new.out c.put_members-3.new.out = record { flat = omega arith; put = c.in_ok-put_members-3.ensures } in
    let puts = flat_both (flat_both (flat_both (flat_both front (flat_named c.in_ok-put_counts.ensures)) pairs) (flat_named c.in_ok-put_counts-2.ensures)) exit in
    IfOk-weaker c.end_line.result _ _ (λ line ends. record {
      layout = _;
      object = flat_line c.in_ok-out.ensures puts ends;
      found = (refl, (ap (λ n. Some (json.number (decimal n))) c.from.ensures, tt));
    }) c.end_line.ensures
