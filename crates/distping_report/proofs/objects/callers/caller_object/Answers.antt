-- The members of a connection, one behind the other.
use Rattle.std.proofs.{Common.ap, Common.arith, Common.decimal, Common.refl, Common.Some, lemmas.Result.IfOk-weaker}
use Rattle.json.specs.Json as json
use Rattle.dist_talk.specs.Words.{status_of, verdict_word}
use Rattle.distping_report.proofs.Shallow.{PutsFlat, flat_both, flat_line, flat_named, flat_values}
use Rattle.distping_report.proofs.objects.callers.caller_object.Goals as goal

pub returns : goal.returns
returns c =
    let call = c.call_members.ensures in
    let front : PutsFlat _ c.in_ok-out.out c.put_members.new.out = record { flat = omega arith; put = c.in_ok-put_members.ensures } in
    let called = flat_values c.call_members.result _ call.3 c.in_ok-put_members-2.ensures in
    let judged = flat_values c.verdict_members.result _ c.verdict_members.ensures c.in_ok-put_members-3.ensures in
    let puts = flat_both (flat_both (flat_both front called) (flat_named c.in_ok-put_peer.ensures)) judged in
    IfOk-weaker c.end_line.result _ _ (λ line ends. record {
      layout = _;
      object = flat_line c.in_ok-out.ensures puts ends;
      found = (refl, (ap (λ v. Some (json.string (verdict_word v))) c.of.ensures, (ap (λ v. Some (json.number (decimal (status_of v)))) c.of.ensures, tt)));
    }) c.end_line.ensures
