use Rattle.std.proofs.Common.{refl}
use Rattle.std.proofs.lemmas.Result.{IfOk-weaker}
use Rattle.distping_capture.proofs.Following.{both_ok}
use Rattle.distping_capture.proofs.connections.CapturedConnections.finish.Goals as goal

pub returns : goal.returns
returns g c =
    IfOk-weaker c.finish.result _ _
    (λ status both. (
      record { counts = c.args.counts; forgotten = c.give_up_all.new.self.forgotten; is_cut_off = c.args.is_cut_off },
      (refl, refl),
      (
        c.give_up_all.new.self.journal,
        record { exit = both.0; outcome = both.1 },
        λ t port segments json old follows. (c.in_ok-give_up_all.ensures t port segments json old follows).keeps,
      ),
    )) (both_ok c.finish.result _ _ c.finish.ensures.exit c.finish.ensures.prints)
