use Rattle.dist_conversation.specs.Verdicts.{is_talk}
use Rattle.distping_capture.proofs.Keeping.{keeps_ended, keeps_still, on_both, same_printed, still_nodes, still_unregistered}
use Rattle.distping_capture.proofs.journal.CaptureJournal.end.Goals as goal

pub returns : goal.returns
returns g c =
    let first = c.put_end.new.self in
    let second = c.put_unregistered.new.self in
    on_both c.put_object.result c.put_object.ensures.rest c.put_object.ensures.prints
    (λ rest prints t port segments json old is keeps. keeps_ended c.args.judged.now.verdict (is_talk c.args.judged.now.carried) second c.put_object.new.self (same_printed second c.put_object.new.self rest) prints t port segments json
    old is (keeps_still first second (still_unregistered first second c.in_ok-put_unregistered.ensures) t port segments json old
    (keeps_still c.args.self.now first (still_nodes c.args.self.now first c.in_ok-put_end.ensures) t port segments json old keeps)))
