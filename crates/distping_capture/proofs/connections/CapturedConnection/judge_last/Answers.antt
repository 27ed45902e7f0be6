use Rattle.std.proofs.Common.{inr, rules}
use Rattle.distping_capture.proofs.{Following.ends_judged, Keeping.on_both}
use Rattle.distping_capture.proofs.connections.CapturedConnection.judge_last.Goals as goal

pub returns : goal.returns
returns g c =
    on_both c.note.result c.note.ensures.keeps c.note.ensures.judged
    (λ keeps judged open_. ends_judged c.args.self.now c.note.new.self c.args.now c.in_ok-judged.judged c.args.journal.now c.note.new.journal (search rules) open_ judged.0 (inr (c.other_end-other.result, c.in_ok-judged.ensures.carried))
    c.in_ok-judged.ensures.verdict keeps)
