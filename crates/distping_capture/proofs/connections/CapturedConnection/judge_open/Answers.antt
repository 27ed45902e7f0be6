use Rattle.std.proofs.Common.{inl, rules}
use Rattle.distping_capture.proofs.{Following.ends_judged, Keeping.on_both}
use Rattle.distping_capture.proofs.connections.CapturedConnection.judge_open.Goals as goal

pub returns-in-Some : goal.returns-in-Some
returns-in-Some g c =
    let due = rw c.in-Some.is at c.in_ok-judged.ensures.due in
    let verdict = rw c.in-Some.is at c.in_ok-judged.ensures.verdict in
    on_both c.note.result c.note.ensures.keeps c.note.ensures.judged
    (λ keeps judged open_. ends_judged c.args.self.now c.note.new.self c.args.now c.in-Some.judged c.args.journal.now c.note.new.journal (search rules) open_ judged.0 (inl due) verdict keeps)
