use Rattle.std.proofs.Common.{rules}
use Rattle.distping_capture.proofs.Keeping.{keeps_noted, keeps_still, on_ok, same_printed, still_asked, still_nodes}
use Rattle.distping_capture.proofs.journal.CaptureJournal.note.Goals as goal

pub returns : goal.returns
returns g c =
    let first = c.note_found.new.self in
    let second = c.note_asked.new.self in
    let third = c.put_verdict.new.self in
    on_ok c.note_attempt.result c.note_attempt.ensures
    (λ added t port segments json old judged keeps. keeps_noted c.args.seen.now c.args.now c.args.judged.now c.in-Some.verdict second third c.note_attempt.new.self (search rules)
    (same_printed second third c.in_ok-put_verdict.ensures.rest) c.in_ok-put_verdict.ensures.prints added t port segments json old judged
    (keeps_still first second (still_asked first second c.note_asked.ensures.rest c.note_asked.ensures.found) t port segments json old
    (keeps_still c.args.self.now first (still_nodes c.args.self.now first c.in_ok-note_found.ensures) t port segments json old keeps)))

pub returns-in_default : goal.returns-in_default
returns-in_default g c = λ t port segments json old judged keeps.
    let first = c.note_found.new.self in
    let second = c.note_asked.new.self in
    keeps_still first second (still_asked first second c.note_asked.ensures.rest c.note_asked.ensures.found) t port segments json old
    (keeps_still c.args.self.now first (still_nodes c.args.self.now first c.in_ok-note_found.ensures) t port segments json old keeps)
