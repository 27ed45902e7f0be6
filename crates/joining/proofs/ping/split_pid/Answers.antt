use Rattle.std.proofs.Common.{Some, sym, ap, drop, ◌++◌, ◌+◌, ◌∙◌, take-append-drop}
use Rattle.joining.proofs.Asking.{pid_at_front}
use Rattle.joining.proofs.ping.split_pid.Goals as goal

pub returns-clause-some : goal.returns-clause-some
returns-clause-some c =
    pid_at_front c.args.bytes.now c.in_ok-rest.rest.now c.in_ok-pid.pid.now c.in_ok-pid.rest.now c.from-count.result
    c.in_ok-rest.ensures (sym c.in_ok-first.ensures.value ∙ ap Some (sym c.from-count.ensures)) c.in_ok-pid.ensures.cases.3
    (sym (take-append-drop (15 + c.from-count.result) c.args.bytes.now) ∙ ap (λ l. l ++ drop (15 + c.from-count.result) c.args.bytes.now) (sym c.in_ok-pid.ensures.cases.1)
    ∙ ap (λ l. c.in_ok-pid.pid.now ++ l) (sym c.in_ok-pid.ensures.cases.2))
