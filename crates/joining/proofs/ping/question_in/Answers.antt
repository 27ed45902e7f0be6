use Rattle.std.proofs.Common.{refl, ◌≡◌, ◌++◌, sym, ap, ◌∙◌, subst}
use Rattle.std.proofs.lemmas.List.{append_cancel_left}
use Rattle.joining.proofs.Asking.{pids_agree}
use Rattle.joining.specs.Ping.{reg_send, asked_after_pid, IsTag}
use Rattle.joining.proofs.ping.question_in.Goals as goal

pub returns-in_err-pid-clause-none : goal.returns-in_err-pid-clause-none
returns-in_err-pid-clause-none c = λ _ pid tag a.
    c.in_err-pid.ensures.none refl pid a.node (asked_after_pid pid tag a.node) a.by
    (append_cancel_left reg_send c.in_ok-rest.rest.now (pid ++ asked_after_pid pid tag a.node) (sym c.in_ok-rest.ensures ∙ a.packet_is))

pub returns-in_err-tag-clause-none : goal.returns-in_err-tag-clause-none
returns-in_err-tag-clause-none c = λ _ pid tag a.
    let whole : c.in_ok-rest.rest.now ≡ pid ++ asked_after_pid pid tag a.node =
    append_cancel_left reg_send c.in_ok-rest.rest.now (pid ++ asked_after_pid pid tag a.node) (sym c.in_ok-rest.ensures ∙ a.packet_is) in
    let agree = pids_agree c.in_ok-pid.pid.now c.in_ok-pid.node.now c.in_ok-pid.rest.now pid a.node (asked_after_pid pid tag a.node)
    c.in_ok-pid.ensures.some a.by (sym c.in_ok-pid.ensures.parts ∙ whole) in
    c.in_err-tag.ensures.none refl tag (subst (IsTag tag) (sym agree.1) a.with_tag)
    (agree.2
    ∙ ap (λ p. asked_after_pid p tag a.node) (sym agree.0)
    ∙ ap (λ n. asked_after_pid c.in_ok-pid.pid.now tag n) (sym agree.1))
