use Rattle.std.proofs.Common.{◌≡◌, ◌++◌, sym, ◌∙◌, subst, append_assoc}
use Rattle.std.proofs.lemmas.{Bool.false≢true, List.append_cancel_right}
use Rattle.joining.proofs.Asking.{after_second_pid, before_node, question_of_parts}
use Rattle.joining.specs.Ping.{is_auth, IsTag}
use Rattle.joining.proofs.ping.tag_in.Goals as goal

pub returns-in_err-rest-clause-none : goal.returns-in_err-rest-clause-none
returns-in_err-rest-clause-none c = λ _ tag h e. c.in_err-rest.ensures _ e

pub returns-in_err-rest-2-clause-none : goal.returns-in_err-rest-2-clause-none
returns-in_err-rest-2-clause-none c = λ _ tag h e. c.in_err-rest-2.ensures (tag ++ is_auth)
    (after_second_pid c.args.bytes.now c.in_ok-rest.rest.now c.args.pid.now c.in_ok-after.field-0.now tag c.args.node.now
    c.in_ok-rest.ensures c.in_ok-after.ensures e
    ∙ sym (append_assoc tag is_auth c.args.node.now))

pub returns-in_err-tag-clause-none : goal.returns-in_err-tag-clause-none
returns-in_err-tag-clause-none c = λ _ tag h e. c.in_err-tag.ensures tag
    (before_node c.args.bytes.now c.in_ok-rest.rest.now c.args.pid.now c.in_ok-after.field-0.now c.in_ok-rest-2.rest.now tag c.args.node.now
    c.in_ok-rest.ensures c.in_ok-after.ensures c.in_ok-rest-2.ensures e)

pub returns-then-is_tag-clause-whole : goal.returns-then-is_tag-clause-whole
returns-then-is_tag-clause-whole c =
    question_of_parts c.args.bytes.now c.in_ok-rest.rest.now c.args.pid.now c.in_ok-after.field-0.now c.in_ok-rest-2.rest.now c.in_ok-tag.tag.now c.args.node.now
    c.in_ok-rest.ensures c.in_ok-after.ensures c.in_ok-rest-2.ensures c.in_ok-tag.ensures

pub returns-else-is_tag-clause-none : goal.returns-else-is_tag-clause-none
returns-else-is_tag-clause-none c = λ _ tag h e.
    let front = before_node c.args.bytes.now c.in_ok-rest.rest.now c.args.pid.now c.in_ok-after.field-0.now c.in_ok-rest-2.rest.now tag c.args.node.now
    c.in_ok-rest.ensures c.in_ok-after.ensures c.in_ok-rest-2.ensures e in
    let same : c.in_ok-tag.tag.now ≡ tag = append_cancel_right c.in_ok-tag.tag.now tag is_auth (sym c.in_ok-tag.ensures ∙ front) in
    false≢true (c.if-is_tag.ensures.no (subst (λ t. IsTag t c.args.node.now) (sym same) h))
