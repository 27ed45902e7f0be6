use Rattle.std.proofs.Common.{◌≡◌, ◌+◌, ◌≤◌, List, ℕ, length, drop, None, Some, sym, subst, ◌∙◌, arith, rules}
use Rattle.dist_talk.specs.declared.handshake.SentMessage.{SentMessage}
use Rattle.dist_conversation.specs.Said.{body_in}
use Rattle.dist_conversation.proofs.Saying.{Reads, reads_end, reads_full, reads_last, reads_more}
use Rattle.dist_conversation.proofs.said.read_all.Goals as goal

pub returns-in_default-clause-messages : goal.returns-in_default-clause-messages
returns-in_default-clause-messages c =
    let none : body_in c.args.side (drop c.messages.count c.args.bytes.now) ≡ None = search rules in
    (reads_end _ _ _ _ _ (omega (arith, c.messages.messages.ok.0)) none c.messages.invariant).0

pub returns-in_default-clause-left : goal.returns-in_default-clause-left
returns-in_default-clause-left c =
    let none : body_in c.args.side (drop c.messages.count c.args.bytes.now) ≡ None = search rules in
    c.split_at.ensures.back ∙ (reads_end _ _ _ _ _ (omega (arith, c.messages.messages.ok.0)) none c.messages.invariant).1

pub returns-then-is_last-clause-messages : goal.returns-then-is_last-clause-messages
returns-then-is_last-clause-messages c =
    let some : body_in c.args.side (drop c.messages.count c.args.bytes.now) ≡ Some c.in-Some.body.now = search rules in
    c.in_ok-push.ensures.items ∙ (reads_last _ _ _ _ _ c.in-Some.body.now c.in_ok-sent.sent (omega (arith, c.messages.messages.ok.0)) some c.in_ok-sent.ensures (sym c.ends_part-is_last.ensures ∙ c.if-is_last.true) c.messages.invariant).0

pub returns-then-is_last-clause-left : goal.returns-then-is_last-clause-left
returns-then-is_last-clause-left c =
    let some : body_in c.args.side (drop c.messages.count c.args.bytes.now) ≡ Some c.in-Some.body.now = search rules in
    (reads_last _ _ _ _ _ c.in-Some.body.now c.in_ok-sent.sent (omega (arith, c.messages.messages.ok.0)) some c.in_ok-sent.ensures (sym c.ends_part-is_last.ensures ∙ c.if-is_last.true) c.messages.invariant).1

pub messages-preserved : goal.messages-preserved
messages-preserved c =
    let some : body_in c.args.side (drop c.messages.count c.args.bytes.now) ≡ Some c.in-Some.body.now = search rules in
    let size : length c.in-Some.body.now + 2 ≤ length (drop c.messages.count c.args.bytes.now) = subst (λ (l : List ℕ). length c.in-Some.body.now + 2 ≤ length l) c.split_at.ensures.back c.in-Some.ensures.size in
    subst (λ (l : List SentMessage). Reads c.args.side c.args.pieces.now c.args.bytes.now l (c.messages.count + (length c.in-Some.body.now + 2))) (sym c.in_ok-push.ensures.items)
    (reads_more _ _ _ _ _ c.in-Some.body.now c.in_ok-sent.sent (omega (arith, c.messages.messages.ok.0)) size some c.in_ok-sent.ensures (sym c.ends_part-is_last.ensures ∙ c.if-is_last.false) c.messages.invariant)

pub returns-clause-messages : goal.returns-clause-messages
returns-clause-messages c = (reads_full _ _ _ _ _ (omega (arith, c.messages.messages.ok.0)) c.messages.invariant).0

pub returns-clause-left : goal.returns-clause-left
returns-clause-left c = (reads_full _ _ _ _ _ (omega (arith, c.messages.messages.ok.0)) c.messages.invariant).1
