use Rattle.std.proofs.Common.{◌≡◌, List, ℕ, ap, ◌∙◌}
use Rattle.std.proofs.lemmas.Result.{IfOk-weaker}
use Rattle.dist_conversation.specs.{Flows.bytes_of, Said.Said, Said.said_by, Said.said_from}
use Rattle.dist_conversation.specs.declared.{pieces.Arrival.Arrival}
use Rattle.dist_conversation.proofs.said.said_by.Goals as goal

whole : (c : goal.After-read_all) → said_from 8 c.args.side c.as_slice.result.now c.bytes-bytes.result.now 0 ≡ said_by c.args.side c.args.conversation.now
whole c =
    ap (λ (p : List Arrival). said_from 8 c.args.side p c.bytes-bytes.result.now 0) c.as_slice.ensures
    ∙ ap (λ (b : List ℕ). said_from 8 c.args.side c.args.conversation.now.pieces b 0) (c.bytes-bytes.ensures ∙ ap bytes_of c.flow.ensures)

pub returns-clause-messages : goal.returns-clause-messages
returns-clause-messages c = IfOk-weaker c.read_all.result _ _ (λ said is. is ∙ ap (λ (s : Said). s.messages) (whole c)) c.read_all.ensures.messages

pub returns-clause-left : goal.returns-clause-left
returns-clause-left c = IfOk-weaker c.read_all.result _ _ (λ said is. is ∙ ap (λ (s : Said). s.left) (whole c)) c.read_all.ensures.left
