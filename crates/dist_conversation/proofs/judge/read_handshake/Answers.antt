use Rattle.std.proofs.Common.{rules}
use Rattle.dist_conversation.proofs.Ending.{upon_said}
use Rattle.dist_conversation.proofs.judge.read_handshake.Goals as goal

pub returns : goal.returns
returns c = record {
  dialler = search rules;
  acceptor = search rules;
  missing = search rules;
  ending = upon_said _ c.args.seen.now _ _ _ _ c.args.now _ c.in_ok-dialler.ensures.left c.in_ok-acceptor.ensures.left c.due_end-handshake.ensures;
}
