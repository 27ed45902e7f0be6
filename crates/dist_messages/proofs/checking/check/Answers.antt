use Rattle.dist_messages.specs.declared.message.Message.TheVariants as message
use Rattle.dist_messages.proofs.Putting.{named}
use Rattle.dist_messages.proofs.checking.check.Goals as goal

pub returns-in-Dialler-NewName : goal.returns-in-Dialler-NewName
returns-in-Dialler-NewName c =
    let n = c.in-Dialler-NewName in
    rw (n.is-0, n.is-1) (named (message.NewName n.flags-1 n.creation-1 n.name) c.as_slice-in-Dialler-NewName.result.now c.check_name-in-Dialler-NewName.result c.as_slice-in-Dialler-NewName.ensures c.check_name-in-Dialler-NewName.ensures)

pub returns-in-Acceptor-OldChallenge : goal.returns-in-Acceptor-OldChallenge
returns-in-Acceptor-OldChallenge c =
    let n = c.in-Acceptor-OldChallenge in
    rw (n.is-0, n.is-1) (named (message.OldChallenge n.flags-1 n.challenge-1 n.name) c.as_slice-in-Acceptor-OldChallenge.result.now c.check_name-in-Acceptor-OldChallenge.result c.as_slice-in-Acceptor-OldChallenge.ensures c.check_name-in-Acceptor-OldChallenge.ensures)

pub returns-in-Acceptor-NewChallenge : goal.returns-in-Acceptor-NewChallenge
returns-in-Acceptor-NewChallenge c =
    let n = c.in-Acceptor-NewChallenge in
    rw (n.is-0, n.is-1) (named (message.NewChallenge n.flags-1 n.challenge-1 n.creation-1 n.name) c.as_slice-in-Acceptor-NewChallenge.result.now c.check_name-in-Acceptor-NewChallenge.result c.as_slice-in-Acceptor-NewChallenge.ensures c.check_name-in-Acceptor-NewChallenge.ensures)
