use Rattle.dist_core_ends.proofs.{Words.entry_in, Words.Up, UpPeers.up-only, UpPeers.up-found}
use Rattle.dist_core_ends.proofs.ends.Ends.up_with.Goals as goal

pub returns-clause-found : goal.returns-clause-found
returns-clause-found c =
    let es = c.args.self.now in
    let p = c.args.peer.now in
    rw (c.with_record.ensures, c.up_id_with.ensures) (up-found es p (entry_in es p) (λ i. c.open_ends.ensures.legal p Up i))

pub returns-clause-only : goal.returns-clause-only
returns-clause-only c =
    let es = c.args.self.now in
    let p = c.args.peer.now in
    rw (c.with_record.ensures, c.up_id_with.ensures) (up-only es p (entry_in es p) (λ i. c.open_ends.ensures.legal p Up i))
