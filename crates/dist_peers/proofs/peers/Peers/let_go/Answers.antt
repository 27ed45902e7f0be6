use Rattle.std.proofs.Common.{ap, ◌∙◌}
use Rattle.dist_peers.specs.Table.{left_by, with_entry}
use Rattle.dist_peers.proofs.Maps.{changed, found}
use Rattle.dist_peers.proofs.peers.Peers.let_go.Goals as goal

pub leave_row-requires : goal.leave_row-requires
leave_row-requires c = record { there = rw (found c.self.inside.by_name c.args.self.now c.self.invariant c.self.view_is c.args.peer) c.requires }

pub returns : goal.returns
returns c =
    let rows = c.self.inside.by_name in
    let t = c.args.self.now in
    changed rows c.leave_row.new.entries t c.args.peer _ c.self.invariant c.self.view_is c.leave_row.ensures.ordered c.leave_row.ensures.changed
    ∙ ap (λ o. with_entry t c.args.peer (left_by c.args.id o)) (found rows t c.self.invariant c.self.view_is c.args.peer)
