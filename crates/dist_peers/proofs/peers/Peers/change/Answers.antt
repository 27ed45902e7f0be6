use Rattle.std.proofs.Common.{◌∙◌, Some}
use Rattle.dist_peers.proofs.Maps.{changed, found}
use Rattle.dist_peers.proofs.peers.Peers.change.Goals as goal

pub change_row-requires : goal.change_row-requires
change_row-requires c = record { there = rw (found c.self.inside.by_name c.args.self.now c.self.invariant c.self.view_is c.args.peer.now) c.requires }

pub returns-clause-changed : goal.returns-clause-changed
returns-clause-changed c =
    changed c.self.inside.by_name c.change_row.new.entries _ c.args.peer.now (Some c.args.entry) c.self.invariant c.self.view_is c.change_row.ensures.ordered (c.change_row.ensures.changed.0)

pub returns-clause-was : goal.returns-clause-was
returns-clause-was c = c.change_row.ensures.was ∙ found c.self.inside.by_name c.args.self.now c.self.invariant c.self.view_is c.args.peer.now
