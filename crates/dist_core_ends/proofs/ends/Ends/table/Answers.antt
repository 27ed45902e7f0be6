use Rattle.dist_core_ends.proofs.{Words.ap, Words.◌∙◌, Words.table_of, Tables.get-table, Tables.table-agreed}
use Rattle.dist_core_ends.proofs.ends.Ends.table.Goals as goal
use Rattle.std.specs.FinMap as map

pub returns-clause-table : goal.returns-clause-table
returns-clause-table c = table-agreed c.self.inside.peers c.self.inside.list.items c.self.invariant.agree ∙ ap table_of c.self.view_is

pub returns-clause-entries : goal.returns-clause-entries
returns-clause-entries c p = ap (λ m. map.get m p) (returns-clause-table c) ∙ get-table c.args.self.now p
