use Rattle.std.proofs.Common.{◌≡◌, sym, ◌∙◌, List, Option, Bor, option_copied}
use Rattle.dist_names.specs.Order.{Name}
use Rattle.dist_peers.specs.{Table.up_behind, declared.entry.Entry.Entry}
use Rattle.dist_peers.proofs.Maps.{rows-of}
use Rattle.dist_peers.proofs.peers.Peers.up_behind.Goals as goal

both : (a b : Option (Bor Name)) (rows more : List (Name × Entry)) → b ≡ a → rows ≡ more → up_behind (option_copied a) rows ≡ up_behind (option_copied b) more
both a b rows more e f = λ j. up_behind (option_copied (sym e j)) (f j)

pub returns-in-None : goal.returns-in-None
returns-in-None c = c.up_in.ensures ∙ both _ c.args.name _ _ c.in-None.is (rows-of c.self.inside.by_name c.args.self.now c.self.invariant c.self.view_is)

pub returns-in-Some : goal.returns-in-Some
returns-in-Some c = c.up_behind.ensures ∙ both _ c.args.name _ _ c.in-Some.is (rows-of c.self.inside.by_name c.args.self.now c.self.invariant c.self.view_is)
