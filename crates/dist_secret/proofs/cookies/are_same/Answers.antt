use Rattle.std.proofs.lemmas.Map.Lookups.{btree_map_eq-Decides}
use Rattle.std.specs.Cmp.Lexicographic.{bytes_decides}
use Rattle.dist_secret.proofs.cookies.are_same.Goals as goal

pub returns : goal.returns
returns c = btree_map_eq-Decides bytes_decides bytes_decides c.args.ours.now c.args.theirs.now _ c.eq.ensures
