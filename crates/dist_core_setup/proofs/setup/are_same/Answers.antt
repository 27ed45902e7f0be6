use Rattle.std.proofs.lemmas.Slice.Eq.{slice_eq-Decides}
use Rattle.std.specs.Cmp.Lexicographic.{bytes_decides}
use Rattle.dist_core_setup.proofs.setup.are_same.Goals as goal

pub returns : goal.returns
returns c = slice_eq-Decides bytes_decides c.args.ours.now c.args.theirs.now _ c.eq.ensures
