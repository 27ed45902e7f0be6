-- What was found out so far comes of what was said, or of the way; and the node was found at no address so far.
use Rattle.std.proofs.Common.{◌≡◌, length}
use Rattle.std.specs.List.{All}
use Rattle.distping.specs.{Coming.AllCome, Trying.IsMissed}
use Rattle.distping.proofs.links.probing.find_node.Given as goal

abbrev pub invariant-loop-address : goal.invariant-loop-address
invariant-loop-address l = AllCome l.dial l.all × All IsMissed l.all.verdicts.items × (length l.all.verdicts.items ≡ l.address-index)
