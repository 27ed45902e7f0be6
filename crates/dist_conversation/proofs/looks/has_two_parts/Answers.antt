use Rattle.std.proofs.Common.{rules}
use Rattle.dist_names.proofs.Places.{two_parts}
use Rattle.dist_conversation.proofs.looks.has_two_parts.Goals as goal

pub returns : goal.returns
returns c = two_parts c.args.name.now c.host_part-host.result.now c.contains.result c.host_part-host.ensures c.contains.ensures.value (search rules) (search rules)
