use Rattle.std.proofs.Common.{rules}
use Rattle.distnode.proofs.program.names_command.Goals as goal

pub returns : goal.returns
returns c = search rules
