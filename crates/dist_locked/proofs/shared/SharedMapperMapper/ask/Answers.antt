use Rattle.std.proofs.Common.{rules}
use Rattle.dist_locked.proofs.shared.SharedMapperMapper.ask.Goals as goal

pub returns-clause-ok : goal.returns-clause-ok
returns-clause-ok c = search rules
