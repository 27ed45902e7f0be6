use Rattle.std.proofs.Common.{rules}
use Rattle.dist_run_hosts.proofs.run_error.RunError.name.Goals as goal

pub returns-in-NotClosed-MissingSeat : goal.returns-in-NotClosed-MissingSeat
returns-in-NotClosed-MissingSeat c = search rules
