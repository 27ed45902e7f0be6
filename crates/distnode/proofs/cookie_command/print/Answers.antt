use Rattle.std.proofs.Common.{sym}
use Rattle.distnode.proofs.cookie_command.print.Goals as goal

pub returns : goal.returns
returns g c = rw (sym c.digest-made.ensures, sym c.from.ensures, sym c.len.ensures) c.put.ensures.text
