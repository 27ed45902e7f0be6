use Rattle.std.proofs.Common.{sym}
use Rattle.distnode.proofs.run.print_error.Goals as goal

pub returns : goal.returns
returns g c = rw (sym c.number.ensures, sym c.from.ensures, sym c.name.ensures, sym c.as_bytes.ensures.value) c.put.ensures.text
