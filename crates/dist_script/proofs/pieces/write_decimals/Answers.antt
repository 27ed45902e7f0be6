use Rattle.std.proofs.{Common.arith, lemmas.Fmt.length-decimal-le}
use Rattle.dist_script.proofs.pieces.write_decimals.Goals as goal

pub write_digits-requires : goal.write_digits-requires
write_digits-requires c = (omega (arith, length-decimal-le 20 c.args.number (omega arith) (omega arith) (omega arith)), omega (arith, c.requires))
