use Rattle.std.proofs.Common.{arith}
use Rattle.dist_names.proofs.Digits.{flags_read}
use Rattle.dist_names.proofs.flags.flags_value.Goals as goal

pub returns : goal.returns
returns c = flags_read c.args.word.now c.number_in.result (omega arith) c.number_in.ensures
