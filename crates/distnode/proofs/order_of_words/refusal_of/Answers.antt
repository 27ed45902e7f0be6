use Rattle.std.proofs.Common.{rules}
use Rattle.distnode.proofs.order_of_words.refusal_of.Goals as goal

pub returns-in-OutOfMemory : goal.returns-in-OutOfMemory
returns-in-OutOfMemory c = search rules
