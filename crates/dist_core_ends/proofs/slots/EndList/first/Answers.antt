use Rattle.dist_core_ends.proofs.{Words.sym, Words.arith, Oldest.oldest-found, Oldest.oldest-none}
use Rattle.dist_core_ends.proofs.slots.EndList.first.Goals as goal

pub returns-then-from-len-clause-first : goal.returns-then-from-len-clause-first
returns-then-from-len-clause-first c =
    let found = c.first_sought.ensures in
    let within = found.here (omega (arith, c.if-from-len.true, c.len.ensures.len)) in
    sym (oldest-found c.args.sought c.args.self.now.items c.first_sought.result found.past.settled within)

pub returns-else-from-len-clause-first : goal.returns-else-from-len-clause-first
returns-else-from-len-clause-first c =
    let past = c.first_sought.ensures.past in
    sym (oldest-none c.args.sought c.args.self.now.items c.first_sought.result (omega (arith, c.if-from-len.false, c.len.ensures.len)) past.settled)
