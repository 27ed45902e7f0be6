use Rattle.dist_audit.proofs.{Words.sym, Words.◌∙◌, Tickets.twice_part, Tickets.twice_found, Tickets.known_more}
use Rattle.dist_audit.proofs.checks.twice.Goals as goal

pub returns-then-has_one_of : goal.returns-then-has_one_of
returns-then-has_one_of c = sym (twice_found c.args.closed.now c.loop-i.i c.index-closed-i.result c.loop-i.later c.loop-i-test.true c.loop-i.auto.i c.loop-i.invariant.known c.loop-i.invariant.once c.deref.result.now c.deref.ensures.value c.has_one_of.result c.has_one_of.ensures c.if-has_one_of.true)

pub loop-i-preserved : goal.loop-i-preserved
loop-i-preserved c = record {
  once = twice_part c.args.closed.now c.loop-i.i c.index-closed-i.result c.loop-i.later c.loop-i-test.true c.loop-i.auto.i c.loop-i.invariant.known c.loop-i.invariant.once c.deref.result.now c.deref.ensures.value c.has_one_of.result c.has_one_of.ensures ∙ c.if-has_one_of.false;
  known = known_more c.args.closed.now c.loop-i.i c.index-closed-i-in-loop-i.result c.loop-i.later c.loop-i-test.true c.loop-i.auto.i c.loop-i.invariant.known c.loop-i.invariant.once c.deref-in-loop-i.result.now c.deref-in-loop-i.ensures.value c.add_all.new.tickets c.in_ok-add_all.ensures;
}
