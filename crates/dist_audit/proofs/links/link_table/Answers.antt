use Rattle.dist_audit.proofs.Linking.{knows_more, repeats_more}
use Rattle.dist_audit.proofs.links.link_table.Goals as goal

pub loop-i-preserved : goal.loop-i-preserved
loop-i-preserved c = record {
  known = knows_more c.args.lines.now c.loop-i.i c.index-lines-i.result c.loop-i.table.diallers c.loop-i.table.acceptors c.loop-i.table.doubled c.loop-i-test.true c.loop-i.auto.i c.index-lines-i.is c.loop-i.invariant.known c.learn.new.self.diallers c.learn.new.self.acceptors c.learn.new.self.doubled c.in_ok-learn.ensures.diallers c.in_ok-learn.ensures.acceptors c.in_ok-learn.ensures.doubled;
  repeats = repeats_more c.args.lines.now c.loop-i.i c.index-lines-i.result c.loop-i.table.diallers c.loop-i.table.acceptors c.loop-i.table.doubled c.loop-i-test.true c.loop-i.auto.i c.index-lines-i.is c.loop-i.invariant.known c.learn.new.self.repeats c.loop-i.table.repeats c.in_ok-learn.ensures.repeats c.loop-i.invariant.repeats;
}
