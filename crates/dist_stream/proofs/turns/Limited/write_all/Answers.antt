use Rattle.std.proofs.Common.{rules, subst}
use Rattle.dist_stream.specs.Turns.{Says}
use Rattle.dist_stream.proofs.{Rooms.take_more, Talks.Says-trans}
use Rattle.dist_stream.proofs.turns.Limited.write_all.Goals as goal

pub loop-at-preserved : goal.loop-at-preserved
loop-at-preserved g c =
    let both = Says-trans c.loop-at.invariant.says c.in_ok-at.ensures.says in
    record {
      at = search rules;
      says = subst (Says _ _ _ _ _) (take_more c.loop-at.at c.in_ok-at.field-0 c.args.bytes.now c.loop-at.invariant.at) both;
      loan = search rules;
    }

pub returns-clause-says : goal.returns-clause-says
returns-clause-says c = search rules
