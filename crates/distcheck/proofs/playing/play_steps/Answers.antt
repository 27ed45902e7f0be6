-- One step more was seen.
use Rattle.std.proofs.Common.{◌<◌, ◌∙◌, length, sym, arith}
use Rattle.distcheck.proofs.Steps.{one_more}
use Rattle.distcheck.proofs.playing.play_steps.Goals as goal

pub loop-step-preserved : goal.loop-step-preserved
loop-step-preserved c =
    let within : length c.loop-step.played.items < length c.args.steps.now = omega (arith, c.loop-step.invariant.many, c.loop-step-test.true) in
    record {
      stands = rw c.in_ok-push.ensures.items (sym (one_more _ c.args.steps.now c.loop-step.played.items _ c.step-item.result within
          ∙ rw (c.loop-step.invariant.many, ← c.step-item.is, ← c.loop-step.invariant.stands) (sym c.in_ok-take.ensures)));
      many = rw c.in_ok-push.ensures.items (grind (arith, c.loop-step.invariant.many));
    }
