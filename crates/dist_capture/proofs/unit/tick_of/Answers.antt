use Rattle.std.proofs.Common.{◌≡◌, ◌-◌, ◌+◌, ◌*◌, ◌^◌, suc, sym, ap, ◌∙◌, arith, pow-suc}
use Rattle.dist_capture.proofs.unit.tick_of.Goals as goal

pub loop-preserved : goal.loop-preserved
loop-preserved c =
    let e : (c.loop.counter + 1) - c.args.digits ≡ suc (c.loop.counter - c.args.digits) = omega arith in
    ap (λ n. n * 10) c.loop.invariant ∙ sym (ap (λ n. 10 ^ n) e ∙ pow-suc 10 (c.loop.counter - c.args.digits))
