use Rattle.std.proofs.Common.{◌≡◌, ◌-◌, ◌+◌, suc, sym, ap, ◌∙◌, arith}
use Rattle.dist_capture.specs.Network.{upper}
use Rattle.dist_capture.proofs.Walks.{upper_stays, upper_ends, upper_short, upper_steps}
use Rattle.dist_capture.proofs.network.upper.Goals as goal

pub returns-then-not-is_extension : goal.returns-then-not-is_extension
returns-then-not-is_extension c = sym (upper_stays (4 - c.loop.counter) c.args.bytes.now c.loop.header c.loop.at (sym c.is_extension.ensures ∙ grind arith)) ∙ c.loop.invariant.rest

pub returns-then-bytes-at : goal.returns-then-bytes-at
returns-then-bytes-at c =
    let e : 4 - c.loop.counter ≡ suc (3 - c.loop.counter) = omega arith in
    sym (upper_short (3 - c.loop.counter) c.args.bytes.now c.loop.header c.loop.at (sym c.is_extension.ensures ∙ grind arith) (omega arith))
    ∙ ap (λ n. upper n c.args.bytes.now c.loop.header c.loop.at) (sym e) ∙ c.loop.invariant.rest

pub loop-preserved : goal.loop-preserved
loop-preserved c =
    let e : 4 - c.loop.counter ≡ suc (4 - (c.loop.counter + 1)) = omega arith in
    record {
      rest = sym (upper_steps (4 - (c.loop.counter + 1)) c.args.bytes.now c.loop.header c.loop.at (sym c.is_extension.ensures ∙ grind arith) (omega arith))
          ∙ ap (λ n. upper n c.args.bytes.now c.loop.header c.loop.at) (sym e) ∙ c.loop.invariant.rest;
      place = omega (arith, c.type_inv.bytes (c.loop.at + 1));
    }

pub returns : goal.returns
returns c =
    let e : 4 - c.loop.counter ≡ 0 = omega arith in
    sym (upper_ends c.args.bytes.now c.loop.header c.loop.at) ∙ ap (λ n. upper n c.args.bytes.now c.loop.header c.loop.at) (sym e) ∙ c.loop.invariant.rest
