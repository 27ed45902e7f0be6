use Rattle.std.proofs.Common.{◌≡◌, ◌-◌, ◌+◌, ◌*◌, ◌/◌, suc, min, length, drop, sym, ap, ◌∙◌, arith}
use Rattle.std.proofs.lemmas.List.{drop_min}
use Rattle.dist_capture.specs.Formats.{half, clock_of}
use Rattle.dist_capture.proofs.Walks.{clock_ends, clock_none, clock_short, clock_here, clock_steps}
use Rattle.dist_capture.proofs.unit.clock_of.Goals as goal

pub returns-then-rest-lt4 : goal.returns-then-rest-lt4
returns-then-rest-lt4 c = sym (clock_ends (64 - c.loop.counter) c.args.order c.loop.rest.now (omega arith)) ∙ c.loop.invariant

pub returns-then-rest-lt5 : goal.returns-then-rest-lt5
returns-then-rest-lt5 c =
    let e : 64 - c.loop.counter ≡ suc (63 - c.loop.counter) = omega arith in
    sym (clock_short (63 - c.loop.counter) c.args.order c.loop.rest.now (omega arith) (grind arith) (omega arith)) ∙ ap (λ n. clock_of n c.args.order c.loop.rest.now) (sym e) ∙ c.loop.invariant

pub returns-then-half-eq9 : goal.returns-then-half-eq9
returns-then-half-eq9 c =
    let e : 64 - c.loop.counter ≡ suc (63 - c.loop.counter) = omega arith in
    sym (clock_here (63 - c.loop.counter) c.args.order c.loop.rest.now (grind arith) (omega arith)) ∙ ap (λ n. clock_of n c.args.order c.loop.rest.now) (sym e) ∙ c.loop.invariant

pub loop-preserved : goal.loop-preserved
loop-preserved c =
    let e : 64 - c.loop.counter ≡ suc (64 - (c.loop.counter + 1)) = omega arith in
    let rest = c.loop.rest.now in
    let len = 4 + 4 * ((half c.args.order 2 c.loop.rest.now + 3) / 4) in
    let behind : c.split_at.result.1.now ≡ drop len rest =
    c.split_at.ensures.back ∙ ap (λ n. drop n rest) (c.min.ensures ∙ ap (λ h. min (4 + 4 * ((h + 3) / 4)) (length rest)) c.half-in-loop.ensures) ∙ drop_min len rest in
    ap (clock_of (64 - (c.loop.counter + 1)) c.args.order) behind
    ∙ sym (clock_steps (64 - (c.loop.counter + 1)) c.args.order rest (omega arith) (grind arith))
    ∙ ap (λ n. clock_of n c.args.order rest) (sym e) ∙ c.loop.invariant

pub returns : goal.returns
returns c =
    let e : 64 - c.loop.counter ≡ 0 = omega arith in
    sym (clock_none c.args.order c.loop.rest.now) ∙ ap (λ n. clock_of n c.args.order c.loop.rest.now) (sym e) ∙ c.loop.invariant
