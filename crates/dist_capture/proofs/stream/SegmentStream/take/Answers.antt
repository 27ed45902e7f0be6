use Rattle.std.proofs.Common.{◌≡◌, ◌==◌, false, is_some, length, sym, ap, ◌∙◌, arith}
use Rattle.dist_capture.specs.Streams.{Gathering, taken, known_at, ends_known}
use Rattle.dist_capture.proofs.{Closing.in_order, Ending.still_open, Ending.ends_laid}
use Rattle.dist_capture.proofs.stream.SegmentStream.take.Goals as goal

pub returns-in_ok-extend-clause-ok : goal.returns-in_ok-extend-clause-ok
returns-in_ok-extend-clause-ok c =
    let s : Gathering = record { next = c.self.inside.next; ready = c.self.inside.ready; waiting = c.self.inside.places; most = c.self.inside.most } in
    let some : (length c.new_part-place.result.1.now == 0) ≡ false = sym c.is_empty.ensures ∙ c.if-is_empty.false in
    let all = in_order s c.args.sequence c.new_part-place.result.0 c.args.bytes.now c.new_part-place.result.1.now c.new_part-place.ensures.value (omega arith) some (omega arith) in
    rw (c.advance.ensures, c.in_ok-extend.ensures.ok) (all ∙ ap (λ (t : Gathering). taken t c.args.sequence c.args.bytes.now) c.self.view_is)

pub invariant_of-self : goal.invariant_of-self
invariant_of-self c =
    let place = c.new_part-place.result.0 in
    let bytes = c.new_part-place.result.1.now in
    let known = c.self.inside.places in
    let some : (length bytes == 0) ≡ false = sym c.is_empty.ensures ∙ c.if-is_empty.false in (
      ap (λ ks. is_some (known_at ks 0)) c.in_ok-lay.ensures.ok ∙ still_open place bytes known (omega arith) c.self.invariant.0,
      ap ends_known c.in_ok-lay.ensures.ok ∙ ends_laid place bytes known some c.self.invariant.1,
    )
