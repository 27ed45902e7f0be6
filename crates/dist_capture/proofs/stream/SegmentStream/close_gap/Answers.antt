use Rattle.std.proofs.Common.{◌≡◌, ◌++◌, length, drop, is_some, ap, ◌∙◌, arith}
use Rattle.dist_capture.specs.Streams.{Gathering, settled, laid, leading, known_at, ends_known}
use Rattle.dist_capture.proofs.{Known.leading_stops, Closing.left_behind, Closing.closes, Ending.ends_drop}
use Rattle.dist_capture.proofs.stream.SegmentStream.close_gap.Goals as goal

pub invariant_of-self-2 : goal.invariant_of-self-2
invariant_of-self-2 c =
    let known = c.self.inside.places in
    let f : c.in_ok-front.front.items ≡ leading (laid 0 c.args.bytes.now known) = c.in_ok-front.ensures ∙ ap (λ ks. leading (laid 0 c.args.bytes.now ks)) c.as_slice.ensures in
    let n : c.len.result ≡ length c.in_ok-front.front.items = omega arith in
    let left = c.drop_front.ensures ∙ ap (λ k. drop k known) (n ∙ ap length f) ∙ left_behind c.args.bytes.now known in (
      ap (λ ks. is_some (known_at ks 0)) left ∙ ap is_some (leading_stops (laid 0 c.args.bytes.now known)),
      ap ends_known c.drop_front.ensures ∙ ends_drop c.len.result known c.self.invariant.1,
    )

pub returns-clause-ok : goal.returns-clause-ok
returns-clause-ok c =
    let known = c.self.inside.places in
    let f : c.in_ok-front.front.items ≡ leading (laid 0 c.args.bytes.now known) = c.in_ok-front.ensures ∙ ap (λ ks. leading (laid 0 c.args.bytes.now ks)) c.as_slice.ensures in
    let n : c.len.result ≡ length c.in_ok-front.front.items = omega arith in
    let m : c.len-2.result ≡ length c.in_ok-front.front.items = omega arith in
    let s : Gathering = record { next = c.self.inside.next; ready = c.self.inside.ready; waiting = known; most = c.self.inside.most } in
    let all = closes s c.args.bytes.now c.in_ok-front.front.items c.extend.new.self c.drop_front.new.self f
    (c.in_ok-extend.ensures.ok ∙ ap (λ bs. c.self.inside.ready ++ bs) c.deref.ensures.value) (c.drop_front.ensures ∙ ap (λ k. drop k known) n) in
    rw (c.advance.ensures, m) (all ∙ ap (λ (t : Gathering). settled t (laid 0 c.args.bytes.now t.waiting)) c.self.view_is)
