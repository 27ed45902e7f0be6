use Rattle.std.proofs.Common.{ap, sym, ◌∙◌, drop, drop-cons, suc, add-one}
use Rattle.dist_long_frames.specs.Shortened.{place_after}
use Rattle.dist_long_frames.proofs.place.Place.after_all.Goals as goal

pub loop-byte-preserved : goal.loop-byte-preserved
loop-byte-preserved c =
    let at = c.loop-byte.byte-index in
    let bytes = c.args.bytes.now in
    ap (λ n. place_after c.after-place.result (drop n bytes)) (add-one at)
    ∙ ap (λ p. place_after p (drop (suc at) bytes)) c.after-place.ensures
    ∙ sym (ap (place_after c.loop-byte.place) (drop-cons bytes at 0 c.loop-byte-test.true))
    ∙ c.loop-byte.invariant
