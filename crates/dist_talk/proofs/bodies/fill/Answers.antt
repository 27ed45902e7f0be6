use borrow.Rule.Slice.PartMut.{put_mid}
use Rattle.std.proofs.lemmas.Slice.{take-put_mid_below}
use Rattle.dist_stream.proofs.Rooms.{take_split, slice_range-put_mid}
use Rattle.dist_epmd_calls.proofs.Words.{le_refl, Hears, Hears-trans, ◌+◌, ◌-◌, ◌++◌, length, take, sym, ap, ◌∙◌, subst, arith, rules}
use Rattle.dist_talk.proofs.bodies.fill.Goals as goal

pub loop-at-preserved : goal.loop-at-preserved
loop-at-preserved g c =
    let from = c.loop-at.at in
    let count = c.in-Ok.count in
    let room = length c.loop-at.room - from in
    let within = c.loop-at.invariant.at in
    let both = Hears-trans c.loop-at.invariant.hears c.in-Ok.ensures.hears in
    let part = slice_range-put_mid from room count c.loop-at.room c.read.new.room within c.in-Ok.ensures.fits in
    let joined = take_split from (from + count) c.loop-at.room (put_mid from room c.loop-at.room c.read.new.room) (omega arith) (take-put_mid_below _ _ _ _ _ (le_refl _) within) in
    record {
      len = search rules;
      at = search rules;
      hears = subst (Hears _ _ _ _ _) (ap (λ l. take from c.loop-at.room ++ l) (sym part) ∙ joined) both;
      loan = search rules;
    }
