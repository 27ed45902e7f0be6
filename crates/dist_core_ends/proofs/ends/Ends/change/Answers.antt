use Rattle.dist_core_ends.proofs.Words.{length, ap, arith}
use Rattle.dist_core_ends.proofs.{Progress.fit-kept, Settled.keeps-changed}
use Rattle.dist_core_ends.proofs.ends.Ends.change.Goals as goal

pub shift_by_number-requires : goal.shift_by_number-requires
shift_by_number-requires c =
    let f = fit-kept c.args.me.now c.self.inside.list.items c.self.inside.peers c.args.id c.args.this c.args.other (rw (← c.self.view_is) at c.requires.fits) c.self.invariant.agree in
    rw c.reserve_for.ensures.same f.asks

pub change-requires : goal.change-requires
change-requires c =
    let f = fit-kept c.args.me.now c.self.inside.list.items c.self.inside.peers c.args.id c.args.this c.args.other (rw (← c.self.view_is) at c.requires.fits) c.self.invariant.agree in
    let same = c.reserve_for.ensures.same in
    record {
      place = rw same f.place;
      stays = rw same f.stays;
      other = rw same f.other_there;
      other_stays = rw same f.other_stays;
      room = rw same c.in_ok-reserve_for.ensures.ok;
      few = omega (arith, ap length same, ap length c.self.view_is, c.requires.few);
    }

pub invariant_of-self-2 : goal.invariant_of-self-2
invariant_of-self-2 c =
    let es = c.self.inside.list.items in
    let t = c.self.inside.peers in
    let f = fit-kept c.args.me.now es t c.args.id c.args.this c.args.other (rw (← c.self.view_is) at c.requires.fits) c.self.invariant.agree in
    rw (c.in_ok-shift_by_number.ensures.ok, c.change.ensures, c.reserve_for.ensures.same)
    (keeps-changed c.args.me.now t es c.self.inside.passed c.self.inside.named c.args.id c.args.this c.args.other c.self.invariant f)
