use Rattle.dist_epmd_calls.proofs.Words.{◌++◌, take, None, refl, Hears-trans}
use Rattle.dist_epmd_calls.proofs.ask.read_to_end.Goals as goal

pub returns-then-is_err-clause-hears : goal.returns-then-is_err-clause-hears
returns-then-is_err-clause-hears g c =
    let both = Hears-trans c.loop-count.invariant.2 c.in-Ok.ensures.hears in
    record { heard = c.loop-count.invariant.0 ++ take c.in-Ok.count c.read.new.room; stop = None; hears = both; means = refl }
