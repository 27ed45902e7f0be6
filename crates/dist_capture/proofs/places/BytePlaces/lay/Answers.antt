use Rattle.std.proofs.Common.{ap, ◌∙◌, ◌+◌, arith, length, drop}
use Rattle.dist_capture.proofs.Laying.{laid_all, length-laid, grown_fits}
use Rattle.dist_capture.proofs.places.BytePlaces.lay.Goals as goal

pub fill_in-requires : goal.fill_in-requires
fill_in-requires c = grown_fits c.self.inside.start c.args.place c.args.bytes.now c.self.inside.known.items c.args.self.now c.self.invariant (c.self.view_is ∙ c.in_ok-reach.ensures.ok)

pub invariant_of-self : goal.invariant_of-self
invariant_of-self c =
    let n = length-laid (c.self.inside.start + c.args.place) c.args.bytes.now c.self.inside.known.items in
    let e = ap length c.fill_in.ensures in
    omega (arith, e, n, c.self.invariant)

pub returns-clause-ok : goal.returns-clause-ok
returns-clause-ok c =
    ap (drop c.self.inside.start) c.fill_in.ensures
    ∙ laid_all c.self.inside.start c.args.place c.args.bytes.now c.self.inside.known.items c.args.self.now c.self.invariant (c.self.view_is ∙ c.in_ok-reach.ensures.ok)
