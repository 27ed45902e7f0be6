use Rattle.dist_core_ends.proofs.Words.{slice_get, entry_of, replaced_by, replaced_end}
use Rattle.dist_core_ends.proofs.{Agreement.entry-agreed, Progress.rise-fits, Progress.rise-waits, Progress.rise-table, Settled.keeps-changed}
use Rattle.dist_core_ends.proofs.ends.Ends.rise.Goals as goal
use Rattle.std.specs.FinMap as map
use Rattle.dist_core_ends.specs.declared.known.End.TheVariants as ends

pub came_up-replaced-requires : goal.came_up-replaced-requires
came_up-replaced-requires c =
    let es = c.self.inside.list.items in
    let t = c.self.inside.peers in
    let f = rise-fits c.requires.fits.0 es t c.args.id c.args.kept.now (rw (← c.self.view_is) at c.requires.fits.1) c.self.invariant.agree in
    rise-waits t c.requires.fits.0 c.args.id c.args.kept.now (slice_get es c.args.id.0) (rw (← c.self.view_is) at c.requires.attempt) f.asks

pub rise-requires : goal.rise-requires
rise-requires c =
    let f = rise-fits c.requires.fits.0 c.self.inside.list.items c.self.inside.peers c.args.id c.args.kept.now (rw (← c.self.view_is) at c.requires.fits.1) c.self.invariant.agree in
    let h = rw (← c.self.view_is) at c.requires.attempt in
    record { attempt = (h.0, h.1, h.2); there = rw c.came_up-replaced.ensures.replaced f.other_there; stays = rw c.came_up-replaced.ensures.replaced f.other_stays }

pub invariant_of-self : goal.invariant_of-self
invariant_of-self c =
    let es = c.self.inside.list.items in
    let t = c.self.inside.peers in
    let me = c.requires.fits.0 in
    let f = rise-fits me es t c.args.id c.args.kept.now (rw (← c.self.view_is) at c.requires.fits.1) c.self.invariant.agree in
    rw (
      c.rise.ensures,
      c.came_up-replaced.ensures.replaced,
      c.came_up-replaced.ensures.entry,
      rise-table t me c.args.id c.args.kept.now (slice_get es c.args.id.0) (rw (← c.self.view_is) at c.requires.attempt),
    )
    (keeps-changed me t es c.self.inside.passed c.self.inside.named c.args.id (ends.Up c.args.kept.now) (replaced_end (replaced_by (entry_of t c.args.kept.now.peer))) c.self.invariant f)

pub returns-clause-replaced : goal.returns-clause-replaced
returns-clause-replaced c =
    rw (← c.self.view_is, entry-agreed (map.get c.self.inside.peers) c.self.inside.list.items c.self.invariant.agree c.args.kept.now.peer) c.came_up-replaced.ensures.replaced

pub returns-clause-ends : goal.returns-clause-ends
returns-clause-ends c =
    let is = rw c.came_up-replaced.ensures.replaced at c.rise.ensures in
    rw (← c.self.view_is, entry-agreed (map.get c.self.inside.peers) c.self.inside.list.items c.self.invariant.agree c.args.kept.now.peer) is
