use Rattle.dist_core.proofs.Words.{◌≡◌, ◌+◌, ◌≤◌, List, length, sym, ap, subst, arith, End, NodeState, ends_after, limits_of, CanProgress, effect_by}
use Rattle.dist_core.proofs.{Counts.length-after, InPlace.end-by, Numbers.stays}
use Rattle.dist_core.proofs.node.Node.keep_progress.Goals as goal
use Rattle.dist_core_ends.specs.declared.known.End.TheVariants as ends

pub invariant_of-self-2 : goal.invariant_of-self-2
invariant_of-self-2 g c =
    let n : NodeState = record { setup = c.self.inside.setup; steps = c.self.inside.steps; ends = c.self.inside.ends } in
    let P : NodeState → Type 0 = λ m. CanProgress m.ends c.args.id c.args.progress in
    let h = subst P (sym c.self.view_is) c.requires.can in
    let b = h.attempt in
    let f = effect_by n.ends c.args.id b c.args.progress in
    let is : c.put_kept_progress.new.ends ≡ ends_after n.ends f = c.in-Ok.ensures.ends b h.at_ in
    let L : NodeState → Type 0 = λ m. m.steps + 1 ≤ (let l = limits_of m in l.steps) in
    let M : List End → Type 0 = λ xs. length xs ≤ (let l = limits_of n in l.ends) in
    record {
      few = omega (arith, ap length is, length-after n.ends f, c.self.invariant.few);
      bounded = subst L (sym c.self.view_is) c.requires.left;
      numbered = subst M (sym is) (stays n f c.args.id (ends.Attempt b) (end-by n.ends c.args.id b c.args.progress) h.at_ c.self.invariant.numbered);
    }
