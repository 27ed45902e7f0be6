use Rattle.dist_core.proofs.Words.{◌+◌, ◌≤◌, List, length, sym, subst, End, NodeState, ends_after, limits_of, Effect}
use Rattle.dist_core.proofs.node.Node.change_ends.Goals as goal

pub invariant_of-self : goal.invariant_of-self
invariant_of-self c =
    let f : Effect = record { reply = c.args.reply.now; this = c.args.this; other = c.args.other } in
    let F : NodeState → Type 0 = λ n. length (ends_after n.ends f) ≤ n.steps + 1 in
    let B : NodeState → Type 0 = λ n. n.steps + 1 ≤ (let l = limits_of n in l.steps) in
    let N : NodeState → Type 0 = λ n. length (ends_after n.ends f) ≤ (let l = limits_of n in l.ends) in
    let M : List End → Type 0 = λ es. length es ≤ (let l = (let s = c.self.inside.setup in s.limits) in l.ends) in
    let L : List End → Type 0 = λ es. length es ≤ c.self.inside.steps + 1 in
    record {
      few = subst L (sym c.in-Ok.ensures.ok) (subst F (sym c.self.view_is) c.requires.few);
      bounded = subst B (sym c.self.view_is) c.requires.bounded;
      numbered = subst M (sym c.in-Ok.ensures.ok) (subst N (sym c.self.view_is) c.requires.numbered);
    }
