use Rattle.dist_world_model.proofs.Words.{◌≡◌, ℕ, List, Some, Option, sym, ap, ◌∙◌, first_where, runs_for}
use Rattle.dist_world_lives.specs.Index.{index_at}
use Rattle.dist_world_lives.proofs.Indexes.{finished}
use Rattle.dist_world_lives.proofs.incarnations.Lives.end.Goals as goal

pub invariant_of-self : goal.invariant_of-self
invariant_of-self c =
    let is : first_where (runs_for c.args.node) c.self.inside.lives.items ≡ Some c.in-Some.place = sym (c.self.invariant.found c.args.node) ∙ (sym (ap (λ (xs : List (Option ℕ)). index_at xs c.args.node) c.deref.ensures.value) ∙ sym c.in-Some.ensures) in
    rw (c.end_life.ensures, c.set_place.ensures) (finished c.self.inside.lives.items c.self.inside.index.items c.args.node c.in-Some.place c.args.clock is c.self.invariant)
