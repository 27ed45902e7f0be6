use Rattle.dist_world_model.proofs.Words.{refl, reached_life}
use Rattle.dist_world_lives.proofs.Indexes.{changed}
use Rattle.dist_world_lives.proofs.incarnations.Lives.reach.Goals as goal

pub invariant_of-self : goal.invariant_of-self
invariant_of-self c = rw c.reach_life.ensures (changed c.self.inside.lives.items c.self.inside.index.items c.args.place (reached_life c.args.id.0 c.args.conn) (λ l at i. refl) c.self.invariant)
