use Rattle.dist_epmd.proofs.{Words.sym, Words.subst, Words.IsLegal, Legal.closed_legal}
use Rattle.dist_epmd.proofs.registry.Registry.closed.Goals as goal

pub invariant_of-self : goal.invariant_of-self
invariant_of-self c =
    (subst (λ r. IsLegal (record { port = c.self.inside.port; next = c.self.inside.next; rows = r })) (sym c.drop_conn.ensures.rows) (closed_legal c.args.conn _ c.self.invariant.0), c.drop_conn.ensures.names)
