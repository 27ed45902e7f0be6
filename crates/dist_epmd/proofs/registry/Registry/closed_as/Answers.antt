use Rattle.dist_epmd.proofs.Words.{◌≡◌, not, ◌⊎◌, List, Some, sym, ap, ◌∙◌, subst, values, IsLegal, Registrations, after_closed, is_own, registered_name, Row}
use Rattle.dist_epmd.proofs.{Legal.kept_legal, Own.registered_closed, Own.all_or_none}
use Rattle.dist_epmd.proofs.registry.Registry.closed_as.Goals as goal

pub invariant_of-self : goal.invariant_of-self
invariant_of-self c =
    (subst (λ r. IsLegal (record { port = c.self.inside.port; next = c.self.inside.next; rows = r })) (sym c.drop_own.ensures.rows) (kept_legal (λ row. not (is_own c.args.conn c.args.name.now row)) _ c.self.invariant.0), c.drop_own.ensures.names)

pub returns-clause-whole : goal.returns-clause-whole
returns-clause-whole c =
    subst (λ r. registered_name c.args.conn r ≡ Some c.args.name.now → record { port = c.self.inside.port; next = c.self.inside.next; rows = values c.drop_own.new.rows } ≡ after_closed c.args.conn r) c.self.view_is
    (λ h. ap (λ l. record { port = c.self.inside.port; next = c.self.inside.next; rows = l }) c.drop_own.ensures.rows ∙ registered_closed c.args.conn c.args.name.now _ c.self.invariant.0.ordered h)

pub returns-clause-either : goal.returns-clause-either
returns-clause-either c =
    let before : Registrations = record { port = c.self.inside.port; next = c.self.inside.next; rows = values c.self.inside.rows } in
    let after : Registrations = record { port = c.self.inside.port; next = c.self.inside.next; rows = values c.drop_own.new.rows } in
    subst (λ (r : Registrations). (after ≡ r) ⊎ (after ≡ after_closed c.args.conn r)) c.self.view_is
    (subst (λ (r : Registrations). (r ≡ before) ⊎ (r ≡ after_closed c.args.conn before)) (sym (ap (λ (l : List Row). record before { rows = l }) c.drop_own.ensures.rows))
    (all_or_none c.args.conn c.args.name.now before c.self.invariant.0.ordered))
