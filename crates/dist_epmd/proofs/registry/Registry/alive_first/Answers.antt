use Rattle.dist_epmd.proofs.Words.{◌≡◌, ◌+◌, sym, subst, rules, values, IsLegal, with_row, Row}
use Rattle.dist_epmd.proofs.Legal.{registered_legal}
use Rattle.dist_epmd.proofs.registry.Registry.alive_first.Goals as goal

pub invariant_of-self-2 : goal.invariant_of-self-2
invariant_of-self-2 c =
    let row : Row = record { conn = c.args.conn; info = c.args.request.now; creation = c.self.inside.next } in
    let rows : values c.register.new.rows ≡ with_row row (values c.self.inside.rows) = search rules in
    (subst (λ r. IsLegal (record { port = c.self.inside.port; next = c.self.inside.next + 1; rows = r })) (sym rows) (registered_legal c.args.conn c.args.request.now _ c.self.invariant.0 (search rules)), c.register.ensures.names)

pub returns-then-not-has_place-clause-answer : goal.returns-then-not-has_place-clause-answer
returns-then-not-has_place-clause-answer c = search rules

pub returns-then-not-has_place-clause-after : goal.returns-then-not-has_place-clause-after
returns-then-not-has_place-clause-after c = search rules
