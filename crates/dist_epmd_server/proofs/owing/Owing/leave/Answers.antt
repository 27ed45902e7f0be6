use Rattle.std.proofs.Common.{Bool, true, false, List, ℕ, refl, subst, ap, ◌∙◌}
use Rattle.std.specs.{Ordering.nat_cmp, BTreeMap.insert_entry}
use Rattle.dist_epmd_server.specs.{declared.owed.Owed.Owed, Owing.FirstTry}
use Rattle.dist_epmd_server.proofs.owing.Owing.leave.Goals as goal

pub returns-then-is_over : goal.returns-then-is_over
returns-then-is_over g c = (
  c.first_try-owed.result.0,
  true,
  subst (λ (over : Bool). FirstTry {S = g.row.S.Denot} g.S.Stream.meaning c.args.stream c.args.text c.args.now c.first_try-owed.result.0 over) c.if-is_over.true c.first_try-owed.ensures,
  refl,
)

pub returns-in-Ok : goal.returns-in-Ok
returns-in-Ok g c = (
  c.first_try-owed.result.0,
  subst (λ (over : Bool). FirstTry {S = g.row.S.Denot} g.S.Stream.meaning c.args.stream c.args.text c.args.now c.first_try-owed.result.0 over) c.if-is_over.false c.first_try-owed.ensures,
  c.in-Ok.ensures.entries ∙ ap (λ (all : List (ℕ × Owed g.row.S.Denot)). insert_entry nat_cmp all c.args.conn c.first_try-owed.result.0) c.make_place.ensures,
)

pub returns : goal.returns
returns g c = (
  c.first_try-owed.result.0,
  false,
  subst (λ (over : Bool). FirstTry {S = g.row.S.Denot} g.S.Stream.meaning c.args.stream c.args.text c.args.now c.first_try-owed.result.0 over) c.if-is_over.false c.first_try-owed.ensures,
  c.in-Err.ensures.err ∙ c.make_place.ensures,
)
