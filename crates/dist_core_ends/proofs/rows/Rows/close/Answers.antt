use Rattle.dist_core_ends.proofs.Words.{◌++◌, set, sym, ap, ◌∙◌, arith, RowList}
use Rattle.dist_core_ends.proofs.rows.Rows.close.Goals as goal
use Rattle.std.proofs.lemmas.List.{set-append_left, set-append_right}
use Rattle.dist_core_ends.specs.declared.slots.EndPlace.TheVariants as row

pub returns-then-i-self : goal.returns-then-i-self
returns-then-i-self c =
    let r = row.Closed c.args.why in
    ap (λ xs. xs ++ c.self.inside.recent.items) c.close.ensures
    ∙ sym (set-append_left c.self.inside.past.items c.self.inside.recent.items c.args.i r (omega (arith, c.if-i-self.true, c.self.invariant.0)))
    ∙ ap (λ (l : RowList). set l.items c.args.i r) c.self.view_is

pub returns-else-i-self : goal.returns-else-i-self
returns-else-i-self c =
    let r = row.Closed c.args.why in
    sym (set-append_right c.self.inside.past.items c.self.inside.recent.items c.self.inside.before c.args.i r (sym c.self.invariant.0) c.if-i-self.false)
    ∙ ap (λ (l : RowList). set l.items c.args.i r) c.self.view_is
