use Rattle.dist_core_ends.proofs.Words.{◌+◌, ◌^◌, ◌≤◌, ◌++◌, length, ap, ◌∙◌, arith, length-append, rows_forgotten, RowList, EndPlace}
use Rattle.dist_core_ends.proofs.Recent.{forgotten-length, forgotten-both}
use Rattle.dist_core_ends.proofs.rows.Rows.forget.Goals as goal

pub invariant_of-self : goal.invariant_of-self
invariant_of-self c =
    let past = c.self.inside.past.items in
    let recent = c.self.inside.recent.items in
    let before : length past + length recent ≤ 2 ^ 32 = omega (arith, c.self.invariant.1, length-append {A = EndPlace} past recent) in (
      omega (arith, c.self.invariant.0, ap length c.forget.ensures, forgotten-length c.args.below past),
      omega (arith, before, ap length c.forget.ensures, ap length c.forget_first.ensures, forgotten-length c.args.below past, forgotten-length c.saturating_sub.result recent, length-append {A = EndPlace} c.forget.new.self.items c.forget_first.new.rows.items),
    )

pub returns : goal.returns
returns c =
    let past = c.self.inside.past.items in
    let recent = c.self.inside.recent.items in
    ap (λ xs. xs ++ c.forget_first.new.rows.items) c.forget.ensures
    ∙ ap (λ xs. rows_forgotten c.args.below past ++ xs) c.forget_first.ensures
    ∙ forgotten-both past recent c.args.below c.saturating_sub.result c.self.inside.before c.self.invariant.0 c.saturating_sub.ensures
    ∙ ap (λ (l : RowList). rows_forgotten c.args.below l.items) c.self.view_is
