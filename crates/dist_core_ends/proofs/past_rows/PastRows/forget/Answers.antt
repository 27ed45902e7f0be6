use Rattle.dist_core_ends.proofs.Words.{◌≡◌, ◌+◌, ◌≤◌, min, List, length, nat_eq, sym, ap, ◌∙◌, arith, get, rows_forgotten, RowList, all_causes, rows_from, Why}
use Rattle.dist_core_ends.proofs.Places.{rows-forgotten, all-length, all-drop, all-forgotten, causes-upto}
use Rattle.dist_core_ends.proofs.past_rows.PastRows.forget.Goals as goal

pub returns-then-self-last : goal.returns-then-self-last
returns-then-self-last c =
    let f = get nat_eq c.self.inside.places in
    let g = get nat_eq c.keep_open.new.places in
    let b = c.self.inside.base in
    let ws = c.self.inside.causes.items in
    let m = c.min-last.result in
    let upto : m ≡ min c.args.below (length (all_causes b ws)) = omega (arith, c.min-last.ensures, c.len.ensures, all-length b ws) in
    let most : m ≤ b + length ws = omega (arith, c.min-last.ensures, c.len.ensures) in
    let rises : b ≤ m = omega (arith, c.if-self-last.true) in
    ap (λ (xs : List Why). rows_from g 0 (all_causes m xs)) c.drop_first.ensures
    ∙ ap (rows_from g 0) (all-drop b m ws rises most ∙ causes-upto m c.args.below (all_causes b ws) upto)
    ∙ rows-forgotten f g c.args.below (all_causes b ws) c.keep_open.ensures
    ∙ ap (λ (r : RowList). rows_forgotten c.args.below r.items) c.self.view_is

pub returns-else-self-last : goal.returns-else-self-last
returns-else-self-last c =
    let f = get nat_eq c.self.inside.places in
    let g = get nat_eq c.keep_open.new.places in
    let b = c.self.inside.base in
    let ws = c.self.inside.causes.items in
    let m = c.min-last.result in
    let upto : m ≡ min c.args.below (length (all_causes b ws)) = omega (arith, c.min-last.ensures, c.len.ensures, all-length b ws) in
    ap (rows_from g 0) (sym (all-forgotten b m ws c.if-self-last.false) ∙ causes-upto m c.args.below (all_causes b ws) upto)
    ∙ rows-forgotten f g c.args.below (all_causes b ws) c.keep_open.ensures
    ∙ ap (λ (r : RowList). rows_forgotten c.args.below r.items) c.self.view_is
