use Rattle.dist_core_ends.proofs.Words.{◌≡◌, ◌+◌, ◌^◌, ◌<◌, List, [], ◌∷◌, ◌++◌, length, nat_eq, Some, None, Option, sym, refl, ap, ◌∙◌, subst, arith, Updates}
use Rattle.dist_core_ends.proofs.Words.{get, AreWithin, RowList, all_causes, row_by, rows_from, EndPlace, Why}
use Rattle.dist_core_ends.proofs.Places.{rows-length, rows-more, all-length, all-more, within-more, done}
use Rattle.dist_core_ends.proofs.past_rows.PastRows.push.Goals as goal
use Rattle.dist_core_ends.specs.declared.why.Why.TheVariants as why

pub invariant_of-self : goal.invariant_of-self
invariant_of-self c =
    let f = get nat_eq c.self.inside.places in
    let g = get nat_eq c.insert-added.new.self in
    let b = c.self.inside.base in
    let ws = c.self.inside.causes.items in
    let n = b + c.len.result in
    let more : c.push_reserved.new.self.items ≡ ws ++ why.Ended ∷ [] = c.push_reserved.ensures.items in
    let u = done (Updates nat_eq c.self.inside.places c.insert-added.new.self n (Some c.args.row)) c.insert-added.result c.unwrap.result c.unwrap.ensures c.insert-added.ensures.updates in
    let Q : List Why → Type 0 = λ xs. AreWithin b xs g in
    let len : n ≡ b + length ws = omega (arith, c.len.ensures) in
    let few : n < 2 ^ 32 = omega (arith, len, c.requires.few, ap (λ (r : RowList). length r.items) c.self.view_is, rows-length f 0 (all_causes b ws), all-length b ws) in
    subst Q (sym more) (within-more f g b ws n why.Ended c.self.invariant len few (u.2))

pub invariant_of-self-in-Closed : goal.invariant_of-self-in-Closed
invariant_of-self-in-Closed c =
    let f = get nat_eq c.self.inside.places in
    let b = c.self.inside.base in
    let ws = c.self.inside.causes.items in
    let more : c.push_reserved-in-Closed.new.self.items ≡ ws ++ c.in-Closed.why ∷ [] = c.push_reserved-in-Closed.ensures.items in
    let Q : List Why → Type 0 = λ xs. AreWithin b xs f in
    let few : b + length ws < 2 ^ 32 = omega (arith, c.requires.few, ap (λ (r : RowList). length r.items) c.self.view_is, rows-length f 0 (all_causes b ws), all-length b ws) in
    subst Q (sym more) (within-more f f b ws (b + length ws) c.in-Closed.why c.self.invariant refl few (λ q d. refl))

pub returns-in-Slot-clause-rows : goal.returns-in-Slot-clause-rows
returns-in-Slot-clause-rows c =
    let f = get nat_eq c.self.inside.places in
    let g = get nat_eq c.insert-added.new.self in
    let b = c.self.inside.base in
    let ws = c.self.inside.causes.items in
    let n = b + c.len.result in
    let more : c.push_reserved.new.self.items ≡ ws ++ why.Ended ∷ [] = c.push_reserved.ensures.items in
    let u = done (Updates nat_eq c.self.inside.places c.insert-added.new.self n (Some c.args.row)) c.insert-added.result c.unwrap.result c.unwrap.ensures c.insert-added.ensures.updates in
    ap (λ (xs : List Why). rows_from g 0 (all_causes b xs)) more
    ∙ ap (rows_from g 0) (all-more b ws why.Ended)
    ∙ rows-more f g (all_causes b ws) n why.Ended c.args.row (omega (arith, c.len.ensures, all-length b ws)) (ap (λ (o : Option EndPlace). row_by o why.Ended) (u.1)) (u.2)
    ∙ ap (λ (r : RowList). r.items ++ c.args.row ∷ []) c.self.view_is

pub returns-in-Closed-clause-rows : goal.returns-in-Closed-clause-rows
returns-in-Closed-clause-rows c =
    let f = get nat_eq c.self.inside.places in
    let b = c.self.inside.base in
    let ws = c.self.inside.causes.items in
    let all = all_causes b ws in
    let more : c.push_reserved-in-Closed.new.self.items ≡ ws ++ c.in-Closed.why ∷ [] = c.push_reserved-in-Closed.ensures.items in
    let none : f (length all) ≡ None = c.self.invariant.beyond (length all) (omega (arith, all-length b ws)) in
    let here : row_by (f (length all)) c.in-Closed.why ≡ c.args.row = ap (λ (o : Option EndPlace). row_by o c.in-Closed.why) none ∙ sym c.in-Closed.is in
    ap (λ (xs : List Why). rows_from f 0 (all_causes b xs)) more
    ∙ ap (rows_from f 0) (all-more b ws c.in-Closed.why)
    ∙ rows-more f f all (length all) c.in-Closed.why c.args.row refl here (λ q d. refl)
    ∙ ap (λ (r : RowList). r.items ++ c.args.row ∷ []) c.self.view_is
