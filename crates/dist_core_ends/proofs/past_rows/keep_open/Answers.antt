use Rattle.dist_core_ends.proofs.Words.{ℕ, eqb, ap, ◌∙◌, rules, filter_same_pairs, lookup, stays_kept, EndPlace}
use Rattle.dist_core_ends.proofs.Places.{places-kept}
use Rattle.dist_core_ends.proofs.past_rows.keep_open.Goals as goal

pub returns : goal.returns
returns c q =
    let es = c.args.places.now.entries in
    ap (lookup (eqb q)) (filter_same_pairs _ (λ (e : ℕ × EndPlace). stays_kept c.args.below e.0 e.1) _ (λ k v b w f t. search rules) _ _ c.retain.ensures.filtered)
    ∙ places-kept c.args.below es c.retain.ensures.was_unique q
