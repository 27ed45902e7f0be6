-- The talks stand in the order of their places.
use Rattle.std.proofs.Common.{◌∙◌, sym, subst, rules}
use Rattle.std.specs.Prelude.{IsPermutation}
use Rattle.std.proofs.lemmas.List.Sorted.{IsNonDecreasingBy-from_sort_by_key}
use Rattle.distcheck.proofs.Order.{in_order}
use Rattle.distcheck.proofs.running.run_talks.Goals as goal

pub returns-clause-talks : goal.returns-clause-talks
returns-clause-talks g c =
    let wanted = c.args.wanted.now in
    c.in_ok-confirm_all.ensures.talks ∙ in_order (λ p. p.queued) (λ talk. talk.place) wanted.talks.items _ _ wanted.placed
    (subst (IsPermutation wanted.talks.items) (sym c.in_ok-talks.ensures) (rw (← c.deref.ensures.value) c.in_ok-queue.ensures))
    c.in_ok-sort_by_key.ensures.permutation
    (IsNonDecreasingBy-from_sort_by_key (λ p. p.queued.place) _ c.in_ok-sort_by_key.ensures.sorted (λ a r q k. search rules))
