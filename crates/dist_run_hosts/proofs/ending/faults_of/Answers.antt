use Rattle.std.proofs.Common.{◌≡◌, ◌++◌, ◌∙◌, length, take, drop, sym, ap, subst, arith, rules}
use Rattle.std.proofs.{Math.Seq.take-append_seam, lemmas.Grind.common_steps, lemmas.List.Sorted.IsNonDecreasingBy-from_sort_by_key}
use Rattle.std.specs.List.Sorted.{IsNonDecreasingBy}
use Rattle.dist_run_hosts.specs.declared.order_fault.OrderFault.{OrderFault}
use Rattle.dist_run_hosts.proofs.ending.faults_of.Goals as goal

pub returns-clause-order : goal.returns-clause-order
returns-clause-order c =
    let s = c.sort_unstable_by_key.new.self in
    let rest = drop (length s) c.append.new.self.items in
    let sorted = IsNonDecreasingBy-from_sort_by_key (λ (fault : OrderFault). fault.number) _ c.sort_unstable_by_key.ensures.sorted (λ a r q k. search rules) in
    let count : c.append.new.self.len ≡ length s = first_of (search rules, first_of (omega (arith, c.sort_unstable_by_key.ensures.len), grind (arith, common_steps, c.sort_unstable_by_key.ensures.len))) in
    subst (IsNonDecreasingBy (λ (fault : OrderFault). fault.number)) (sym (ap (λ n. take n (s ++ rest)) count ∙ take-append_seam s rest)) sorted
