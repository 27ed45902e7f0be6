use Rattle.dist_audit.proofs.Words.{IsPermutation, subst, rules, ticket_of}
use Rattle.dist_audit.proofs.lines.lines_of.Goals as goal
use Rattle.std.proofs.lemmas.List.Sorted.{IsNonDecreasingBy-from_sort_by_key}

pub returns : goal.returns
returns c = record {
  all = subst (λ ts. IsPermutation ts c.sort_unstable_by_key.new.self.items) c.in_ok-lines.ensures c.sort_unstable_by_key.ensures.permutation;
  order = IsNonDecreasingBy-from_sort_by_key ticket_of _ c.sort_unstable_by_key.ensures.sorted (λ a r q k. search rules);
}
