use Rattle.dist_audit.proofs.Words.{◌≡◌, drop, nat_cmp, contains, list_any, Line}
use Rattle.dist_audit.proofs.checks.has_one_of.Given as goal

-- what is left decides
abbrev pub invariant-loop-line : goal.invariant-loop-line
invariant-loop-line l = list_any (λ (x : Line). contains nat_cmp l.tickets x.ticket) (drop l.line-index l.history) ≡ list_any (λ (x : Line). contains nat_cmp l.tickets x.ticket) l.history
