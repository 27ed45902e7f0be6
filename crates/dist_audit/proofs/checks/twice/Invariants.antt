use Rattle.dist_audit.proofs.Words.{◌≡◌, ℕ, false, drop, nat_cmp, contains, has_ticket_in, twice}
use Rattle.dist_audit.proofs.checks.twice.Given as goal

-- no ticket of those passed stands twice, and their tickets are known
abbrev pub invariant-loop-i : goal.invariant-loop-i
invariant-loop-i l = record { once : twice (drop l.i l.closed) ≡ false; known : (n : ℕ) → contains nat_cmp l.later n ≡ has_ticket_in n (drop l.i l.closed) }
