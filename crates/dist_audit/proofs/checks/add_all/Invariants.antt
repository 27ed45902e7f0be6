use Rattle.dist_audit.proofs.Words.{◌≡◌, ℕ, ◌||◌, drop, nat_cmp, contains, has_ticket}
use Rattle.dist_audit.proofs.checks.add_all.Given as goal

-- with those that are left they are all
abbrev pub invariant-loop-line : goal.invariant-loop-line
invariant-loop-line l = (n : ℕ) → (has_ticket n (drop l.line-index l.history) || contains nat_cmp l.tickets n) ≡ (has_ticket n l.history || contains nat_cmp l.fn.tickets n)
