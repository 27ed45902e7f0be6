use Rattle.dist_audit.proofs.Words.{◌≡◌, ◌||◌, ℕ, drop, nat_cmp, contains, list_any, is_strange_at}
use Rattle.dist_audit.proofs.pairing.outside.ends_outside.Given as goal

-- with those that are left they are all
abbrev pub invariant-loop-i : goal.invariant-loop-i
invariant-loop-i l = (n : ℕ) → (list_any (is_strange_at l.lines n) (drop l.i l.lines) || contains nat_cmp l.ends n) ≡ list_any (is_strange_at l.lines n) l.lines
