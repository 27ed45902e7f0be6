-- Tables that are the same as far as they go.
use Rattle.dist_audit.proofs.Words.{◌≡◌, ℕ, ◌<◌, ◌≤◌, None, sym, ◌∙◌, inl, inr, arith, cases_lt, slice_get_past, len-entries, table_of, NodeState, entry_at}
use Rattle.std.specs.FinMap as map

past : (n : NodeState) (k i : ℕ) → map.len (table_of n.ends) ≤ i → i ≤ k → entry_at n k ≡ None
past n k i few far = slice_get_past (map.entries (table_of n.ends)) k (omega (arith, len-entries (table_of n.ends)))

pub all_entries : (n m : NodeState) (i : ℕ) → map.len (table_of n.ends) ≤ i → map.len (table_of m.ends) ≤ i → ((k : ℕ) → k < i → entry_at n k ≡ entry_at m k) → (k : ℕ) → entry_at n k ≡ entry_at m k
all_entries n m i few less same k = elim (cases_lt k i) [
  | inl below ↦ same k below
  | inr far ↦ past n k i few far ∙ sym (past m k i less far)
]
