-- Where there is room for a further entry, there is for any peer's.
use Rattle.std.proofs.Common.{◌≡◌, ℕ, true, false, nat_lt, cond, Option, Some, None, refl, ap}
use Rattle.std.specs.FinMap as map
use Rattle.dist_peers.specs.{Table.Table, Verdicts.is_full, declared.entry.Entry.Entry}

pub room : (most : ℕ) (t : Table) (o : Option Entry) → nat_lt (map.len t) most ≡ true → is_full most t o ≡ false
room most t (Some e) h = refl
room most t None h = ap (λ b. cond b false true) h
