-- The first status that is not 0.
use Rattle.std.proofs.Common.{◌≡◌, ℕ, List, [], ◌∷◌, ◌++◌, sym, arith}
use Rattle.dist_cluster.specs.{Statuses.first_of, declared.pairs.Half.Half}
use Rattle.dist_talk.specs.Words.{status_of}
use Rattle.distping.specs.Order.{first_status}

-- behind a status comes none
pub first_of_none : (a : ℕ) → first_of a 0 ≡ a
first_of_none a = grind arith

-- it does not matter which of three is compared first
pub first_of_assoc : (a b c : ℕ) → first_of (first_of a b) c ≡ first_of a (first_of b c)
first_of_assoc a b c = grind arith

-- one node more
pub first_status_push : (halves : List Half) (half : Half) → first_status (halves ++ half ∷ []) ≡ first_of (first_status halves) (status_of half.verdict)
first_status_push [] half = first_of_none (status_of half.verdict)
first_status_push (first ∷ halves) half = rw (first_status_push halves half) (sym (first_of_assoc (status_of first.verdict) (first_status halves) (status_of half.verdict)))
