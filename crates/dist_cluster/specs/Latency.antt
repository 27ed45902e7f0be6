-- The latencies of one target, and their summary.
use Rattle.std.specs.Prelude.{◌≡◌, ℕ, ◌+◌, ◌-◌, ◌/◌, ◌^◌, ◌<◌, ◌≤◌, min, max, List, [], ◌∷◌, ◌++◌, length, drop, Some, slice_get}
use Rattle.std.specs.List.{AllByRecursion, Contains, Sorted.IsPermutation, Sorted.IsNonDecreasing}
use Rattle.dist_cluster.specs.declared.latencies.LatencySummary.{LatencySummary}

-- how many latencies are kept for the median
abbrev pub most_kept : ℕ
most_kept = 1024

-- what is kept of the latencies of one target
pub record Tally : Type 0 where
  pub count : ℕ
  pub least : ℕ
  pub worst : ℕ
  -- the last ones, the oldest first
  pub recent : List ℕ

-- no latencies: the least is then the greatest number of 64 bits, and the worst is 0
abbrev pub empty_tally : Tally
empty_tally = record { count = 0; least = 2 ^ 64 - 1; worst = 0; recent = [] }

-- the last n of a list, or all
abbrev pub last_few : ℕ → List ℕ → List ℕ
last_few n xs = drop (length xs - n) xs

-- what is kept once one more latency is noted
abbrev pub with_latency : Tally → ℕ → Tally
with_latency t latency = record {
  count = min (t.count + 1) (2 ^ 64 - 1);
  least = min t.least latency;
  worst = max t.worst latency;
  recent = last_few most_kept (t.recent ++ latency ∷ []);
}

-- THE MEDIAN of some numbers: the middle one once they are sorted; of an even number of them, the lower of the two in the middle
abbrev pub IsMedian : List ℕ → ℕ → Type 0
IsMedian xs median =
    (sorted : List ℕ) × IsPermutation xs sorted × IsNonDecreasing sorted × (slice_get sorted ((length sorted - 1) / 2) ≡ Some median)

-- the summary says what is kept, and the median of the last latencies
pub record Summarizes (s : LatencySummary) (t : Tally) : Type 0 where
  pub count : s.count ≡ t.count
  pub least : s.least ≡ t.least
  pub worst : s.worst ≡ t.worst
  pub median : IsMedian t.recent s.median

-- ---- all latencies

-- what is kept once these latencies are noted in turn
abbrev pub after_latencies : Tally → List ℕ → Tally
after_latencies t [] = t
after_latencies t (x ∷ xs) = after_latencies (with_latency t x) xs

-- WHAT IS KEPT of these latencies
abbrev pub tally_of : List ℕ → Tally
tally_of xs = after_latencies empty_tally xs

-- each is a number of 64 bits
abbrev pub FitWord : List ℕ → Type 0
FitWord xs = AllByRecursion (λ x. x < 2 ^ 64) xs

-- the number is one of these, and none of them is less
pub record IsLeast (xs : List ℕ) (least : ℕ) : Type 0 where
  pub member : Contains xs least
  pub bound : AllByRecursion (λ x. least ≤ x) xs

-- the number is one of these, and none of them is greater
pub record IsGreatest (xs : List ℕ) (greatest : ℕ) : Type 0 where
  pub member : Contains xs greatest
  pub bound : AllByRecursion (λ x. x ≤ greatest) xs
