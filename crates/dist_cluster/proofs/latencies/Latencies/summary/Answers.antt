use Rattle.std.proofs.Common.{rules, ◌≡◌, ℕ, ◌<◌, length, List, refl, ◌∙◌, subst}
use Rattle.std.proofs.lemmas.Bool.{eqb-false}
use Rattle.std.specs.List.Sorted.{IsPermutation}
use Rattle.dist_cluster.specs.{declared.latencies.LatencySummary.LatencySummary, Latency.Tally, Latency.Summarizes}
use Rattle.dist_cluster.proofs.Tallies.{median-of}
use Rattle.dist_cluster.proofs.latencies.Latencies.summary.Goals as goal

pub returns : goal.returns
returns c =
    let xs : List ℕ = c.self.inside.recent.items in
    let sorted : List ℕ = c.sort.new.self.items in
    let same : c.in_ok-sorted.sorted.items ≡ xs = c.in_ok-sorted.ensures.items ∙ c.deref.ensures.value in
    let Moved : List ℕ → Type 0 = λ ys. IsPermutation ys sorted in
    let moved : IsPermutation xs sorted = subst Moved same c.sort.ensures.permutation in
    let len : c.len.result ≡ length sorted = search rules in
    let some : 0 < c.len.result = search (rules, eqb-false) in
    let s : LatencySummary = record { count = c.self.inside.count; least = c.self.inside.least; median = c.index.result.now; worst = c.self.inside.worst } in
    let P : Tally → Type 0 = λ k. Summarizes s k in
    subst P c.self.view_is (record {
      count = refl;
      least = refl;
      worst = refl;
      median = median-of xs sorted c.len.result c.index.result.now len some moved c.in_ok-sort.ensures.sorted c.index.ensures;
    })
