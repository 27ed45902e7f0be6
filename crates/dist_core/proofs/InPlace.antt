-- Steps that change an attempt in its place.
use Rattle.dist_core.proofs.Words.{◌≡◌, ℕ, ◌+◌, ◌≤◌, List, length, slice_get, Some, Ok, refl, EndId, table_of, Attempt, End, table-legal, NodeState, limits_of}
use Rattle.dist_core.proofs.Words.{CanProgress, HoldsOn, effect_by, cost_of, effect_of, Event, Progress}
use Rattle.dist_core.proofs.{Numbers.counted, Steps.fits}
use Rattle.dist_core_ends.specs.declared.known.End.TheVariants as ends
use Rattle.dist_core.specs.declared.progress.Progress.TheVariants as progress

-- what is done to an attempt is done at its end
pub end-by : (es : List End) (id : EndId) (a : Attempt) (p : Progress) → (let f = effect_by es id a p in f.reply.end_) ≡ id
end-by es id a (progress.Goes say to) = refl
end-by es id a p = refl

-- where an event does it, the end can have it, and a step is left for it
pub can-be : (n : NodeState) (v : Event) (fresh : ℕ) (id : EndId) (a : Attempt) (p : Progress) → effect_of n v fresh ≡ Ok (effect_by n.ends id a p) → slice_get n.ends id.0 ≡ Some (ends.Attempt a) → HoldsOn a p
    → n.steps ≤ (let l = limits_of n in l.steps) → length n.ends ≤ (let l = limits_of n in l.ends) → CanProgress n.ends id p × (n.steps + cost_of v ≤ (let l = limits_of n in l.steps))
can-be n v fresh id a p is at holds b h = (
  record {
    attempt = a;
    at_ = at;
    holds = holds;
    own = n.setup.name;
    fits = λ legal. fits n (table_of n.ends) (table-legal n.ends legal) v fresh (effect_by n.ends id a p) is;
  },
  (counted n v fresh (effect_by n.ends id a p) is b h).0,
)
