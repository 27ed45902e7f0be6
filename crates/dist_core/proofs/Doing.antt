-- What the definition gives can be done.
use Rattle.dist_core.proofs.Words.{◌≡◌, ℕ, ◌≤◌, length, Ok, arith, table_of, table-legal, CanDo, NodeState, limits_of, cost_of, effect_of, Effect, Event}
use Rattle.dist_core.proofs.{Numbers.counted, Steps.fits}

module _ (n : NodeState) (v : Event) (fresh : ℕ) (f : Effect) (is : effect_of n v fresh ≡ Ok f) (one : cost_of v ≡ 1) where
  pub can-do : length n.ends ≤ n.steps → n.steps ≤ (let l = limits_of n in l.steps) → length n.ends ≤ (let l = limits_of n in l.ends) → CanDo n f
  can-do few bounded left =
      let h = counted n v fresh f is bounded left in
      record {
        fits = λ legal. fits n (table_of n.ends) (table-legal n.ends legal) v fresh f is;
        few = omega (arith, h.1, few, one);
        bounded = omega (arith, h.0, one);
        numbered = h.2;
      }
