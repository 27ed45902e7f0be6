-- The ends that hold a peer are always exactly those that its entry names.
use Rattle.std.specs.FinMap as map
use Rattle.dist_core.specs.declared.event.Event.{Event}
use Rattle.dist_core.proofs.{Steps.fits, Words.legal, Words.none-legal, Words.table-legal, Words.ℕ, Words.List, Words.AreLegal, Words.table_of, Words.Setup}
use Rattle.dist_core.proofs.{Words.table_after_effect, Words.NodeState, Words.ends_after, Words.node_after, Words.opening, Words.run, Words.step}
use Rattle.dist_core_laws.proofs.Constant.{after-run, after-step}

pub legal_step : (n : NodeState) (v : Event) (fresh : ℕ) → AreLegal n.ends → AreLegal (node_after n (step n v fresh)).ends
legal_step n v fresh h = after-step (λ m. AreLegal m.ends) n v fresh h (λ f e.
    let g = fits n (table_of n.ends) (table-legal n.ends h) v fresh f e in
    legal (map.get (table_after_effect n (table_of n.ends) f)) (ends_after n.ends f) g.agree)

pub legal_opening : (s : Setup) → AreLegal (opening s).ends
legal_opening s = none-legal

pub legal_runs : (s : Setup) (xs : List (Event × ℕ)) → AreLegal (run xs (opening s)).ends
legal_runs s xs = after-run (λ m. AreLegal m.ends) legal_step xs (opening s) (legal_opening s)
