-- A loss is reported, or refused.
use Rattle.std.proofs.Common.{IfOk}
use Rattle.dist_core.specs.declared.event.Event.TheVariants as event
use Rattle.dist_drive.proofs.Words.{OnErr, Reply, StepError, IfErr, Why, ◌≡◌, ℕ, List, [], ◌∷◌, ◌++◌, Ok, Err, Result, inl, inr, EndId}
use Rattle.dist_locked_book.specs.{History.IsRefused, declared.seat.Receipt.Receipt}
use Rattle.dist_locked.specs.Losses.{IsLost}

pub lost : (end_ : EndId) (w : Why) (before after : List Receipt) (seat : ℕ) (r : Result (Receipt × Reply) StepError)
    → IfOk r (λ x. after ≡ before ++ x.0 ∷ [])
    → IfOk r (λ x. (x.0.line.seat ≡ seat) × (x.0.line.event ≡ event.Lost end_ w) × (x.0.line.fresh ≡ 0))
    → OnErr r (after ≡ before)
    → IfErr r (IsRefused (event.Lost end_ w) 0)
    → IsLost end_ w before after
lost end_ w before after seat (Ok x) list line same refused = inl (x.0, list, line.1)
lost end_ w before after seat (Err e) list line same refused = inr (same, (e, refused))
