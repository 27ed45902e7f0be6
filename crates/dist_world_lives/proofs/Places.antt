-- A connection that is changed among all.
use Rattle.dist_core.proofs.Words.{Side, Acceptor, Dialler, ◌≡◌, ℕ, zero, suc, List, [], ◌∷◌, ◌++◌, slice_get, Some, None, Option, refl, ap}
use Rattle.dist_world_model.specs.{Delivery.says, Lists.at_place, World.Conn}
use Rattle.dist_world_lives.specs.{Stepping.conns_after, Stepping.conns_with, Stepping.undelivered_on, Wires.undelivered_by, Wires.with_undelivered}

-- what this side sends comes behind what is undelivered
joined : (side : Side) (cs : List Conn) (i : ℕ) (s : List ℕ) → at_place i (with_undelivered side (undelivered_by side (slice_get cs i) ++ s)) cs ≡ at_place i (says side s) cs
joined side [] i s = refl
joined Dialler (c ∷ cs) zero s = refl
joined Acceptor (c ∷ cs) zero s = refl
joined side (c ∷ cs) (suc i) s = ap (λ ds. c ∷ ds) (joined side cs i s)

pub joined_on : (cs : List Conn) (wire : Option (Side × ℕ)) (s : List ℕ) → conns_with cs wire (undelivered_on cs wire ++ s) ≡ conns_after cs wire s
joined_on cs None s = refl
joined_on cs (Some x) s = joined x.0 cs x.1 s
