-- What a row says of its end, and what a number that is written now changes.
use Rattle.dist_world_model.proofs.Words.{◌≡◌, ℕ, true, length, slice_get, Some, None, Option, sym, ap, ◌∙◌, arith, same_Some, slice_get_within, Acceptor}
use Rattle.dist_world_model.proofs.Words.{Dialler, EndId, Attempt, End, Phase, NodeState, EndRow, once, past}
use Rattle.dist_world_model.proofs.{EndStates.Fits, EndStates.Stand, EndStates.open-row, EndStates.stand_in, EndStates.stand_row, Wires.Before}
use Rattle.dist_core_ends.specs.declared.known.End.TheVariants as ends

-- a number written now is after what happened before
pub before-once : (t : ℕ) (early late : Option ℕ) → past t early ≡ true → Before early late → Before early (once true t late)
before-once t early (Some n) e b k h = b k h
before-once t early None e b k h = let z : t ≡ k = cc in ap (λ j. past j early) (sym z) ∙ e

-- ---- what a row says of its end

pub attempt-row : (b : Attempt) (row : EndRow) → Fits (ends.Attempt b) row → stand_in b.peer b.phase ≡ stand_row row
attempt-row b row f = let o = open-row (stand_in b.peer b.phase) row f in o.1

pub unnamed-side : (row : EndRow) → Fits ends.Unnamed row → row.side ≡ Acceptor
unnamed-side row f = let o = open-row _ row f in ap (λ (s : Stand). s.side) (sym o.1)

-- the row beside an attempt in this phase has its side
pub row-of-phase : (b : Attempt) (row : EndRow) (q : Phase) → Fits (ends.Attempt b) row → b.phase ≡ q → row.side ≡ (stand_in b.peer q).side
row-of-phase b row q f ph = ap (λ (s : Stand). s.side) (sym (attempt-row b row f) ∙ ap (stand_in b.peer) ph)

pub not-acceptor : (x : EndRow) → x.side ≡ Dialler → x.side ≡ Acceptor → ⊥
not-acceptor x s e = let z : Dialler ≡ Acceptor = sym s ∙ e in absurd cc

pub same-end : (n : NodeState) (id : EndId) (e d : End) → slice_get n.ends id.0 ≡ Some e → slice_get n.ends id.0 ≡ Some d → e ≡ d
same-end n id e d h g = same_Some e d (sym h ∙ g)

-- the event's own end was there before
pub not-new : (n : NodeState) (e : End) → slice_get n.ends (length n.ends) ≡ Some e → ⊥
not-new n e h = let w = slice_get_within n.ends (length n.ends) e h in omega (arith, w)
