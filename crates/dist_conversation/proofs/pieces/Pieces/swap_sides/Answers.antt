use Rattle.std.proofs.Common.{◌∙◌, ap, arith, map, sym, subst, refl, get_or, ◌+◌}
use Rattle.std.proofs.Math.ListN.{set}
use Rattle.dist_messages.specs.declared.message.Side.{Side}
use Rattle.dist_conversation.specs.Pieces.{turned}
use Rattle.dist_conversation.proofs.Turning.{Turned, in_place, turned_all, turned_more}
use Rattle.dist_conversation.proofs.pieces.Pieces.swap_sides.Goals as goal

pub loop-piece-preserved : goal.loop-piece-preserved
loop-piece-preserved c =
    let now = c.loop-piece.piece-items in
    let i = c.loop-piece.piece-index in
    let p = get_or now i _ in
    subst (λ (s : Side). Turned c.deref_mut-piece-items.result.now (set now i (record { side = s; until = p.until; at = p.at })) (i + 1)) (sym c.other_side-piece.ensures)
    (turned_more c.deref_mut-piece-items.result.now now i _ p c.loop-piece.invariant (omega arith) (omega arith) refl)

pub returns : goal.returns
returns c =
    let list = c.self.inside.list in
    let done = turned_all c.deref_mut-piece-items.result.now c.loop-piece.piece-items c.loop-piece.piece-index (omega arith) (omega arith) c.loop-piece.invariant in
    in_place list.len list.items c.loop-piece.piece-items (omega (arith, list.ok.0)) (omega (arith, c.deref_mut-piece-items.ensures.len, c.loop-piece.auto.piece-items, list.ok.0)) ∙ done
    ∙ ap (map turned) (c.deref_mut-piece-items.ensures.value ∙ c.self.view_is)
