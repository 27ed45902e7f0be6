use Rattle.std.proofs.Common.{◌≡◌, List, ℕ, ◌++◌, length, take, drop, refl, ap, ◌∙◌, sym, take-append-drop, take_at}
use Rattle.dist_world.proofs.scene.begins_with.Goals as goal

front : (bytes text rest : List ℕ) → bytes ++ rest ≡ text → take (length bytes) text ≡ bytes
front bytes text rest e = ap (take (length bytes)) (sym e) ∙ take_at bytes rest (length bytes) refl

pub returns-then-text-bytes : goal.returns-then-text-bytes
returns-then-text-bytes c =
    let bytes = c.args.bytes.now in
    let text = c.args.text.now in (
      λ yes. (drop (length bytes) text, ap (λ (xs : List ℕ). xs ++ drop (length bytes) text) (sym (c.same_bytes.ensures.0 yes)) ∙ take-append-drop (length bytes) text),
      λ x. c.same_bytes.ensures.1 (front bytes text x.0 x.1),
    )
