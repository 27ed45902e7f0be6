-- A tick leaves the ends as they are.
use Rattle.dist_core.proofs.Words.{◌≡◌, ℕ, ◌+◌, ◌<◌, true, false, cond, List, [], ◌∷◌, ◌++◌, length, set, nat_lt, slice_get, Some, None, Ok, Err, sym, ap, ◌∙◌}
use Rattle.dist_core.proofs.Words.{arith, set-get_or, get_or_from_slice_get, slice_get_within, EndId, put_end, End, UpRecord, tick_text, goes_on, NodeState}
use Rattle.dist_core.proofs.Words.{is_spent, at_end, step_result, tick_effect}
use Rattle.dist_core_ends.specs.declared.known.End.TheVariants as ends
use Rattle.dist_core.specs.declared.event.Event.TheVariants as event
use Rattle.dist_core.specs.declared.reply.Note.TheVariants as note
use Rattle.dist_core.specs.declared.step_error.StepError.TheVariants as error

-- an end that is put where it stands changes nothing
pub put-same : (es : List End) (i : ℕ) (e : End) → slice_get es i ≡ Some e → put_end es i e ≡ es
put-same es i e h =
    let within : i < length es = slice_get_within es i e h in
    let is-in : nat_lt i (length es) ≡ true = grind (arith, within) in
    ap (λ b. cond b (set es i e) (es ++ e ∷ [])) is-in
    ∙ ap (set es i) (sym (get_or_from_slice_get es i e e h))
    ∙ set-get_or es i e

-- what a tick of an end that is up leads to
pub ticks : (n : NodeState) (id : EndId) (r : UpRecord) → slice_get n.ends id.0 ≡ Some (ends.Up r) → is_spent n ≡ false → step_result n (event.Tick id) (at_end (slice_get n.ends id.0) (tick_effect n id)) ≡ Ok (record { end_ = id; say = tick_text; closed = None; up = None; note = note.Nothing }, record { setup = n.setup; steps = n.steps + 1; ends = n.ends })
ticks n id r at sp =
    ap (λ o. step_result n (event.Tick id) (at_end o (tick_effect n id))) at
    ∙ ap (λ b. step_result n (event.Tick id) (cond b (Err error.Spent) (Ok (goes_on id tick_text (ends.Up r) note.Nothing)))) sp
    ∙ ap (λ es. Ok (record { end_ = id; say = tick_text; closed = None; up = None; note = note.Nothing }, record { setup = n.setup; steps = n.steps + 1; ends = es })) (put-same n.ends id.0 (ends.Up r) at)
