-- Steps that were refused.
use Rattle.std.proofs.Common.{◌≡◌, ◌∙◌, ℕ, List, Option, None, Result, Err, refl, sym, ap, subst}
use Rattle.std.specs.Io.KnownBytes.{Appends}
use Rattle.dist_core.specs.{declared.reply.Reply.Reply, declared.step_error.StepError.StepError, Node.NodeState, Answers.Refuses}
use Rattle.dist_core.specs.declared.step_error.StepError.TheVariants as error
use Rattle.dist_script_play.specs.{Lines.refused_line, Played.Standing, Played.step_text, Played.up_in, Played.after_step}

-- where memory suffices, a refusal is the definition's
refused : (e : StepError) (s : Result (Reply × NodeState) StepError) → Refuses e s → (e ≡ error.NoMemory → ⊥) → s ≡ Err e
refused error.NoSuchEnd s r n = r
refused (error.Gone why) s r n = r
refused error.WrongPhase s r n = r
refused (error.Busy entry) s r n = r
refused error.Spent s r n = r
refused error.Full s r n = r
refused error.NoMemory s r n = absurd (n refl)

pub refused_text : (a b : Option (List ℕ)) (e : StepError) (s : Result (Reply × NodeState) StepError) → Refuses e s → (e ≡ error.NoMemory → ⊥) → Appends a b (refused_line e) → Appends a b (step_text s)
refused_text a b e s r n p = subst (λ x. Appends a b (step_text x)) (sym (refused e s r n)) p

pub refused_after : (x y : Standing) (e : StepError) (s : Result (Reply × NodeState) StepError) → Refuses e s → (e ≡ error.NoMemory → ⊥) → y ≡ x → y ≡ after_step x s
refused_after x y e s r n p = p ∙ ap (after_step x) (sym (refused e s r n))

-- it brought no end up
pub refused_up : (e : StepError) (s : Result (Reply × NodeState) StepError) → Refuses e s → (e ≡ error.NoMemory → ⊥) → None ≡ up_in s
refused_up e s r n = ap up_in (sym (refused e s r n))
