-- The steps of a talk: none yet, and one more.
use Rattle.std.proofs.Common.{◌≡◌, ◌<◌, List, [], ◌∷◌, ◌++◌, length, get_or, refl, arith}
use Rattle.dist_conformance.specs.declared.steps.TalkStep.{TalkStep}
use Rattle.distcheck.specs.Playing.{Standing, next, standing_after}
use Rattle.distcheck.specs.declared.seen.PlayedStep.{PlayedStep}

pub none_yet : (s : Standing) (steps : List TalkStep) → standing_after s steps [] ≡ s
unfolding standing_after
none_yet s steps = refl

pub one_more : (s : Standing) (steps : List TalkStep) (ps : List PlayedStep) (p : PlayedStep) (d : TalkStep) → length ps < length steps
    → standing_after s steps (ps ++ p ∷ []) ≡ next (get_or steps (length ps) d) p.seen (standing_after s steps ps)
unfolding standing_after
one_more s [] ps p d h = absurd (omega arith)
one_more s (step ∷ steps) [] p d h = refl
one_more s (step ∷ steps) (q ∷ qs) p d h = one_more (next step q.seen s) steps qs p d (omega (arith, h))
