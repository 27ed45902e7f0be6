-- Nodes that differ only in why their closed ends were closed.
use Rattle.std.specs.Prelude.{◌≡◌, map, List, [], ◌∷◌, Result, Ok, Err}
use Rattle.dist_core_ends.specs.{declared.why.Why.Why, Forgetting.without_cause}
use Rattle.dist_core.specs.{declared.reply.Reply.Reply, declared.step_error.StepError.StepError, Acts.Act, Node.NodeState}
use Rattle.dist_core.specs.declared.step_error.StepError.TheVariants as error
use Rattle.dist_core.specs.Acts as acts

-- THE TWO NODES ARE ALIKE: they have the same setup and made as many steps, and their ends are the same, except for why the closed
-- ones were closed
pub record AreAlike (m n : NodeState) : Type 0 where
  pub setup : m.setup ≡ n.setup
  pub steps : m.steps ≡ n.steps
  pub ends : map without_cause m.ends ≡ map without_cause n.ends

-- THE TWO ANSWERS OF A STEP ARE ALIKE: they differ at most in the cause that a refusal names for a closed end
pub data AreAlikeAnswers (a b : Result (Reply × NodeState) StepError) : Type 0 where
  -- both give the same reply, and the nodes after it are alike
  Same_reply : (r : Reply) → (m n : NodeState) → a ≡ Ok (r, m) → b ≡ Ok (r, n) → AreAlike m n → AreAlikeAnswers a b
  -- both refuse since the end is closed, no matter for which causes
  Both_gone : (v w : Why) → a ≡ Err (error.Gone v) → b ≡ Err (error.Gone w) → AreAlikeAnswers a b
  -- both refuse in the same way
  Same_refusal : (e : StepError) → a ≡ Err e → b ≡ Err e → AreAlikeAnswers a b

-- these acts, without those that forget
abbrev pub without_forgetting : List Act → List Act
without_forgetting [] = []
without_forgetting (acts.Forgets below ∷ xs) = without_forgetting xs
without_forgetting (x ∷ xs) = x ∷ without_forgetting xs
