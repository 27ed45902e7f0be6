-- What the calls of a node return.
use Rattle.std.specs.{Prelude.◌≡◌, Prelude.◌≢◌, Prelude.Option, Prelude.Some, Prelude.Result, Prelude.Ok, Prelude.Err, Prelude.IsOk, Borrow.Bor}
use Rattle.dist_core_ends.specs.declared.known.End.{End}
use Rattle.dist_core.specs.{declared.reply.Reply.Reply, declared.effect.Effect.Effect, declared.step_error.StepError.StepError, Node.NodeState, Step.at_end}
use Rattle.dist_core.specs.declared.step_error.StepError.TheVariants as error

-- the refusal is that of the definition; memory runs out only where the definition refuses nothing
abbrev pub Refuses : {X : Type 0} → StepError → Result X StepError → Type 0
Refuses error.NoMemory s = IsOk s
Refuses e s = s ≡ Err e

-- a call of step returned what the definition gives; a refusal changed nothing
abbrev pub IsStep : Result Reply StepError → Result (Reply × NodeState) StepError → NodeState → NodeState → Type 0
IsStep (Ok r) s old new = s ≡ Ok (r, new)
IsStep (Err e) s old new = Refuses e s × (new ≡ old)

-- what is found is an open end, or the refusal where there is none
abbrev pub FindsOpen : Result (Bor End) StepError → Option End → Type 0
FindsOpen (Ok e) o = (o ≡ Some e.now) × ((f : End → Result Effect StepError) → at_end o f ≡ f e.now)
FindsOpen (Err r) o = (r ≢ error.NoMemory) × ((f : End → Result Effect StepError) → at_end o f ≡ Err r)

-- a call returned the effect that the definition gives, or a refusal
abbrev pub Gives : Result Effect StepError → Result Effect StepError → Type 0
Gives (Ok f) s = s ≡ Ok f
Gives (Err e) s = Refuses e s

-- the reply of a step, without the node after it
abbrev pub reply_of : Result (Reply × NodeState) StepError → Result Reply StepError
reply_of (Ok x) = Ok x.0
reply_of (Err e) = Err e

-- a call returned the reply that the definition gives, or a refusal
abbrev pub GivesReply : Result Reply StepError → Result (Reply × NodeState) StepError → Type 0
GivesReply (Ok r) s = reply_of s ≡ Ok r
GivesReply (Err e) s = Refuses e s
