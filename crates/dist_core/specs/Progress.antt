-- What becomes of an attempt, as an effect.
use Rattle.std.specs.Prelude.{◌≡◌, ℕ, ◌+◌, List, Some, Result, Ok, Err, IsSome, slice_get}
use Rattle.dist_peers.specs.{declared.entry.EndId.EndId, Table.replaced_by}
use Rattle.dist_core_ends.specs.Ends.{AreLegal, entry_in, kind_in, table_of}
use Rattle.dist_core_ends.specs.{declared.known.Attempt.Attempt, declared.known.End.End, Progress.at_stage}
use Rattle.dist_core_ends.specs.declared.known.End.TheVariants as ends
use Rattle.dist_core_ends.specs.Change as change
use Rattle.dist_core.specs.{Effects.goes_on, Effects.shuts, Effects.comes_up, Answers.Refuses, Node.NodeState, Node.ends_after}
use Rattle.dist_core.specs.declared.{effect.Effect.Effect, progress.Progress.Progress, step_error.StepError.StepError}
use Rattle.dist_core.specs.declared.progress.Progress.TheVariants as progress
use Rattle.dist_core.specs.declared.reply.Note.TheVariants as note

-- THE EFFECT: what is done to the attempt of end id, where these are the ends
abbrev pub effect_by : List End → EndId → Attempt → Progress → Effect
effect_by es id a (progress.Goes say to) = goes_on id say (ends.Attempt (at_stage a to)) note.Nothing
effect_by es id a (progress.Replies say to) = goes_on id say (ends.Attempt (at_stage a to)) note.ReplySaid
effect_by es id a (progress.Rises say r) = comes_up id say r (replaced_by (entry_in es r.peer))
effect_by es id a (progress.Shuts say w) = shuts id say w note.Nothing

-- the attempt goes on holding its peer in the same way, or comes up with it, or is closed
abbrev pub HoldsOn : Attempt → Progress → Type 0
HoldsOn a (progress.Goes say to) = kind_in to.phase ≡ kind_in a.phase
HoldsOn a (progress.Replies say to) = kind_in to.phase ≡ kind_in a.phase
HoldsOn a (progress.Rises say r) = (a.peer ≡ r.peer) × IsSome (kind_in a.phase)
HoldsOn a (progress.Shuts say w) = Unit {0}

-- a call returned the progress whose effect the definition gives, or a refusal
abbrev pub GivesBy : (Progress → Effect) → Result Progress StepError → Result Effect StepError → Type 0
GivesBy f (Ok p) s = s ≡ Ok (f p)
GivesBy f (Err e) s = Refuses e s

-- this progress is possible for the attempt of end id
pub record CanProgress (es : List End) (id : EndId) (p : Progress) : Type 0 where
  pub attempt : Attempt
  pub at_ : slice_get es id.0 ≡ Some (ends.Attempt attempt)
  pub holds : HoldsOn attempt p
  pub own : List ℕ
  pub fits : AreLegal es → (let f = effect_by es id attempt p in change.Fits own es (table_of es) f.reply.end_ f.this f.other)

-- the node after this progress
abbrev pub node_by : NodeState → EndId → Attempt → Progress → NodeState
node_by n id a p = record { setup = n.setup; steps = n.steps + 1; ends = ends_after n.ends (effect_by n.ends id a p) }
