-- An attempt that goes on in its place.
use Rattle.std.specs.{Prelude.◌≡◌, Prelude.Option, Prelude.Some, Prelude.IsSome, Option.option_map}
use Rattle.dist_names.specs.Order.{Name}
use Rattle.dist_peers.specs.declared.entry.EndId.{EndId}
use Rattle.dist_core_ends.specs.{declared.known.Attempt.Attempt, declared.known.Stage.Stage, declared.known.End.End, Ends.kind_in}
use Rattle.dist_core_ends.specs.declared.why.Why.TheVariants as why
use Rattle.dist_core_ends.specs.declared.known.End.TheVariants as ends

-- the stage that an attempt has reached
abbrev pub stage_of : Attempt → Stage
stage_of a = record { phase = a.phase; challenge = a.challenge; flags = a.flags; creation = a.creation }

-- the attempt at another stage
abbrev pub at_stage : Attempt → Stage → Attempt
at_stage a to = record a { phase = to.phase; challenge = to.challenge; flags = to.flags; creation = to.creation }

-- what becomes of the end that is replaced, where there is one
abbrev pub replaced_end : Option EndId → Option (EndId × End)
replaced_end replaced = option_map (λ x. (x, ends.Closed why.Replaced)) replaced

-- there is an attempt
abbrev pub IsAttempt : Option End → Type 0
IsAttempt o = (a : Attempt) × (o ≡ Some (ends.Attempt a))

-- there is an attempt, and at this stage it holds its peer in the same way
abbrev pub CanAdvance : Option End → Stage → Type 0
CanAdvance o to = (a : Attempt) × (o ≡ Some (ends.Attempt a)) × (kind_in to.phase ≡ kind_in a.phase)

-- there is an attempt with this peer
abbrev pub IsAttemptWith : Option End → Name → Type 0
IsAttemptWith o p = (a : Attempt) × (o ≡ Some (ends.Attempt a)) × (a.peer ≡ p)

-- there is an attempt that holds this peer
abbrev pub CanRise : Option End → Name → Type 0
CanRise o p = (a : Attempt) × (o ≡ Some (ends.Attempt a)) × (a.peer ≡ p) × IsSome (kind_in a.phase)
