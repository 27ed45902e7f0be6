-- Steps whose reply is kept before they are made.
use Rattle.std.specs.Prelude.{◌≡◌, ℕ, List, Option, Some, None, IfSome, Result, Ok, Err, slice_get}
use Rattle.dist_peers.specs.{declared.entry.EndId.EndId, Table.replaced_by}
use Rattle.dist_core_ends.specs.{Ends.AreLegal, Ends.entry_in, Ends.table_of, Change.Fits, Change.with_change, Progress.CanRise, Progress.replaced_end}
use Rattle.dist_core_ends.specs.declared.known.{UpRecord.UpRecord, End.End}
use Rattle.dist_core_ends.specs.declared.known.End.TheVariants as ends
use Rattle.dist_core.specs.{Node.NodeState, Answers.Refuses, Doing.node_with}
use Rattle.dist_core.specs.declared.{effect.Effect.Effect, reply.Reply.Reply, step_error.StepError.StepError}
use Rattle.dist_core.specs.declared.step_error.StepError.TheVariants as error

-- what was kept is the reply of the definition, or the call refused as the definition does; a refusal changed nothing
abbrev pub KeepsStep : {K : Type 0} → (Reply → K → Type 0) → Result K StepError → Result (Reply × NodeState) StepError → NodeState → NodeState → Type 0
KeepsStep keeps (Ok k) s old new = (r : Reply) × keeps r k × (s ≡ Ok (r, new))
KeepsStep keeps (Err e) s old new = Refuses e s × (new ≡ old)

-- an effect was done and its reply kept, or memory ran out and nothing changed
abbrev pub KeepsDone : {K : Type 0} → (Reply → K → Type 0) → Effect → Result K StepError → NodeState → NodeState → Type 0
KeepsDone keeps f (Ok k) old new = keeps f.reply k × (new ≡ node_with old f)
KeepsDone keeps f (Err e) old new = (e ≡ error.NoMemory) × (new ≡ old)

-- the ends, where this one is up with a record, and the end that it replaces is closed
abbrev pub with_rise : List End → EndId → Option UpRecord → List End
with_rise es id None = es
with_rise es id (Some r) = with_change es id (ends.Up r) (replaced_end (replaced_by (entry_in es r.peer)))

-- the attempt of an end comes up with this record, if there is one
abbrev pub RisesWith : List End → EndId → Option UpRecord → Type 0
RisesWith es id o = IfSome o (λ r. CanRise (slice_get es id.0) r.peer
    × ((me : List ℕ) × (AreLegal es → Fits me es (table_of es) id (ends.Up r) (replaced_end (replaced_by (entry_in es r.peer))))))
