-- WHAT A FAULT LEAVES of `run`: why it ended early, and what was then written to standard output.
use Rattle.std.specs.Prelude.{◌≡◌, ℕ, ◌<◌, ◌⊎◌, List, [], length, Option, Some, None}
use Rattle.std.specs.{Str.IsUtf8, Io.KnownBytes.Consumes, Io.KnownBytes.IsAtEnd}
use Rattle.dist_locked_book.specs.declared.closing.Closed.{Closed}
use Rattle.dist_run_plan.specs.{declared.plan.Plan.Plan, Plans.plan_of}
use Rattle.dist_run_hosts.specs.declared.order_fault.OrderFault.{OrderFault}
use Rattle.dist_script.specs.Texts.{PutsFront}
use Rattle.distnode.specs.declared.fault.Fault.TheVariants.{BadNodesFile, RunEnded, AuditRefused, Fooled, ReadFailed, WriteFailed, NoMemory}
use Rattle.distnode.specs.{declared.fault.Fault.Fault, RunPrinted.Puts, RunPrinted.IsOfRun, RunPrinted.PrintsRun}

-- what stops the printing of a run with this result: the audit refused, or a node takes somebody outside for another one, and that was
-- printed whole; or a write failed, after a prefix of the text; or memory ran out for the text
abbrev pub StopsPrinting : List OrderFault → List Closed → Option (List ℕ) → Option (List ℕ) → Fault → Type 0
StopsPrinting faults closed old new (AuditRefused error) = Puts (IsOfRun (Some (AuditRefused error)) faults closed) old new
StopsPrinting faults closed old new Fooled = Puts (IsOfRun (Some Fooled) faults closed) old new
StopsPrinting faults closed old new WriteFailed =
    (fault : Option Fault) × (text : List ℕ) × Puts (IsOfRun fault faults closed) (Some []) (Some text) × PutsFront text old new
StopsPrinting faults closed old new NoMemory = new ≡ old
StopsPrinting faults closed old new other = ⊥

-- WHAT STOPS A RUN of the nodes file with this text: it is not a nodes file; or its run ended early; or the audit refused it, with just
-- this error, or a node takes somebody outside for another one, and what such a run prints was printed; or a write failed, after a
-- prefix of what the run prints; or memory ran out
abbrev pub StopsRun : List ℕ → Option (List ℕ) → Option (List ℕ) → Fault → Type 0
StopsRun file old new BadNodesFile = (plan_of file ≡ None) × (new ≡ old)
StopsRun file old new (RunEnded error) = (plan : Plan) × (plan_of file ≡ Some plan) × (new ≡ old)
StopsRun file old new (AuditRefused error) = PrintsRun file (Some (AuditRefused error)) old new
StopsRun file old new Fooled = PrintsRun file (Some Fooled) old new
StopsRun file old new WriteFailed =
    (fault : Option Fault) × (text : List ℕ) × PrintsRun file fault (Some []) (Some text) × PutsFront text old new
StopsRun file old new NoMemory = new ≡ old
StopsRun file old new other = ⊥

-- what was read is not a nodes file: it has more than 1,048,576 bytes; or it was read to its end, and is not UTF-8, or breaks a rule
abbrev pub IsNoNodesFile : Option (List ℕ) → Option (List ℕ) → Type 0
IsNoNodesFile before after =
    (file : List ℕ) × Consumes before after file × ((1048576 < length file) ⊎ (IsAtEnd after × ((¬ (IsUtf8 file)) ⊎ (plan_of file ≡ None))))

-- THE SAME FOR A FILE that is read: the read may fail, or memory run out for it
abbrev pub StopsRunOf : Option (List ℕ) → Option (List ℕ) → Option (List ℕ) → Option (List ℕ) → Fault → Type 0
StopsRunOf before after old new BadNodesFile = IsNoNodesFile before after × (new ≡ old)
StopsRunOf before after old new ReadFailed = new ≡ old
StopsRunOf before after old new NoMemory = new ≡ old
StopsRunOf before after old new fault = (file : List ℕ) × Consumes before after file × IsAtEnd after × StopsRun file old new fault
