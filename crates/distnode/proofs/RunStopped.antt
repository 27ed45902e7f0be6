-- What a fault leaves of `run`.
use Rattle.std.proofs.Common.{◌≡◌, inr, ℕ, List, [], Option, Some, None, Result, Ok, Err, IfErr, refl, sym, subst}
use Rattle.std.specs.{Result.IsErrAnd, Io.KnownBytes.Consumes, Io.KnownBytes.IsAtEnd}
use Rattle.dist_locked_book.specs.declared.closing.Closed.{Closed}
use Rattle.dist_run_plan.specs.Plans.{plan_of}
use Rattle.dist_run_hosts.specs.declared.order_fault.OrderFault.{OrderFault}
use Rattle.dist_script.specs.Texts.{PutsFront}
use Rattle.distnode.specs.{declared.fault.Fault.Fault, Fault.status_of, RunPrinted.Puts, RunPrinted.IsOfRun}
use Rattle.distnode.specs.{RunStopped.StopsPrinting, RunStopped.StopsRun, RunStopped.StopsRunOf}
use Rattle.distnode.specs.declared.fault.Fault.TheVariants as fault

-- what a run printed could not be written
pub cut_run : (faults : List OrderFault) (closed : List Closed) (against : Option Fault) (made text : List ℕ) (a b : Option (List ℕ)) → Puts (IsOfRun against faults closed) (Some []) (Some made) → text ≡ made → PutsFront text a b → StopsPrinting faults closed a b fault.WriteFailed
cut_run faults closed against made text a b puts same put = (against, made, puts, subst (λ t. PutsFront t a b) same put)

-- with status 2 the text is no nodes file, and nothing of a run was printed
pub is_bad : (file : List ℕ) (a b : Option (List ℕ)) (f : Fault) → StopsRun file a b f → status_of f ≡ 2 → (f ≡ fault.BadNodesFile) × (plan_of file ≡ None) × (b ≡ a)
is_bad file a b fault.BadNodesFile stops two = (refl, stops.0, stops.1)
is_bad file a b fault.BadCommandLine stops two = absurd stops
is_bad file a b other stops two = absurd cc

-- what is against a run that was printed stops it
pub against_run : (faults : List OrderFault) (closed : List Closed) (f : Fault) (a b : Option (List ℕ)) → Puts (IsOfRun (Some f) faults closed) a b → StopsPrinting faults closed a b f
against_run faults closed (fault.AuditRefused e) a b puts = puts
against_run faults closed fault.Fooled a b puts = puts
against_run faults closed other a b (text, (said, audited, is), put) = absurd audited

-- of the fault that a `?` returns
pub at_err : {X : Type 0} (P : Fault → Type 0) (r : Result X Fault) (f : Fault) → IsErrAnd r (λ g. g ≡ f) → P f → IfErr r P
at_err P (Ok x) f h p = absurd h
at_err P (Err g) f h p = subst P (sym h) p

-- ---- the file of `run`

-- what stops the run of a text that was read stops that of its file
pub of_stopped : (before after : Option (List ℕ)) (file text : List ℕ) (a b : Option (List ℕ)) (f : Fault) → text ≡ file → Consumes before after file → IsAtEnd after → StopsRun text a b f → StopsRunOf before after a b f
of_stopped before after file text a b fault.BadNodesFile same taken end stops = ((file, taken, inr (end, inr (subst (λ t. plan_of t ≡ None) same stops.0))), stops.1)
of_stopped before after file text a b (fault.RunEnded why) same taken end stops = (file, taken, end, subst (λ t. StopsRun t a b (fault.RunEnded why)) same stops)
of_stopped before after file text a b (fault.AuditRefused e) same taken end stops = (file, taken, end, subst (λ t. StopsRun t a b (fault.AuditRefused e)) same stops)
of_stopped before after file text a b fault.Fooled same taken end stops = (file, taken, end, subst (λ t. StopsRun t a b fault.Fooled) same stops)
of_stopped before after file text a b fault.WriteFailed same taken end stops = (file, taken, end, subst (λ t. StopsRun t a b fault.WriteFailed) same stops)
of_stopped before after file text a b fault.NoMemory same taken end stops = stops
of_stopped before after file text a b other same taken end stops = absurd stops
