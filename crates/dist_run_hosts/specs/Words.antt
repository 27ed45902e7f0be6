-- The words for the end of a run, and for an order that was not followed, as programs print them.
use Rattle.std.specs.Prelude.{◌≡◌, ◌⊎◌, ℕ, ℤ, Bool, true, false, List, Option, Some, codes, pos}
use Rattle.dist_core.specs.Words.{refusal_name}
use Rattle.dist_epmd_calls.specs.{Refusals.lookup_error_name, declared.lookup_error.LookupError.LookupError}
use Rattle.dist_epmd_calls.specs.declared.lookup_error.LookupError.TheVariants as lookup
use Rattle.dist_locked_book.specs.declared.closing.CloseError.TheVariants as closing
use Rattle.dist_run_hosts.specs.declared.{order_fault.OrderRefusal.OrderRefusal, run_error.RunError.RunError}
use Rattle.dist_run_hosts.specs.declared.order_fault.OrderRefusal.TheVariants as refusal
use Rattle.dist_run_hosts.specs.declared.run_error.RunError.TheVariants as run

-- the word of what ended a run: that of a refusal, or of what the system did not give
abbrev pub run_error_name : RunError → List ℕ
run_error_name run.NoRandomBytes = codes "ReadFailed"
run_error_name run.ListenFailed = codes "ListenFailed"
run_error_name run.ConnectFailed = codes "ConnectFailed"
run_error_name (run.NotRegistered e) = lookup_error_name e
run_error_name run.ThreadFailed = codes "ThreadFailed"
run_error_name (run.NotClosed closing.MissingSeat) = codes "MissingSeat"
run_error_name (run.NotClosed closing.ReceiptAbsent) = codes "ReceiptAbsent"
run_error_name run.OtherSetup = codes "OtherSetup"
run_error_name run.OtherOrders = codes "OtherOrders"
run_error_name run.NoMemory = codes "NoMemory"

-- the word of why an order made no step
abbrev pub order_refusal_name : OrderRefusal → List ℕ
order_refusal_name refusal.NoRegistry = codes "NoRegistry"
order_refusal_name refusal.NoDescriptors = codes "NoDescriptors"
order_refusal_name (refusal.Lookup e) = lookup_error_name e
order_refusal_name (refusal.Step e) = refusal_name e

-- THE NUMBER OF AN ERROR OF THE SYSTEM SAYS THAT NO DESCRIPTOR IS LEFT: the process has as many as it may (EMFILE), or all
-- processes together do (ENFILE)
abbrev pub IsOutOfDescriptors : Option ℤ → Type 0
IsOutOfDescriptors number = (number ≡ Some (pos 24)) ⊎ (number ≡ Some (pos 23))

-- THE PORT MAPPER GAVE NO ANSWER, or broke it off: the lookup ran out of turns, or its stream ended or failed
abbrev pub is_silence : LookupError → Bool
is_silence lookup.Limit = true
is_silence lookup.Ended = true
is_silence lookup.ReadFailed = true
is_silence lookup.WriteFailed = true
is_silence e = false
