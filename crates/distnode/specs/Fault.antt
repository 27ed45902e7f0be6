-- How a fault ends the program, and its line on standard error.
use Rattle.std.specs.{Prelude.ℕ, Prelude.List, Prelude.[], Prelude.◌∷◌, Prelude.codes, List.concat}
use Rattle.dist_audit.specs.Refusals.{refusal_name}
use Rattle.dist_secret.specs.Answer as cookies
use Rattle.dist_epmd_calls.specs.Refusals as lookups
use Rattle.dist_program.specs.{declared.word_fault.WordFault.WordFault, declared.text_error.TextError.TextError, Sentences.word_fault_text}
use Rattle.dist_program.specs.declared.text_error.TextError.TheVariants as words
use Rattle.dist_run_hosts.specs.Words.{run_error_name}
use Rattle.dist_script.specs.declared.fault.ScriptFault.{ScriptFault}
use Rattle.dist_script.specs.declared.fault.ScriptFault.TheVariants as script
use Rattle.distnode.specs.declared.fault.Fault.{Fault}
use Rattle.distnode.specs.declared.fault.Fault.TheVariants.{BadCommandLine, BadNodesFile, RunEnded, ReadFailed, WriteFailed}
use Rattle.distnode.specs.declared.fault.Fault.TheVariants.{OpenFailed, NoCookie, ConnectFailed, NoAnswer, AnswerCut, AuditRefused, Fooled, NoMemory}

-- the exit status: 2 if the user's input is at fault, else 1
abbrev pub status_of : Fault → ℕ
status_of BadCommandLine = 2
status_of BadNodesFile = 2
status_of other = 1

-- the text of a fault: its name, or that of the error in it
abbrev pub fault_text : Fault → List ℕ
fault_text BadCommandLine = codes "bad command line"
fault_text BadNodesFile = codes "bad nodes file"
fault_text (RunEnded error) = run_error_name error
fault_text ReadFailed = codes "ReadFailed"
fault_text WriteFailed = codes "WriteFailed"
fault_text OpenFailed = codes "OpenFailed"
fault_text (NoCookie error) = cookies.error_name error
fault_text ConnectFailed = codes "ConnectFailed"
fault_text (NoAnswer error) = lookups.lookup_error_name error
fault_text AnswerCut = codes "Ended"
fault_text (AuditRefused error) = refusal_name error
fault_text Fooled = codes "Fooled: a node outside the file is up under the name of one of its nodes"
fault_text NoMemory = codes "NoMemory"

-- THE LINE ON STANDARD ERROR: the program's name, then these words
abbrev pub line_of : List ℕ → List ℕ
line_of text = concat (codes "distnode: " ∷ text ∷ codes "\n" ∷ [])

-- distnode: FAULT
abbrev pub fault_line : Fault → List ℕ
fault_line fault = line_of (fault_text fault)

-- the same for a bad ERL_EPMD_PORT
abbrev pub port_line : WordFault → List ℕ
port_line error = line_of (word_fault_text error)

-- the fault of reading a nodes file, by that of reading a script: a text at fault is a bad nodes file
abbrev pub fault_of : ScriptFault → Fault
fault_of script.ReadFailed = ReadFailed
fault_of script.WriteFailed = WriteFailed
fault_of script.NoMemory = NoMemory
fault_of other = BadNodesFile

-- the fault of words that are not UTF-8: no command, unless memory ran out
abbrev pub fault_of_text : TextError → Fault
fault_of_text words.NoText = BadCommandLine
fault_of_text words.NoMemory = NoMemory
