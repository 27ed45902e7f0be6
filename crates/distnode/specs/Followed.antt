-- WHAT EACH ORDER DOES.
use Rattle.std.specs.Prelude.{◌≡◌, ◌⊎◌, ℕ, Bool, List, Option, None, Result, Err}
use Rattle.dist_stream.specs.Stream.{StreamState}
use Rattle.distnode.specs.{declared.order_of_words.Order.Order, declared.fault.Fault.Fault, declared.fault.Fault.TheVariants.OpenFailed}
use Rattle.distnode.specs.{declared.fault.Fault.TheVariants.ConnectFailed, Fault.port_line, Printed.PrintsCookie, Printed.PrintsNames, Stopped.EndsByFault}
use Rattle.distnode.specs.{Stopped.StopsCookie, Stopped.StopsNames, RunPrinted.PrintsRunOf, RunStopped.StopsRunOf}
use Rattle.distnode.specs.declared.order_of_words.Order.TheVariants as order
use Rattle.dist_program.specs.{declared.word_fault.WordFault.WordFault, Sentences.word_fault_status}
use Rattle.dist_script.specs.{Texts.PutsFront, declared.fault.ScriptFault.ScriptFault}
use Rattle.dist_script.specs.Fault as script
use Rattle.dist_script_play.specs.Scenes.{Plays, IsBad, IsCut}

-- the port mapper's answer on this connection was printed, in at most 1,280 turns; on a terminal it was escaped
abbrev pub PrintsAnswer : Bool → StreamState → Option (List ℕ) → Option (List ℕ) → Type 0
PrintsAnswer terminal talk old new = (left : StreamState) × PrintsNames terminal talk left 1280 old new

-- AN ORDER, DONE: its command printed what it prints, of the script on standard input, the file at the named path, or the port mapper
-- at the named port
abbrev pub Follows : (List ℕ → Option (List ℕ)) → (ℕ → StreamState) → Bool → Option (List ℕ) → Option (List ℕ) → Order
    → Option (List ℕ) → Option (List ℕ) → Type 0
Follows files talks terminal before after order.Enact old new = Plays before after old new
Follows files talks terminal before after (order.Cookie file challenge) old new =
    (left : Option (List ℕ)) × PrintsCookie (files file.now) left challenge old new
Follows files talks terminal before after (order.Names port) old new = PrintsAnswer terminal (talks port) old new
Follows files talks terminal before after (order.Run file) old new = (left : Option (List ℕ)) × PrintsRunOf (files file.now) left None old new

-- a script is at fault, with status 2, or its playing was cut short, with status 1; the line of that fault was written to standard
-- error, or a prefix of it
abbrev pub EndsPlay : Option (List ℕ) → Option (List ℕ) → ℕ → Option (List ℕ) → Option (List ℕ) → Option (List ℕ) → Option (List ℕ) → Type 0
EndsPlay before after status old new err_old err_new =
    (fault : ScriptFault)
    × (((status ≡ 2) × IsBad before after old new fault) ⊎ ((status ≡ 1) × (script.status_of fault ≡ 1) × IsCut before after old new fault))
    × PutsFront (script.fault_line fault) err_old err_new

-- what stops `cookie` of the file at a path: it could not be opened, or what stops `cookie` of its contents
abbrev pub StopsCookieAt : Option (List ℕ) → ℕ → Option (List ℕ) → Option (List ℕ) → Fault → Type 0
StopsCookieAt file challenge old new OpenFailed = new ≡ old
StopsCookieAt file challenge old new fault = (left : Option (List ℕ)) × StopsCookie file left challenge old new fault

-- what stops `names` at a port mapper: the connection could not be made, or what stops `names` on it
abbrev pub StopsAnswer : Bool → StreamState → Option (List ℕ) → Option (List ℕ) → Fault → Type 0
StopsAnswer terminal talk old new ConnectFailed = new ≡ old
StopsAnswer terminal talk old new fault = (left : StreamState) × StopsNames terminal talk left 1280 old new fault

-- what stops `run` of the file at a path: it could not be opened, or what stops `run` of its contents
abbrev pub StopsRunAt : Option (List ℕ) → Option (List ℕ) → Option (List ℕ) → Fault → Type 0
StopsRunAt file old new OpenFailed = new ≡ old
StopsRunAt file old new fault = (left : Option (List ℕ)) × StopsRunOf file left old new fault

-- the environment names a bad port for the port mapper: that line was written to standard error, or a prefix of it, and nothing was printed
abbrev pub EndsByPort : Result ℕ WordFault → ℕ → Option (List ℕ) → Option (List ℕ) → Option (List ℕ) → Option (List ℕ) → Type 0
EndsByPort named status old new err_old err_new =
    (error : WordFault) × (named ≡ Err error) × (word_fault_status error ≡ status) × (new ≡ old) × PutsFront (port_line error) err_old err_new

-- AN ORDER THAT WAS NOT DONE, and ended with this status: a fault stopped its command, and the line of the fault was written to
-- standard error, or a prefix of it
abbrev pub Ends : (List ℕ → Option (List ℕ)) → (ℕ → StreamState) → Bool → Result ℕ WordFault → Option (List ℕ) → Option (List ℕ) → Order
    → ℕ → Option (List ℕ) → Option (List ℕ) → Option (List ℕ) → Option (List ℕ) → Type 0
Ends files talks terminal named before after order.Enact status old new err_old err_new =
    EndsPlay before after status old new err_old err_new
Ends files talks terminal named before after (order.Cookie file challenge) status old new err_old err_new =
    EndsByFault (StopsCookieAt (files file.now) challenge old new) status err_old err_new
Ends files talks terminal named before after (order.Names port) status old new err_old err_new =
    EndsByPort named status old new err_old err_new
    ⊎ EndsByFault (StopsAnswer terminal (talks port) old new) status err_old err_new
Ends files talks terminal named before after (order.Run file) status old new err_old err_new =
    EndsByFault (StopsRunAt (files file.now) old new) status err_old err_new
