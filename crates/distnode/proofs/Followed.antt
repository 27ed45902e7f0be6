-- An order that was done, or ended.
use Rattle.std.proofs.Common.{◌≡◌, ◌⊎◌, inl, inr, ℕ, Bool, List, Option, codes, refl, sym, subst}
use Rattle.dist_stream.specs.Stream.{StreamState}
use Rattle.dist_script.specs.{Texts.PutsFront, declared.fault.ScriptFault.ScriptFault}
use Rattle.dist_script.specs.Fault as script
use Rattle.dist_script_play.specs.Scenes.{IsBad, IsCut}
use Rattle.distnode.specs.Followed.{StopsCookieAt, StopsAnswer, StopsRunAt, EndsPlay}
use Rattle.distnode.specs.{declared.fault.Fault.Fault, Fault.status_of, Fault.fault_line, Stopped.EndsByFault, Stopped.StopsCookie, Stopped.StopsNames}
use Rattle.distnode.specs.RunStopped.{IsNoNodesFile, StopsRunOf}
use Rattle.distnode.specs.declared.fault.Fault.TheVariants as fault

-- ---- a fault that ended it

-- what stops it so stops it in another way as well
pub weaken : (Stops Others : Fault → Type 0) (status : ℕ) (c d : Option (List ℕ)) → ((f : Fault) → Stops f → Others f) → EndsByFault Stops status c d → EndsByFault Others status c d
weaken Stops Others status c d stronger by = record { cause = by.cause; stops = stronger by.cause by.stops; status_is = by.status_is; line = by.line }

-- the fault of this line
pub ended_by : (Stops : Fault → Type 0) (f : Fault) (c d : Option (List ℕ)) → Stops f → PutsFront (fault_line f) c d → EndsByFault Stops (status_of f) c d
ended_by Stops f c d stops line = record { cause = f; stops = stops; status_is = refl; line = line }

-- ---- `cookie`

cookie_at : (bytes here left : Option (List ℕ)) (challenge : ℕ) (a b : Option (List ℕ)) → here ≡ bytes → (f : Fault) → StopsCookie here left challenge a b f → StopsCookieAt bytes challenge a b f
cookie_at bytes here left challenge a b same fault.OpenFailed stops = absurd stops
cookie_at bytes here left challenge a b same f stops = (left, subst (λ x. StopsCookie x left challenge a b f) same stops)

-- of the file that was opened
pub cookie_ended : (bytes here left : Option (List ℕ)) (challenge : ℕ) (a b c d : Option (List ℕ)) → here ≡ bytes → EndsByFault (StopsCookie here left challenge a b) 1 c d → EndsByFault (StopsCookieAt bytes challenge a b) 1 c d
cookie_ended bytes here left challenge a b c d same by = weaken (StopsCookie here left challenge a b) (StopsCookieAt bytes challenge a b) 1 c d (cookie_at bytes here left challenge a b same) by

-- which could not be opened
pub cookie_unopened : (bytes : Option (List ℕ)) (challenge : ℕ) (a c d : Option (List ℕ)) → PutsFront (fault_line fault.OpenFailed) c d → EndsByFault (StopsCookieAt bytes challenge a a) 1 c d
cookie_unopened bytes challenge a c d line = ended_by (StopsCookieAt bytes challenge a a) fault.OpenFailed c d refl line

-- ---- `names`

names_at : (terminal : Bool) (talk here left : StreamState) (a b : Option (List ℕ)) → here ≡ talk → (f : Fault) → StopsNames terminal here left 1280 a b f → StopsAnswer terminal talk a b f
names_at terminal talk here left a b same fault.ConnectFailed stops = absurd stops
names_at terminal talk here left a b same f stops = (left, subst (λ x. StopsNames terminal x left 1280 a b f) same stops)

-- over the connection that was made
pub names_ended : (terminal : Bool) (talk here left : StreamState) (a b c d : Option (List ℕ)) → here ≡ talk → EndsByFault (StopsNames terminal here left 1280 a b) 1 c d → EndsByFault (StopsAnswer terminal talk a b) 1 c d
names_ended terminal talk here left a b c d same by = weaken (StopsNames terminal here left 1280 a b) (StopsAnswer terminal talk a b) 1 c d (names_at terminal talk here left a b same) by

-- which could not be made
pub names_unconnected : (terminal : Bool) (talk : StreamState) (a c d : Option (List ℕ)) → PutsFront (fault_line fault.ConnectFailed) c d → EndsByFault (StopsAnswer terminal talk a a) 1 c d
names_unconnected terminal talk a c d line = ended_by (StopsAnswer terminal talk a a) fault.ConnectFailed c d refl line

-- ---- `run`

run_at : (bytes here left : Option (List ℕ)) (a b : Option (List ℕ)) → here ≡ bytes → (f : Fault) → StopsRunOf here left a b f → StopsRunAt bytes a b f
run_at bytes here left a b same fault.OpenFailed stops = absurd stops.3
run_at bytes here left a b same f stops = (left, subst (λ x. StopsRunOf x left a b f) same stops)

-- of the file that was opened
pub run_ended : (bytes here left : Option (List ℕ)) (a b c d : Option (List ℕ)) → here ≡ bytes → EndsByFault (StopsRunOf here left a b) 1 c d → EndsByFault (StopsRunAt bytes a b) 1 c d
run_ended bytes here left a b c d same by = weaken (StopsRunOf here left a b) (StopsRunAt bytes a b) 1 c d (run_at bytes here left a b same) by

-- which is no nodes file
pub run_refused : (bytes here left : Option (List ℕ)) (a b c d : Option (List ℕ)) → here ≡ bytes → IsNoNodesFile here left → b ≡ a → PutsFront (codes "distnode: bad nodes file\n") c d → EndsByFault (StopsRunAt bytes a b) 2 c d
run_refused bytes here left a b c d same none unprinted line =
    ended_by (StopsRunAt bytes a b) fault.BadNodesFile c d (left, (subst (λ x. IsNoNodesFile x left) same none, unprinted)) line

-- which could not be opened
pub run_unopened : (bytes : Option (List ℕ)) (a c d : Option (List ℕ)) → PutsFront (fault_line fault.OpenFailed) c d → EndsByFault (StopsRunAt bytes a a) 1 c d
run_unopened bytes a c d line = ended_by (StopsRunAt bytes a a) fault.OpenFailed c d refl line

-- ---- `enact`

pub play_ended : (before after a b c d : Option (List ℕ)) (f : ScriptFault) → IsCut before after a b f → script.status_of f ≡ 1 → PutsFront (script.fault_line f) c d → EndsPlay before after 1 a b c d
play_ended before after a b c d f cut one line = (f, inr (refl, one, cut), line)

pub play_refused : (before after a b c d : Option (List ℕ)) (f : ScriptFault) → IsBad before after a b f → PutsFront (script.fault_line f) c d → EndsPlay before after 2 a b c d
play_refused before after a b c d f bad line = (f, inl (refl, bad), line)
