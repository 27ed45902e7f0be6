-- WHAT A SCRIPT PRINTS. docs/RUNNING.md has the language of scripts, and what they print; the lines are those of Lines and Worlds.
use Rattle.std.specs.Prelude.{◌≡◌, ◌⊎◌, ℕ, zero, suc, ◌-◌, Bool, true, false, nat_lt, if◌then◌else◌, List, [], ◌∷◌, ◌++◌, length, codes}
use Rattle.std.specs.Prelude.{get_or, set, replicate, is_some, Option, Some, None, Result, Ok, Err, slice_get}
use Rattle.std.specs.Io.{StartsWith}
use Rattle.dist_frames.specs.Reader.{Reader, with_bytes, next_body, to_come, without_next, as_linked, unreported, without_count, Reader.Short}
use Rattle.dist_peers.specs.declared.entry.EndId.{EndId}
use Rattle.dist_core_ends.specs.{declared.why.Why.Why, declared.phase.Still.Still, Ends.still_of}
use Rattle.dist_core_ends.specs.declared.phase.Still.TheVariants as still
use Rattle.dist_core_setup.specs.declared.setup.Setup.{Setup}
use Rattle.dist_core.specs.{declared.reply.Reply.Reply, declared.step_error.StepError.StepError, Node.NodeState, Runs.opening, Step.step}
use Rattle.dist_core.specs.declared.event.Event.TheVariants as event
use Rattle.dist_core.specs.declared.step_error.StepError.TheVariants as refusal
use Rattle.dist_world_model.specs.{declared.happening.Happening.Happening, World.World, World.empty, Happenings.applied_at, Happenings.happens, Run.run}
use Rattle.dist_world_model.specs.{Run.count_applied}
use Rattle.dist_world.specs.Setups.{names_repeat}
use Rattle.dist_script.specs.Scripts.{Says, script_in, Says.Events, Says.Happenings}
use Rattle.dist_script.specs.declared.fault.ScriptFault.{ScriptFault, TheVariants.TooLong, TheVariants.SameName}
use Rattle.dist_script.specs.declared.script.ScriptLine.{ScriptLine}
use Rattle.dist_script.specs.declared.script.ScriptLine.TheVariants as line
use Rattle.dist_script_play.specs.Lines.{reply_line, refused_line, skipped_line, table_text, closed_line, applied_line}
use Rattle.dist_script_play.specs.Worlds.{nodes_text, AreAgreements, AreFooled}

-- ---- what the ends of a node have received

-- the reader of each end, by the end's number, up to the last end that has received bytes
abbrev pub Readers : Type 0
Readers = List Reader

-- the reader of an end; where there is none, it has received nothing
abbrev pub reader_of : Readers → EndId → Reader
reader_of readers x = get_or readers x.0 (Short [])

-- another in its place
abbrev pub with_reader : Readers → EndId → Reader → Readers
with_reader readers x reader = set readers x.0 reader

-- the readers, extended with empty ones as far as this end
abbrev pub readers_to : Readers → EndId → Readers
readers_to readers x = readers ++ replicate (suc x.0 - length readers) (Short [])

-- an end receives more bytes
abbrev pub with_received : Readers → EndId → List ℕ → Readers
with_received readers x bytes = let all = readers_to readers x in with_reader all x (with_bytes (reader_of all x) bytes)

-- what the end that was closed has received is dropped
abbrev pub open_readers : Readers → Option (EndId × Why) → Readers
open_readers readers None = readers
open_readers readers (Some closed) = with_reader readers closed.0 (Short [])

-- a node, and what its ends have received
pub record Standing : Type 0 where
  pub node : NodeState
  pub readers : Readers

-- ---- a step

-- its line: the reply, or why the step was refused
abbrev pub step_text : Result (Reply × NodeState) StepError → List ℕ
step_text (Ok x) = reply_line x.0
step_text (Err e) = refused_line e

-- whether it brought its end up, if the step was not refused
abbrev pub up_in : Result (Reply × NodeState) StepError → Option Bool
up_in (Ok x) = Some (let r = x.0 in is_some r.up)
up_in (Err e) = None

-- the state after it; a refusal changes nothing
abbrev pub after_step : Standing → Result (Reply × NodeState) StepError → Standing
after_step s (Ok x) = record { node = x.1; readers = open_readers s.readers (let r = x.0 in r.closed) }
after_step s (Err e) = s

-- ---- bytes for an end

-- the next frame of an end is taken out
abbrev pub without_frame : Standing → EndId → Standing
without_frame s x = record s { readers = with_reader s.readers x (without_next (reader_of s.readers x)) }

-- the readers after that frame was given to the node: what follows it is packets if it brought the end up, and dropped if it was refused
abbrev pub readers_on : Readers → EndId → Option Bool → Readers
readers_on readers x None = with_reader readers x (Short [])
readers_on readers x (Some up) = if up then with_reader readers x (as_linked (reader_of readers x)) else readers

-- the state after that
abbrev pub after_frame : Standing → EndId → Result (Reply × NodeState) StepError → Standing
after_frame s x made = let after = after_step s made in record { node = after.node; readers = readers_on after.readers x (up_in made) }

-- what frames print, and the state after them
pub record Received : Type 0 where
  pub text : List ℕ
  pub after : Standing

-- the same, after this text
abbrev pub behind_text : List ℕ → Received → Received
behind_text text h = record { text = text ++ h.text; after = h.after }

-- the next frame of an end is given to the node, and then the others; without one nothing is printed
abbrev pub frame_received : EndId → ℕ → Option (List ℕ) → Standing → (Standing → Received) → Received
frame_received x fresh None s others = record { text = []; after = s }
frame_received x fresh (Some body) s others =
    let made = step s.node (event.Frame x body) fresh in
    behind_text (step_text made) (others (after_frame (without_frame s x) x made))

-- FRAMES OF AN END, IN TURN, as long as its reader has a whole one; at most this many
abbrev pub received_frames : EndId → ℕ → ℕ → Standing → Received
received_frames x fresh zero s = record { text = []; after = s }
received_frames x fresh (suc most) s = frame_received x fresh (next_body (reader_of s.readers x)) s (λ after. received_frames x fresh most after)

-- something was printed
abbrev pub is_said : List ℕ → Bool
is_said [] = false
is_said (c ∷ cs) = true

-- what follows the lines of the frames: `skipped K` if packets ended, and `waiting` if nothing else was printed
abbrev pub packets_text : Bool → ℕ → List ℕ
packets_text any (suc k) = skipped_line (suc k)
packets_text true zero = []
packets_text false zero = codes "waiting\n"

-- the frames that are whole once an open end received these bytes
abbrev pub received : Standing → EndId → List ℕ → ℕ → Received
received s x bytes fresh =
    let now = with_received s.readers x bytes in
    received_frames x fresh (length (to_come (reader_of now x))) (record { node = s.node; readers = now })

-- what is printed of them
abbrev pub received_text : EndId → Received → List ℕ
received_text x h = h.text ++ packets_text (is_said h.text) (let s = h.after in unreported (reader_of s.readers x))

-- the state after them; packets are counted once
abbrev pub after_received : EndId → Received → Standing
after_received x h = let s = h.after in record s { readers = with_reader s.readers x (without_count (reader_of s.readers x)) }

-- what is printed of bytes for an end, by the end's state
abbrev pub bytes_text : Still → Standing → EndId → List ℕ → ℕ → List ℕ
bytes_text still.NoSuchEnd s x bytes fresh = refused_line refusal.NoSuchEnd
bytes_text (still.Gone why) s x bytes fresh = refused_line (refusal.Gone why)
bytes_text still.Pending s x bytes fresh = received_text x (received s x bytes fresh)
bytes_text still.Up s x bytes fresh = received_text x (received s x bytes fresh)

abbrev pub after_bytes : Still → Standing → EndId → List ℕ → ℕ → Standing
after_bytes still.NoSuchEnd s x bytes fresh = s
after_bytes (still.Gone why) s x bytes fresh = s
after_bytes still.Pending s x bytes fresh = after_received x (received s x bytes fresh)
after_bytes still.Up s x bytes fresh = after_received x (received s x bytes fresh)

-- the state of a node's end
abbrev pub still_at : Standing → EndId → Still
still_at s x = let n = s.node in still_of (slice_get n.ends x.0)

-- ---- A SCRIPT OF ONE NODE

-- WHAT A LINE PRINTS
abbrev pub line_text : Standing → ScriptLine → List ℕ
line_text s (line.Event e) = step_text (step s.node e 0)
line_text s (line.Bytes x bytes fresh) = bytes_text (still_at s x) s x bytes fresh

-- the state after it
abbrev pub after_line : Standing → ScriptLine → Standing
after_line s (line.Event e) = after_step s (step s.node e 0)
after_line s (line.Bytes x bytes fresh) = after_bytes (still_at s x) s x bytes fresh

-- what these lines print, then the table
abbrev pub lines_text : Standing → List ScriptLine → List ℕ
lines_text s [] = table_text s.node
lines_text s (l ∷ ls) = line_text s l ++ lines_text (after_line s l) ls

-- a new node, whose ends have received nothing
abbrev pub at_first : Setup → Standing
at_first setup = record { node = opening setup; readers = [] }

-- ---- A SCRIPT OF SEVERAL NODES

-- closed N END WHY, for the end that a step closed
abbrev pub closed_now : Option (ℕ × (EndId × Why)) → List ℕ
closed_now None = []
closed_now (Some x) = closed_line x.0 (let y = x.1 in y.0) (let y = x.1 in y.1)

-- the same for a happening that led to this world; one that did not apply prints nothing
abbrev pub closed_by : Option World → List ℕ
closed_by None = []
closed_by (Some w) = closed_now w.last_closed

-- what these happenings print
abbrev pub happenings_text : World → List Happening → List ℕ
happenings_text w [] = []
happenings_text w (h ∷ hs) = closed_by (applied_at w h) ++ happenings_text (happens w h) hs

-- what is printed at the end of a world in which this many of all happenings applied
abbrev pub IsEnd : World → ℕ → ℕ → List ℕ → Type 0
IsEnd w applied all text =
    (agreements fooled : List ℕ) × (any : Bool) × AreAgreements w agreements × AreFooled w any fooled
    × (text ≡ applied_line applied all ++ nodes_text w ++ agreements ++ fooled)

-- what these happenings print, from this world on, and what is printed at the end
abbrev pub IsPrintedFrom : World → List Happening → List ℕ → Type 0
IsPrintedFrom w hs text = (end : List ℕ) × IsEnd (run hs w) (count_applied hs w) (length hs) end × (text ≡ happenings_text w hs ++ end)

-- ---- A SCRIPT

-- WHAT A SCRIPT PRINTS, by its contents
abbrev pub IsPrinted : Says → List ℕ → Type 0
IsPrinted (Events node lines) text = text ≡ lines_text (at_first node) lines
IsPrinted (Happenings nodes happenings) text = IsPrintedFrom (empty nodes) happenings text

-- what is printed before the end of a world; all of it, for one node
abbrev pub steps_text : Says → List ℕ
steps_text (Events node lines) = lines_text (at_first node) lines
steps_text (Happenings nodes happenings) = happenings_text (empty nodes) happenings

-- what a script may have printed when it is cut short: a prefix of that, or of what it prints
abbrev pub IsFront : Says → List ℕ → Type 0
IsFront says front = StartsWith (steps_text says) front ⊎ ((text : List ℕ) × IsPrinted says text × StartsWith text front)

-- the fault of a script that was read: its own, or two nodes with one name
abbrev pub fault_said : Result Says ScriptFault → Option ScriptFault
fault_said (Err fault) = Some fault
fault_said (Ok (Events node lines)) = None
fault_said (Ok (Happenings nodes happenings)) = if names_repeat nodes then Some SameName else None

-- THE FAULT OF A TEXT: it has more than 1,048,576 bytes; or its first bad line, or no node, or two nodes with one name
abbrev pub fault_in : List ℕ → Option ScriptFault
fault_in text = if nat_lt 1048576 (length text) then Some TooLong else fault_said (script_in text)

-- WHAT A TEXT PRINTS: it is a script without a fault, which prints this
abbrev pub IsPlayed : List ℕ → List ℕ → Type 0
IsPlayed script text = (fault_in script ≡ None) × (says : Says) × (script_in script ≡ Ok says) × IsPrinted says text

-- WHAT A TEXT PRINTS UNTIL IT IS CUT SHORT: it is a script without a fault, and this is a prefix of what it prints
abbrev pub IsPlayedPart : List ℕ → List ℕ → Type 0
IsPlayedPart script front = (fault_in script ≡ None) × (says : Says) × (script_in script ≡ Ok says) × IsFront says front
