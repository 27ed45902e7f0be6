-- THE SCRIPT OF A TEXT. Its language is in docs/RUNNING.md.
use Rattle.std.specs.Prelude.{ℕ, ◌+◌, Bool, false, true, ◌||◌, if◌then◌else◌, List, [], ◌∷◌, ◌++◌}
use Rattle.std.specs.Prelude.{drop, codes, is_some, Option, Some, None, Result, Ok, Err}
use Rattle.dist_core_setup.specs.declared.setup.Setup.{Setup}
use Rattle.dist_world_model.specs.declared.happening.Happening.{Happening}
use Rattle.dist_script.specs.{Words.words_of, Words.lines_of, Words.is_skipped, Fields.◌>>=◌, Nodes.begins, Nodes.node_in}
use Rattle.dist_script.specs.declared.fault.ScriptFault.{ScriptFault, TheVariants.BadLine, TheVariants.NoNode}
use Rattle.dist_script.specs.declared.script.{ScriptLine.ScriptLine, Script.Script}
use Rattle.dist_script.specs.declared.script.Script.TheVariants as script
use Rattle.dist_script.specs.Events as events
use Rattle.dist_script.specs.Happenings as happenings

-- what the lines so far say
pub record SoFar : Type 0 where
  -- the nodes that they set up
  pub nodes : List Setup
  -- whether one of them sets no node up
  pub has_lines : Bool
  -- what they give one node
  pub events : List ScriptLine
  -- what they let happen to several
  pub happenings : List Happening

-- before the first line
abbrev pub nothing : SoFar
nothing = record { nodes = []; has_lines = false; events = []; happenings = [] }

-- ---- one more line

-- a line that sets a node up, behind its first word. These lines stand before all others
abbrev pub with_node : SoFar → List (List ℕ) → Option SoFar
with_node s words = if s.has_lines then None else node_in words >>= (λ node. Some (record s { nodes = s.nodes ++ node ∷ [] }))

-- the line of an event
abbrev pub with_event : SoFar → List (List ℕ) → Option SoFar
with_event s words = events.line_in words >>= (λ line. Some (record s { events = s.events ++ line ∷ [] }))

-- the line of a happening
abbrev pub with_happening : SoFar → List (List ℕ) → Option SoFar
with_happening s words = happenings.happening_line words >>= (λ reported. Some (record s { happenings = s.happenings ++ reported ∷ [] }))

-- whether a line is one of these two
abbrev pub is_either : List (List ℕ) → Bool
is_either words = is_some (events.line_in words) || is_some (happenings.happening_line words)

-- a line that sets no node up, behind these nodes. Behind none it may be of either form, and nothing is kept of it
abbrev pub with_reported : List Setup → SoFar → List (List ℕ) → Option SoFar
with_reported [] s words = if is_either words then Some s else None
with_reported (node ∷ []) s words = with_event s words
with_reported (node ∷ other ∷ nodes) s words = with_happening s words

-- a line of these words
abbrev pub with_words : SoFar → List (List ℕ) → Option SoFar
with_words s words = if begins (codes "node") words then with_node s (drop 1 words) else with_reported s.nodes (record s { has_lines = true }) words

-- A LINE: one that is empty or a comment says nothing
abbrev pub with_line : SoFar → List ℕ → Option SoFar
with_line s line = if is_skipped line then Some s else with_words s (words_of line)

-- ---- all lines

-- the lines behind one of this number, where it is good
abbrev pub unless_bad : ℕ → Option SoFar → (SoFar → Result SoFar ScriptFault) → Result SoFar ScriptFault
unless_bad number None behind = Err (BadLine number)
unless_bad number (Some s) behind = behind s

-- these lines, the first of which has this number. The first bad one is returned
abbrev pub with_lines : SoFar → ℕ → List (List ℕ) → Result SoFar ScriptFault
with_lines s number [] = Ok s
with_lines s number (line ∷ lines) = unless_bad number (with_line s line) (λ more. with_lines more (number + 1) lines)

-- WHAT A SCRIPT SAYS: one node and what it is given, or several and what happens in their world
pub data Says : Type 0 where
  Events : Setup → List ScriptLine → Says
  Happenings : List Setup → List Happening → Says

-- a script has a node
abbrev pub whole : List Setup → SoFar → Result Says ScriptFault
whole [] s = Err NoNode
whole (node ∷ []) s = Ok (Events node s.events)
whole (node ∷ other ∷ nodes) s = Ok (Happenings (node ∷ other ∷ nodes) s.happenings)

-- where all lines are good
abbrev pub all_good : Result SoFar ScriptFault → Result Says ScriptFault
all_good (Err fault) = Err fault
all_good (Ok s) = whole s.nodes s

-- THE SCRIPT OF A TEXT: the first bad line is returned, lines counted from 1; then that there is no node
abbrev pub script_in : List ℕ → Result Says ScriptFault
script_in text = all_good (with_lines nothing 1 (lines_of text))

-- what a script says
abbrev pub says : Script → Says
says (script.Events node lines) = Events node lines.items
says (script.Happenings nodes lines) = Happenings nodes.items lines.items
