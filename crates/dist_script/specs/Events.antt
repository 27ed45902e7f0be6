-- The lines of a script for its one node.
use Rattle.std.specs.Prelude.{ℕ, List, [], ◌∷◌, codes, Option}
use Rattle.dist_core.specs.declared.event.Event.TheVariants as event
use Rattle.dist_script.specs.Fields.{Read, next, give, whole_line, number_in, end_in, bytes_in, name_in, opening_in, why_in}
use Rattle.dist_script.specs.declared.{script.ScriptLine.ScriptLine, events.EventWord.EventWord}
use Rattle.dist_script.specs.declared.script.ScriptLine.TheVariants as line
use Rattle.dist_script.specs.declared.events.EventWord.TheVariants as kind

-- the first word of each kind of line
abbrev pub event_kinds : List (List ℕ × EventWord)
event_kinds =
    (codes "bytes", kind.Bytes) ∷ (codes "tick", kind.Tick) ∷ (codes "incoming", kind.Incoming) ∷ (codes "lost", kind.Lost) ∷
    (codes "dial", kind.Dial) ∷ (codes "opened", kind.Opened) ∷ []

-- what the words behind the first say
abbrev pub event_in : EventWord → List (List ℕ) → Read ScriptLine
event_in kind.Incoming = next (number_in 64) (λ link. give (line.Event (event.Incoming link)))
event_in kind.Dial = next name_in (λ peer. next opening_in (λ opening. give (line.Event (event.Dial peer opening))))
event_in kind.Opened = next end_in (λ end_. next (number_in 64) (λ link. give (line.Event (event.Opened end_ link))))
event_in kind.Bytes = next end_in (λ end_. next bytes_in (λ bytes. next (number_in 32) (λ fresh. give (line.Bytes end_ bytes fresh))))
event_in kind.Lost = next end_in (λ end_. next why_in (λ why. give (line.Event (event.Lost end_ why))))
event_in kind.Tick = next end_in (λ end_. give (line.Event (event.Tick end_)))

-- THE LINE OF AN EVENT: a first word of the table, what stands behind it, and no word more
abbrev pub line_in : List (List ℕ) → Option ScriptLine
line_in = whole_line event_kinds event_in
