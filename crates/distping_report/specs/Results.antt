-- THE TEXT OF A RESULT: an object with `--json`, else the lines of its verdict.
use Rattle.std.specs.Prelude.{◌≡◌, ⊤, ℕ, Bool, true, false, List, [], ◌∷◌, Some, codes}
use Rattle.dist_names.specs.Escaped.{escapes_of}
use Rattle.dist_talk.specs.{Words.status_of, Words.verdict_word, declared.verdict.HandshakeVerdict.HandshakeVerdict}
use Rattle.json.specs.Find.{get_member}
use Rattle.distping_report.specs.Objects.{IsObjectLine, Layout, Shape, json_of, members_in, number, text}
use Rattle.distping_report.specs.Texts.{IsVerdictText}
use Rattle.distping_report.specs.declared.{asked.Dial.Dial, asked.Listen.Listen, found.Caller.Caller, found.ProbeOutcome.ProbeOutcome}

-- under each of these names the object has this value
abbrev pub Finds : Layout → List (List ℕ × Shape) → Type 0
Finds l [] = ⊤
Finds l (m ∷ ms) = (get_member m.0 (members_in l) ≡ Some (json_of m.1)) × Finds l ms

-- A LINE OF JSON in which a reader finds these values under these names
pub record Shows (members : List (List ℕ × Shape)) (line : List ℕ) : Type 0 where
  pub layout : Layout
  pub object : IsObjectLine layout line
  pub found : Finds layout members

-- the word of a verdict and its exit status
abbrev pub verdict_members : HandshakeVerdict → List (List ℕ × Shape)
verdict_members v = (codes "verdict", text (verdict_word v)) ∷ (codes "exit", number (status_of v)) ∷ []

-- A LINE OF JSON of this type, with this verdict
abbrev pub ShowsVerdict : List ℕ → HandshakeVerdict → List ℕ → Type 0
ShowsVerdict kind v line = Shows ((codes "type", text kind) ∷ verdict_members v) line

-- THE LINE OF A NODE has its name, and the word and the status of the verdict on it
abbrev pub IsNodeLine : List ℕ → HandshakeVerdict → List ℕ → Type 0
IsNodeLine node v line = Shows ((codes "type", text (codes "node")) ∷ (codes "node", text (escapes_of node)) ∷ verdict_members v) line

-- of a node that was dialled
abbrev pub IsNodeText : Bool → Dial → ProbeOutcome → List ℕ → Type 0
IsNodeText true dial outcome it = IsNodeLine dial.node.now outcome.verdict it
IsNodeText false dial outcome it = IsVerdictText outcome.verdict it

-- of a connection that was taken
abbrev pub IsCallerText : Bool → Listen → Caller → HandshakeVerdict → List ℕ → Type 0
IsCallerText true listen caller v it = ShowsVerdict (codes "connection") v it
IsCallerText false listen caller v it = IsVerdictText v it
