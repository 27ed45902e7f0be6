-- WHAT IS PRINTED OF VERDICTS: of each one that counts a text, or with `--json` an object, which shows just that verdict.
use Rattle.std.specs.Prelude.{◌≡◌, Bool, true, false, ℕ, List, ◌∷◌, Option, Some, codes}
use Rattle.std.specs.List.{concat}
use Rattle.dist_talk.specs.{Words.status_of, Words.verdict_word}
use Rattle.dist_talk.specs.declared.verdict.HandshakeVerdict.{HandshakeVerdict}
use Rattle.dist_talk.specs.declared.verdict.HandshakeVerdict.TheVariants as verdict
use Rattle.distping_report.specs.{Sinks.Prints, Sinks.SinkState, Texts.mark_of}
use Rattle.distping_report.specs.Objects.{IsObjectLine, Layout, member, number, text}
use Rattle.distping_capture.specs.declared.left_out.PacketsLeftOut.{PacketsLeftOut}

-- THE TEXT OF A VERDICT begins with its mark, that of its status or a blank where nothing was concluded, two blanks, its word and a colon; what it
-- means follows
abbrev pub attempt_mark : Bool → HandshakeVerdict → List ℕ
attempt_mark has_colors verdict.Dynamic = codes " "
attempt_mark has_colors verdict.Unfinished = codes " "
attempt_mark has_colors v = mark_of has_colors (status_of v)

pub record IsAttemptText (v : HandshakeVerdict) (text : List ℕ) : Type 0 where
  pub has_colors : Bool
  pub behind : List (List ℕ)
  pub is : text ≡ concat (attempt_mark has_colors v ∷ codes "  " ∷ verdict_word v ∷ codes ": " ∷ behind)

pub record PrintsText (v : HandshakeVerdict) (old new : SinkState) : Type 0 where
  pub text : List ℕ
  pub shows : IsAttemptText v text
  pub printed : Prints text old new

-- THE OBJECT OF A VERDICT: its first members are its type, the form of objects, and the word and the status of the verdict
pub record ShowsVerdict (kind : List ℕ) (v : HandshakeVerdict) (line : List ℕ) : Type 0 where
  pub others : Layout
  pub object : IsObjectLine (member (codes "type") (text kind) (member (codes "form") (number 1)
      (member (codes "verdict") (text (verdict_word v)) (member (codes "exit") (number (status_of v)) others)))) line

pub record PrintsObject (kind : List ℕ) (v : HandshakeVerdict) (old new : SinkState) : Type 0 where
  pub line : List ℕ
  pub shows : ShowsVerdict kind v line
  pub printed : Prints line old new

-- WHAT IS PRINTED ONCE AN ATTEMPT IS JUDGED, with `--json` or without: the text of its verdict; or of a talk with a port mapper its object, and of another
-- attempt nothing yet
abbrev pub PrintsNoted : Bool → Bool → HandshakeVerdict → SinkState → SinkState → Type 0
PrintsNoted false talk v old new = PrintsText v old new
PrintsNoted true true v old new = PrintsObject (codes "mapper") v old new
PrintsNoted true false v old new = new ≡ old

-- and once it ended: with `--json` the object of an attempt that was no talk with a port mapper
abbrev pub PrintsEnd : Bool → Bool → Option HandshakeVerdict → SinkState → SinkState → Type 0
PrintsEnd true false (Some v) old new = PrintsObject (codes "handshake") v old new
PrintsEnd quiet talk v old new = new ≡ old

-- an object of this verdict
abbrev pub PrintsOne : HandshakeVerdict → SinkState → SinkState → Type 0
PrintsOne v old new = (kind : List ℕ) × PrintsObject kind v old new

-- AND AT THE END: with `--json` an object, and else, if nothing was found, that verdict
abbrev pub PrintsOutcome : Bool → Bool → PacketsLeftOut → ℕ → SinkState → SinkState → Type 0
PrintsOutcome true found left_out status old new = (line : List ℕ) × Prints line old new
PrintsOutcome false true left_out status old new = new ≡ old
PrintsOutcome false false left_out status old new = PrintsText verdict.NothingFound old new
