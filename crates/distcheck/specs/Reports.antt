-- WHAT IS PRINTED: the marks of rows, and the last line.
use Rattle.std.specs.Prelude.{◌≡◌, ℕ, zero, suc, Bool, true, false, List, ◌++◌, All, None, Option, codes}
use Rattle.std.specs.{Io.KnownBytes.Appends, List.find, List.flat_map}
use Rattle.dist_conformance.specs.declared.verdicts.TalkVerdict.{TalkVerdict}
use Rattle.dist_conformance.specs.declared.verdicts.TalkVerdict.TheVariants as verdict
use Rattle.distcheck.specs.{Played.AreConfirmed, Played.exit_of, Played.met_nobody, Rows.conform, Rows.IsRow}
use Rattle.distcheck.specs.declared.{results.PlayedRow.PlayedRow, tries.PlayedTalk.PlayedTalk}

-- text begins with this
abbrev pub BeginsWith : List ℕ → List ℕ → Type 0
BeginsWith front text = (rest : List ℕ) × (text ≡ front ++ rest)

-- THE MARK of a row that deviates, is loose or was blocked stands in front of what is added for it; for another nothing is
abbrev pub IsMarked : TalkVerdict → List ℕ → List ℕ → Type 0
IsMarked verdict.Deviates old new = BeginsWith (old ++ codes "x ") new
IsMarked verdict.Loose old new = BeginsWith (old ++ codes "~ ") new
IsMarked verdict.Blocked old new = BeginsWith (old ++ codes ". ") new
IsMarked other old new = new ≡ old

-- THE LAST LINE, by the exit status, and by whether the rows conform
abbrev pub IsOutcome : ℕ → Bool → List ℕ → Type 0
IsOutcome zero true line = BeginsWith (codes "Conforms.") line
IsOutcome zero false line = BeginsWith (codes "No deviation") line
IsOutcome (suc exit) conforms line = BeginsWith (codes "Does not conform:") line

-- it stands at the end of the text
pub record EndsByOutcome (exit : ℕ) (conforms : Bool) (text : List ℕ) : Type 0 where
  pub before : List ℕ
  pub line : List ℕ
  pub text_is : text ≡ before ++ line
  pub is_outcome : IsOutcome exit conforms line

-- WHAT WAS PRINTED AND THE EXIT STATUS are those of the same talks, in their rows
pub record IsReported (strict json : Bool) (old new : Option (List ℕ)) (status : ℕ) : Type 0 where
  pub talks : List PlayedTalk
  pub rows : List PlayedRow
  pub all : ℕ
  pub text : List ℕ
  pub confirmed : AreConfirmed talks
  pub status_is : status ≡ exit_of strict talks
  pub there : find met_nobody talks ≡ None
  pub in_rows : flat_map (λ row. row.talks.now) rows ≡ talks
  pub are_rows : All IsRow rows
  pub printed : Appends old new text
  pub last : json ≡ false → EndsByOutcome status (conform all rows) text
