-- WHAT ROWS COME TO, by their talks.
use Rattle.std.specs.Prelude.{ℕ, ◌-◌, ◌==◌, ◌≤◌, Bool, ◌&&◌, List, filter, length, All, Contains}
use Rattle.dist_conformance.specs.Verdicts.{rank_of}
use Rattle.dist_conformance.specs.declared.verdicts.TalkVerdict.{TalkVerdict}
use Rattle.dist_conformance.specs.declared.verdicts.TalkVerdict.TheVariants as verdict
use Rattle.distcheck.specs.{Played.played_verdict, declared.results.PlayedRow.PlayedRow, declared.tries.PlayedTalk.PlayedTalk}

-- none of these talks has a worse verdict than this one
pub record NoneWorse (talks : List PlayedTalk) (worst : PlayedTalk) : Type 0 where
  pub each : All (λ (talk : PlayedTalk). rank_of (played_verdict talk) ≤ rank_of (played_verdict worst)) talks

-- the row shows one of its talks, and none of them has a worse verdict
pub record IsRow (row : PlayedRow) : Type 0 where
  pub one_of_them : Contains row.talks.now row.shown.now
  pub none_worse : NoneWorse row.talks.now row.shown.now

-- its verdict
abbrev pub row_verdict : PlayedRow → TalkVerdict
row_verdict row = played_verdict row.shown.now

-- the row has this verdict
abbrev pub has_verdict : TalkVerdict → PlayedRow → Bool
has_verdict v row = rank_of (row_verdict row) == rank_of v

-- how many rows have this verdict
abbrev pub count_in : List PlayedRow → TalkVerdict → ℕ
count_in rows v = length (filter (has_verdict v) rows)

-- how many of so many rows were not played
abbrev pub count_left_out : ℕ → List PlayedRow → ℕ
count_left_out all rows = all - (length rows - count_in rows verdict.Skipped)

-- THE ROWS CONFORM: all of them were played, none is blocked, and none deviates
abbrev pub conform : ℕ → List PlayedRow → Bool
conform all rows = (count_left_out all rows == 0) && (count_in rows verdict.Blocked == 0) && (count_in rows verdict.Deviates == 0)
