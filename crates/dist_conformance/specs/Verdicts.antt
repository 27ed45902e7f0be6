-- Verdicts of talks.
use Rattle.std.specs.Prelude.{ℕ, Bool, true, false}
use Rattle.dist_conformance.specs.declared.{rows.Level.Level, verdicts.TalkVerdict.TalkVerdict}
use Rattle.dist_conformance.specs.declared.rows.Level.TheVariants as level
use Rattle.dist_conformance.specs.declared.verdicts.TalkVerdict.TheVariants as verdict

-- how bad a verdict is: a row that is loose or deviates in one talk counts so, however its other talks end
abbrev pub rank_of : TalkVerdict → ℕ
rank_of verdict.Skipped = 0
rank_of verdict.Noted = 1
rank_of verdict.Kept = 2
rank_of verdict.Blocked = 3
rank_of verdict.Loose = 4
rank_of verdict.Deviates = 5

-- WHICH ROWS COUNT: a must that deviates; where it is strict, also a should or an otp that does, and what is loose
abbrev pub is_counted : Bool → Level → TalkVerdict → Bool
is_counted strict level.May v = false
is_counted strict level.Must verdict.Deviates = true
is_counted strict l verdict.Deviates = strict
is_counted strict l verdict.Loose = strict
is_counted strict l v = false
