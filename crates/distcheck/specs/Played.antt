-- THE VERDICTS OF TALKS, and the exit status.
use Rattle.std.specs.Prelude.{◌≡◌, ℕ, ◌<◌, ◌≤◌, Bool, true, if◌then◌else◌, List, length, map, Option, Some, None, ◌⊎◌, All, Any}
use Rattle.std.specs.{List.find, List.list_any, Option.ForNone}
use Rattle.dist_conformance.specs.declared.verdicts.TalkVerdict.{TalkVerdict}
use Rattle.dist_conformance.specs.Verdicts.{is_counted}
use Rattle.dist_conformance.specs.declared.verdicts.TalkVerdict.TheVariants as verdict
use Rattle.distcheck.specs.Trying.{tries_verdict, verdicts_of, was_heard, was_refused}
use Rattle.distcheck.specs.declared.{queue.QueuedTalk.QueuedTalk, tries.PlayedTalk.PlayedTalk}

-- THE VERDICT OF A TALK: the judgement of what was said and heard in its tries
abbrev pub played_verdict : PlayedTalk → TalkVerdict
played_verdict p = tries_verdict (verdicts_of p.queued p.tries.items)

-- the talks that were played
abbrev pub talks_of : List PlayedTalk → List QueuedTalk
talks_of ps = map (λ (p : PlayedTalk). p.queued) ps

-- nobody listened where it connects, in one of its tries: the node or the port mapper was gone
abbrev pub met_nobody : PlayedTalk → Bool
met_nobody p = list_any was_refused p.tries.items

-- the peer was heard in one of its tries
abbrev pub heard_peer : PlayedTalk → Bool
heard_peer p = list_any was_heard p.tries.items

-- THE SAME TALK, and a try more, unless it is left out
pub record IsAgain (old new : PlayedTalk) : Type 0 where
  pub same : new.queued ≡ old.queued
  pub more : ForNone old.left_out (length old.tries.items < length new.tries.items)

-- a talk of the row with this id deviates, and was tried twice
pub record IsTwice (row : List ℕ) (p : PlayedTalk) : Type 0 where
  pub same : p.queued.row.now.id ≡ row
  pub deviates : played_verdict p ≡ verdict.Deviates
  pub twice : 2 ≤ length p.tries.items

-- if the talk deviates, it is of this row, or was tried twice
abbrev pub IsTwiceUnless : Option (List ℕ) → PlayedTalk → Type 0
IsTwiceUnless row p = played_verdict p ≡ verdict.Deviates → (row ≡ Some p.queued.row.now.id) ⊎ (2 ≤ length p.tries.items)

-- if the talk deviates, one of its row did so that was tried twice
abbrev pub IsConfirmed : List PlayedTalk → PlayedTalk → Type 0
IsConfirmed ps p = played_verdict p ≡ verdict.Deviates → Any (IsTwice p.queued.row.now.id) ps

-- NO ROW DEVIATES BY A SINGLE TRY, unless somebody was gone, or nobody was ever heard
abbrev pub AreConfirmed : List PlayedTalk → Type 0
AreConfirmed ps = find met_nobody ps ≡ None → list_any heard_peer ps ≡ true → All (IsConfirmed ps) ps

-- the talk makes the exit status 1: it deviates, in a row that counts; strict: or is loose
abbrev pub is_counted_talk : Bool → PlayedTalk → Bool
is_counted_talk strict p = is_counted strict p.queued.level (played_verdict p)

-- THE EXIT STATUS: 1 if one of the talks does
abbrev pub exit_of : Bool → List PlayedTalk → ℕ
exit_of strict ps = if list_any (is_counted_talk strict) ps then 1 else 0
