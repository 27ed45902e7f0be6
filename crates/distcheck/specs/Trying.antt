-- THE VERDICT OF A TALK, by those of its tries.
use Rattle.std.specs.List.{list_any}
use Rattle.std.specs.Prelude.{Bool, true, false, if◌then◌else◌, List, [], ◌∷◌, map}
use Rattle.dist_conformance.specs.declared.{rows.Level.Level, verdicts.TalkVerdict.TalkVerdict}
use Rattle.dist_conformance.specs.declared.rows.Level.TheVariants as level
use Rattle.dist_conformance.specs.declared.verdicts.TalkVerdict.TheVariants as verdict
use Rattle.distcheck.specs.{Playing.outcome_of, Seeing.is_heard, Seeing.is_refusal}
use Rattle.distcheck.specs.declared.{queue.QueuedTalk.QueuedTalk, seen.PlayedStep.PlayedStep}
use Rattle.distcheck.specs.declared.playing.TalkTry.{TalkTry}

-- the verdict that counts at a level: at `may` nothing deviates, and at any other nothing is only noted
abbrev pub verdict_by_level : Level → TalkVerdict → TalkVerdict
verdict_by_level level.May verdict.Deviates = verdict.Noted
verdict_by_level level.May other = other
verdict_by_level counted verdict.Noted = verdict.Kept
verdict_by_level counted other = other

-- the verdict of one try, by what was seen in its steps
abbrev pub try_verdict : QueuedTalk → List PlayedStep → TalkVerdict
try_verdict talk played = verdict_by_level talk.level (outcome_of talk.terms talk.talk.now.steps played)

-- that of each try
abbrev pub verdicts_of : QueuedTalk → List TalkTry → List TalkVerdict
verdicts_of talk tries = map (λ (t : TalkTry). try_verdict talk t.played.items) tries

-- those that tries have with them
abbrev pub told_verdicts : List TalkTry → List TalkVerdict
told_verdicts tries = map (λ (t : TalkTry). t.verdict) tries

-- nobody listened in one of its steps
abbrev pub was_refused : TalkTry → Bool
was_refused t = list_any (λ (p : PlayedStep). is_refusal p.seen) t.played.items

-- the peer was heard in one of its steps
abbrev pub was_heard : TalkTry → Bool
was_heard t = list_any (λ (p : PlayedStep). is_heard p.seen) t.played.items

-- THE TRY DENIES a deviation in one before: it was played as far as to the demand, and met it
abbrev pub denies : TalkVerdict → Bool
denies verdict.Noted = true
denies verdict.Kept = true
denies verdict.Loose = true
denies other = false

-- A LATER TRY COUNTS, but does not take a deviation back unless it denies it
abbrev pub counts : TalkVerdict → TalkVerdict → TalkVerdict
counts verdict.Deviates later = if denies later then later else verdict.Deviates
counts earlier later = later

-- behind this verdict of the tries before
abbrev pub verdict_behind : TalkVerdict → List TalkVerdict → TalkVerdict
verdict_behind v [] = v
verdict_behind v (later ∷ more) = verdict_behind (counts v later) more

-- THAT OF ALL TRIES
abbrev pub tries_verdict : List TalkVerdict → TalkVerdict
tries_verdict verdicts = verdict_behind verdict.Skipped verdicts
