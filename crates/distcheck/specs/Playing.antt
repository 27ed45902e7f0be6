-- THE VERDICT OF A TALK: by its steps, and what was seen in each.
use Rattle.std.specs.Prelude.{ℕ, Bool, true, false, ◌||◌, nat_le, nat_lt, if◌then◌else◌, List, [], ◌∷◌, ◌++◌, length, drop, Option, Some, None, slice_set}
use Rattle.std.specs.List.{slice_index_or}
use Rattle.dist_conformance.specs.Judging.{Observation, judgement_of, learned_from}
use Rattle.dist_conformance.specs.declared.{outcomes.Passage.Passage, say.Learned.Learned, judging.Judgement.Judgement, verdicts.TalkVerdict.TalkVerdict}
use Rattle.dist_conformance.specs.declared.steps.{Action.Action, Demand.Demand, TalkStep.TalkStep}
use Rattle.dist_conformance.specs.declared.steps.Action.TheVariants as action
use Rattle.dist_conformance.specs.declared.judging.Judgement.TheVariants as judgement
use Rattle.dist_conformance.specs.declared.verdicts.TalkVerdict.TheVariants as verdict
use Rattle.distcheck.specs.{Seeing.end_of, declared.standing.JudgingTerms.JudgingTerms, declared.standing.TalkState.TalkState}
use Rattle.distcheck.specs.declared.{seen.Timing.Timing, seen.StepFact.StepFact, seen.PlayedStep.PlayedStep, waiting.HeardBytes.HeardBytes}
use Rattle.distcheck.specs.declared.seen.StepFact.TheVariants as seen

-- how a talk stands: by what it is judged, its verdict so far, whether that is final, what was learned, and of each connection the bytes
-- that came and that nothing matched yet
pub record Standing : Type 0 where
  pub terms : JudgingTerms
  pub verdict : TalkVerdict
  pub is_over : Bool
  pub learned : List Learned
  pub left : List (List ℕ)

abbrev pub standing_of : TalkState → Standing
standing_of s = record { terms = s.terms; verdict = s.verdict; is_over = s.is_over; learned = s.learned.items; left = s.left.items }

-- before its first step, on five connections
abbrev pub beginning : JudgingTerms → Standing
beginning t = record { terms = t; verdict = verdict.Kept; is_over = false; learned = []; left = [] ∷ [] ∷ [] ∷ [] ∷ [] ∷ [] }

-- it ends by this verdict
abbrev pub ends_by : TalkVerdict → Standing → Standing
ends_by v s = record s { verdict = v; is_over = true }

-- nothing but these bytes is left of a connection
abbrev pub with_left : ℕ → List ℕ → List (List ℕ) → List (List ℕ)
with_left conn bytes left = if nat_lt conn (length left) then slice_set left conn bytes else left

-- ---- what came

-- ALL THAT CAME on a connection, and that nothing matched yet: what was left of it before this step, and what came in this step
abbrev pub came_on : Standing → ℕ → List ℕ → List ℕ
came_on s conn bytes = slice_index_or s.left conn [] ++ bytes

-- what is judged of it
abbrev pub observation_in : Standing → List ℕ → Timing → Observation
observation_in s came w =
    record { came = came; ended = end_of w.end; elapsed = w.elapsed; pause = w.pause; limit = s.terms.limit; learned = s.learned; cookie = s.terms.cookie.now }

-- what is learned, as a list
abbrev pub if_any : Option Learned → List Learned
if_any None = []
if_any (Some one) = one ∷ []

-- so much of what came matches: the rest is left, and what it says is learned
abbrev pub passes : ℕ → List ℕ → Passage → Standing → Standing
passes conn came p s = record s { learned = s.learned ++ if_any (learned_from conn p); left = with_left conn (drop p.count came) s.left }

-- BY THE JUDGEMENT the talk goes on, goes on as a loose one, or ends by this verdict
unfoldable pub by_judgement : TalkVerdict → ℕ → List ℕ → Judgement → Standing → Standing
by_judgement v conn came (judgement.Kept p) s = passes conn came p s
by_judgement v conn came (judgement.Loose p) s = passes conn came p (record s { verdict = verdict.Loose })
by_judgement v conn came (judgement.Deviates why) s = ends_by v s
by_judgement v conn came judgement.More s = ends_by v s

-- the judgement of this demand
unfoldable pub by_demand : TalkVerdict → ℕ → Demand → HeardBytes → Standing → Standing
by_demand v conn demand h s = let came = came_on s conn h.bytes in by_judgement v conn came (judgement_of demand (observation_in s came h.timing)) s

-- ---- steps

-- what came in a step that listens: what a `hear` does not get blocks the talk, what a `want` does not get deviates, a `tell` notes
unfoldable pub after_hearing : ℕ → Action → HeardBytes → Standing → Standing
after_hearing conn (action.Hear demand) h s = by_demand verdict.Blocked conn demand h s
after_hearing conn (action.Want demand) h s = by_demand verdict.Deviates conn demand h s
after_hearing conn (action.Tell ms) h s = record s { verdict = verdict.Noted; left = with_left conn [] s.left }
after_hearing conn other h s = ends_by verdict.Blocked s

-- something was said in a step `say`
unfoldable pub after_saying : Action → Standing → Standing
after_saying (action.Say saying) s = s
after_saying other s = ends_by verdict.Blocked s

-- a step that says or listens is not just made; by one that connects nothing is left of that connection
unfoldable pub after_making : ℕ → Action → Standing → Standing
after_making conn (action.Say saying) s = ends_by verdict.Blocked s
after_making conn (action.Hear demand) s = ends_by verdict.Blocked s
after_making conn (action.Want demand) s = ends_by verdict.Blocked s
after_making conn (action.Tell ms) s = ends_by verdict.Blocked s
after_making conn action.Half s = s
after_making conn action.Close s = s
after_making conn action.Reset s = s
after_making conn (action.Wait ms) s = s
after_making conn other s = record s { left = with_left conn [] s.left }

-- WHAT A STEP COMES TO in which this was seen
unfoldable pub after : TalkStep → StepFact → Standing → Standing
after step seen.Made s = after_making step.conn step.action s
after step (seen.Said said) s = after_saying step.action s
after step (seen.Heard h) s = after_hearing step.conn step.action h s
after step seen.Came s = ends_by verdict.Deviates s
after step seen.Refused s = ends_by verdict.Blocked s
after step seen.Unsaid s = ends_by verdict.Skipped s
after step (seen.Failed why) s = ends_by verdict.Blocked s

-- the same, unless the talk is over
unfoldable pub next : TalkStep → StepFact → Standing → Standing
next step what s = if s.is_over then s else after step what s

-- ---- talks

-- HOW A TALK STANDS behind the steps in which something was seen
unfoldable pub standing_after : Standing → List TalkStep → List PlayedStep → Standing
standing_after s steps [] = s
standing_after s [] (p ∷ ps) = ends_by verdict.Skipped s
standing_after s (step ∷ steps) (p ∷ ps) = standing_after (next step p.seen s) steps ps

-- a talk that is neither over nor played to its end counts as skipped
abbrev pub verdict_in : ℕ → ℕ → Standing → TalkVerdict
verdict_in steps played s = if s.is_over || nat_le steps played then s.verdict else verdict.Skipped

-- THE VERDICT of one try of a talk
abbrev pub outcome_of : JudgingTerms → List TalkStep → List PlayedStep → TalkVerdict
outcome_of t steps played = verdict_in (length steps) (length played) (standing_after (beginning t) steps played)
