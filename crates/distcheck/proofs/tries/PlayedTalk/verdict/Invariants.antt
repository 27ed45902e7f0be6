-- What is left decides.
use Rattle.std.proofs.Common.{◌≡◌, drop}
use Rattle.distcheck.specs.Trying.{told_verdicts, tries_verdict, verdict_behind}
use Rattle.distcheck.proofs.tries.PlayedTalk.verdict.Given as goal

abbrev pub invariant-loop-one : goal.invariant-loop-one
invariant-loop-one l = verdict_behind l.verdict (told_verdicts (drop l.one-index l.self.tries.items)) ≡ tries_verdict (told_verdicts l.self.tries.items)
