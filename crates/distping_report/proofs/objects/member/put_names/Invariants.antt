-- What stands behind the opening bracket are the names so far.
use Rattle.std.proofs.Common.{◌≡◌, ◌++◌, take}
use Rattle.distping_report.specs.Objects.{names_among}
use Rattle.distping_report.proofs.Members.{text_tokens}
use Rattle.distping_report.proofs.objects.member.put_names.Given as goal

abbrev pub invariant-loop-flag : goal.invariant-loop-flag
invariant-loop-flag l =
    (l.out.before ≡ l.initial.out.before) × (l.out.tokens ≡ l.initial.out.tokens ++ text_tokens (names_among l.flags.0 (take l.flag-index l.some)))
