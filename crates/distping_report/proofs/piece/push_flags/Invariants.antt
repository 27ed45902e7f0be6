-- The names so far stand there.
use Rattle.std.proofs.Common.{◌≡◌, ◌++◌, string_bytes, take}
use Rattle.std.specs.List.{flat_map}
use Rattle.distping_report.specs.Texts.{flag_text}
use Rattle.distping_report.proofs.piece.push_flags.Given as goal

abbrev pub invariant-loop-flag : goal.invariant-loop-flag
invariant-loop-flag l = string_bytes l.text ≡ string_bytes l.initial.text ++ flat_map (flag_text l.flags.0) (take l.flag-index l.all)
