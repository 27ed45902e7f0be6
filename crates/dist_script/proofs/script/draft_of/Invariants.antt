use Rattle.std.proofs.Common.{◌≡◌, suc, ◌+◌, ◌≤◌, length, option_copied}
use Rattle.dist_script.specs.{Scripts.nothing, Scripts.with_lines, Words.lines_of, Words.parts_in, Words.bytes_left}
use Rattle.dist_script.proofs.script.draft_of.Given as goal

-- what was read so far, and then the lines that are left, are all lines; and a line was counted for a byte at most
abbrev pub invariant-loop-rest : goal.invariant-loop-rest
invariant-loop-rest l = record {
  so : with_lines nothing 1 (lines_of l.fn.text) ≡ with_lines l.draft (l.number + 1) (parts_in 10 (option_copied l.rest));
  counted : l.number + bytes_left (option_copied l.rest) ≤ suc (length l.fn.text);
}

abbrev pub decreases-loop-rest : goal.decreases-loop-rest
decreases-loop-rest l = bytes_left (option_copied l.rest)
