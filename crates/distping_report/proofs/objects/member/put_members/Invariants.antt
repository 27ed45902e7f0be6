-- The members so far were put.
use Rattle.std.proofs.Common.{take}
use Rattle.distping_report.specs.Objects.{PutsMembers, layout_of}
use Rattle.distping_report.proofs.objects.member.put_members.Given as goal

abbrev pub invariant-loop-name : goal.invariant-loop-name
invariant-loop-name l = PutsMembers (layout_of (take l.name-index l.members)) l.initial.out l.out
