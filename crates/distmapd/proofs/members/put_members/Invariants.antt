-- What is written and the tokens of the members that are left are the tokens of all.
use Rattle.std.proofs.Common.{◌≡◌, ◌++◌, drop, map}
use Rattle.std.specs.List.{flat_map}
use Rattle.distmapd.specs.Members.{member_of, member_tokens}
use Rattle.distmapd.proofs.members.put_members.Given as goal

abbrev pub invariant-loop-name : goal.invariant-loop-name
invariant-loop-name l =
    (l.out.tokens ++ flat_map member_tokens (map member_of (drop l.name-index l.members))
    ≡ l.initial.out.tokens ++ flat_map member_tokens (map member_of l.members))
    × (l.out.before ≡ l.initial.out.before)
