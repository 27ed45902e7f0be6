-- What is written and the text of the members that are left are the text of all.
use Rattle.std.proofs.Common.{◌≡◌, ◌++◌, drop, map}
use Rattle.std.specs.{List.flat_map, String.string_bytes}
use Rattle.distmapd.specs.Members.{member_of, member_text}
use Rattle.distmapd.proofs.members.members_text.Given as goal

abbrev pub invariant-loop-name : goal.invariant-loop-name
invariant-loop-name l =
    string_bytes l.text ++ flat_map member_text (map member_of (drop l.name-index l.members)) ≡ flat_map member_text (map member_of l.members)
