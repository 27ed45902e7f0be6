-- Long and short names (the reference manual, Distributed Erlang, Nodes).
use Rattle.std.specs.{Cmp.Lexicographic.pointwise, Prelude.codes, Prelude.ℕ, Prelude.Bool, Prelude.◌||◌, Prelude.◌&&◌, Prelude.not, Prelude.◌==◌}
use Rattle.std.specs.{Prelude.List, Prelude.if◌then◌else◌, List.list_any}
use Rattle.dist_names.specs.NodeName.{host_of, short_of}
use Rattle.dist_talk.specs.declared.names.NameStyle.{NameStyle}
use Rattle.dist_talk.specs.declared.names.NameStyle.TheVariants as style

-- a dot or a colon
abbrev pub is_mark : ℕ → Bool
is_mark byte = (byte == 0x2e) || (byte == 0x3a)

abbrev pub has_mark : List ℕ → Bool
has_mark host = list_any is_mark host

-- the style of a name
abbrev pub style_of : List ℕ → NameStyle
style_of name = if has_mark (host_of name) then style.Long else style.Short

-- its host part has a dot
abbrev pub has_dot : List ℕ → Bool
has_dot name = list_any (λ byte. byte == 0x2e) (host_of name)

-- the first name is short, and the other has a dot
abbrev pub is_short_beside : List ℕ → List ℕ → Bool
is_short_beside name other = not (has_mark (host_of name)) && has_dot other

-- one of the two is long and the other short, so that no node of `-name` and none of `-sname` dials both: an IPv6 address goes with both
abbrev pub is_long_and_short : List ℕ → List ℕ → Bool
is_long_and_short first second = is_short_beside first second || is_short_beside second first

-- the name that a probe gives itself if it is given no other
abbrev pub is_probe_name : List ℕ → Bool
is_probe_name name = pointwise ◌==◌ (short_of name) (codes "distping")
