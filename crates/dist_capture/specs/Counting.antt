-- Counts of packets that gave no segment.
use Rattle.std.specs.{Prelude.ℕ, Prelude.◌+◌, Prelude.◌-◌, Prelude.◌^◌, Prelude.min, Prelude.Some, Prelude.None, Option.option_or}
use Rattle.dist_capture.specs.declared.skipped.Skipped.TheVariants.{UnknownLink, CutShort, Vxlan, Gre, IpInIp, ManyHeaders, OtherProtocol, Fragment, Malformed}
use Rattle.dist_capture.specs.declared.skipped.{Skipped.Skipped, SkippedCounts.SkippedCounts}

abbrev pub nothing_skipped : SkippedCounts
nothing_skipped = record {
  unknown_link = 0;
  unknown_type = None;
  cut_short = 0;
  vxlan = 0;
  gre = 0;
  ip_in_ip = 0;
  many_headers = 0;
  other_protocol = 0;
  fragment = 0;
  malformed = 0;
}

-- one more, at most the greatest number of 64 bits
abbrev pub more : ℕ → ℕ
more n = min (n + 1) (2 ^ 64 - 1)

-- the counts with one more packet; of links that are not known the type of the first is kept
abbrev pub counted : SkippedCounts → Skipped → SkippedCounts
counted c (UnknownLink link) = record c { unknown_link = more c.unknown_link; unknown_type = option_or c.unknown_type (Some link) }
counted c CutShort = record c { cut_short = more c.cut_short }
counted c Vxlan = record c { vxlan = more c.vxlan }
counted c Gre = record c { gre = more c.gre }
counted c IpInIp = record c { ip_in_ip = more c.ip_in_ip }
counted c ManyHeaders = record c { many_headers = more c.many_headers }
counted c OtherProtocol = record c { other_protocol = more c.other_protocol }
counted c Fragment = record c { fragment = more c.fragment }
counted c Malformed = record c { malformed = more c.malformed }

-- how many packets were passed over for a cause
abbrev pub count_of : SkippedCounts → Skipped → ℕ
count_of c (UnknownLink link) = c.unknown_link
count_of c CutShort = c.cut_short
count_of c Vxlan = c.vxlan
count_of c Gre = c.gre
count_of c IpInIp = c.ip_in_ip
count_of c ManyHeaders = c.many_headers
count_of c OtherProtocol = c.other_protocol
count_of c Fragment = c.fragment
count_of c Malformed = c.malformed

-- how many packets were passed over
abbrev pub total : SkippedCounts → ℕ
total c = c.unknown_link + c.cut_short + c.vxlan + c.gre + c.ip_in_ip + c.many_headers + c.other_protocol + c.fragment + c.malformed
