-- The part of an IP packet that is its TCP segment (RFC 791, 3.1; RFC 8200, 3 and 4).
use Rattle.std.specs.Prelude.{ℕ, zero, suc, ◌+◌, ◌-◌, ◌*◌, ◌/◌, ◌%◌, Bool, ◌&&◌, ◌||◌, not, List, length, take, drop, Result, Ok, Err, nat_le}
use Rattle.std.specs.Prelude.{nat_lt, slice_index, ◌==◌}
use Rattle.std.specs.Prelude.{if◌then◌else◌}
use Rattle.std.specs.{Net.Addr.ipv4_octets, Net.Addr.ipv6_segments, Net.Addr.segments_of, declared.net.ip_addr.IpAddr.IpAddr}
use Rattle.std.specs.declared.net.ip_addr.IpAddr.TheVariants as ip
use Rattle.dist_capture.specs.declared.skipped.Skipped.TheVariants.{CutShort, Vxlan, Gre, IpInIp, ManyHeaders, OtherProtocol, Fragment, Malformed}
use Rattle.dist_capture.specs.{declared.skipped.Skipped.Skipped, declared.network.Datagram.Datagram, Parts.part, Parts.two, Parts.◌>>=◌}

-- the numbers of an address: 4 of IPv4, 8 of IPv6
abbrev pub numbers_of : IpAddr → List ℕ
numbers_of (ip.V4 a) = ipv4_octets a
numbers_of (ip.V6 a) = ipv6_segments a

-- an IP packet that has a TCP segment
pub record Carried : Type 0 where
  pub source : List ℕ
  pub target : List ℕ
  -- how many bytes the segment has
  pub size : ℕ
  -- those that were captured
  pub segment : List ℕ

-- the part of a packet that is the segment, if it's the bytes from a place to an end, and only the first were captured
abbrev pub carried : List ℕ → List ℕ → ℕ → ℕ → List ℕ → Result Carried Skipped
carried source target at end bytes =
    if nat_lt end at then Err Malformed
    else if nat_lt (length bytes) at then Err CutShort
    else Ok (record { source = source; target = target; size = end - at; segment = take (end - at) (drop at bytes) })

-- a UDP datagram to the port of VXLAN (RFC 7348, 5), whose header begins at this place
abbrev pub is_vxlan : ℕ → ℕ → List ℕ → Bool
is_vxlan protocol at bytes = protocol == 17 && nat_le (at + 4) (length bytes) && two (at + 2) bytes == 4789

-- why what another protocol than TCP carries, from a place on, gives no segment: GRE (RFC 2784), IP in IP (RFC 2003, RFC 4213, RFC 2473)
abbrev pub unread : ℕ → ℕ → List ℕ → Skipped
unread protocol at bytes =
    if is_vxlan protocol at bytes then Vxlan
    else if protocol == 47 then Gre
    else if protocol == 4 || protocol == 41 then IpInIp
    else OtherProtocol

-- where the segment of an IPv4 packet begins
abbrev pub header_4 : List ℕ → ℕ
header_4 bytes = 4 * (slice_index bytes 0 % 16)

-- IPv4: a fragment has others behind it, or in front of it
abbrev pub in_ipv4 : List ℕ → Result Carried Skipped
in_ipv4 bytes =
    if nat_lt (length bytes) 20 then Err CutShort
    else if nat_lt (header_4 bytes) 20 then Err Malformed
    else if not (two 6 bytes % 0x4000 == 0) then Err Fragment
    else if not (slice_index bytes 9 == 6) then Err (unread (slice_index bytes 9) (header_4 bytes) bytes)
    else carried (part 12 4 bytes) (part 16 4 bytes) (header_4 bytes) (two 2 bytes) bytes

-- an extension header that is walked over: for each hop, of a route, of options for the destination
abbrev pub is_extension : ℕ → Bool
is_extension type = type == 0 || type == 43 || type == 60

-- The type of the header behind at most so many of these, and its place. Each begins with the type of the next one and with a byte that
-- says how often it has 8 bytes more than the first 8.
unfoldable pub upper : ℕ → List ℕ → ℕ → ℕ → Result (ℕ × ℕ) Skipped
upper zero bytes type at = Ok (type, at)
upper (suc most) bytes type at =
    if is_extension type
    then if nat_lt (length bytes) (at + 2) then Err CutShort else upper most bytes (slice_index bytes at) (at + 8 + 8 * slice_index bytes (at + 1))
    else Ok (type, at)

-- the segment behind the extension headers
abbrev pub behind_upper : List ℕ → ℕ × ℕ → Result Carried Skipped
behind_upper bytes found =
    if found.0 == 44 then Err Fragment
    else if is_extension found.0 then Err ManyHeaders
    else if not (found.0 == 6) then Err (unread found.0 found.1 bytes)
    else carried (segments_of (part 8 16 bytes)) (segments_of (part 24 16 bytes)) found.1 (40 + two 4 bytes) bytes

-- IPv6: at most four extension headers stand before a segment
abbrev pub in_ipv6 : List ℕ → Result Carried Skipped
in_ipv6 bytes = if nat_lt (length bytes) 40 then Err CutShort else upper 4 bytes (slice_index bytes 6) 40 >>= behind_upper bytes

-- THE SEGMENT OF AN IP PACKET, by the version in its first byte
abbrev pub segment_in : List ℕ → Result Carried Skipped
segment_in bytes =
    if length bytes == 0 then Err CutShort
    else if slice_index bytes 0 / 16 == 4 then in_ipv4 bytes
    else if slice_index bytes 0 / 16 == 6 then in_ipv6 bytes
    else Err OtherProtocol

-- a packet as the code has it
abbrev pub view_of : Datagram → Carried
view_of d = record { source = numbers_of d.source; target = numbers_of d.target; size = d.size; segment = d.segment.now }

abbrev pub shown : Result Datagram Skipped → Result Carried Skipped
shown (Ok d) = Ok (view_of d)
shown (Err e) = Err e
