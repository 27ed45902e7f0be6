-- Where the IP packet of a captured packet begins, by the type of its link (tcpdump.org, Link-layer header types).
use Rattle.std.specs.Prelude.{ℕ, Bool, ◌&&◌, ◌||◌, List, length, drop, Result, Ok, Err, nat_le, nat_lt, ◌==◌, if◌then◌else◌}
use Rattle.dist_capture.specs.Parts.{two, behind, ◌>>=◌}
use Rattle.dist_capture.specs.declared.skipped.Skipped.{Skipped, TheVariants.UnknownLink, TheVariants.CutShort, TheVariants.OtherProtocol}

-- the EtherType of IPv4 or IPv6
abbrev pub is_ip : ℕ → Bool
is_ip type = type == 0x0800 || type == 0x86dd

-- the EtherType of a tag of 802.1Q or 802.1ad
abbrev pub is_tag : ℕ → Bool
is_tag type = type == 0x8100 || type == 0x88a8

-- what begins with an EtherType, without the tag that stands there
abbrev pub without_tag : List ℕ → List ℕ
without_tag typed = if nat_le 4 (length typed) && is_tag (two 0 typed) then drop 4 typed else typed

-- the IP packet at a place behind its EtherType
abbrev pub typed_packet : ℕ → ℕ → List ℕ → Result (List ℕ) Skipped
typed_packet type at bytes = if nat_lt (length bytes) at then Err CutShort else if is_ip (two type bytes) then Ok (drop at bytes) else Err OtherProtocol

-- a link whose packets are IP packets: raw, of IPv4 or of IPv6
abbrev pub is_raw : ℕ → Bool
is_raw link = link == 12 || link == 101 || link == 228 || link == 229

-- THE IP PACKET: behind two addresses and at most two tags (Ethernet), behind a header of 16 or 20 bytes (Linux cooked), behind a family of
-- addresses (BSD loopback), or at once
abbrev pub datagram_of : ℕ → List ℕ → Result (List ℕ) Skipped
datagram_of link bytes =
    if link == 1 then behind 12 bytes >>= (λ typed. typed_packet 0 2 (without_tag (without_tag typed)))
    else if link == 113 then typed_packet 14 16 bytes
    else if link == 276 then typed_packet 0 20 bytes
    else if link == 0 || link == 108 then behind 4 bytes
    else if is_raw link then Ok bytes
    else Err (UnknownLink link)
