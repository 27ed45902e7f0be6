-- Packets of a linked stream, each behind its length in 4 bytes (ERTS User's Guide, Protocol between Connected Nodes).
use Rattle.std.specs.Prelude.{ℕ, ◌+◌, ◌-◌, ◌*◌, ◌%◌, ◌^◌, Bool, true, false, not, ◌==◌, ◌&&◌, ◌||◌, nat_lt, if◌then◌else◌, List, [], ◌∷◌}
use Rattle.dist_conformance.specs.declared.packets.PacketState.{PacketState}

-- one byte more of a packet
abbrev pub in_packet : PacketState → ℕ → PacketState
in_packet s byte = record s {
  left = s.left - 1;
  is_new = false;
  is_bad = s.is_bad || (s.is_new && not (byte == 112) && not (byte == 131));
}

-- one byte more of a length, by the number that it makes behind a 1
abbrev pub in_length : PacketState → ℕ → PacketState
in_length s n =
    if nat_lt n (2 ^ 32) then record s { length = n }
    else record s { length = 1; left = n - 2 ^ 32; is_new = true; ticks = if n == 2 ^ 32 then s.ticks + 1 else s.ticks }

-- one byte more
abbrev pub packet_step : PacketState → ℕ → PacketState
packet_step s byte = if nat_lt 0 s.left then in_packet s byte else in_length s ((s.length % 2 ^ 32) * 256 + byte)

-- bytes behind this state
abbrev pub packets_behind : PacketState → List ℕ → PacketState
packets_behind s [] = s
packets_behind s (c ∷ cs) = packets_behind (packet_step s c) cs

-- HOW FAR PACKETS HAVE COME in these bytes
abbrev pub packets_of : List ℕ → PacketState
packets_of came = packets_behind (record { length = 1; left = 0; is_new = false; ticks = 0; is_bad = false }) came

-- a packet, or its length, has come in part
abbrev pub is_part : PacketState → Bool
is_part s = nat_lt 0 s.left || not (s.length == 1)
