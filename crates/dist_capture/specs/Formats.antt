-- Files of pcap and pcapng: one unit after another (draft-ietf-opsawg-pcap, draft-ietf-opsawg-pcapng).
use Rattle.std.specs.Prelude.{⊤, ◌≤◌, ℕ, zero, suc, ◌+◌, ◌-◌, ◌*◌, ◌/◌, ◌%◌, ◌^◌, min, Bool, true, false, ◌||◌, not, List, [], length, take, drop}
use Rattle.std.specs.Prelude.{Option, Some, None, Result, Ok, Err, nat_le, nat_lt, slice_index, slice_get, ◌==◌, if◌then◌else◌}
use Rattle.std.specs.Int.{w16, w32, from_be_bytes, from_le_bytes}
use Rattle.dist_capture.specs.declared.fault.CaptureFault.TheVariants.{NotACapture, Malformed, TooLong, TooManyInterfaces, UnknownClock}
use Rattle.dist_capture.specs.declared.format.Format.TheVariants.{Unknown, Pcap, Pcapng}
use Rattle.dist_capture.specs.Parts.{part, four}
use Rattle.dist_capture.specs.declared.{fault.CaptureFault.CaptureFault, format.ByteOrder.ByteOrder, format.ByteOrder.TheVariants.Big}
use Rattle.dist_capture.specs.declared.{format.ByteOrder.TheVariants.Little, format.Format.Format, format.Interface.Interface, unit.Unit.Unit}
use Rattle.dist_capture.specs.declared.unit.Unit.TheVariants as unit

infixl 10 ◌>>=◌
abbrev pub ◌>>=◌ : {A B : Type 0} → Result A CaptureFault → (A → Result B CaptureFault) → Result B CaptureFault
(Ok x) >>= f = f x
(Err e) >>= f = Err e

-- the number in four bytes, and in two, in the order of the file
abbrev pub number : ByteOrder → ℕ → List ℕ → ℕ
number Big at bytes = from_be_bytes w32 (part at 4 bytes)
number Little at bytes = from_le_bytes w32 (part at 4 bytes)

abbrev pub half : ByteOrder → ℕ → List ℕ → ℕ
half Big at bytes = from_be_bytes w16 (part at 2 bytes)
half Little at bytes = from_le_bytes w16 (part at 2 bytes)

-- ---- how many bytes a unit has

-- the order of a file of pcap, and whether it counts nanoseconds
abbrev pub magic : ℕ → Option (ByteOrder × Bool)
magic n =
    if n == 0xa1b2c3d4 then Some (Big, false)
    else if n == 0xa1b23c4d then Some (Big, true)
    else if n == 0xd4c3b2a1 then Some (Little, false)
    else if n == 0x4d3cb2a1 then Some (Little, true)
    else None

-- the block with which a section begins, whose type reads the same in both orders, and the order of its section
abbrev pub is_section : List ℕ → Bool
is_section bytes = four 0 bytes == 0x0a0d0d0a

abbrev pub section_order : List ℕ → Result ByteOrder CaptureFault
section_order bytes = if four 8 bytes == 0x1a2b3c4d then Ok Big else if four 8 bytes == 0x4d3c2b1a then Ok Little else Err Malformed

-- the order of a block in a section of this order
abbrev pub block_order : ByteOrder → List ℕ → Result ByteOrder CaptureFault
block_order order bytes = if is_section bytes then section_order bytes else Ok order

-- a length that is taken, our own choice
abbrev pub within : ℕ → Result ℕ CaptureFault
within len = if nat_lt (2 ^ 24) len then Err TooLong else Ok len

abbrev pub whole_words : ℕ → Result ℕ CaptureFault
whole_words len = if nat_lt len 12 || not (len % 4 == 0) then Err Malformed else within len

-- HOW MANY BYTES THE NEXT UNIT HAS, or, until that is known, have to come before it is
abbrev pub awaited_block : ByteOrder → List ℕ → Result ℕ CaptureFault
awaited_block order bytes = if nat_lt (length bytes) 12 then Ok 12 else block_order order bytes >>= (λ own. whole_words (number own 4 bytes))

abbrev pub awaited_packet : ByteOrder → List ℕ → Result ℕ CaptureFault
awaited_packet order bytes = if nat_lt (length bytes) 16 then Ok 16 else within (number order 8 bytes) >>= (λ len. Ok (16 + len))

abbrev pub awaited_first : List ℕ → Result ℕ CaptureFault
awaited_first bytes =
    if nat_lt (length bytes) 4 then Ok 4
    else if is_section bytes then awaited_block Big bytes
    else elim (magic (four 0 bytes)) [ Some _ ↦ Ok 24 | None ↦ Err NotACapture ]

abbrev pub awaited_length : Format → List ℕ → Result ℕ CaptureFault
awaited_length Unknown bytes = awaited_first bytes
awaited_length (Pcap order nano link) bytes = awaited_packet order bytes
awaited_length (Pcapng order) bytes = awaited_block order bytes

-- ---- what a unit says

-- a packet, whose bytes have to be in the room that its unit has for them
abbrev pub packet : ℕ → ℕ → ℕ → ℕ → ℕ → Result Unit CaptureFault
packet time link at len room = if nat_lt room len then Err Malformed else Ok (unit.Packet time link at len)

-- the header of a file of pcap
abbrev pub file_header : List ℕ → Result Unit CaptureFault
file_header bytes =
    if nat_lt (length bytes) 24 then Err NotACapture
    else elim (magic (four 0 bytes)) [ Some found ↦ Ok (unit.File found.0 found.1 (number found.0 20 bytes % 2 ^ 16)) | None ↦ Err NotACapture ]

-- a packet of pcap: seconds and their fraction, how many bytes were captured
abbrev pub pcap_packet : ByteOrder → Bool → ℕ → List ℕ → Result Unit CaptureFault
pcap_packet order nano link bytes =
    if nat_lt (length bytes) 16 then Err Malformed
    else packet (10 ^ 9 * number order 0 bytes + (if nano then 1 else 1000) * number order 4 bytes) link 16 (number order 8 bytes) (length bytes - 16)

-- the option of an interface that says how its clock counts (9), among the first so many; without it 6, a millionth
unfoldable pub clock_of : ℕ → ByteOrder → List ℕ → Result ℕ CaptureFault
clock_of zero order bytes = Ok 6
clock_of (suc most) order bytes =
    if nat_lt (length bytes) 4 then Ok 6
    else if half order 0 bytes == 9 then if nat_lt (length bytes) 5 then Err Malformed else Ok (slice_index bytes 4)
    else clock_of most order (drop (4 + 4 * ((half order 2 bytes + 3) / 4)) bytes)

-- how many nanoseconds a clock counts at once that counts decimal fractions of a second
abbrev pub tick_of : ℕ → Result ℕ CaptureFault
tick_of digits = if nat_lt 9 digits then Err UnknownClock else Ok (10 ^ (9 - digits))

abbrev pub interface_unit : ByteOrder → List ℕ → Result Unit CaptureFault
interface_unit order bytes =
    if nat_lt (length bytes) 20 then Err Malformed
    else clock_of 64 order (take (length bytes - 20) (drop 16 bytes)) >>= (λ digits. tick_of digits >>= (λ tick.
    Ok (unit.Described (record { link = half order 8 bytes; tick = tick; most = number order 12 bytes }))))

-- one more interface of a section, which has at most 2^16, our own choice
abbrev pub described : ByteOrder → List Interface → List ℕ → Result Unit CaptureFault
described order interfaces bytes = if nat_le (2 ^ 16) (length interfaces) then Err TooManyInterfaces else interface_unit order bytes

-- the time of a packet, in units of its interface
abbrev pub stamp : ByteOrder → List ℕ → ℕ
stamp order bytes = 2 ^ 32 * number order 12 bytes + number order 16 bytes

-- a packet with its interface and its time
abbrev pub enhanced_by : ByteOrder → List ℕ → Option Interface → Result Unit CaptureFault
enhanced_by order bytes None = Err Malformed
enhanced_by order bytes (Some interface) =
    packet (min (stamp order bytes * interface.tick) (2 ^ 64 - 1)) interface.link 28 (number order 20 bytes) (length bytes - 32)

-- which interface it names: by four bytes, in the Packet Block, which is obsolete, by two
abbrev pub named_interface : ByteOrder → Bool → List ℕ → ℕ
named_interface order is_obsolete bytes = if is_obsolete then half order 8 bytes else number order 8 bytes

abbrev pub enhanced_unit : ByteOrder → Bool → List Interface → List ℕ → Result Unit CaptureFault
enhanced_unit order is_obsolete interfaces bytes =
    if nat_lt (length bytes) 32 then Err Malformed else enhanced_by order bytes (slice_get interfaces (named_interface order is_obsolete bytes))

-- a packet of the first interface, without a time: all of it, or as much as its interface captures
abbrev pub captured_length : ℕ → ℕ → ℕ
captured_length most len = if most == 0 then len else min most len

abbrev pub simple_by : ByteOrder → List ℕ → Option Interface → Result Unit CaptureFault
simple_by order bytes None = Err Malformed
simple_by order bytes (Some interface) = packet 0 interface.link 12 (captured_length interface.most (number order 8 bytes)) (length bytes - 16)

abbrev pub simple : ByteOrder → List Interface → List ℕ → Result Unit CaptureFault
simple order interfaces bytes = if nat_lt (length bytes) 16 then Err Malformed else simple_by order bytes (slice_get interfaces 0)

abbrev pub block : ByteOrder → List Interface → List ℕ → Result Unit CaptureFault
block order interfaces bytes =
    if nat_lt (length bytes) 12 then Err Malformed
    else if is_section bytes then section_order bytes >>= (λ own. Ok (unit.Section own))
    else if number order 0 bytes == 1 then described order interfaces bytes
    else if number order 0 bytes == 3 then simple order interfaces bytes
    else if number order 0 bytes == 2 then enhanced_unit order true interfaces bytes
    else if number order 0 bytes == 6 then enhanced_unit order false interfaces bytes
    else Ok unit.Other

-- the first unit of a file
abbrev pub first_unit : List ℕ → Result Unit CaptureFault
first_unit bytes = if nat_lt (length bytes) 4 then Err NotACapture else if is_section bytes then block Big [] bytes else file_header bytes

-- WHAT A UNIT SAYS
abbrev pub unit_of : Format → List Interface → List ℕ → Result Unit CaptureFault
unit_of Unknown interfaces bytes = first_unit bytes
unit_of (Pcap order nano link) interfaces bytes = pcap_packet order nano link bytes
unit_of (Pcapng order) interfaces bytes = block order interfaces bytes

-- the bytes of a packet are in its unit
abbrev pub IsWithin : Unit → ℕ → Type 0
IsWithin (unit.Packet time link at len) room = at + len ≤ room
IsWithin _ room = ⊤
