-- The flags that nodes announce and require (ERTS User's Guide, Distribution Protocol, Distribution Flags).
use Rattle.std.specs.Prelude.{ℕ, ◌+◌, ◌*◌, ◌/◌, ◌%◌, ◌^◌, ◌-◌, Bool, ◌==◌, bit_and, bit_or}

-- ---- halves: an old name, an old challenge and a complement carry 32 bits each

-- the lower 32 bits of flags
abbrev pub low_half : ℕ → ℕ
low_half flags = flags % 2 ^ 32

-- the upper 32 bits
abbrev pub high_half : ℕ → ℕ
high_half flags = flags / 2 ^ 32

-- the flags of these two halves
abbrev pub of_halves : ℕ → ℕ → ℕ
of_halves high low = high * 2 ^ 32 + low

-- ---- what nodes ask of each other

-- DFLAG_HANDSHAKE_23: the handshake with 64 bits of flags and a creation
abbrev pub handshake_23 : ℕ
handshake_23 = 0x1000000

-- DFLAG_NAME_ME: the node asks the other one for a name
abbrev pub name_me : ℕ
name_me = 0x200000000

-- what a node with these flags announces: it speaks the handshake, and has a name
abbrev pub announced : ℕ → ℕ
announced flags = bit_and (bit_or flags handshake_23) (2 ^ 64 - 1 - name_me)

-- what a node that is set up to require these requires of a peer
abbrev pub required : ℕ → ℕ
required flags = bit_or flags handshake_23

-- the flags that both announced
abbrev pub common : ℕ → ℕ → ℕ
common ours theirs = bit_and ours theirs

-- each flag of the second is one of the first
abbrev pub has_all : ℕ → ℕ → Bool
has_all flags wanted = bit_and flags wanted == wanted
