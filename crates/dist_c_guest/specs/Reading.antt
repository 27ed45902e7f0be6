-- How a guest reads bodies: DFLAG_MANDATORY_25_DIGEST in a peer's flags stands for flags that the guest was given.
use Rattle.std.specs.Prelude.{ℕ, ◌==◌, bit_or, if◌then◌else◌, List, ◌++◌, take, drop, slice_index, [], Option, Some, None}
use Rattle.std.specs.Int.{Width, w32, w64, to_be_bytes}
use Rattle.dist_names.specs.{Flags.has_all, Flags.low_half, Fields.number_at}
use Rattle.dist_c_guest.specs.declared.reading.Reading.{Reading}

-- bodies are read as they came, and no forms are kept
abbrev pub plain : Reading
plain = record { mandatory = record { 0 = 0 }; forms = [] }

-- DFLAG_MANDATORY_25_DIGEST
abbrev pub digest_25 : ℕ
digest_25 = 0x4000000

-- a body with these bytes before its flags, and with the flags and the bytes behind them where it is long enough: where the
-- digest is one of them, those of the mask are too
abbrev pub with_field : Width → ℕ → List ℕ → List ℕ → Option (ℕ × List ℕ) → List ℕ
with_field w mask body front None = body
with_field w mask body front (Some x) = if has_all x.0 digest_25 then front ++ to_be_bytes w (bit_or x.0 mask) ++ x.1 else body

-- a body whose flags are a number of this width at this place
abbrev pub in_place : Width → ℕ → ℕ → List ℕ → List ℕ
in_place w place mask body = with_field w mask body (take place body) (number_at w (drop place body))

-- THE BODY AS IT IS READ, where the digest stands for these flags. Behind the tag of a newer name or challenge, `N`, stand 8
-- bytes of flags, and behind that of an older one, `n`, and two bytes of a version their lower 4. Any other body is as it came,
-- and so is each where the digest stands for none
abbrev pub expansion : ℕ → List ℕ → List ℕ
expansion mask body =
    if mask == 0 then body
    else if slice_index body 0 == 0x4e then in_place w64 1 mask body
    else if slice_index body 0 == 0x6e then in_place w32 3 (low_half mask) body
    else body
