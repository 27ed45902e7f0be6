-- What releases of Erlang/OTP announce and require of a peer, and to which release a node's flags belong (dist.hrl of the
-- application kernel, and erts_internal:get_dflags/0, in OTP 23, 25, 27 and 29).
use Rattle.std.specs.Prelude.{ℕ, ◌-◌, ◌^◌, ◌==◌, Bool, false, not, bit_and, bit_or, List, [], ◌∷◌, Option, Some, None, if◌then◌else◌}
use Rattle.std.specs.List.{find, list_all}
use Rattle.dist_names.specs.{Flags.has_all, declared.flags.Flags.Flags}
use Rattle.dist_flags.specs.declared.release.{Release.Release, ReleaseShown.ReleaseShown}
use Rattle.dist_flags.specs.declared.release.Release.TheVariants as release
use Rattle.dist_flags.specs.declared.release.ReleaseShown.TheVariants as shown

-- what OTP 25 requires: EXTENDED_REFERENCES, FUN_TAGS, NEW_FUN_TAGS, EXTENDED_PIDS_PORTS, EXPORT_PTR_TAG, BIT_BINARIES,
-- NEW_FLOATS, UTF8_ATOMS, MAP_TAG, BIG_CREATION, HANDSHAKE_23
abbrev pub mandatory_25 : ℕ
mandatory_25 = 0x1070f94

-- what a node of a release requires of each peer
abbrev pub required_by : Release → ℕ
required_by release.Before23 = 0x50184
required_by release.Otp23 = 0x50184
required_by release.Otp24 = 0x1070f94
required_by release.Otp25 = 0x1070f94
required_by release.Otp28 = 0x403070f94
required_by release.Otp29 = 0x403070f94

-- the flags, and those for which MANDATORY_25_DIGEST stands where it is one of them
abbrev pub with_mandatory : ℕ → ℕ
with_mandatory flags = if has_all flags 0x4000000 then bit_or flags mandatory_25 else flags

-- which of the wanted flags are absent, MANDATORY_25_DIGEST read as the flags for which it stands
abbrev pub missing : ℕ → ℕ → ℕ
missing flags wanted = bit_and wanted (2 ^ 64 - 1 - with_mandatory flags)

-- WHAT A NODE OF A RELEASE OBJECTS TO: the required flags that are absent, by that release's reading of the others. It reads
-- MANDATORY_25_DIGEST from OTP 25 on.
abbrev pub objection : Release → ℕ → ℕ
objection release.Before23 flags = bit_and (required_by release.Before23) (2 ^ 64 - 1 - flags)
objection release.Otp23 flags = bit_and (required_by release.Otp23) (2 ^ 64 - 1 - flags)
objection release.Otp24 flags = bit_and (required_by release.Otp24) (2 ^ 64 - 1 - flags)
objection r flags = missing flags (required_by r)

-- a node of a release refuses a peer that announces these flags
abbrev pub refuses : ℕ → Release → Bool
refuses flags r = not (objection r flags == 0)

-- the releases that required more than those before, the oldest first: 23, 25, and 26, which requires what 28 does
abbrev pub askers : List Release
askers = release.Otp23 ∷ release.Otp25 ∷ release.Otp28 ∷ []

-- THE OLDEST RELEASE THAT REFUSES a peer that announces these flags, where one does
abbrev pub oldest_refusal : ℕ → Option Release
oldest_refusal flags = find (refuses flags) askers

-- each release refuses it
abbrev pub is_refused_by_all : ℕ → Bool
is_refused_by_all flags = list_all (refuses flags) askers

-- the newest release that added one of these flags
abbrev pub release_of : ℕ → Release
release_of flags =
    if has_all flags 0x4000000000 then release.Otp29 else
    if has_all flags 0x2000000000 then release.Otp28 else
    if has_all flags 0x4000000 then release.Otp25 else
    if has_all flags 0x400000000 then release.Otp24 else
    if has_all flags 0x1000000 then release.Otp23 else release.Before23

-- what a node of a release announces if it is not hidden, where that is known
abbrev pub announced_by : Release → Option Flags
announced_by release.Otp23 = Some (record { 0 = 0x101df7fbd })
announced_by release.Otp25 = Some (record { 0 = 0xd07df7fbd })
announced_by release.Otp29 = Some (record { 0 = 0x6d07df7fbd })
announced_by _ = None

-- the flags, with PUBLISHED, are exactly what is announced
abbrev pub is_just : Option Flags → ℕ → Bool
is_just None flags = false
is_just (Some all) flags = bit_or flags 1 == all.0

-- the release, and whether the flags are exactly its own
abbrev pub release_shown : ℕ → ReleaseShown
release_shown flags = if is_just (announced_by (release_of flags)) flags then shown.Just (release_of flags) else shown.UpTo (release_of flags)
