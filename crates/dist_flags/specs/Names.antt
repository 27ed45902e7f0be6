-- The flags by name, and the bit of each (dist.hrl of the application kernel).
use Rattle.std.specs.Prelude.{ℕ, ◌==◌, ◌^◌, Bool, List, [], ◌∷◌, Option, codes}
use Rattle.std.specs.{List.find, Cmp.Lexicographic.pointwise}
use Rattle.dist_flags.specs.declared.dflag.Dflag.{Dflag}
use Rattle.dist_flags.specs.declared.dflag.Dflag.TheVariants as flag

-- the number of a flag's bit
abbrev pub bit_of : Dflag → ℕ
bit_of flag.Published = 0
bit_of flag.AtomCache = 1
bit_of flag.ExtendedReferences = 2
bit_of flag.DistMonitor = 3
bit_of flag.FunTags = 4
bit_of flag.DistMonitorName = 5
bit_of flag.HiddenAtomCache = 6
bit_of flag.NewFunTags = 7
bit_of flag.ExtendedPidsPorts = 8
bit_of flag.ExportPtrTag = 9
bit_of flag.BitBinaries = 10
bit_of flag.NewFloats = 11
bit_of flag.UnicodeIo = 12
bit_of flag.DistHdrAtomCache = 13
bit_of flag.SmallAtomTags = 14
bit_of flag.Utf8Atoms = 16
bit_of flag.MapTag = 17
bit_of flag.BigCreation = 18
bit_of flag.SendSender = 19
bit_of flag.BigSeqtraceLabels = 20
bit_of flag.ExitPayload = 22
bit_of flag.Fragments = 23
bit_of flag.Handshake23 = 24
bit_of flag.UnlinkId = 25
bit_of flag.Mandatory25Digest = 26
bit_of flag.Spawn = 32
bit_of flag.NameMe = 33
bit_of flag.V4Nc = 34
bit_of flag.Alias = 35
bit_of flag.LocalExt = 36
bit_of flag.AltactSig = 37
bit_of flag.NativeRecords = 38

-- the flags in which only this one is set
abbrev pub flag_of : Dflag → ℕ
flag_of f = 2 ^ bit_of f

-- its name, without DFLAG_
abbrev pub name_of : Dflag → List ℕ
name_of flag.Published = codes "PUBLISHED"
name_of flag.AtomCache = codes "ATOM_CACHE"
name_of flag.ExtendedReferences = codes "EXTENDED_REFERENCES"
name_of flag.DistMonitor = codes "DIST_MONITOR"
name_of flag.FunTags = codes "FUN_TAGS"
name_of flag.DistMonitorName = codes "DIST_MONITOR_NAME"
name_of flag.HiddenAtomCache = codes "HIDDEN_ATOM_CACHE"
name_of flag.NewFunTags = codes "NEW_FUN_TAGS"
name_of flag.ExtendedPidsPorts = codes "EXTENDED_PIDS_PORTS"
name_of flag.ExportPtrTag = codes "EXPORT_PTR_TAG"
name_of flag.BitBinaries = codes "BIT_BINARIES"
name_of flag.NewFloats = codes "NEW_FLOATS"
name_of flag.UnicodeIo = codes "UNICODE_IO"
name_of flag.DistHdrAtomCache = codes "DIST_HDR_ATOM_CACHE"
name_of flag.SmallAtomTags = codes "SMALL_ATOM_TAGS"
name_of flag.Utf8Atoms = codes "UTF8_ATOMS"
name_of flag.MapTag = codes "MAP_TAG"
name_of flag.BigCreation = codes "BIG_CREATION"
name_of flag.SendSender = codes "SEND_SENDER"
name_of flag.BigSeqtraceLabels = codes "BIG_SEQTRACE_LABELS"
name_of flag.ExitPayload = codes "EXIT_PAYLOAD"
name_of flag.Fragments = codes "FRAGMENTS"
name_of flag.Handshake23 = codes "HANDSHAKE_23"
name_of flag.UnlinkId = codes "UNLINK_ID"
name_of flag.Mandatory25Digest = codes "MANDATORY_25_DIGEST"
name_of flag.Spawn = codes "SPAWN"
name_of flag.NameMe = codes "NAME_ME"
name_of flag.V4Nc = codes "V4_NC"
name_of flag.Alias = codes "ALIAS"
name_of flag.LocalExt = codes "LOCAL_EXT"
name_of flag.AltactSig = codes "ALTACT_SIG"
name_of flag.NativeRecords = codes "NATIVE_RECORDS"

-- this flag has the word as its name
abbrev pub has_name : List ℕ → Dflag → Bool
has_name word f = pointwise ◌==◌ (name_of f) word

-- all flags with a name, from the lowest bit up
abbrev pub all_flags : List Dflag
all_flags =
    flag.Published ∷ flag.AtomCache ∷ flag.ExtendedReferences ∷ flag.DistMonitor ∷ flag.FunTags ∷ flag.DistMonitorName
    ∷ flag.HiddenAtomCache ∷ flag.NewFunTags ∷ flag.ExtendedPidsPorts ∷ flag.ExportPtrTag ∷ flag.BitBinaries ∷ flag.NewFloats
    ∷ flag.UnicodeIo ∷ flag.DistHdrAtomCache ∷ flag.SmallAtomTags ∷ flag.Utf8Atoms ∷ flag.MapTag ∷ flag.BigCreation
    ∷ flag.SendSender ∷ flag.BigSeqtraceLabels ∷ flag.ExitPayload ∷ flag.Fragments ∷ flag.Handshake23 ∷ flag.UnlinkId
    ∷ flag.Mandatory25Digest ∷ flag.Spawn ∷ flag.NameMe ∷ flag.V4Nc ∷ flag.Alias ∷ flag.LocalExt ∷ flag.AltactSig
    ∷ flag.NativeRecords ∷ []

-- the flag that has this name
unfoldable pub flag_named : List ℕ → Option Dflag
flag_named word = find (has_name word) all_flags
