-- The lower half of announced flags, and the versions of nodes.
use Rattle.std.proofs.Common.{◌≡◌, ℕ, ◌^◌, ◌<◌, false, ◌&&◌, eqb, sym, ap, ◌∙◌, arith, bit_and, bit_or, mod-eq_of_lt}
use Rattle.std.proofs.lemmas.Nat.{and_assoc, and_comm, and_le_l, and_le_r, and_mask, and_or_self}
use Rattle.dist_names.specs.Flags.{low_half, common, has_all, handshake_23, announced}
use Rattle.dist_core_setup.specs.Rules.{is_six, knows_six, announced_in, announced_by, announced_five}
use Rattle.dist_core_setup.specs.declared.{setup.Setup.Setup, version.Version.Version}
use Rattle.dist_core_setup.specs.declared.version.Version.TheVariants as version

-- the flag of the newer handshake stands in the lower half
in_low : (flags : ℕ) → bit_and (low_half flags) handshake_23 ≡ bit_and flags handshake_23
in_low flags = ap (λ n. bit_and n 16777216) (sym (and_mask flags 32)) ∙ and_assoc 16777216 flags 4294967295

in_six : (flags : ℕ) → bit_and (announced flags) handshake_23 ≡ handshake_23
in_six flags = and_assoc 16777216 (bit_or flags 16777216) 18446744065119617023 ∙ and_or_self 16777216 flags

in_five : (flags : ℕ) → bit_and (announced_five flags) handshake_23 ≡ 0
in_five flags = and_assoc 16777216 flags 4278190079 ∙ and_comm flags 0

reports : (v : Version) (flags : ℕ) → has_all (low_half (announced_in v flags)) handshake_23 ≡ is_six v
reports version.Six flags = ap (λ n. eqb n 16777216) (in_low (announced flags) ∙ in_six flags)
reports version.Five flags = ap (λ n. eqb n 16777216) (in_low (announced_five flags) ∙ in_five flags)

pub reported : (s : Setup) → has_all (low_half (announced_by s)) handshake_23 ≡ knows_six s
unfolding announced_by
reported s = reports s.version s.flags.0

few : (flags : ℕ) → announced_five flags < 2 ^ 32
few flags = omega (arith, and_le_r flags 4278190079)

own_few : (a b : ℕ) → a < 2 ^ 32 → common a (low_half b) ≡ common a b
own_few a b h =
    ap (bit_and a) (sym (and_mask b 32))
    ∙ sym (and_assoc 4294967295 a b)
    ∙ and_mask (bit_and a b) 32
    ∙ mod-eq_of_lt (let l = and_le_l a b in omega (arith, l, h))

other_few : (a b : ℕ) → b < 2 ^ 32 → common a (low_half b) ≡ common a b
other_few a b h = ap (bit_and a) (mod-eq_of_lt h)

halves : (v w : Version) (f g : ℕ) → (is_six v && is_six w) ≡ false → common (announced_in v f) (low_half (announced_in w g)) ≡ common (announced_in v f) (announced_in w g)
halves version.Six version.Six f g h = absurd cc
halves version.Six version.Five f g h = other_few (announced f) (announced_five g) (few g)
halves version.Five w f g h = own_few (announced_five f) (announced_in w g) (few f)

pub halves_suffice : (own other : Setup) → (knows_six own && knows_six other) ≡ false → common (announced_by own) (low_half (announced_by other)) ≡ common (announced_by own) (announced_by other)
unfolding announced_by
halves_suffice own other h = halves own.version other.version own.flags.0 other.flags.0 h
