-- Bodies with whole flags are read as they came.
use Rattle.dist_c_guest.proofs.Common.{◌≡◌, ℕ, ◌+◌, ◌^◌, ◌<◌, Bool, true, false, not, ◌||◌, eqb, List, [], ◌∷◌, ◌++◌, if◌then◌else◌, ◌==◌, bit_and, bit_or, sym}
use Rattle.dist_c_guest.proofs.Common.{refl, ap, ◌∙◌, subst, inl, inr, arith, w16, w32, w64, eqb-true, and_parts, or_cases, and_assoc, and_mask, and_mod, Width}
use Rattle.dist_c_guest.proofs.Common.{to_be_bytes, and_zero_r, or_add_and, number_at, has_all, low_half, IsWide, number_again, wide32, wide64, canonical}
use Rattle.dist_c_guest.proofs.Common.{written_version, Fits, Message, announced_by, Setup, Announces, IsCanonical, eqb-self, digest_25, expansion, with_field}
use Rattle.dist_c_guest.proofs.Common.{HasWhole, Hold, are_whole, is_whole, mandatory_25}
use Rattle.dist_messages.specs.declared.message.Message.TheVariants as message

-- flags that have all of a mask are the same with it
or-has : (flags mask : ℕ) → has_all flags mask ≡ true → bit_or flags mask ≡ flags
or-has flags mask h = let both = eqb-true (bit_and flags mask) mask h in omega (arith, or_add_and flags mask, both)

-- a field of flags with those bytes before and behind it
in-place : (w : Width) (big : ℕ) → IsWide w big → (front rest : List ℕ) (mask flags : ℕ) → flags < big → Hold mask flags
    → (let body = front ++ to_be_bytes w flags ++ rest in with_field w mask body front (number_at w (to_be_bytes w flags ++ rest)) ≡ body)
in-place w big wide front rest mask flags f h =
    ap (with_field w mask (front ++ to_be_bytes w flags ++ rest) front) (number_again w big wide flags rest f) ∙ by (has_all flags digest_25) refl
  where
    by : (b : Bool) → has_all flags digest_25 ≡ b → (if b then front ++ to_be_bytes w (bit_or flags mask) ++ rest else front ++ to_be_bytes w flags ++ rest) ≡ front ++ to_be_bytes w flags ++ rest
    by true is = ap (λ k. front ++ to_be_bytes w k ++ rest) (or-has flags mask (h is))
    by false is = refl

-- ---- messages

either-way : (b : Bool) (xs ys : List ℕ) → ys ≡ xs → (if b then xs else ys) ≡ xs
either-way true xs ys same = refl
either-way false xs ys same = same

pub whole-message : (mask : ℕ) (m : Message) → Fits m → HasWhole mask m → expansion mask (canonical m) ≡ canonical m
whole-message mask (message.NewName f c p) fits h = either-way (mask == 0) _ _ (in-place w64 (2 ^ 64) wide64 (0x4e ∷ []) _ mask f.0 fits.0 h)
whole-message mask (message.NewChallenge f n c p) fits h = either-way (mask == 0) _ _ (in-place w64 (2 ^ 64) wide64 (0x4e ∷ []) _ mask f.0 fits.0 h)
whole-message mask (message.OldName f p) fits h = either-way (mask == 0) _ _ (in-place w32 (2 ^ 32) wide32 (0x6e ∷ to_be_bytes w16 written_version) p (low_half mask) f fits h)
whole-message mask (message.OldChallenge f n p) fits h =
    either-way (mask == 0) _ _ (in-place w32 (2 ^ 32) wide32 (0x6e ∷ to_be_bytes w16 written_version) (to_be_bytes w32 n ++ p) (low_half mask) f fits.0 h)
whole-message mask m fits h = either-way (mask == 0) _ _ refl

-- ---- what a whole guest announces

-- the digest stands in the lower half
in-low : (flags : ℕ) → bit_and (low_half flags) digest_25 ≡ bit_and flags digest_25
in-low flags = ap (λ n. bit_and n 67108864) (sym (and_mask flags 32)) ∙ and_assoc 67108864 flags 4294967295

hold-low : (mask flags : ℕ) → Hold mask flags → Hold (low_half mask) (low_half flags)
hold-low mask flags h has =
    let full : has_all flags mask ≡ true = h (ap (λ n. eqb n digest_25) (sym (in-low flags)) ∙ has) in
    let low : bit_and (low_half flags) (low_half mask) ≡ low_half mask = sym (and_mod flags mask 32) ∙ ap low_half (eqb-true (bit_and flags mask) mask full) in
    ap (λ n. eqb n (low_half mask)) low ∙ eqb-self (low_half mask)

has-whole : (mask : ℕ) (s : Setup) (m : Message) → Hold mask (announced_by s) → Announces s m → HasWhole mask m
has-whole mask s (message.NewName f c p) h a = subst (Hold mask) (sym a) h
has-whole mask s (message.NewChallenge f n c p) h a = subst (Hold mask) (sym a) h
has-whole mask s (message.OldName f p) h a = subst (Hold (low_half mask)) (sym a) (hold-low mask (announced_by s) h)
has-whole mask s (message.OldChallenge f n p) h a = subst (Hold (low_half mask)) (sym a) (hold-low mask (announced_by s) h)
has-whole mask s m h a = tt

-- A BODY THAT A NODE SPELLS, whose announced flags hold those of a mask, is read as it came
pub read-as-it-came : (mask : ℕ) (s : Setup) (body : List ℕ) → Hold mask (announced_by s) → IsCanonical (Announces s) body → expansion mask body ≡ body
read-as-it-came mask s body h (inl e) = subst (λ b. expansion mask b ≡ b) (sym e) (either-way (mask == 0) [] _ refl)
read-as-it-came mask s body h (inr (m, is, fits, a)) = subst (λ b. expansion mask b ≡ b) (sym is) (whole-message mask m fits (has-whole mask s m h a))

-- ---- whole guests

holds-none : (flags : ℕ) → Hold 0 flags
holds-none flags h = ap (λ n. eqb n 0) (and_zero_r flags)

holds-mandatory : (flags : ℕ) → are_whole flags ≡ true → Hold mandatory_25 flags
holds-mandatory flags w h = sym (ap (λ b. not b || has_all flags mandatory_25) h) ∙ w

-- whoever reads, whoever sends: two whole guests
pub whole-pair : (reader sender : Setup) (mask own : ℕ) → is_whole reader mask ≡ true → is_whole sender own ≡ true → Hold mask (announced_by sender)
whole-pair reader sender mask own r s =
    let flags = announced_by sender in
    let whole = (and_parts ((own == 0) || (own == mandatory_25)) (are_whole flags) s).1 in
    elim (or_cases (mask == 0) (mask == mandatory_25) (and_parts _ (are_whole (announced_by reader)) r).0) [
      | inl none ↦ subst (λ n. Hold n flags) (sym (eqb-true mask 0 none)) (holds-none flags)
      | inr some ↦ subst (λ n. Hold n flags) (sym (eqb-true mask mandatory_25 some)) (holds-mandatory flags whole)
    ]

-- to nobody the digest stands for something
pub holds-nothing : (s : Setup) → Hold 0 (announced_by s)
holds-nothing s = holds-none (announced_by s)
