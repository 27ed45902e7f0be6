-- The bytes of a name are ASCII.
use Rattle.std.proofs.Common.{◌≡◌, ℕ, zero, suc, ◌≤◌, true, List, [], ◌∷◌, drop, refl, nat_le, leb-true}
use Rattle.std.proofs.lemmas.Bool.{and_parts}
use Rattle.std.specs.List.{list_all}
use Rattle.dist_names.specs.Bytes.{is_visible}

pub visible_range : (byte : ℕ) → is_visible byte ≡ true → (0x21 ≤ byte) × (byte ≤ 0x7E)
visible_range byte h =
    let p = and_parts (nat_le 0x21 byte) (nat_le byte 0x7E) h in
    (leb-true 0x21 byte p.0, leb-true byte 0x7E p.1)

pub visible_parts : (byte : ℕ) (bytes : List ℕ) → list_all is_visible (byte ∷ bytes) ≡ true → (is_visible byte ≡ true) × (list_all is_visible bytes ≡ true)
visible_parts byte bytes h = and_parts (is_visible byte) (list_all is_visible bytes) h

pub visible_drop : (n : ℕ) (bytes : List ℕ) → list_all is_visible bytes ≡ true → list_all is_visible (drop n bytes) ≡ true
visible_drop zero bytes h = h
visible_drop (suc n) [] h = refl
visible_drop (suc n) (byte ∷ bytes) h = visible_drop n bytes (visible_parts byte bytes h).1
