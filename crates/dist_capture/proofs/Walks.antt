-- The steps of a walk over headers, and over options.
use Rattle.std.proofs.Common.{◌≡◌, ℕ, zero, suc, ◌+◌, ◌*◌, ◌/◌, ◌<◌, ◌≤◌, true, false, List, length, drop, Ok, Err, refl, arith, slice_index, ◌==◌, lt-ltb}
use Rattle.std.proofs.Common.{le-ltb}
use Rattle.dist_capture.specs.{Formats.half, Formats.clock_of, Network.is_extension, Network.upper}
use Rattle.dist_capture.specs.declared.{fault.CaptureFault.TheVariants.Malformed, format.ByteOrder.ByteOrder, skipped.Skipped.TheVariants.CutShort}

pub upper_stays : (most : ℕ) (bytes : List ℕ) (type at : ℕ) → is_extension type ≡ false → upper most bytes type at ≡ Ok (type, at)
unfolding upper
upper_stays zero bytes type at h = refl
upper_stays (suc most) bytes type at h = rw h refl

pub upper_ends : (bytes : List ℕ) (type at : ℕ) → upper 0 bytes type at ≡ Ok (type, at)
unfolding upper
upper_ends bytes type at = refl

pub upper_short : (most : ℕ) (bytes : List ℕ) (type at : ℕ) → is_extension type ≡ true → length bytes < at + 2 → upper (suc most) bytes type at ≡ Err CutShort
unfolding upper
upper_short most bytes type at h lt = let e = lt-ltb (length bytes) (at + 2) lt in rw (h, e) refl

pub upper_steps : (most : ℕ) (bytes : List ℕ) (type at : ℕ) → is_extension type ≡ true → at + 2 ≤ length bytes
    → upper (suc most) bytes type at ≡ upper most bytes (slice_index bytes at) (at + 8 + 8 * slice_index bytes (at + 1))
unfolding upper
upper_steps most bytes type at h le = let e = le-ltb (length bytes) (at + 2) le in rw (h, e) refl

pub clock_ends : (most : ℕ) (order : ByteOrder) (bytes : List ℕ) → length bytes < 4 → clock_of most order bytes ≡ Ok 6
unfolding clock_of
clock_ends zero order bytes lt = refl
clock_ends (suc most) order bytes lt = let e = lt-ltb (length bytes) 4 lt in rw e refl

pub clock_none : (order : ByteOrder) (bytes : List ℕ) → clock_of 0 order bytes ≡ Ok 6
unfolding clock_of
clock_none order bytes = refl

pub clock_short : (most : ℕ) (order : ByteOrder) (bytes : List ℕ) → 4 ≤ length bytes → (half order 0 bytes == 9) ≡ true → length bytes < 5 → clock_of (suc most) order bytes ≡ Err Malformed
unfolding clock_of
clock_short most order bytes le h lt = let a = le-ltb (length bytes) 4 le in let b = lt-ltb (length bytes) 5 lt in rw (a, h, b) refl

pub clock_here : (most : ℕ) (order : ByteOrder) (bytes : List ℕ) → (half order 0 bytes == 9) ≡ true → 5 ≤ length bytes → clock_of (suc most) order bytes ≡ Ok (slice_index bytes 4)
unfolding clock_of
clock_here most order bytes h le = let a = le-ltb (length bytes) 4 (omega arith) in let b = le-ltb (length bytes) 5 le in rw (a, h, b) refl

pub clock_steps : (most : ℕ) (order : ByteOrder) (bytes : List ℕ) → 4 ≤ length bytes → (half order 0 bytes == 9) ≡ false
    → clock_of (suc most) order bytes ≡ clock_of most order (drop (4 + 4 * ((half order 2 bytes + 3) / 4)) bytes)
unfolding clock_of
clock_steps most order bytes le h = let a = le-ltb (length bytes) 4 le in rw (a, h) refl
