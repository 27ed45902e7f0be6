-- The bytes of a packet are in its unit.
use Rattle.std.proofs.Common.{◌≡◌, ℕ, ◌+◌, ◌-◌, ◌≤◌, Bool, true, false, cond, List, length, take, drop, Option, Some, None, Result, Ok, Err, refl, arith, IfOk}
use Rattle.std.proofs.Common.{slice_get, nat_le, nat_lt, ◌^◌, ◌==◌, ltb-false}
use Rattle.dist_capture.specs.Formats.{◌>>=◌, number, is_section, section_order, packet, tick_of, clock_of, interface_unit, described, captured_length, enhanced_by}
use Rattle.dist_capture.specs.Formats.{named_interface, enhanced_unit, simple_by, simple, block, IsWithin}
use Rattle.dist_capture.specs.declared.{fault.CaptureFault.CaptureFault, fault.CaptureFault.TheVariants.Malformed, fault.CaptureFault.TheVariants.TooManyInterfaces, format.ByteOrder.ByteOrder, unit.Unit.Unit}
use Rattle.dist_capture.specs.declared.format.Interface.{Interface}
use Rattle.dist_capture.specs.declared.unit.Unit.TheVariants as unit

-- a packet that is within so many bytes
abbrev pub Within : ℕ → Result Unit CaptureFault → Type 0
Within n r = IfOk r (λ u. IsWithin u n)

then_within : {A : Type 0} (n : ℕ) (r : Result A CaptureFault) (f : A → Result Unit CaptureFault) → ((x : A) → Within n (f x)) → Within n (r >>= f)
then_within n (Ok x) f h = h x
then_within n (Err e) f h = tt

pub either_within : (n : ℕ) (b : Bool) (x y : Result Unit CaptureFault) → Within n x → Within n y → Within n (cond b x y)
either_within n true x y h k = h
either_within n false x y h k = k

unless_short : (n room len : ℕ) (u : Unit) (b : Bool) (e : CaptureFault) → nat_lt room len ≡ b → (len ≤ room → IsWithin u n) → Within n (cond b (Err e) (Ok u))
unless_short n room len u true e h k = tt
unless_short n room len u false e h k = k (ltb-false room len h)

packet_within : (time link at len room n : ℕ) → at + room ≤ n → Within n (packet time link at len room)
packet_within time link at len room n le = unless_short n room len (unit.Packet time link at len) (nat_lt room len) Malformed refl (λ fits. omega arith)

-- a test that a unit is long enough
long_within : (n least : ℕ) (bytes : List ℕ) (b : Bool) (e : CaptureFault) (r : Result Unit CaptureFault) → nat_lt (length bytes) least ≡ b → (least ≤ length bytes → Within n r) → Within n (cond b (Err e) r)
long_within n least bytes true e r h k = tt
long_within n least bytes false e r h k = k (ltb-false (length bytes) least h)

enhanced_within : (order : ByteOrder) (bytes : List ℕ) (interface : Option Interface) → 32 ≤ length bytes → Within (length bytes) (enhanced_by order bytes interface)
enhanced_within order bytes None le = tt
enhanced_within order bytes (Some interface) le = packet_within _ interface.link 28 (number order 20 bytes) (length bytes - 32) (length bytes) (omega arith)

named_within : (order : ByteOrder) (is_obsolete : Bool) (interfaces : List Interface) (bytes : List ℕ) → Within (length bytes) (enhanced_unit order is_obsolete interfaces bytes)
named_within order is_obsolete interfaces bytes =
    let which = named_interface order is_obsolete bytes in
    long_within (length bytes) 32 bytes (nat_lt (length bytes) 32) Malformed (enhanced_by order bytes (slice_get interfaces which)) refl (enhanced_within order bytes (slice_get interfaces which))

simple_within : (order : ByteOrder) (bytes : List ℕ) (interface : Option Interface) → 16 ≤ length bytes → Within (length bytes) (simple_by order bytes interface)
simple_within order bytes None le = tt
simple_within order bytes (Some interface) le = packet_within 0 interface.link 12 (captured_length interface.most (number order 8 bytes)) (length bytes - 16) (length bytes) (omega arith)

described_within : (n : ℕ) (order : ByteOrder) (bytes : List ℕ) → Within n (interface_unit order bytes)
described_within n order bytes = either_within n (nat_lt (length bytes) 20) (Err Malformed) _ tt
    (then_within n (clock_of 64 order (take (length bytes - 20) (drop 16 bytes))) _ (λ digits. then_within n (tick_of digits) _ (λ tick. tt)))

pub block_within : (order : ByteOrder) (interfaces : List Interface) (bytes : List ℕ) → Within (length bytes) (block order interfaces bytes)
block_within order interfaces bytes =
    let n = length bytes in
    either_within n (nat_lt n 12) (Err Malformed) _ tt
    (either_within n (is_section bytes) _ _ (then_within n (section_order bytes) _ (λ own. tt))
    (either_within n (number order 0 bytes == 1) (described order interfaces bytes) _ (either_within n (nat_le (2 ^ 16) (length interfaces)) (Err TooManyInterfaces) _ tt (described_within n order bytes))
    (either_within n (number order 0 bytes == 3) (simple order interfaces bytes) _
    (long_within n 16 bytes (nat_lt n 16) Malformed (simple_by order bytes (slice_get interfaces 0)) refl (simple_within order bytes (slice_get interfaces 0)))
    (either_within n (number order 0 bytes == 2) (enhanced_unit order true interfaces bytes) _ (named_within order true interfaces bytes)
    (either_within n (number order 0 bytes == 6) (enhanced_unit order false interfaces bytes) (Ok unit.Other) (named_within order false interfaces bytes)
    tt)))))
