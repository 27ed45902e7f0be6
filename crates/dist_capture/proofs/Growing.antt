-- A unit that is whole stays what it is when more bytes come.
use Rattle.std.proofs.Common.{◌≡◌, ◌==◌, ℕ, ◌+◌, ◌≤◌, Bool, true, false, cond, ltb, List, ◌++◌, length, take, drop, Option, Some, None, Result, Ok, Err, refl}
use Rattle.std.proofs.Common.{sym, ap, subst, ◌∙◌, arith, inl, inr, length-append, length-drop, lt-ltb, le-ltb, ltb-false, w32}
use Rattle.std.proofs.lemmas.{Bool.cases_lt, List.take-append-le, List.drop-append-le}
use Rattle.std.specs.Int.{from_be_bytes, from_le_bytes}
use Rattle.dist_capture.specs.Formats.{◌>>=◌, number, is_section, section_order, block_order, within, whole_words, awaited_block, awaited_packet, awaited_first}
use Rattle.dist_capture.specs.Formats.{awaited_length, magic}
use Rattle.dist_capture.specs.{Parts.part, Parts.four, Reading.Reading, Reading.whole, Reading.with_bytes, Reading.Gives, Tcp.Said}
use Rattle.dist_capture.specs.declared.fault.{CaptureFault.CaptureFault, CaptureFault.TheVariants.NotACapture, CaptureFault.TheVariants.Malformed}
use Rattle.dist_capture.specs.declared.format.{ByteOrder.ByteOrder, ByteOrder.TheVariants.Big, ByteOrder.TheVariants.Little, Format.Format}
use Rattle.dist_capture.specs.declared.format.Format.TheVariants.{Unknown, Pcap, Pcapng}

part_more : (at count : ℕ) (bytes more : List ℕ) → at + count ≤ length bytes → part at count (bytes ++ more) ≡ part at count bytes
part_more at count bytes more le =
    ap (take count) (drop-append-le at bytes more (omega arith)) ∙ take-append-le count (drop at bytes) more (omega (arith, length-drop at bytes))

number_more : (order : ByteOrder) (at : ℕ) (bytes more : List ℕ) → at + 4 ≤ length bytes → number order at (bytes ++ more) ≡ number order at bytes
number_more Big at bytes more le = ap (from_be_bytes w32) (part_more at 4 bytes more le)
number_more Little at bytes more le = ap (from_le_bytes w32) (part_more at 4 bytes more le)

then_same : {A B : Type 0} (r : Result A CaptureFault) (f g : A → Result B CaptureFault) → ((x : A) → f x ≡ g x) → (r >>= f) ≡ (r >>= g)
then_same (Ok x) f g h = h x
then_same (Err e) f g h = refl

-- where bytes are long enough, a test of their length goes as that of more bytes
long : (least : ℕ) (bytes more : List ℕ) → least ≤ length bytes → ltb (length (bytes ++ more)) least ≡ false
long least bytes more le = le-ltb (length (bytes ++ more)) least (omega (arith, length-append bytes more))

section_more : (bytes more : List ℕ) → 4 ≤ length bytes → is_section (bytes ++ more) ≡ is_section bytes
section_more bytes more le = ap (λ (n : ℕ). n == 0x0a0d0d0a) (number_more Big 0 bytes more le)

order_more : (bytes more : List ℕ) → 12 ≤ length bytes → section_order (bytes ++ more) ≡ section_order bytes
order_more bytes more le = ap (λ (n : ℕ). cond (n == 0x1a2b3c4d) (Ok Big) (cond (n == 0x4d3c2b1a) (Ok Little) (Err Malformed))) (number_more Big 8 bytes more le)

block_more : (order : ByteOrder) (bytes more : List ℕ) → 12 ≤ length bytes → awaited_block order (bytes ++ more) ≡ awaited_block order bytes
block_more order bytes more le =
    let a = long 12 bytes more le in
    let b = le-ltb (length bytes) 12 le in
    let own : block_order order (bytes ++ more) ≡ block_order order bytes = ap (λ (t : Bool). cond t (section_order (bytes ++ more)) (Ok order)) (section_more bytes more (omega arith)) ∙ ap (λ (r : Result ByteOrder CaptureFault). cond (is_section bytes) r (Ok order)) (order_more bytes more le) in
    ap (λ (t : Bool). cond t (Ok 12) (block_order order (bytes ++ more) >>= (λ o. whole_words (number o 4 (bytes ++ more))))) a
    ∙ ap (λ (r : Result ByteOrder CaptureFault). r >>= (λ o. whole_words (number o 4 (bytes ++ more)))) own
    ∙ then_same (block_order order bytes) (λ o. whole_words (number o 4 (bytes ++ more))) (λ o. whole_words (number o 4 bytes)) (λ o. ap whole_words (number_more o 4 bytes more (omega arith)))
    ∙ sym (ap (λ (t : Bool). cond t (Ok 12) (block_order order bytes >>= (λ o. whole_words (number o 4 bytes)))) b)

packet_more : (order : ByteOrder) (bytes more : List ℕ) → 16 ≤ length bytes → awaited_packet order (bytes ++ more) ≡ awaited_packet order bytes
packet_more order bytes more le =
    let a = long 16 bytes more le in
    let b = le-ltb (length bytes) 16 le in
    ap (λ (t : Bool). cond t (Ok 16) (within (number order 8 (bytes ++ more)) >>= (λ len. Ok (16 + len)))) a
    ∙ ap (λ (n : ℕ). within n >>= (λ len. Ok (16 + len))) (number_more order 8 bytes more (omega arith))
    ∙ sym (ap (λ (t : Bool). cond t (Ok 16) (within (number order 8 bytes) >>= (λ len. Ok (16 + len)))) b)

abbrev pub good : {A : Type 0} → A → Result A CaptureFault
good x = Ok x

-- what is awaited is more than came, or came
awaits : (least len : ℕ) (bytes : List ℕ) (rest : Result ℕ CaptureFault) → cond (ltb (length bytes) least) (Ok least) rest ≡ Ok len → len ≤ length bytes → least ≤ length bytes
awaits least len bytes rest e le = elim (cases_lt (length bytes) least) [
  | inl lt ↦
      let t = lt-ltb (length bytes) least lt in
      let same : good least ≡ Ok len = sym (ap (λ (b : Bool). cond b (Ok least) rest) t) ∙ e in
      let n : least ≡ len = cc in
      omega arith
  | inr h ↦ h
]

by_section : (bytes more : List ℕ) (len : ℕ) (b : Bool) (x y : Result ℕ CaptureFault) → x ≡ y → cond b (awaited_block Big bytes) y ≡ Ok len → len ≤ length bytes → cond b (awaited_block Big (bytes ++ more)) x ≡ Ok len
by_section bytes more len true x y same e le = block_more Big bytes more (awaits 12 len bytes _ e le) ∙ e
by_section bytes more len false x y same e le = same ∙ e

first_more : (bytes more : List ℕ) (len : ℕ) → awaited_first bytes ≡ Ok len → len ≤ length bytes → awaited_first (bytes ++ more) ≡ Ok len
first_more bytes more len e le =
    let four_came : 4 ≤ length bytes = awaits 4 len bytes _ e le in
    let a = long 4 bytes more four_came in
    let b = le-ltb (length bytes) 4 four_came in
    let rest = λ (bs : List ℕ). elim (magic (four 0 bs)) as (λ _. Result ℕ CaptureFault) [ Some _ ↦ Ok 24 | None ↦ Err NotACapture ] in
    let same : rest (bytes ++ more) ≡ rest bytes = ap (λ (n : ℕ). elim (magic n) as (λ _. Result ℕ CaptureFault) [ Some _ ↦ Ok 24 | None ↦ Err NotACapture ]) (number_more Big 0 bytes more four_came) in
    let e' : cond (is_section bytes) (awaited_block Big bytes) (rest bytes) ≡ Ok len = sym (ap (λ (t : Bool). cond t (Ok 4) (cond (is_section bytes) (awaited_block Big bytes) (rest bytes))) b) ∙ e in
    ap (λ (t : Bool). cond t (Ok 4) (cond (is_section (bytes ++ more)) (awaited_block Big (bytes ++ more)) (rest (bytes ++ more)))) a
    ∙ ap (λ (t : Bool). cond t (awaited_block Big (bytes ++ more)) (rest (bytes ++ more))) (section_more bytes more four_came)
    ∙ by_section bytes more len (is_section bytes) (rest (bytes ++ more)) (rest bytes) same e' le

awaited_more : (format : Format) (bytes more : List ℕ) (len : ℕ) → awaited_length format bytes ≡ Ok len → len ≤ length bytes → awaited_length format (bytes ++ more) ≡ Ok len
awaited_more Unknown bytes more len e le = first_more bytes more len e le
awaited_more (Pcap order nano link) bytes more len e le = packet_more order bytes more (awaits 16 len bytes _ e le) ∙ e
awaited_more (Pcapng order) bytes more len e le = block_more order bytes more (awaits 12 len bytes _ e le) ∙ e

at_test : (length_of n len : ℕ) (b : Bool) → ltb length_of n ≡ b → good (cond b None (Some n)) ≡ Ok (Some len) → (good n ≡ Ok len) × (len ≤ length_of)
at_test length_of n len true t e = absurd cc
at_test length_of n len false t e = let same : n ≡ len = cc in (ap (λ (k : ℕ). Ok k) same, subst (λ (k : ℕ). k ≤ length_of) same (ltb-false length_of n t))

opened : (length_of len : ℕ) (r : Result ℕ CaptureFault) → (r >>= (λ n. Ok (cond (ltb length_of n) None (Some n)))) ≡ Ok (Some len) → (r ≡ Ok len) × (len ≤ length_of)
opened length_of len (Err f) e = absurd cc
opened length_of len (Ok n) e = at_test length_of n len (ltb length_of n) refl e

whole_more : (r : Reading) (more : List ℕ) (len : ℕ) → whole r ≡ Ok (Some len) → (whole (with_bytes r more) ≡ Ok (Some len)) × (len ≤ length r.pending)
whole_more r more len e =
    let o = opened (length r.pending) len (awaited_length r.format r.pending) e in
    let later : awaited_length r.format (r.pending ++ more) ≡ Ok len = awaited_more r.format r.pending more len o.0 o.1 in
    let t : ltb (length (r.pending ++ more)) len ≡ false = long len r.pending more o.1 in (
      ap (λ (a : Result ℕ CaptureFault). a >>= (λ n. Ok (cond (ltb (length (r.pending ++ more)) n) None (Some n)))) later ∙ ap (λ (b : Bool). Ok (cond b None (Some len))) t,
      o.1,
    )

-- a unit that is read is read when more bytes have come
pub gives_more : (r later : Reading) (segment : Option (ℕ × Said)) (more : List ℕ) → Gives r segment later → Gives (with_bytes r more) segment (with_bytes later more)
gives_more r later segment more g =
    let w = whole_more r more g.len g.is_next.is_whole in
    let bytes : take g.len (r.pending ++ more) ≡ take g.len r.pending = take-append-le g.len r.pending more w.1 in
    let rest : drop g.len (r.pending ++ more) ≡ drop g.len r.pending ++ more = drop-append-le g.len r.pending more w.1 in
    record {
      len = g.len;
      says = g.says;
      is_next = record { is_whole = w.0; is_said = rw bytes g.is_next.is_said };
      is_heard = rw bytes g.is_heard;
      is_later = rw (g.is_later, bytes, rest) refl;
    }
