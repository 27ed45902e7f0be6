-- A packet of which only a length is kept.
use Rattle.std.proofs.Common.{◌≡◌, ℕ, zero, suc, ◌+◌, ◌-◌, ◌^◌, ◌<◌, ◌≤◌, Bool, false, cond, leb, eqb, List, [], ◌∷◌, ◌++◌, length, take, drop, refl, sym, ap}
use Rattle.std.proofs.Common.{subst, ◌∙◌, append_assoc, arith, ne_eqb, w32, append-nil, take_all, take-append-drop, length-take}
use Rattle.std.proofs.lemmas.{Bool.lt-leb, Bool.and_left, List.drop_all}
use Rattle.std.specs.Int.{to_be_bytes}
use Rattle.dist_frames.specs.{Kept.kept_of, Reader.capped_count, Stream.head, Stream.has_first, Stream.packets, Stream.short_rest, Stream.partial}
use Rattle.dist_frames.proofs.{Skipping.wide, Skipping.number_owes, Skipping.shortened_few, Streams.bodies_none, Streams.rest_none}

-- ---- what is kept

kept_owed : (n : ℕ) (header : List ℕ) (len : ℕ) → 0 < n → kept_of n header len ≡ to_be_bytes w32 n
kept_owed n header len lt = let e : eqb n 0 ≡ false = ne_eqb n 0 (λ (e : n ≡ 0). omega arith) in rw e refl

kept_header : (owed : ℕ) (header : List ℕ) (len : ℕ) → owed ≤ 0 → kept_of owed header len ≡ take len header
kept_header zero header len le = refl
kept_header (suc n) header len le = absurd (omega arith)

-- no packet has ended, and nothing can be left out
pub record Settled (s : List ℕ) : Type 0 where
  pub none : packets s ≡ 0
  pub short : partial s ≡ s

few_settled : (s : List ℕ) → length s < 4 → Settled s
few_settled s lt =
    let no : has_first w32 s ≡ false = and_left (leb 4 (length s)) (leb (head w32 s) (length (drop 4 s))) (lt-leb 4 (length s) lt) in
    record {
      none = ap (λ (x : List (List ℕ)). length x) (bodies_none w32 s wide no);
      short = ap short_rest (rest_none w32 s wide no) ∙ shortened_few s (omega arith);
    }

pub settled : (owed : ℕ) (header : List ℕ) (len : ℕ) → owed < 2 ^ 32 → len < 4 → Settled (kept_of owed header len)
settled zero header len o l = few_settled (take len header) (omega (arith, length-take len header))
settled (suc n) header len o l =
    let s = (number_owes (suc n) [] o).stays (omega arith) in
    let z : suc n - 0 ≡ suc n = omega arith in
    subst Settled (sym (kept_owed (suc n) header len (omega arith))) (record { none = s.0; short = s.1 ∙ ap (to_be_bytes w32) z })

-- ---- one step

abbrev one_if : Bool → ℕ
one_if b = cond b 1 0

-- The stream goes on as what is kept and these bytes, but for the packet that ended.
pub record Step (s : List ℕ) (owed : ℕ) (header t : List ℕ) : Type 0 where
  pub count : packets s ≡ one_if (eqb owed 0) + packets (kept_of owed header 0 ++ t)
  pub left : partial s ≡ partial (kept_of owed header 0 ++ t)

pub ends : (owed : ℕ) (t : List ℕ) → owed < 2 ^ 32 → owed ≤ length t → Step (to_be_bytes w32 owed ++ t) 0 [] (drop owed t)
ends owed t lt le = let e = (number_owes owed t lt).ends le in record { count = omega (arith, e.0); left = e.1 }

pub stays : (owed : ℕ) (t : List ℕ) → owed < 2 ^ 32 → length t < owed → Step (to_be_bytes w32 owed ++ t) (owed - length t) [] (drop (length t) t)
stays owed t lt short =
    let now = (number_owes owed t lt).stays short in
    let kept = kept_of (owed - length t) [] 0 in
    let s = settled (owed - length t) [] 0 (omega arith) (omega arith) in
    let all : kept ++ drop (length t) t ≡ kept = ap (λ (x : List ℕ). kept ++ x) (drop_all (length t) t (omega arith)) ∙ append-nil kept in
    let none : packets (kept ++ drop (length t) t) ≡ 0 = ap packets all ∙ s.none in
    let some : eqb (owed - length t) 0 ≡ false = ne_eqb (owed - length t) 0 (λ (e : owed - length t ≡ 0). omega (arith, e)) in
    record {
      count = let z : one_if (eqb (owed - length t) 0) ≡ 0 = ap one_if some in omega (arith, now.0, z, none);
      left = now.1 ∙ sym (ap partial all ∙ s.short ∙ kept_owed (owed - length t) [] 0 (omega arith));
    }

pub header_done : (owed : ℕ) (header t : List ℕ) → owed < 2 ^ 32 → Step (to_be_bytes w32 owed ++ t) owed header t
header_done zero header t lt = let e = ends 0 t lt (omega arith) in record { count = e.count; left = e.left }
header_done (suc n) header t lt =
    let k : kept_of (suc n) header 0 ≡ to_be_bytes w32 (suc n) = kept_owed (suc n) header 0 (omega arith) in
    let some : eqb (suc n) 0 ≡ false = ne_eqb (suc n) 0 (λ (e : suc n ≡ 0). omega (arith, e)) in
    let z : one_if (eqb (suc n) 0) ≡ 0 = ap one_if some in
    let p : packets (kept_of (suc n) header 0 ++ t) ≡ packets (to_be_bytes w32 (suc n) ++ t) = ap (λ (x : List ℕ). packets (x ++ t)) k in
    record { count = omega (arith, z, p); left = sym (ap (λ (x : List ℕ). partial (x ++ t)) k) }

pub joined : (old header filled piece : List ℕ) (o len used owed : ℕ) → o ≤ 0 → kept_of o header len ≡ old → take (len + used) filled ≡ take len header ++ take used piece → length filled ≡ 4 → 4 ≤ len + used → to_be_bytes w32 owed ≡ filled
    → old ++ piece ≡ to_be_bytes w32 owed ++ drop used piece
joined old header filled piece o len used owed z k f l whole num =
    let start : old ≡ take len header = sym k ∙ kept_header o header len z in
    let all : take (len + used) filled ≡ filled = take_all (len + used) filled (omega arith) in
    ap (λ (x : List ℕ). x ++ piece) start
    ∙ ap (λ (x : List ℕ). take len header ++ x) (sym (take-append-drop used piece))
    ∙ sym (append_assoc (take len header) (take used piece) (drop used piece))
    ∙ ap (λ (x : List ℕ). x ++ drop used piece) (sym f ∙ all ∙ sym num)

-- this many packets were counted, and these bytes are left of all bytes
pub record Counted (n : ℕ) (rest all : List ℕ) : Type 0 where
  pub fits : n < 2 ^ 64
  pub count : capped_count (n + packets rest) ≡ capped_count (packets all)
  pub left : partial rest ≡ partial all

pub record Finished (n : ℕ) (kept all : List ℕ) : Type 0 where
  pub count : n ≡ capped_count (packets all)
  pub left : kept ≡ partial all

pub finished : (n : ℕ) (kept rest all : List ℕ) → length rest ≡ 0 → packets kept ≡ 0 → partial kept ≡ kept → Counted n (kept ++ rest) all → Finished n kept all
finished n kept [] all e none short h =
    let p : packets (kept ++ []) ≡ 0 = ap packets (append-nil kept) ∙ none in
    record { count = omega (arith, p, h.count, h.fits); left = sym short ∙ sym (ap partial (append-nil kept)) ∙ h.left }
finished n kept (x ∷ rest) all e none short h = absurd (omega arith)
