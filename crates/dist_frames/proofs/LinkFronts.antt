-- What comes next of the bytes that are pending.
use Rattle.std.proofs.Common.{◌≡◌, ℕ, ◌+◌, ◌-◌, ◌<◌, ◌≤◌, Bool, true, false, cond, leb, List, [], ◌∷◌, ◌++◌, length, drop, Option, Some, None, Result, Ok, Err}
use Rattle.std.proofs.Common.{refl, sym, ap, subst, ◌∙◌, arith, lit<, length-take, MatchOption, nat_lt, w32, le-leb}
use Rattle.std.proofs.lemmas.Bool.{and_from}
use Rattle.std.specs.{Int.byte_len, List.AllByRecursion}
use Rattle.dist_frames.specs.LinkReading.{Reading, reading, is_too_long, next_packet, without_next, up_to, to_come}
use Rattle.dist_frames.specs.{Stream.head, Stream.has_first, Stream.front, Stream.behind, Stream.split_bodies, declared.packet_error.PacketError.PacketError}
use Rattle.dist_frames.specs.declared.packet_error.PacketError.TheVariants as error
use Rattle.dist_frames.proofs.Streams.{starts, bodies_one, bodies_none}

-- what is answered, by whether the packet is too long and whether it is whole
abbrev pub answer_of : Bool → Bool → ℕ → List ℕ → Result (Option (List ℕ)) PacketError
answer_of long whole len packet = cond long (Err (error.TooLong len)) (Ok (cond whole (Some packet) None))

-- which bytes are left then
abbrev pub left_of : Bool → Bool → Reading → List ℕ → Reading
left_of long whole r rest = cond long r (reading r.most (cond whole rest r.pending))

-- when the packet is moved out, what stands behind it is left
moves : (r : Reading) → is_too_long r ≡ false → has_first w32 r.pending ≡ true → without_next r ≡ reading r.most (behind w32 r.pending)
moves r long whole = rw (long, whole) refl

-- ---- the next packet is the first of those still to come

at_next : (long whole : Bool) (len : ℕ) (packet : List ℕ) (answer : Option (List ℕ)) (all rest : List (List ℕ)) → answer_of long whole len packet ≡ Ok answer → (long ≡ false → whole ≡ true → all ≡ packet ∷ rest) → (whole ≡ false → all ≡ []) → MatchOption answer (all ≡ []) (λ p. all ≡ p ∷ rest)
at_next true whole len packet answer all rest e stands lacks = absurd cc
at_next false true len packet answer all rest e stands lacks =
    let same : Some packet ≡ answer = cc in
    subst (λ (o : Option (List ℕ)). MatchOption o (all ≡ []) (λ p. all ≡ p ∷ rest)) same (stands refl refl)
at_next false false len packet answer all rest e stands lacks =
    let same : None ≡ answer = cc in
    subst (λ (o : Option (List ℕ)). MatchOption o (all ≡ []) (λ p. all ≡ p ∷ rest)) same (lacks refl)

pub wide : 0 < byte_len w32
wide = lit< tt

-- a packet that is not too long has at most `most` bytes
pub is_short : (r : Reading) → is_too_long r ≡ false → has_first w32 r.pending ≡ true → length (front w32 r.pending) ≤ r.most
is_short r long whole =
    let st = starts w32 r.pending whole in
    let len : length (front w32 r.pending) ≡ head w32 r.pending = omega (arith, length-take (head w32 r.pending) (drop 4 r.pending), st.whole) in
    let no = elim (nat_lt r.most (head w32 r.pending)) as (λ b. nat_lt r.most (head w32 r.pending) ≡ b → nat_lt r.most (head w32 r.pending) ≡ false) [
      | true ↦ λ h. let yes' : is_too_long r ≡ true = and_from (leb 4 (length r.pending)) (nat_lt r.most (head w32 r.pending)) (le-leb 4 (length r.pending) st.long) h in cc (long, yes')
      | false ↦ λ h. h
    ] refl in
    let small : head w32 r.pending ≤ r.most = grind (arith, no) in
    omega (arith, len, small)

up_to_one : (most : ℕ) (packet : List ℕ) (packets : List (List ℕ)) → length packet ≤ most → up_to most (packet ∷ packets) ≡ packet ∷ up_to most packets
up_to_one most packet packets h = ap (λ (b : Bool). cond b (packet ∷ up_to most packets) []) (le-leb (length packet) most h)

pub next_comes : (r : Reading) (answer : Option (List ℕ)) → next_packet r ≡ Ok answer → MatchOption answer (to_come r ≡ []) (λ p. to_come r ≡ p ∷ to_come (without_next r))
next_comes r answer e = at_next (is_too_long r) (has_first w32 r.pending) (head w32 r.pending) (front w32 r.pending) answer (to_come r) (to_come (without_next r)) e
    (λ long whole.
    ap (up_to r.most) (bodies_one w32 r.pending wide whole)
    ∙ up_to_one r.most (front w32 r.pending) (split_bodies w32 (behind w32 r.pending)) (is_short r long whole)
    ∙ ap (λ (q : Reading). front w32 r.pending ∷ to_come q) (sym (moves r long whole)))
    (λ whole. ap (up_to r.most) (bodies_none w32 r.pending wide whole))

pub none_comes : (r : Reading) (answer : Option (List ℕ)) → next_packet r ≡ Ok answer → answer ≡ None → to_come r ≡ []
none_comes r answer e none = subst (λ (o : Option (List ℕ)). MatchOption o (to_come r ≡ []) (λ p. to_come r ≡ p ∷ to_come (without_next r))) none (next_comes r answer e)

pub first_comes : (r after : Reading) (answer : Option (List ℕ)) (packet : List ℕ) → next_packet r ≡ Ok answer → answer ≡ Some packet → after ≡ without_next r → to_come r ≡ packet ∷ to_come after
first_comes r after answer packet e some left =
    subst (λ (o : Option (List ℕ)). MatchOption o (to_come r ≡ []) (λ p. to_come r ≡ p ∷ to_come (without_next r))) some (next_comes r answer e)
    ∙ ap (λ (q : Reading). packet ∷ to_come q) (sym left)

-- no packet of these is too long
abbrev pub Short : ℕ → List (List ℕ) → Type 0
Short most packets = AllByRecursion (λ p. length p ≤ most) packets

-- packets that are not too long come before the others
pub up_to-front : (most : ℕ) (moved packets : List (List ℕ)) → Short most moved → up_to most (moved ++ packets) ≡ moved ++ up_to most packets
up_to-front most [] packets h = refl
up_to-front most (p ∷ ps) packets h = up_to_one most p (ps ++ packets) h.0 ∙ ap (λ (l : List (List ℕ)). p ∷ l) (up_to-front most ps packets h.1)
