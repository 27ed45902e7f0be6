-- A gap is closed by a segment that begins at the awaited byte.
use Rattle.std.proofs.Common.{◌≡◌, ℕ, ◌+◌, ◌-◌, ◌%◌, ◌^◌, ◌≤◌, List, [], ◌∷◌, ◌++◌, length, drop, Option, Some, None, refl, sym, ◌∙◌, arith, slice_get, le-leb}
use Rattle.std.proofs.Common.{append_assoc, length-drop, ◌==◌, Bool, false, cond, ap, max}
use Rattle.std.proofs.lemmas.{List.append-nil, List.get_or-drop, List.get_or_past, List.ext_get_or, List.drop_all, List.nil_from_length, List.length-map, List.FromFn.fill_by_all, Option.slice_get_past}
use Rattle.dist_capture.specs.Streams.{Gathering, taken, new_part, with_new, known_at, byte_at, first_of, laid, leading, settled}
use Rattle.dist_capture.proofs.{Known.known_laid, Known.leading_steps, Known.leading_ends, Known.leading_long, Known.first_by, Known.some_front, Known.all_known, Known.known_front, Known.leading_behind, Laying.length-laid}

byte_front : (bytes : List ℕ) (i : ℕ) → byte_at 0 bytes i ≡ slice_get bytes i
byte_front bytes i = let a = le-leb 0 i (omega arith) in let z : i - 0 ≡ i = omega arith in rw (a, z) refl

pub known_first : (bytes : List ℕ) (known : List (Option ℕ)) (i : ℕ) → known_at (laid 0 bytes known) i ≡ first_of (known_at known i) (slice_get bytes i)
known_first bytes known i = known_laid 0 bytes known i ∙ ap (first_of (known_at known i)) (byte_front bytes i)

-- ---- the loop over the bytes that are in order

pub front_more : (front : List ℕ) (all : List (Option ℕ)) (i b : ℕ) → front ++ leading (drop i all) ≡ leading all → known_at all i ≡ Some b
    → (front ++ b ∷ []) ++ leading (drop (i + 1) all) ≡ leading all
front_more front all i b e is = append_assoc front (b ∷ []) (leading (drop (i + 1) all)) ∙ ap (λ (bs : List ℕ). front ++ bs) (sym (leading_steps all i b is)) ∙ e

pub front_done : (front : List ℕ) (all : List (Option ℕ)) (i : ℕ) → front ++ leading (drop i all) ≡ leading all → known_at all i ≡ None → front ≡ leading all
front_done front all i e none = sym (append-nil front) ∙ ap (λ (bs : List ℕ). front ++ bs) (sym (leading_ends all i none)) ∙ e

pub front_all : (front bytes : List ℕ) (known : List (Option ℕ)) (i : ℕ) → max (length known) (length bytes) ≤ i
    → front ++ leading (drop i (laid 0 bytes known)) ≡ leading (laid 0 bytes known) → front ≡ leading (laid 0 bytes known)
front_all front bytes known i le e = front_done front (laid 0 bytes known) i e (get_or_past (laid 0 bytes known) i None (omega (arith, length-laid 0 bytes known)))

-- ---- what is left behind them

first_none : (o p : Option ℕ) → first_of o p ≡ None → p ≡ None
first_none (Some b) p e = absurd cc
first_none None p e = e

pub left_behind : (bytes : List ℕ) (known : List (Option ℕ))
    → drop (length (leading (laid 0 bytes known))) known ≡ drop (length (leading (laid 0 bytes known))) (laid 0 bytes known)
left_behind bytes known =
    let all = laid 0 bytes known in
    let n = length (leading all) in
    let long : length bytes ≤ n = leading_long (length bytes) all
    (λ i lt e. some_front bytes i lt (first_none (known_at known i) (slice_get bytes i) (sym (known_first bytes known i) ∙ e))) in
    ext_get_or None (drop n known) (drop n all) (omega (arith, length-drop n known, length-drop n all, length-laid 0 bytes known))
    (λ i lt. get_or-drop n known i None
    ∙ sym (get_or-drop n all i None ∙ known_first bytes known (n + i)
    ∙ first_by (known_at known (n + i)) (slice_get bytes (n + i)) (slice_get_past bytes (n + i) (omega arith))))

pub closes : (s : Gathering) (bytes front ready : List ℕ) (left : List (Option ℕ)) → front ≡ leading (laid 0 bytes s.waiting) → ready ≡ s.ready ++ front
    → left ≡ drop (length front) s.waiting
    → record { next = (s.next + length front) % 2 ^ 32; ready = ready; waiting = left; most = s.most } ≡ settled s (laid 0 bytes s.waiting)
closes s bytes front ready left f r l = rw (r, l, f, left_behind bytes s.waiting) refl

-- ---- nothing waits

all_in_order : (bytes : List ℕ) → laid 0 bytes [] ≡ all_known bytes ++ []
all_in_order bytes = sym (fill_by_all (λ (i : ℕ). first_of (known_at [] i) (byte_at 0 bytes i)) (all_known bytes ++ []) (max 0 (0 + length bytes)) None
    (ap length (append-nil (all_known bytes)) ∙ length-map bytes (λ b. Some b) ∙ omega arith)
    (λ k lt. known_front bytes [] k (omega arith) ∙ sym (byte_front bytes k)))

joins : (s : Gathering) (bytes : List ℕ) → s.waiting ≡ []
    → record { next = (s.next + length bytes) % 2 ^ 32; ready = s.ready ++ bytes; waiting = s.waiting; most = s.most } ≡ settled s (laid 0 bytes s.waiting)
joins s bytes none =
    let front : leading (laid 0 bytes []) ≡ bytes = ap leading (all_in_order bytes) ∙ leading_behind bytes [] refl in
    let left : drop (length bytes) (laid 0 bytes []) ≡ [] = drop_all (length bytes) (laid 0 bytes []) (omega (arith, length-laid 0 bytes [])) in
    rw (none, front, left) refl

pub in_order : (s : Gathering) (sequence place : ℕ) (bytes new : List ℕ) → (place, new) ≡ new_part s.next sequence bytes → place ≡ 0 → (length new == 0) ≡ false → length s.waiting ≡ 0
    → record { next = (s.next + length new) % 2 ^ 32; ready = s.ready ++ new; waiting = s.waiting; most = s.most } ≡ taken s sequence bytes
in_order s sequence place bytes new is zero some none =
    let all : with_new s (0, new) ≡ settled s (laid 0 new s.waiting) = ap (λ (b : Bool). cond b s (settled s (laid 0 new s.waiting))) some in
    joins s new (nil_from_length s.waiting none) ∙ sym all ∙ ap (λ (p : ℕ). with_new s (p, new)) (sym zero) ∙ ap (with_new s) is
