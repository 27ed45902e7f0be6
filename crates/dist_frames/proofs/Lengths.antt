-- The frame at the front, by how many bytes it has.
use Rattle.std.proofs.Common.{◌≡◌, ◌≢◌, ℕ, ◌+◌, ◌-◌, ◌<◌, ◌≤◌, Bool, true, false, cond, leb, List, [], ◌++◌, length, take, drop, drop_of_length-le, Some, None}
use Rattle.std.proofs.Common.{refl, sym, ap, subst, ◌∙◌, arith, lit≤, length-append, length-drop, w16, leb-true, leb-false, le-leb, drop-drop}
use Rattle.std.proofs.lemmas.Bool.{lt-leb, and_left, and_right}
use Rattle.dist_frames.specs.{Kept.frame_len, Stream.head, Stream.has_first, Stream.behind, Stream.first_body, Stream.after_first}
use Rattle.dist_frames.proofs.Streams.{starts_true, head-append}

-- this many bytes are the frame at the front
record Whole (s : List ℕ) (n : ℕ) : Type 0 where
  pub starts : has_first w16 s ≡ true
  pub len : n ≡ 2 + head w16 s

whole_at : (s : List ℕ) (b : Bool) → leb 2 (length s) ≡ b → cond b (2 + head w16 s) 2 ≤ length s → Whole s (cond b (2 + head w16 s) 2)
whole_at s true h le = record { starts = starts_true w16 s (record { long = leb-true 2 (length s) h; whole = omega (arith, length-drop 2 s, le) }); len = refl }
whole_at s false h le = let few : length s < 2 = leb-false 2 (length s) h in absurd (omega arith)

whole : (s : List ℕ) (n : ℕ) → n ≡ frame_len s → n ≤ length s → Whole s n
whole s n e le = subst (Whole s) (sym e) (whole_at s (leb 2 (length s)) refl (subst (λ (k : ℕ). k ≤ length s) e le))

part_at : (s : List ℕ) (b : Bool) → leb 2 (length s) ≡ b → length s < cond b (2 + head w16 s) 2 → has_first w16 s ≡ false
part_at s true h lt =
    let long : 2 ≤ length s = leb-true 2 (length s) h in
    and_right (leb 2 (length s)) (leb (head w16 s) (length (drop 2 s))) (lt-leb (head w16 s) (length (drop 2 s)) (omega (arith, length-drop 2 s)))
part_at s false h lt = and_left (leb 2 (length s)) (leb (head w16 s) (length (drop 2 s))) h

part : (s : List ℕ) (n : ℕ) → n ≡ frame_len s → length s < n → has_first w16 s ≡ false
part s n e lt = part_at s (leb 2 (length s)) refl (subst (λ (k : ℕ). length s < k) e lt)

-- ---- its body

least_at : (b : Bool) (n : ℕ) → 2 ≤ cond b (2 + n) 2
least_at true n = omega arith
least_at false n = lit≤ tt

pub least : (s : List ℕ) (n : ℕ) → n ≡ frame_len s → 2 ≤ n
least s n e = subst (λ (k : ℕ). 2 ≤ k) (sym e) (least_at (leb 2 (length s)) (head w16 s))

pub no_body : (s : List ℕ) (n : ℕ) → n ≡ frame_len s → length s < n → None ≡ first_body w16 s
no_body s n e lt = rw (part s n e lt) refl

pub some_body : (s : List ℕ) (n : ℕ) → n ≡ frame_len s → n ≤ length s → Some (take (n - 2) (drop 2 s)) ≡ first_body w16 s
some_body s n e le =
    let w = whole s n e le in
    let len : head w16 s ≡ n - 2 = omega (arith, w.len) in
    rw w.starts (ap (λ (k : ℕ). Some (take k (drop 2 s))) (sym len))

-- ---- what stands behind it

pub moved : (s : List ℕ) (n : ℕ) → n ≡ frame_len s → n ≤ length s → drop n s ≡ after_first w16 s
moved s n e le =
    let w = whole s n e le in
    let there : behind w16 s ≡ drop n s = drop-drop (head w16 s) 2 s ∙ ap (λ (k : ℕ). drop k s) (sym w.len) in
    rw w.starts (sym there)

-- where the frame is all that is pending
pub all_moved : (s : List ℕ) (n : ℕ) → n ≡ frame_len s → length s ≡ n → [] ≡ after_first w16 s
all_moved s n e all = sym (drop_of_length-le s (omega (arith, all))) ∙ moved s n e (omega (arith, all))

pub stays_put : (s : List ℕ) (n : ℕ) → n ≡ frame_len s → length s < n → s ≡ after_first w16 s
stays_put s n e lt = rw (part s n e lt) refl

-- ---- more bytes

frame_len-append : (s t : List ℕ) → 2 ≤ length s → frame_len (s ++ t) ≡ frame_len s
frame_len-append s t long =
    let more : leb 2 (length (s ++ t)) ≡ true = le-leb 2 (length (s ++ t)) (omega (arith, length-append s t)) in
    rw (more, le-leb 2 (length s) long) (ap (λ (k : ℕ). 2 + k) (head-append w16 s t long))

-- more than 2 bytes are awaited once the length has come
long_where : (b : Bool) (k n : ℕ) → n ≡ cond b (2 + k) 2 → n ≢ 2 → b ≡ true
long_where true k n e apart = refl
long_where false k n e apart = absurd (apart e)

-- a length that has come stays what it is
pub same_len : (s t : List ℕ) (n : ℕ) → n ≡ frame_len s → n ≢ 2 → n ≡ frame_len (s ++ t)
same_len s t n e apart = e ∙ sym (frame_len-append s t (leb-true 2 (length s) (long_where (leb 2 (length s)) (head w16 s) n e apart)))
