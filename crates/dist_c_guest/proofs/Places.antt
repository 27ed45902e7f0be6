-- The body at a place, by the first body and those behind it.
use Rattle.dist_c_guest.proofs.Common.{◌≡◌, ℕ, zero, suc, ◌+◌, ◌-◌, ◌<◌, ◌≤◌, Bool, true, false, cond, List, [], ◌∷◌, length, drop, slice_get, Some, None}
use Rattle.dist_c_guest.proofs.Common.{Option, sym, refl, ap, ◌∙◌, arith, lit<, length-drop, length-take, drop-drop, w16, byte_len, behind, bodies, first_body}
use Rattle.dist_c_guest.proofs.Common.{front, has_first, head}
use Rattle.dist_frames.proofs.Streams.{starts, bodies_one, bodies_none}

wide : 0 < byte_len w16
wide = lit< tt

abbrev some : List ℕ → Option (List ℕ)
some x = Some x

abbrev none : Option (List ℕ)
none = None

-- ---- what the first body says of the stream

record IsFirst (s body : List ℕ) : Type 0 where
  pub stands : has_first w16 s ≡ true
  pub is : body ≡ front w16 s

first_where : (b : Bool) (x y : List ℕ) → some y ≡ cond b (some x) none → (b ≡ true) × (y ≡ x)
first_where true x y e = (refl, cc)
first_where false x y e = absurd cc

is_first : (s body : List ℕ) → some body ≡ first_body w16 s → IsFirst s body
is_first s body e = let p = first_where (has_first w16 s) (front w16 s) body e in record { stands = p.0; is = p.1 }

lacks_where : (b : Bool) (x : List ℕ) → none ≡ cond b (some x) none → b ≡ false
lacks_where true x e = absurd cc
lacks_where false x e = refl

len : (s body : List ℕ) → IsFirst s body → (length body ≡ head w16 s) × (2 + length body ≤ length s)
len s body h =
    let st = starts w16 s h.stands in
    let l : length body ≡ head w16 s = ap length h.is ∙ omega (arith, length-take (head w16 s) (drop 2 s), st.whole) in
    (l, omega (arith, l, st.long, st.whole, length-drop 2 s))

pub fits : (s body : List ℕ) → some body ≡ first_body w16 s → 2 + length body ≤ length s
fits s body e = (len s body (is_first s body e)).1

-- the bodies from the second on are those behind the first frame
pub splits : (s body : List ℕ) → some body ≡ first_body w16 s → bodies s ≡ body ∷ bodies (drop (2 + length body) s)
splits s body e =
    let h = is_first s body e in
    let there : behind w16 s ≡ drop (2 + length body) s = drop-drop (head w16 s) 2 s ∙ ap (λ (k : ℕ). drop k s) (omega (arith, (len s body h).0)) in
    bodies_one w16 s wide h.stands ∙ ap (λ (x : List ℕ). x ∷ bodies (behind w16 s)) (sym h.is) ∙ ap (λ (x : List ℕ). body ∷ bodies x) there

pub empty : (s : List ℕ) → none ≡ first_body w16 s → bodies s ≡ []
empty s e = bodies_none w16 s wide (lacks_where (has_first w16 s) (front w16 s) e)

-- ---- places

tail_of : (ys : List (List ℕ)) (x : List ℕ) (k : ℕ) → 0 < k → slice_get (x ∷ ys) k ≡ slice_get ys (k - 1)
tail_of ys x zero lt = absurd (omega arith)
tail_of ys x (suc k) lt = let e : k ≡ suc k - 1 = omega arith in ap (slice_get ys) e

tail_at : (xs ys : List (List ℕ)) (x : List ℕ) (k : ℕ) → xs ≡ x ∷ ys → 0 < k → slice_get xs k ≡ slice_get ys (k - 1)
tail_at xs ys x k e lt = ap (λ (zs : List (List ℕ)). slice_get zs k) e ∙ tail_of ys x k lt

pub none_there : (s : List ℕ) (k : ℕ) → none ≡ first_body w16 s → none ≡ slice_get (bodies s) k
none_there s k e = rw (empty s e) refl

pub goes_on : (s body : List ℕ) (k : ℕ) → some body ≡ first_body w16 s → 0 < k → slice_get (bodies s) k ≡ slice_get (bodies (drop (2 + length body) s)) (k - 1)
goes_on s body k e lt = tail_at (bodies s) (bodies (drop (2 + length body) s)) body k (splits s body e) lt

pub first_there : (s : List ℕ) (o : Option (List ℕ)) → o ≡ first_body w16 s → o ≡ slice_get (bodies s) 0
first_there s (Some body) e = rw (splits s body e) refl
first_there s None e = none_there s 0 e
