-- Whole frames: what is sent, delivered and taken.
use Rattle.dist_world_model.proofs.Words.{◌≡◌, ℕ, ◌^◌, ◌<◌, ◌≤◌, true, false, cond, List, [], ◌∷◌, ◌++◌, length, take, drop, Some, None, sym, refl, ap, ◌∙◌}
use Rattle.dist_world_model.proofs.Words.{subst, append_assoc, append-nil, arith, length-append, w16, and_parts, drop-append-le, take-append-le, from_be_bytes}
use Rattle.dist_world_model.proofs.Words.{to_be_bytes, AllByRecursion, behind, body_frame, first_body, front, has_first, head, after_delivery, body_taken}
use Rattle.dist_world_model.proofs.Words.{more_said, Text}
use Rattle.std.proofs.{Common.leb, Common.flat_map, Common.take-append-drop, Common.leb-true, Math.Seq.drop-append_seam, Math.Seq.take-append_seam}
use Rattle.std.proofs.lemmas.Nat.{from_be_bytes-to_be_bytes_2}

-- a body that fits a frame, and of which P holds
abbrev pub Fine : (List ℕ → Type 0) → List ℕ → Type 0
Fine P b = (length b < 2 ^ 16) × P b

abbrev pub joined : List (List ℕ) → List ℕ
joined bs = flat_map (body_frame w16) bs

-- the text is whole frames, and P holds of each body
pub record Whole (P : List ℕ → Type 0) (s : List ℕ) : Type 0 where
  pub bodies : List (List ℕ)
  pub is : s ≡ joined bodies
  pub all : AllByRecursion (Fine P) bodies

-- what is on the way in one direction
abbrev pub on_way : Text → List ℕ
on_way x = x.come ++ x.said

joined-append : (bs cs : List (List ℕ)) → joined (bs ++ cs) ≡ joined bs ++ joined cs
joined-append [] cs = refl
joined-append (b ∷ bs) cs = ap (λ r. body_frame w16 b ++ r) (joined-append bs cs) ∙ sym (append_assoc (body_frame w16 b) (joined bs) (joined cs))

all-append : (P : List ℕ → Type 0) (bs cs : List (List ℕ)) → AllByRecursion P bs → AllByRecursion P cs → AllByRecursion P (bs ++ cs)
all-append P [] cs h g = g
all-append P (b ∷ bs) cs h g = (h.0, all-append P bs cs h.1 g)

all-map : (P Q : List ℕ → Type 0) → ((b : List ℕ) → P b → Q b) → (bs : List (List ℕ)) → AllByRecursion (Fine P) bs → AllByRecursion (Fine Q) bs
all-map P Q f [] h = tt
all-map P Q f (b ∷ bs) h = let g = h.0 in ((g.0, f b g.1), all-map P Q f bs h.1)

-- more that is true of each body
pub whole-map : (P Q : List ℕ → Type 0) → ((b : List ℕ) → P b → Q b) → (s : List ℕ) → Whole P s → Whole Q s
whole-map P Q f s h = record { bodies = h.bodies; is = h.is; all = all-map P Q f h.bodies h.all }

pub whole-empty : (P : List ℕ → Type 0) → Whole P []
whole-empty P = record { bodies = []; is = refl; all = tt }

pub whole-one : (P : List ℕ → Type 0) (b : List ℕ) → length b < 2 ^ 16 → P b → Whole P (body_frame w16 b)
whole-one P b f h = record { bodies = b ∷ []; is = sym (append-nil (body_frame w16 b)); all = ((f, h), tt) }

pub whole-append : (P : List ℕ → Type 0) (s u : List ℕ) → Whole P s → Whole P u → Whole P (s ++ u)
whole-append P s u h g = record { bodies = h.bodies ++ g.bodies; is = (λ i. h.is i ++ g.is i) ∙ sym (joined-append h.bodies g.bodies); all = all-append (Fine P) h.bodies g.bodies h.all g.all }

-- what is sent comes last
pub way-said : (P : List ℕ → Type 0) (x : Text) (s : List ℕ) → Whole P (on_way x) → Whole P s → Whole P (on_way (more_said s x))
way-said P x s h g = subst (Whole P) (append_assoc x.come x.said s) (whole-append P (on_way x) s h g)

-- a delivery leaves what is on the way
pub way-delivered : (k : ℕ) (x : Text) → on_way (after_delivery k x) ≡ on_way x
way-delivered k x = append_assoc x.come (take k x.said) (drop k x.said) ∙ ap (λ r. x.come ++ r) (take-append-drop k x.said)

-- a whole body stands at the front
pub record Starts (s : List ℕ) : Type 0 where
  pub long : 2 ≤ length s
  pub whole : head w16 s ≤ length (drop 2 s)

pub starts : (s : List ℕ) → has_first w16 s ≡ true → Starts s
starts s h = let p = and_parts (leb 2 (length s)) (leb (head w16 s) (length (drop 2 s))) h in record { long = leb-true _ _ p.0; whole = leb-true _ _ p.1 }

-- the first body of what came is one of those on the way, and the rest is on the way still
pub way-taken : (P : List ℕ → Type 0) (x : Text) (b : List ℕ) → Whole P (on_way x) → first_body w16 x.come ≡ Some b → P b × Whole P (on_way (body_taken x))
way-taken P x b h is = elim (has_first w16 x.come) as (λ t. has_first w16 x.come ≡ t → cond t (Some (front w16 x.come)) None ≡ Some b → P b × Whole P (cond t (behind w16 x.come) x.come ++ x.said)) [
  | true ↦ λ t e. let z : front w16 x.come ≡ b = cc in by (starts x.come t) z h.bodies h.is h.all
  | false ↦ λ t e. absurd cc
] refl is
  where
    by : Starts x.come → front w16 x.come ≡ b → (bs : List (List ℕ)) → x.come ++ x.said ≡ joined bs → AllByRecursion (Fine P) bs → P b × Whole P (behind w16 x.come ++ x.said)
    by st z [] e a = absurd (let n : length (x.come ++ x.said) ≡ 0 = ap length e in omega (arith, n, length-append x.come x.said, st.long))
    by st z (c ∷ bs) e a =
        let g = a.0 in
        let H : List ℕ = to_be_bytes w16 (length c) in
        let whole : x.come ++ x.said ≡ H ++ (c ++ joined bs) = e ∙ append_assoc H c (joined bs) in
        let top : take 2 x.come ≡ H = sym (take-append-le 2 x.come x.said st.long) ∙ ap (take 2) whole ∙ take-append_seam H (c ++ joined bs) in
        let low : drop 2 x.come ++ x.said ≡ c ++ joined bs = sym (drop-append-le 2 x.come x.said st.long) ∙ ap (drop 2) whole ∙ drop-append_seam H (c ++ joined bs) in
        let size : head w16 x.come ≡ length c = ap (from_be_bytes w16) top ∙ from_be_bytes-to_be_bytes_2 (length c) g.0 in
        let fits : length c ≤ length (drop 2 x.come) = subst (λ n. n ≤ length (drop 2 x.come)) size st.whole in
        let body : b ≡ c = sym z ∙ ap (λ n. take n (drop 2 x.come)) size ∙ sym (take-append-le (length c) (drop 2 x.come) x.said fits) ∙ ap (take (length c)) low ∙ take-append_seam c (joined bs) in
        let left : behind w16 x.come ++ x.said ≡ joined bs = ap (λ n. drop n (drop 2 x.come) ++ x.said) size ∙ sym (drop-append-le (length c) (drop 2 x.come) x.said fits) ∙ ap (drop (length c)) low ∙ drop-append_seam c (joined bs) in
        (subst P (sym body) g.1, record { bodies = bs; is = left; all = a.1 })
