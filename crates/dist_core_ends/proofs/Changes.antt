-- When ends change, the ends and the entries still agree.
use Rattle.dist_core_ends.proofs.Words.{◌≡◌, ℕ, zero, suc, ◌+◌, ◌<◌, ◌≤◌, Bool, true, false, cond, eqb, ltb, List, [], ◌∷◌, ◌++◌, length, set, slice_get, Some}
use Rattle.dist_core_ends.proofs.Words.{None, Option, sym, refl, ap, ◌∙◌, subst, arith, eqb-true, eqb-suc-suc, eqb-suc-zero, eqb-zero-suc, nat_tests, Name}
use Rattle.dist_core_ends.proofs.Words.{same_name, one_lem, EndId, Entry, IsThere, other_view, put_end, put_other, view_after, with_change, claim_of, is_claim}
use Rattle.dist_core_ends.proofs.Words.{is_held, names, End, Kind}

pub get-set : {A : Type 0} (es : List A) (x : ℕ) (e : A) (i : ℕ) → x < length es → slice_get (set es x e) i ≡ cond (eqb x i) (Some e) (slice_get es i)
get-set [] x e i h = absurd (omega arith)
get-set (d ∷ es) zero e zero h = refl
get-set (d ∷ es) zero e (suc i) h = sym (ap (λ b. cond b (Some e) (slice_get es i)) (eqb-zero-suc i))
get-set (d ∷ es) (suc x) e zero h = sym (ap (λ b. cond b (Some e) (Some d)) (eqb-suc-zero x))
get-set (d ∷ es) (suc x) e (suc i) h = get-set es x e i (omega arith) ∙ sym (ap (λ b. cond b (Some e) (slice_get es i)) (eqb-suc-suc x i))

get-append : (es : List End) (e : End) (i : ℕ) → slice_get (es ++ e ∷ []) i ≡ cond (eqb (length es) i) (Some e) (slice_get es i)
get-append [] e zero = refl
get-append [] e (suc i) = sym (ap (λ b. cond b (Some e) None) (eqb-zero-suc i))
get-append (d ∷ es) e zero = sym (ap (λ b. cond b (Some e) (Some d)) (eqb-suc-zero (length es)))
get-append (d ∷ es) e (suc i) = get-append es e i ∙ sym (ap (λ b. cond b (Some e) (slice_get es i)) (eqb-suc-suc (length es) i))

pub get-put : (es : List End) (x : ℕ) (e : End) (i : ℕ) → x ≤ length es → slice_get (put_end es x e) i ≡ cond (eqb x i) (Some e) (slice_get es i)
get-put es x e i h =
    elim (ltb x (length es)) as (λ b. ltb x (length es) ≡ b → slice_get (cond b (set es x e) (es ++ e ∷ [])) i ≡ cond (eqb x i) (Some e) (slice_get es i)) [
      | true ↦ λ t. get-set es x e i (grind (arith, nat_tests))
      | false ↦ λ t. let same : length es ≡ x = grind (arith, nat_tests) in get-append es e i ∙ ap (λ n. cond (eqb n i) (Some e) (slice_get es i)) same
    ] refl

pub length-put : (es : List End) (x : ℕ) (e : End) → length es ≤ length (put_end es x e)
length-put es x e = elim (ltb x (length es)) as (λ b. length es ≤ length (cond b (set es x e) (es ++ e ∷ []))) [ true ↦ omega (arith, Rattle.std.proofs.Math.ListN.length-set {A = End}) | false ↦ omega (arith, Rattle.std.proofs.Common.length-append {A = End}) ]

-- the ends after a change, by their numbers
pub get-after : (es : List End) (id : EndId) (this : End) (other : Option (EndId × End)) (i : ℕ) → id.0 ≤ length es → IsThere es other → slice_get (with_change es id this other) i ≡ view_after es id this other i
get-after es id this other i h o = by other o
  where
    by : (x : Option (EndId × End)) → IsThere es x → slice_get (put_other (put_end es id.0 this) x) i ≡ other_view x (λ i. cond (eqb id.0 i) (Some this) (slice_get es i)) i
    by None o = get-put es id.0 this i h
    by (Some x) o = get-set (put_end es id.0 this) (let y = x.0 in y.0) x.1 i (omega (arith, o, length-put es id.0 this))
        ∙ ap (λ v. cond (eqb (let y = x.0 in y.0) i) (Some x.1) v) (get-put es id.0 this i h)

-- entries and numbered ends agree
abbrev pub Agrees : (Name → Option Entry) → (ℕ → Option End) → Type 0
Agrees u g = (p : Name) (k : Kind) (i : ℕ) → is_held p k (g i) ≡ names k i (u p)

pushed : (p : Name) (k : Kind) (b : Bool) (e : End) (o : Option End) → is_held p k (cond b (Some e) o) ≡ cond b (is_held p k (Some e)) (is_held p k o)
pushed p k true e o = refl
pushed p k false e o = refl

-- one end changes, and with it the entry of p
pub changes-one : (u : Name → Option Entry) (g : ℕ → Option End) (p : Name) (x : ℕ) (e : End) (o : Option Entry) → Agrees u g
    → ((q : Name) (k : Kind) → same_name q p ≡ false → is_held q k (Some e) ≡ false)
    → ((q : Name) (k : Kind) → same_name q p ≡ false → is_held q k (g x) ≡ false)
    → ((k : Kind) (i : ℕ) → cond (eqb x i) (is_held p k (Some e)) (names k i (u p)) ≡ names k i o)
    → Agrees (λ q. cond (same_name q p) o (u q)) (λ i. cond (eqb x i) (Some e) (g i))
changes-one u g p x e o a new old here q k i =
    elim (same_name q p) as (λ s. same_name q p ≡ s → is_held q k (cond (eqb x i) (Some e) (g i)) ≡ names k i (cond s o (u q))) [
      | true ↦ λ s.
          let P : Name → Type 0 = λ r. is_held r k (cond (eqb x i) (Some e) (g i)) ≡ names k i o in
          subst P (sym (one_lem q p s)) (pushed p k (eqb x i) e (g i) ∙ ap (cond (eqb x i) (is_held p k (Some e))) (a p k i) ∙ here k i)
      | false ↦ λ s.
          elim (eqb x i) as (λ b. eqb x i ≡ b → is_held q k (cond b (Some e) (g i)) ≡ names k i (u q)) [
            | true ↦ λ b. new q k s ∙ sym (old q k s) ∙ ap (λ n. is_held q k (g n)) (eqb-true x i b) ∙ a q k i
            | false ↦ λ b. a q k i
          ] refl
    ] refl

-- one end changes, and how it holds its peer stays
pub stays : (u : Name → Option Entry) (g : ℕ → Option End) (x : ℕ) (e : End) → Agrees u g
    → ((q : Name) (k : Kind) → is_held q k (Some e) ≡ is_held q k (g x))
    → Agrees u (λ i. cond (eqb x i) (Some e) (g i))
stays u g x e a same q k i =
    elim (eqb x i) as (λ b. eqb x i ≡ b → is_held q k (cond b (Some e) (g i)) ≡ names k i (u q)) [
      | true ↦ λ b. same q k ∙ ap (λ n. is_held q k (g n)) (eqb-true x i b) ∙ a q k i
      | false ↦ λ b. a q k i
    ] refl

pub claimless : (e : End) → claim_of e ≡ None → (q : Name) (k : Kind) → is_held q k (Some e) ≡ false
claimless e h q k = ap (is_claim q k) h

-- two ends change, and with them the entry of p; the other end holds nothing afterwards
pub changes-two : (u : Name → Option Entry) (g : ℕ → Option End) (p : Name) (x : ℕ) (s : End) (id : ℕ) (e : End) (o : Option Entry) → Agrees u g
    → ((q : Name) (k : Kind) → is_held q k (Some s) ≡ false)
    → ((q : Name) (k : Kind) → same_name q p ≡ false → is_held q k (Some e) ≡ false)
    → ((q : Name) (k : Kind) → same_name q p ≡ false → is_held q k (g x) ≡ false)
    → ((q : Name) (k : Kind) → same_name q p ≡ false → is_held q k (g id) ≡ false)
    → ((k : Kind) (i : ℕ) → cond (eqb x i) false (cond (eqb id i) (is_held p k (Some e)) (names k i (u p))) ≡ names k i o)
    → Agrees (λ q. cond (same_name q p) o (u q)) (λ i. cond (eqb x i) (Some s) (cond (eqb id i) (Some e) (g i)))
changes-two u g p x s id e o a gone new old_x old here q k i =
    elim (same_name q p) as (λ b. same_name q p ≡ b → is_held q k (cond (eqb x i) (Some s) (cond (eqb id i) (Some e) (g i))) ≡ names k i (cond b o (u q))) [
      | true ↦ λ b.
          let P : Name → Type 0 = λ r. is_held r k (cond (eqb x i) (Some s) (cond (eqb id i) (Some e) (g i))) ≡ names k i o in
          subst P (sym (one_lem q p b))
          (pushed p k (eqb x i) s _
          ∙ ap (λ v. cond (eqb x i) v (is_held p k (cond (eqb id i) (Some e) (g i)))) (gone p k)
          ∙ ap (cond (eqb x i) false) (pushed p k (eqb id i) e (g i) ∙ ap (cond (eqb id i) (is_held p k (Some e))) (a p k i))
          ∙ here k i)
      | false ↦ λ b.
          elim (eqb x i) as (λ v. eqb x i ≡ v → is_held q k (cond v (Some s) (cond (eqb id i) (Some e) (g i))) ≡ names k i (u q)) [
            | true ↦ λ v. gone q k ∙ sym (old_x q k b) ∙ ap (λ n. is_held q k (g n)) (eqb-true x i v) ∙ a q k i
            | false ↦ λ v.
                elim (eqb id i) as (λ w. eqb id i ≡ w → is_held q k (cond w (Some e) (g i)) ≡ names k i (u q)) [
                  | true ↦ λ w. new q k b ∙ sym (old q k b) ∙ ap (λ n. is_held q k (g n)) (eqb-true id i w) ∙ a q k i
                  | false ↦ λ w. a q k i
                ] refl
          ] refl
    ] refl
