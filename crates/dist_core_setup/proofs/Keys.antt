-- Which digests a change of cookies does not change.
use Rattle.std.proofs.{Common.not, Common.is_some, Common.unwrap_or, Common.is_eq, lemmas.Bool.false≢true}
use Rattle.std.specs.{BTreeMap.is_at, BTreeMap.insert_entry, Map.lookup, Map.remove_entry, Ordering.match_ordering}
use Rattle.std.specs.declared.cmp.{Ordering.Ordering, Ordering.TheVariants.Less, Ordering.TheVariants.Equal, Ordering.TheVariants.Greater}
use Rattle.dist_names.specs.Order.{Name, name_cmp, same_name}
use Rattle.dist_names.proofs.Orders.{one_lem, itself_lem}
use Rattle.dist_messages.proofs.Words.{◌≡◌, ℕ, Bool, true, false, cond, List, [], ◌∷◌, ◌==◌, Some, None, Option, sym, refl, ap, ◌∙◌, subst, pointwise}
use Rattle.dist_messages.proofs.Words.{same_text}
use Rattle.dist_secret.specs.{Cookies.CookieTable, Cookies.own_cookie, Cookies.cookie_for, Cookies.keyed, Cookies.rekeys, Cookies.with_cookie, Digest.digest_of}
use Rattle.dist_core_setup.specs.Changing.{DigestsStay, has_own_cookie, with_own_cookie, keyed_usually, letting_in}
use Rattle.dist_core_setup.specs.{Rules.own_digest, declared.setup.Setup.Setup}

abbrev Row : Type 0
Row = Name × List ℕ

apart : (p q : Name) → same_name p q ≡ false → same_name q p ≡ false
apart p q h = by (same_name q p) refl
  where
    by : (b : Bool) → same_name q p ≡ b → same_name q p ≡ false
    by false e = e
    by true e = absurd (false≢true (sym h ∙ subst (λ (x : Name). same_name p x ≡ true) (sym (one_lem q p e)) (itself_lem p)))

-- a name finds the cookie that it found, where another's row is put in
found-before : (q k : Name) (v : List ℕ) (e : Row) (es : List Row) (o : Ordering) → name_cmp k e.0 ≡ o → same_name q k ≡ false
    → lookup (is_at (name_cmp q)) (insert_entry name_cmp es k v) ≡ lookup (is_at (name_cmp q)) es
    → lookup (is_at (name_cmp q)) (match_ordering o ((k, v) ∷ e ∷ es) ((e.0, v) ∷ es) (e ∷ insert_entry name_cmp es k v)) ≡ lookup (is_at (name_cmp q)) (e ∷ es)
found-before q k v e es Less at h more = ap (λ b. cond b (Some v) (lookup (is_at (name_cmp q)) (e ∷ es))) h
found-before q k v e es Equal at h more =
    let off : same_name q e.0 ≡ false = subst (λ (x : Name). same_name q x ≡ false) (one_lem k e.0 (ap is_eq at)) h in
    ap (λ b. cond b (Some v) (lookup (is_at (name_cmp q)) es)) off ∙ sym (ap (λ b. cond b (Some e.1) (lookup (is_at (name_cmp q)) es)) off)
found-before q k v e es Greater at h more = ap (λ found. cond (same_name q e.0) (Some e.1) found) more

found : (q k : Name) (v : List ℕ) (es : List Row) → same_name q k ≡ false → lookup (is_at (name_cmp q)) (insert_entry name_cmp es k v) ≡ lookup (is_at (name_cmp q)) es
found q k v [] h = ap (λ b. cond b (Some v) None) h
found q k v (e ∷ es) h = found-before q k v e es (name_cmp k e.0) refl h (found q k v es h)

-- ... and where another's row is taken out
left-before : (q p : Name) (e : Row) (es : List Row) (b : Bool) → same_name p e.0 ≡ b → same_name p q ≡ false
    → lookup (is_at (name_cmp q)) (remove_entry (is_at (name_cmp p)) es) ≡ lookup (is_at (name_cmp q)) es
    → lookup (is_at (name_cmp q)) (cond b es (e ∷ remove_entry (is_at (name_cmp p)) es)) ≡ lookup (is_at (name_cmp q)) (e ∷ es)
left-before q p e es true at h more =
    let off : same_name q e.0 ≡ false = subst (λ (x : Name). same_name q x ≡ false) (one_lem p e.0 at) (apart p q h) in
    sym (ap (λ b. cond b (Some e.1) (lookup (is_at (name_cmp q)) es)) off)
left-before q p e es false at h more = ap (λ found. cond (same_name q e.0) (Some e.1) found) more

left : (q p : Name) (es : List Row) → same_name p q ≡ false → lookup (is_at (name_cmp q)) (remove_entry (is_at (name_cmp p)) es) ≡ lookup (is_at (name_cmp q)) es
left q p [] h = refl
left q p (e ∷ es) h = left-before q p e es (same_name p e.0) refl h (left q p es h)

cookie-stays : (t : CookieTable) (p q : Name) (own : Option (List ℕ)) → same_name p q ≡ false → cookie_for (keyed t p own) q ≡ cookie_for t q
cookie-stays t p q (Some cookie) h = ap (λ (o : Option (List ℕ)). unwrap_or o t.usual) (found q p cookie t.own (apart p q h))
cookie-stays t p q None h = ap (λ (o : Option (List ℕ)). unwrap_or o t.usual) (left q p t.own h)

-- a name finds the cookie that is put in for it
here-before : (k : Name) (v : List ℕ) (e : Row) (es : List Row) (o : Ordering) → name_cmp k e.0 ≡ o
    → lookup (is_at (name_cmp k)) (insert_entry name_cmp es k v) ≡ Some v
    → lookup (is_at (name_cmp k)) (match_ordering o ((k, v) ∷ e ∷ es) ((e.0, v) ∷ es) (e ∷ insert_entry name_cmp es k v)) ≡ Some v
here-before k v e es Less at more = ap (λ b. cond b (Some v) (lookup (is_at (name_cmp k)) (e ∷ es))) (itself_lem k)
here-before k v e es Equal at more = ap (λ b. cond b (Some v) (lookup (is_at (name_cmp k)) es)) (ap is_eq at)
here-before k v e es Greater at more = ap (λ b. cond b (Some e.1) (lookup (is_at (name_cmp k)) (insert_entry name_cmp es k v))) (ap is_eq at) ∙ more

here : (k : Name) (v : List ℕ) (es : List Row) → lookup (is_at (name_cmp k)) (insert_entry name_cmp es k v) ≡ Some v
here k v [] = ap (λ b. cond b (Some v) None) (itself_lem k)
here k v (e ∷ es) = here-before k v e es (name_cmp k e.0) refl (here k v es)

cookie-set : (t : CookieTable) (p : Name) (cookie : List ℕ) → cookie_for (with_cookie t p cookie) p ≡ cookie
cookie-set t p cookie = ap (λ (o : Option (List ℕ)). unwrap_or o t.usual) (here p cookie t.own)

some-either : (o : Option (List ℕ)) (x y : List ℕ) → is_some o ≡ true → unwrap_or o x ≡ unwrap_or o y
some-either (Some c) x y h = refl
some-either None x y h = absurd (false≢true h)

pub others-stay : (s : Setup) (p q : Name) (own : Option (List ℕ)) → same_name p q ≡ false → DigestsStay s (with_own_cookie s p own) q
unfolding own_digest
others-stay s p q own h challenge = ap (λ c. digest_of c challenge) (cookie-stays s.cookies p q own h)

alike : (a b : List ℕ) → not (pointwise ◌==◌ a b) ≡ false → b ≡ a
alike a b h = by (pointwise ◌==◌ a b) refl
  where
    by : (x : Bool) → pointwise ◌==◌ a b ≡ x → b ≡ a
    by true e = sym (same_text a b (sym e))
    by false e = absurd (false≢true (sym h ∙ ap not e))

-- where a peer gets the cookie that it has, its digests stay
pub same-stays : (s : Setup) (p : Name) (own : Option (List ℕ)) → rekeys s.cookies p own ≡ false → DigestsStay s (with_own_cookie s p own) p
unfolding own_digest
same-stays s p None h challenge = absurd (false≢true (sym h))
same-stays s p (Some cookie) h challenge = ap (λ c. digest_of c challenge) (cookie-set s.cookies p cookie ∙ alike (cookie_for s.cookies p) cookie h)

pub owners-stay : (s : Setup) (p : Name) (cookie : List ℕ) → has_own_cookie s p ≡ true → DigestsStay s (keyed_usually s cookie) p
unfolding own_digest
owners-stay s p cookie h challenge = ap (λ c. digest_of c challenge) (some-either (let t = s.cookies in own_cookie t p) cookie (let t = s.cookies in t.usual) h)

pub all-stay : (s : Setup) (names : Option (List Name)) (p : Name) → DigestsStay s (letting_in s names) p
unfolding own_digest
all-stay s names p challenge = refl
