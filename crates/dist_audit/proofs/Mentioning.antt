-- The numbers of links.
use Rattle.dist_audit.proofs.Words.{◌≡◌, ℕ, suc, Bool, true, false, cond, ◌||◌, eqb, List, [], ◌∷◌, ◌++◌, length, is_some, Some, None, Option, option_map}
use Rattle.dist_audit.proofs.Words.{nat_cmp, BTreeMap, unwrap_or, sym, refl, ap, ◌∙◌, arith, or_parts, nat_tests, get, is_at, AreNumbers, number_of, conn_of}
use Rattle.dist_audit.proofs.Words.{is_among}
use Rattle.std.specs.Cmp.{unsigned_tied}

some-place : (b : Bool) (o : Option ℕ) → is_some (cond b (Some 0) (option_map suc o)) ≡ (b || is_some o)
some-place true o = refl
some-place false None = refl
some-place false (Some n) = refl

pub has_number : (k : ℕ) (ks : List ℕ) → is_some (number_of k ks) ≡ is_among k ks
has_number k [] = refl
has_number k (j ∷ js) = some-place (eqb j k) (number_of k js) ∙ ap (λ b. eqb j k || b) (has_number k js)

next-place : (b : Bool) (o : Option ℕ) (n : ℕ) → unwrap_or (cond b (Some 0) (option_map suc o)) (suc n) ≡ cond b 0 (suc (unwrap_or o n))
next-place true o n = refl
next-place false None n = refl
next-place false (Some m) n = refl

pub number_is : (k : ℕ) (ks : List ℕ) → unwrap_or (number_of k ks) (length ks) ≡ conn_of k ks
number_is k [] = refl
number_is k (j ∷ js) = next-place (eqb j k) (number_of k js) (length js) ∙ ap (λ n. cond (eqb j k) 0 (suc n)) (number_is k js)

-- where one more link has its number behind the others
behind : (b c : Bool) (n : ℕ) (o : Option ℕ) → (b ≡ true → c ≡ false) → cond b (Some 0) (option_map suc (cond c (Some n) o)) ≡ cond c (Some (suc n)) (cond b (Some 0) (option_map suc o))
behind true true n o h = let e : true ≡ false = h refl in cc
behind true false n o h = refl
behind false true n o h = refl
behind false false n o h = refl

apart : (j k q : ℕ) → eqb j k ≡ false → eqb j q ≡ true → eqb k q ≡ false
apart j k q e f = grind (arith, nat_tests)

pub number_more : (q k : ℕ) (ks : List ℕ) → is_among k ks ≡ false → number_of q (ks ++ k ∷ []) ≡ cond (eqb k q) (Some (length ks)) (number_of q ks)
number_more q k [] h = refl
number_more q k (j ∷ js) h =
    ap (λ (o : Option ℕ). cond (eqb j q) (Some 0) (option_map suc o)) (number_more q k js (or_parts (eqb j k) (is_among k js) h).1)
    ∙ behind (eqb j q) (eqb k q) (length js) (number_of q js) (apart j k q (or_parts (eqb j k) (is_among k js) h).0)

-- ---- the map of the numbers

module _ (m : BTreeMap ℕ ℕ) (ks : List ℕ) (h : AreNumbers m ks) (k : ℕ) where
  pub among : is_some (get nat_cmp m k) ≡ is_among k ks
  among = ap (λ (o : Option ℕ). is_some o) (h k) ∙ has_number k ks

  pub number_found : (n : ℕ) → Some n ≡ get nat_cmp m k → n ≡ conn_of k ks
  number_found n e = ap (λ (o : Option ℕ). unwrap_or o (length ks)) (e ∙ h k) ∙ number_is k ks

  pub number_absent : None ≡ get nat_cmp m k → length ks ≡ conn_of k ks
  number_absent e = ap (λ (o : Option ℕ). unwrap_or o (length ks)) (e ∙ h k) ∙ number_is k ks

  pub pushed : (new : BTreeMap ℕ ℕ) (js : List ℕ) (n : ℕ) → n ≡ length ks → ((q : ℕ) → get nat_cmp new q ≡ cond (is_at (nat_cmp k) q) (Some n) (get nat_cmp m q)) → js ≡ ks ++ k ∷ [] → is_among k ks ≡ false → AreNumbers new js
  pushed new js n len put is absent q = put q ∙ ((λ i. cond (unsigned_tied k q i) (Some (len i)) (h q i)) ∙ (sym (number_more q k ks absent) ∙ sym (ap (number_of q) is)))
