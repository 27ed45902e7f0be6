-- Words that stand in a line as often as there are cookies, or names.
use Rattle.std.proofs.Common.{append-nil, append_assoc, codes, option_and_then}
use Rattle.dist_secret.specs.Cookies.{CookieTable}
use Rattle.dist_core.proofs.Words.{◌≡◌, ℕ, false, cond, List, [], ◌∷◌, ◌++◌, drop, Some, None, Option, option_map, sym, refl, ap, ◌∙◌, Name}
use Rattle.dist_script.specs.Fields.{◌>>=◌, Read, first_in, give, name_in}
use Rattle.dist_script.specs.Nodes.{begins, further_in, cookies_in, names_in}
use Rattle.dist_script.proofs.Reading.{not_begun}

abbrev Other : List ℕ → List (List ℕ) → Type 0
Other wanted words = (rest : List (List ℕ)) → words ≡ wanted ∷ rest → ⊥

abbrev with_more : List (List ℕ) → Option CookieTable → Read CookieTable
with_more rest o = o >>= (λ more. cookies_in more (drop 2 rest))

a_cookie : (t : CookieTable) (rest : List (List ℕ)) → cookies_in t (codes "cookie" ∷ rest) ≡ with_more rest (further_in t rest)
a_cookie t [] = refl
a_cookie t (peer ∷ []) = elim (name_in peer) as (λ o. None ≡ with_more (peer ∷ []) (option_and_then (λ (p : Name). None) o)) [ None ↦ refl | Some p ↦ refl ]
a_cookie t (peer ∷ cookie ∷ words) = refl

no_cookie : (t : CookieTable) (words : List (List ℕ)) → begins (codes "cookie") words ≡ false → cookies_in t words ≡ give t words
no_cookie t [] e = refl
no_cookie t (word ∷ []) e = ap (λ b. cond b None (give t (word ∷ []))) e
no_cookie t (word ∷ peer ∷ []) e = ap (λ b. cond b None (give t (word ∷ peer ∷ []))) e
no_cookie t (word ∷ peer ∷ cookie ∷ words) e =
    ap (λ b. cond b (with_more (peer ∷ cookie ∷ words) (further_in t (peer ∷ cookie ∷ words))) (give t (word ∷ peer ∷ cookie ∷ words))) e

module _ (first t : CookieTable) (all words : List (List ℕ)) (so : cookies_in first all ≡ cookies_in t words) where
  pub one_cookie : (rest : List (List ℕ)) (o : Option CookieTable) → words ≡ codes "cookie" ∷ rest → further_in t rest ≡ o → cookies_in first all ≡ with_more rest o
  one_cookie rest o e f = so ∙ ap (cookies_in t) e ∙ a_cookie t rest ∙ ap (with_more rest) f

  pub last_cookie : (now : List (List ℕ)) → now ≡ words → Other (codes "cookie") words → cookies_in first all ≡ give t now
  last_cookie now e h = so ∙ no_cookie t words (not_begun (codes "cookie") words h) ∙ ap (give t) (sym e)

-- ---- names

abbrev with_first : List (List ℕ) → Option Name → Option (List Name)
with_first rest o = o >>= (λ first. option_map (λ others. first ∷ others) (names_in (drop 1 rest)))

a_name : (rest : List (List ℕ)) → names_in (codes "allow" ∷ rest) ≡ with_first rest (first_in name_in rest)
a_name [] = refl
a_name (name ∷ words) = refl

no_name : (words : List (List ℕ)) → begins (codes "allow") words ≡ false → (words ≡ [] → ⊥) → names_in words ≡ None
no_name [] e h = absurd (h refl)
no_name (word ∷ []) e h = refl
no_name (word ∷ name ∷ words) e h = ap (λ b. cond b (with_first (name ∷ words) (name_in name)) None) e

pub no_names : (words : List (List ℕ)) → names_in words ≡ option_map (λ rest. [] ++ rest) (names_in words)
no_names words = elim (names_in words) as (λ o. o ≡ option_map (λ rest. [] ++ rest) o) [ None ↦ refl | Some x ↦ refl ]

one_added : {T : Type 0} (found : List T) (x : T) (o : Option (List T)) → option_map (λ rest. found ++ rest) (option_map (λ rest. x ∷ rest) o) ≡ option_map (λ rest. (found ++ x ∷ []) ++ rest) o
one_added found x None = refl
one_added found x (Some rest) = ap Some (sym (append_assoc found (x ∷ []) rest))

module _ (all words : List (List ℕ)) (found : List Name) (so : names_in all ≡ option_map (λ rest. found ++ rest) (names_in words)) where
  next_name : (rest : List (List ℕ)) (o : Option Name) → words ≡ codes "allow" ∷ rest → first_in name_in rest ≡ o → names_in all ≡ option_map (λ rest. found ++ rest) (with_first rest o)
  next_name rest o e f = so ∙ ap (λ ws. option_map (λ rest. found ++ rest) (names_in ws)) e ∙ ap (option_map (λ rest. found ++ rest)) (a_name rest ∙ ap (with_first rest) f)

  pub one_name : (n : Name) (rest : List (List ℕ)) → words ≡ codes "allow" ∷ rest → first_in name_in rest ≡ Some n → names_in all ≡ option_map (λ rest. (found ++ n ∷ []) ++ rest) (names_in (drop 1 rest))
  one_name n rest e f = next_name rest (Some n) e f ∙ one_added found n (names_in (drop 1 rest))

  pub bad_name : (rest : List (List ℕ)) → words ≡ codes "allow" ∷ rest → first_in name_in rest ≡ None → names_in all ≡ None
  bad_name rest e f = next_name rest None e f

  pub other_word : (now : List (List ℕ)) → now ≡ words → Other (codes "allow") words → (now ≡ [] → ⊥) → names_in all ≡ None
  other_word now e h some = so ∙ ap (option_map (λ rest. found ++ rest)) (no_name words (not_begun (codes "allow") words h) (λ f. some (e ∙ f)))

  pub all_named : words ≡ [] → names_in all ≡ Some found
  all_named e = so ∙ ap (λ ws. option_map (λ rest. found ++ rest) (names_in ws)) e ∙ ap Some (append-nil found)
