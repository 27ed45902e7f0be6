-- Cookies by peer: a finite map from names to cookies, and a cookie for every other name.
use Rattle.std.specs.Prelude.{◌≡◌, ℕ, Bool, true, false, not, ◌&&◌, ◌==◌, nat_le, List, length, codes, Option, Some, None, unwrap_or, is_none, is_some}
use Rattle.std.specs.Prelude.{Result, Ok, Err}
use Rattle.std.specs.{BTreeMap.is_at, BTreeMap.insert_entry, Cmp.Lexicographic.pointwise, Map.lookup, Map.remove_entry}
use Rattle.dist_names.specs.Order.{Name, name_cmp, same_name}
use Rattle.dist_secret.specs.declared.cookies_error.CookiesError.{CookiesError, TheVariants.Full, TheVariants.NoMemory}

-- the cookie of each name that has its own, in the order of the names, and the usual one, that of all others
pub record CookieTable : Type 0 where
  pub usual : List ℕ
  pub own : List (Name × List ℕ)

-- the cookie that a name has of its own, where there is one
abbrev pub own_cookie : CookieTable → Name → Option (List ℕ)
own_cookie table name = lookup (is_at (name_cmp name)) table.own

-- THE COOKIE FOR A PEER: its own, and the usual one where it has none
abbrev pub cookie_for : CookieTable → Name → List ℕ
cookie_for table name = unwrap_or (own_cookie table name) table.usual

-- the cookies where this name has this cookie, and every other name has what it had
abbrev pub with_cookie : CookieTable → Name → List ℕ → CookieTable
with_cookie table name cookie = record table { own = insert_entry name_cmp table.own name cookie }

-- the cookies where this name has no cookie of its own, and every other name has what it had
abbrev pub without_cookie : CookieTable → Name → CookieTable
without_cookie table name = record table { own = remove_entry (is_at (name_cmp name)) table.own }

-- the cookies once this name has this cookie of its own, or none
abbrev pub keyed : CookieTable → Name → Option (List ℕ) → CookieTable
keyed table name (Some cookie) = with_cookie table name cookie
keyed table name None = without_cookie table name

-- this cookie differs from the one for this name; none always counts as different
abbrev pub rekeys : CookieTable → Name → Option (List ℕ) → Bool
rekeys table name (Some cookie) = not (pointwise ◌==◌ (cookie_for table name) cookie)
rekeys table name None = true

-- the name has a cookie of its own
abbrev pub owns : CookieTable → Name → Bool
owns table name = is_some (own_cookie table name)

-- the cookies with this usual one, that of every name that has none of its own
abbrev pub with_usual : CookieTable → List ℕ → CookieTable
with_usual table cookie = record table { usual = cookie }

-- a further name finds no room: 1,024 names have cookies of their own (our own limit), and this name has none
abbrev pub is_full_for : CookieTable → Name → Bool
is_full_for table name = is_none (own_cookie table name) && nat_le 1024 (length table.own)

-- every other name has the cookie that it had
abbrev pub OthersKeep : Name → CookieTable → CookieTable → Type 0
OthersKeep name old new = (other : Name) → same_name name other ≡ false → cookie_for new other ≡ cookie_for old other

-- every name that has a cookie of its own has the same one afterwards
abbrev pub OwnersKeep : CookieTable → CookieTable → Type 0
OwnersKeep old new = (name : Name) → owns old name ≡ true → cookie_for new name ≡ cookie_for old name

-- every name that had none of its own has this one afterwards
abbrev pub OthersHave : List ℕ → CookieTable → CookieTable → Type 0
OthersHave cookie old new = (name : Name) → owns old name ≡ false → cookie_for new name ≡ cookie

-- the call set the cookie; or it was refused and changed nothing, and memory runs out only where there was room
abbrev pub Sets : {T : Type 0} → Result T CookiesError → Name → List ℕ → CookieTable → CookieTable → Type 0
Sets (Ok x) name cookie old new = (is_full_for old name ≡ false) × (new ≡ with_cookie old name cookie)
Sets (Err Full) name cookie old new = (is_full_for old name ≡ true) × (new ≡ old)
Sets (Err NoMemory) name cookie old new = (is_full_for old name ≡ false) × (new ≡ old)

-- the word that a program prints for a refusal
abbrev pub refusal_name : CookiesError → List ℕ
refusal_name Full = codes "Full"
refusal_name NoMemory = codes "NoMemory"
