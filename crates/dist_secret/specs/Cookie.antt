-- The cookie of a text, or why the text has none.
use Rattle.std.specs.Prelude.{◌≡◌, ℕ, ◌<◌, ◌≤◌, Bool, false, ◌||◌, not, List, ◌∷◌, ◌++◌, length, drop, Result, Ok, Err, nat_lt, ◌==◌, IsTrue, if◌then◌else◌}
use Rattle.std.specs.List.{list_all, position_or_len, before_first}
use Rattle.dist_names.specs.Bytes.{is_printable}
use Rattle.dist_secret.specs.declared.cookie_error.CookieError.{CookieError, TheVariants.Empty, TheVariants.BadByte, TheVariants.TooLong}

-- a byte that no cookie has
abbrev pub is_other : ℕ → Bool
is_other byte = not (is_printable byte)

-- a line feed, a carriage return or a space
abbrev pub may_follow : ℕ → Bool
may_follow byte = (byte == 0x0A) || ((byte == 0x0D) || (byte == 0x20))

-- what holds of every cookie
pub record IsCookie (cookie : List ℕ) : Type 0 where
  pub least : 0 < length cookie
  pub most : length cookie ≤ 255
  pub bytes : IsTrue (list_all is_printable cookie)

-- the text does not begin with a byte of a cookie
abbrev pub StartsOtherwise : List ℕ → Type 0
StartsOtherwise rest = (first : ℕ) (more : List ℕ) → rest ≡ first ∷ more → is_printable first ≡ false

-- The text is short. It is the cookie and then bytes that may follow; the first of these is not a byte of a cookie.
pub record IsCookieOf (text cookie : List ℕ) : Type 0 where
  pub short : length text ≤ 4096
  pub good : IsCookie cookie
  pub rest : List ℕ
  pub whole : text ≡ cookie ++ rest
  pub ended : StartsOtherwise rest
  pub follow : IsTrue (list_all may_follow rest)

-- ---- the same, computed

-- the longest front of bytes of a cookie
abbrev pub cookie_front : List ℕ → List ℕ
cookie_front text = before_first is_other text

-- what stands behind that front
abbrev pub behind_cookie : List ℕ → List ℕ
behind_cookie text = drop (position_or_len is_other text) text

-- the cookie of a text, or the first reason why it has none
abbrev pub cookie_of : List ℕ → Result (List ℕ) CookieError
cookie_of text =
    if nat_lt 4096 (length text) then Err TooLong else (
    if length (cookie_front text) == 0 then Err Empty else (
    if nat_lt 255 (length (cookie_front text)) then Err TooLong else (
    if not (list_all may_follow (behind_cookie text)) then Err BadByte else Ok (cookie_front text))))
