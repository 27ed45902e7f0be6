-- The line of a script that sets a node up.
use Rattle.std.specs.Prelude.{ℕ, Bool, false, nat_lt, if◌then◌else◌, List, [], ◌∷◌, length, drop, codes, Option, Some, None, option_map}
use Rattle.std.specs.{Result.result_ok, List.list_all}
use Rattle.dist_names.specs.{Bytes.is_visible, Digits.flags_in, Order.Name, Order.same_name, declared.flags.Flags.Flags}
use Rattle.dist_secret.specs.{Cookie.cookie_of, Cookies.CookieTable, Cookies.is_full_for, Cookies.with_cookie}
use Rattle.dist_core_setup.specs.{declared.setup.Setup.Setup, Limits.usual_limits, declared.version.Version.Version}
use Rattle.dist_core_setup.specs.declared.version.Version.TheVariants as version
use Rattle.dist_script.specs.declared.node_line.NodeTerms.{NodeTerms}
use Rattle.dist_script.specs.Fields.{◌>>=◌, Read, next, give, creation_in, name_in}

-- ---- words that may stand there

-- the first word is this one
abbrev pub begins : List ℕ → List (List ℕ) → Bool
begins wanted [] = false
begins wanted (word ∷ words) = same_name word wanted

-- version 5, which is named, or version 6
abbrev pub version_in : List (List ℕ) → Read Version
version_in words =
    if begins (codes "version") words
    then (if begins (codes "5") (drop 1 words) then give version.Five (drop 1 (drop 1 words)) else None)
    else give version.Six words

-- the flags that are required, or none
abbrev pub required_in : List (List ℕ) → Read Flags
required_in words = if begins (codes "require") words then next flags_in give (drop 1 words) else give (record { 0 = 0 }) words

-- ---- cookies

-- a cookie, which is the whole word
abbrev pub cookie_in : List ℕ → Option (List ℕ)
cookie_in word = if list_all is_visible word then result_ok (cookie_of word) else None

-- a further cookie, where there is room for it, and its peer has none of its own yet: then there is one more
abbrev pub cookie_added : CookieTable → Name → List ℕ → Option CookieTable
cookie_added cookies peer cookie =
    if is_full_for cookies peer then None else (
    if nat_lt (length cookies.own) (length (with_cookie cookies peer cookie).own) then Some (with_cookie cookies peer cookie) else None)

-- a peer, and the cookie for it
abbrev pub further_in : CookieTable → List (List ℕ) → Option CookieTable
further_in cookies = next name_in (λ peer. next cookie_in (λ cookie words. cookie_added cookies peer cookie))

-- this cookie for every peer
abbrev pub usual_alone : List ℕ → CookieTable
usual_alone cookie = record { usual = cookie; own = [] }

-- these cookies and further ones, a peer and its cookie behind each word `cookie`
abbrev pub cookies_in : CookieTable → List (List ℕ) → Read CookieTable
cookies_in cookies [] = give cookies []
cookies_in cookies (word ∷ []) = if same_name word (codes "cookie") then None else give cookies (word ∷ [])
cookies_in cookies (word ∷ peer ∷ []) = if same_name word (codes "cookie") then None else give cookies (word ∷ peer ∷ [])
cookies_in cookies (word ∷ peer ∷ cookie ∷ words) =
    if same_name word (codes "cookie")
    then further_in cookies (peer ∷ cookie ∷ words) >>= (λ more. cookies_in more words)
    else give cookies (word ∷ peer ∷ cookie ∷ words)

-- ---- names

-- names to the end of the line, each behind a word `allow`
abbrev pub names_in : List (List ℕ) → Option (List Name)
names_in [] = Some []
names_in (word ∷ []) = None
names_in (word ∷ name ∷ words) =
    if same_name word (codes "allow") then name_in name >>= (λ first. option_map (λ others. first ∷ others) (names_in words)) else None

-- the peers that may connect, where there are such names
abbrev pub allowed_in : List (List ℕ) → Option (Option (List Name))
allowed_in [] = Some None
allowed_in (word ∷ words) = option_map Some (names_in (word ∷ words))

-- ---- the whole line

-- how the node is met
abbrev pub terms_in : List (List ℕ) → Read NodeTerms
terms_in = next flags_in (λ flags. next creation_in (λ creation words.
    version_in words >>= (λ version.
    required_in version.1 >>= (λ required.
    give (record { flags = flags; creation = creation; version = version.0; required = required.0 }) required.1))))

-- what the words behind the cookies say, and the name, with what stands before them
abbrev pub behind_cookies : List ℕ → NodeTerms → CookieTable → List (List ℕ) → Option Setup
behind_cookies name terms cookies words =
    allowed_in words >>= (λ allow.
    name_in name >>= (λ named.
    Some (record {
      name = named;
      cookies = cookies;
      version = terms.version;
      flags = terms.flags;
      required = terms.required;
      creation = terms.creation;
      allow = allow;
      limits = usual_limits;
    })))

-- THE LINE OF A NODE, behind its first word: a name, the usual cookie, how the node is met, the cookies of peers, the names
-- that are allowed
abbrev pub node_in : List (List ℕ) → Option Setup
node_in = next Some (λ name. next Some (λ cookie words.
    terms_in words >>= (λ terms.
    cookie_in cookie >>= (λ usual.
    cookies_in (usual_alone usual) terms.1 >>= (λ cookies.
    behind_cookies name terms.0 cookies.0 cookies.1)))))
