-- What a single value of a TOML tree says in a nodes file.
use Rattle.std.specs.Prelude.{ℕ, ◌&&◌, nat_le, ◌==◌, if◌then◌else◌, List, [], ◌∷◌, map, pos, Option, Some, None, option_map, option_and_then}
use Rattle.std.specs.{Result.result_ok, List.list_all}
use Rattle.toml.specs.Data.{Data, integer, Items, no_items, item, Members, no_members, member, as_str, as_array, as_table}
use Rattle.dist_names.specs.{Bytes.is_printable, NodeName.name_of_bytes, declared.flags.Flags.Flags}
use Rattle.dist_names.specs.Digits as digits
use Rattle.dist_core_setup.specs.declared.version.Version.{Version}
use Rattle.dist_core_setup.specs.declared.version.Version.TheVariants as version
use Rattle.dist_secret.specs.{Cookie.cookie_of, Cookies.CookieTable, Cookies.is_full_for, Cookies.with_cookie}

-- a whole number within these bounds
abbrev pub number_in : ℕ → ℕ → Data → Option ℕ
number_in least most (integer (pos n)) = if nat_le least n && nat_le n most then Some n else None
number_in least most _ = None

-- a text that is the name of a node
abbrev pub name_in : Data → Option (List ℕ)
name_in value = option_and_then (λ text. result_ok (name_of_bytes text)) (as_str value)

-- a text of printable ASCII characters, spaces among them, that is a cookie
abbrev pub cookie_in : Data → Option (List ℕ)
cookie_in value = option_and_then (λ text. if list_all is_printable text then result_ok (cookie_of text) else None) (as_str value)

-- a further cookie, where there is room for it
abbrev pub cookies_with : CookieTable → Option (List ℕ) → Option (List ℕ) → Option CookieTable
cookies_with cookies (Some name) (Some cookie) = if is_full_for cookies name then None else Some (with_cookie cookies name cookie)
cookies_with cookies _ _ = None

-- these cookies, and then those of a table: its keys are names, and its values are cookies
abbrev pub cookies_of : CookieTable → Members → Option CookieTable
cookies_of cookies no_members = Some cookies
cookies_of cookies (member key value rest) = option_and_then (λ more. cookies_of more rest)
    (cookies_with cookies (result_ok (name_of_bytes key)) (cookie_in value))

-- these cookies, and then those of a value that is a table
abbrev pub cookies_in : CookieTable → Data → Option CookieTable
cookies_in cookies value = option_and_then (cookies_of cookies) (as_table value)

-- a version, 5 or 6
abbrev pub version_in : Data → Option Version
version_in value = option_map (λ n. if n == 5 then version.Five else version.Six) (number_in 5 6 value)

-- a text that writes flags
abbrev pub flags_in : Data → Option Flags
flags_in value = option_and_then digits.flags_in (as_str value)

-- what each one is, where each is something
abbrev pub all_some : {T : Type 0} → List (Option T) → Option (List T)
all_some [] = Some []
all_some (None ∷ others) = None
all_some (Some x ∷ others) = option_map (λ xs. x ∷ xs) (all_some others)

-- the items of an array, in order
abbrev pub list_of : Items → List Data
list_of no_items = []
list_of (item value items) = value ∷ list_of items

-- the values of an array, in order
abbrev pub array_in : Data → Option (List Data)
array_in value = option_map list_of (as_array value)

-- an array of names
abbrev pub names_in : Data → Option (List (List ℕ))
names_in value = option_and_then (λ values. all_some (map name_in values)) (array_in value)
