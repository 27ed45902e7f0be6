-- A LINE OF THE LOG, in two forms: a time, a word, and members, each with its name. What a client sent is escaped in both.
use Rattle.std.specs.Prelude.{◌≡◌, ℕ, Bool, List, [], ◌∷◌, ◌++◌, Option, Some, None, length, take, codes, decimal, nat_lt, if◌then◌else◌}
use Rattle.std.specs.{Borrow.Bor, List.flat_map, Net.Text.ip_text}
use Rattle.std.specs.declared.net.ip_addr.IpAddr.{IpAddr}
use Rattle.dist_names.specs.Escaped.{escapes_of, in_double_quotes}
use Rattle.json.specs.{Print.print, Token.Token, Written.Written}
use Rattle.distmapd.specs.declared.{members.LineValue.LineValue, settings.LogForm.LogForm}
use Rattle.distmapd.specs.declared.members.LineValue.TheVariants as value
use Rattle.distmapd.specs.declared.settings.LogForm.TheVariants as form

-- what a member shows
pub data Shown : Type 0 where
  number : ℕ → Shown
  truth : Bool → Shown
  text : List ℕ → Shown
  name : List ℕ → Shown
  host : Option IpAddr → Shown

-- a member: its name, and what it shows
abbrev pub Member : Type 0
Member = List ℕ × Shown

abbrev pub shown_of : LineValue → Shown
shown_of (value.Number n) = Shown.number n
shown_of (value.Bool b) = Shown.truth b
shown_of (value.Text s) = Shown.text s.now
shown_of (value.Name bytes) = Shown.name bytes.now
shown_of (value.Host address) = Shown.host address

abbrev pub member_of : Bor (List ℕ) × LineValue → Member
member_of m = (m.0.now, shown_of m.1)

-- the part of a name that is shown: at most 255 bytes; no registered name is longer
abbrev pub name_front : List ℕ → List ℕ
name_front bytes = if nat_lt (length bytes) 255 then bytes else take 255 bytes

-- as text: an address that is not known is a hyphen
abbrev pub text_of : Shown → List ℕ
text_of (Shown.number n) = decimal n
text_of (Shown.truth b) = if b then codes "true" else codes "false"
text_of (Shown.text s) = in_double_quotes s
text_of (Shown.name bytes) = in_double_quotes (name_front bytes)
text_of (Shown.host None) = codes "-"
text_of (Shown.host (Some address)) = ip_text address

unfoldable pub member_text : Member → List ℕ
member_text m = codes " " ++ (m.0 ++ (codes "=" ++ text_of m.1))

unfoldable pub text_line : List ℕ → List ℕ → List Member → List Member → List ℕ
text_line time word first more = time ++ (codes " distmapd: " ++ (word ++ (flat_map member_text first ++ (flat_map member_text more ++ codes "\n"))))

-- as JSON: an address that is not known is null
abbrev pub token_of : Shown → Token
token_of (Shown.number n) = Token.number (decimal n)
token_of (Shown.truth b) = Token.boolean b
token_of (Shown.text s) = Token.string s
token_of (Shown.name bytes) = Token.string (escapes_of (name_front bytes))
token_of (Shown.host None) = Token.null
token_of (Shown.host (Some address)) = Token.string (ip_text address)

abbrev pub member_tokens : Member → List Token
member_tokens m = Token.key m.0 ∷ token_of m.1 ∷ []

-- the object of a line, whose first members are the time and the word
abbrev pub json_line : List ℕ → List ℕ → List Member → List Member → List ℕ
json_line time word first more =
    let front = (codes "time", Shown.text time) ∷ (codes "event", Shown.text word) ∷ [] in
    let members = flat_map member_tokens front ++ (flat_map member_tokens first ++ (flat_map member_tokens more ++ Token.end_object ∷ [])) in
    print (Token.begin_object ∷ members) ++ codes "\n"

-- these tokens were appended
pub record Appends (tokens : List Token) (old new : Written) : Type 0 where
  pub ends : new.tokens ≡ old.tokens ++ tokens
  pub before : new.before ≡ old.before

-- A LINE in this form
abbrev pub line : LogForm → List ℕ → List ℕ → List Member → List Member → List ℕ
line form.Text time word first more = text_line time word first more
line form.Json time word first more = json_line time word first more
