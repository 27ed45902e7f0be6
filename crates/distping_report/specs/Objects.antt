-- JSON OBJECTS, each on a line of its own: which members they have, in which order, and the value of each.
use Rattle.std.specs.Prelude.{◌≡◌, ℕ, List, [], ◌∷◌, ◌++◌, ◌<◌, ◌≤◌, suc, max, Bool, false, Option, Some, None, All, decimal, filter, map}
use Rattle.std.specs.{Borrow.Bor, Fmt.digits, Net.Text.ip_text}
use Rattle.dist_flags.specs.{Names.all_flags, Names.flag_of, Names.name_of, declared.dflag.Dflag.Dflag}
use Rattle.dist_names.specs.{Escaped.escapes_of, Flags.has_all}
use Rattle.json.specs.Json.{Json, Items, no_items, item, Members, document, max_depth}
use Rattle.json.specs.{Print.print, Token.Token, Tree.json_tokens, Written.Written}
use Rattle.json.specs.Json as json
use Rattle.distping_report.specs.declared.objects.member.Value.{Value}
use Rattle.distping_report.specs.declared.objects.member.Value.TheVariants as value

-- ---- JSON values

mutual
  pub data Shape : Type 0 where
    nothing : Shape
    truth : Bool → Shape
    number : ℕ → Shape
    text : List ℕ → Shape
    -- a list of texts
    texts : List (List ℕ) → Shape
    -- an object with these members
    object : Layout → Shape
    -- a list of objects
    objects : Layouts → Shape

  -- members in their order, each with its name
  pub data Layout : Type 0 where
    no_member : Layout
    member : List ℕ → Shape → Layout → Layout

  -- objects in their order, each by its members
  pub data Layouts : Type 0 where
    no_object : Layouts
    one_object : Layout → Layouts → Layouts

-- texts, as the items of a list
abbrev pub texts_in : List (List ℕ) → Items
texts_in [] = no_items
texts_in (s ∷ ss) = item (json.string s) (texts_in ss)

-- the JSON value
abbrev mutual
  pub json_of : Shape → Json
  json_of nothing = json.null
  json_of (truth b) = json.boolean b
  json_of (number n) = json.number (decimal n)
  json_of (text s) = json.string s
  json_of (texts ss) = json.array (texts_in ss)
  json_of (object l) = json.object (members_in l)
  json_of (objects ls) = json.array (objects_in ls)

  pub members_in : Layout → Members
  members_in no_member = json.no_members
  members_in (member name s l) = json.member name (json_of s) (members_in l)

  pub objects_in : Layouts → Items
  objects_in no_object = no_items
  objects_in (one_object l ls) = item (json.object (members_in l)) (objects_in ls)

-- the text of an object with these members
abbrev pub object_text : Layout → List ℕ
object_text l = print (json_tokens (json.object (members_in l)))

-- A LINE OF JSON: the text of the object with these members, which reads back as that object, and a line feed.
pub record IsObjectLine (l : Layout) (line : List ℕ) : Type 0 where
  pub is : line ≡ object_text l ++ 10 ∷ []
  pub reads : document (object_text l) ≡ Some (json.object (members_in l))
  -- it has no control character, and so no other line feed
  pub one_line : All (λ b. 0x20 ≤ b) (object_text l)

-- a number, or null
abbrev pub number_or_null : Option ℕ → Shape
number_or_null None = nothing
number_or_null (Some n) = number n

-- a text, or null
abbrev pub text_or_null : Option (List ℕ) → Shape
text_or_null None = nothing
text_or_null (Some s) = text s

-- the names of those of some flags that are set in these
abbrev pub names_among : ℕ → List Dflag → List (List ℕ)
names_among flags some = map name_of (filter (λ flag. has_all flags (flag_of flag)) some)

-- the names of flags, from the lowest bit up
abbrev pub flag_names : ℕ → List (List ℕ)
flag_names flags = names_among flags all_flags

-- ---- for the clauses of the writer

-- the shape in which a value is written
abbrev pub shape_of : Value → Shape
shape_of value.Null = nothing
shape_of (value.Bool b) = truth b
shape_of (value.Number n) = number n
shape_of (value.Text s) = text s.now
shape_of (value.Escaped s) = text s.now
shape_of (value.Name bytes) = text (escapes_of bytes.now)
shape_of (value.Digits flags) = text (digits 16 false flags.0)
shape_of (value.Names flags) = texts (flag_names flags.0)
shape_of (value.Host host) = text (ip_text host)

abbrev pub layout_of : List (Bor (List ℕ) × Value) → Layout
layout_of [] = no_member
layout_of (m ∷ ms) = member m.0.now (shape_of m.1) (layout_of ms)

-- the tokens of members, without the closing brace
abbrev pub front : Layout → List Token
front no_member = []
front (member name s l) = Token.key name ∷ (json_tokens (json_of s) ++ front l)

-- the tokens of objects, without the brackets of their list
abbrev pub object_tokens : Layouts → List Token
object_tokens no_object = []
object_tokens (one_object l ls) = json_tokens (json.object (members_in l)) ++ object_tokens ls

-- the tokens of one value were appended
pub record PutsValue (s : Shape) (old new : Written) : Type 0 where
  pub tokens : new.tokens ≡ old.tokens ++ json_tokens (json_of s)
  pub before : new.before ≡ old.before

-- the tokens of these members were appended
pub record PutsMembers (l : Layout) (old new : Written) : Type 0 where
  pub tokens : new.tokens ≡ old.tokens ++ front l
  pub before : new.before ≡ old.before

-- the tokens of these objects were appended
pub record PutsObjects (ls : Layouts) (old new : Written) : Type 0 where
  pub tokens : new.tokens ≡ old.tokens ++ object_tokens ls
  pub before : new.before ≡ old.before

-- an object was begun, with nothing before it
pub record BeginsLine (begun : Written) : Type 0 where
  pub tokens : begun.tokens ≡ Token.begin_object ∷ []
  pub before : begun.before ≡ []

-- how deep objects and lists nest in a value
abbrev mutual
  pub levels : Shape → ℕ
  levels (texts ss) = 1
  levels (object l) = suc (layout_levels l)
  levels (objects ls) = suc (object_levels ls)
  levels s = 0

  pub layout_levels : Layout → ℕ
  layout_levels no_member = 0
  layout_levels (member name s l) = max (levels s) (layout_levels l)

  pub object_levels : Layouts → ℕ
  object_levels no_object = 0
  object_levels (one_object l ls) = max (suc (layout_levels l)) (object_levels ls)

-- one member of this name was appended
pub record PutsNamed (name : List ℕ) (old new : Written) : Type 0 where
  pub shape : Shape
  pub flat : levels shape ≤ 3
  pub put : PutsMembers (member name shape no_member) old new

-- if an object was begun and these members were written, the line is that object
abbrev pub EndsLine : Written → List ℕ → Type 0
EndsLine last line = (begun : Written) → BeginsLine begun → (l : Layout) → layout_levels l < max_depth → PutsMembers l begun last → IsObjectLine l line
