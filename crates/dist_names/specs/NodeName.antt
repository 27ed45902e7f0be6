-- Which bytes are a node's name, its two parts, and why other bytes are no name.
--
-- The ERTS User's Guide (Distribution Protocol) gives a name as text with one `@`. That it has 3 to 255 bytes, each a
-- printable ASCII character and no space, and that neither part is empty, is our own choice.
use Rattle.std.specs.Prelude.{◌≡◌, ℕ, ◌<◌, ◌≤◌, Bool, ◌&&◌, not, List, length, count_by, Result, Ok, Err, nat_lt, ◌==◌, IsTrue, if◌then◌else◌}
use Rattle.std.specs.List.{before_first, after_first, list_all}
use Rattle.dist_names.specs.declared.name_error.NameError.TheVariants.{TooShort, TooLong, BadByte, BadAt}
use Rattle.dist_names.specs.{Bytes.is_visible, declared.name_error.NameError.NameError}

-- the character '@'
abbrev pub is_separator : ℕ → Bool
is_separator byte = byte == 0x40

-- the short name, before the separator
abbrev pub short_of : List ℕ → List ℕ
short_of name = before_first is_separator name

-- the host, after it
abbrev pub host_of : List ℕ → List ℕ
host_of name = after_first is_separator name

-- one separator, and no part is empty
abbrev pub has_two_parts : List ℕ → Bool
has_two_parts name = (count_by is_separator name == 1) && (nat_lt 0 (length (short_of name)) && nat_lt 0 (length (host_of name)))

-- what holds of every node name; that it has at least 3 bytes follows
pub record IsNodeName (name : List ℕ) : Type 0 where
  pub least : 3 ≤ length name
  pub most : length name ≤ 255
  pub bytes : IsTrue (list_all is_visible name)
  pub separator : count_by is_separator name ≡ 1
  pub short : 0 < length (short_of name)
  pub host : 0 < length (host_of name)

-- the bytes where they are a name, or the first reason why they are none
abbrev pub name_of_bytes : List ℕ → Result (List ℕ) NameError
name_of_bytes bytes =
    if nat_lt (length bytes) 3 then Err TooShort else (
    if nat_lt 255 (length bytes) then Err TooLong else (
    if not (list_all is_visible bytes) then Err BadByte else (
    if not (has_two_parts bytes) then Err BadAt else Ok bytes)))
