-- The parts of a text.
use Rattle.std.specs.Prelude.{ℕ, suc, ◌==◌, if◌then◌else◌, List, [], ◌∷◌, length, Option, Some, None}

-- parts with c put before the first of them
abbrev pub before_first : ℕ → List (List ℕ) → List (List ℕ)
before_first c [] = (c ∷ []) ∷ []
before_first c (part ∷ parts) = (c ∷ part) ∷ parts

-- what stands between the places of this byte in a text, which may be nothing
abbrev pub parts_of : ℕ → List ℕ → List (List ℕ)
parts_of byte [] = [] ∷ []
parts_of byte (c ∷ cs) = if c == byte then [] ∷ parts_of byte cs else before_first c (parts_of byte cs)

-- the parts that are left where this is what is left of the text
abbrev pub parts_in : ℕ → Option (List ℕ) → List (List ℕ)
parts_in byte None = []
parts_in byte (Some text) = parts_of byte text

-- this many bytes are left, and one more where a part is
abbrev pub bytes_left : Option (List ℕ) → ℕ
bytes_left None = 0
bytes_left (Some text) = suc (length text)

-- the lines of a text: what stands between its line feeds
abbrev pub lines_of : List ℕ → List (List ℕ)
lines_of text = parts_of 10 text
