-- The bytes that the pieces of a printed line make: text, decimal numbers, flags and hexadecimal digits.
use Rattle.std.specs.Prelude.{ℕ, Option, List, [], ◌∷◌, ◌++◌, decimal}
use Rattle.std.specs.{Int.w64, Int.to_be_bytes, Io.StartsWith, Io.KnownBytes.Appends}
use Rattle.hex.specs.Hex.{encode_lower}
use Rattle.dist_names.specs.declared.flags.Flags.{Flags}
use Rattle.dist_script.specs.declared.pieces.Piece.{Piece}
use Rattle.dist_script.specs.declared.pieces.Piece.TheVariants as piece

-- flags in 16 digits of lower case, the highest bits first
abbrev pub flags_text : Flags → List ℕ
flags_text flags = encode_lower (to_be_bytes w64 flags.0)

-- what a piece reads
abbrev pub text_of : Piece → List ℕ
text_of (piece.Text bytes) = bytes.now
text_of (piece.Number value) = decimal value
text_of (piece.Flags flags) = flags_text flags
text_of (piece.Digits bytes) = encode_lower bytes.now

-- what pieces read, one behind the other
abbrev pub texts_of : List Piece → List ℕ
texts_of [] = []
texts_of (p ∷ ps) = text_of p ++ texts_of ps

-- A BEGINNING OF A TEXT was put there: nothing of it, a part, or all
pub record PutsFront (text : List ℕ) (old new : Option (List ℕ)) : Type 0 where
  pub front : List ℕ
  pub begins : StartsWith text front
  pub put : Appends old new front
