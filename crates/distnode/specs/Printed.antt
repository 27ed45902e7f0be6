-- WHAT `cookie` AND `names` PRINT.
use Rattle.std.specs.Prelude.{◌≡◌, ◌==◌, ◌||◌, ℕ, Bool, true, false, List, ◌∷◌, [], length, codes, decimal, Option, Ok}
use Rattle.std.specs.{List.All, List.concat, List.ends_with, Io.KnownBytes.Appends}
use Rattle.hex.specs.Hex.{encode_lower}
use Rattle.dist_names.specs.Escaped.{escaped_lines, IsPrintableOrLineFeed}
use Rattle.dist_secret.specs.{Digest.digest_of, Hearing.Hears}
use Rattle.dist_stream.specs.Stream.{StreamState}
use Rattle.dist_epmd.specs.declared.message.Request.TheVariants.{Names}
use Rattle.dist_epmd_calls.specs.Asking.{AsksFor, names_meant}

-- ---- `cookie`

-- cookie of L bytes, digest of C is HEX
abbrev pub cookie_line : List ℕ → ℕ → List ℕ
cookie_line cookie challenge =
    concat (codes "cookie of " ∷ decimal (length cookie) ∷ codes " bytes, digest of " ∷ decimal challenge
    ∷ codes " is " ∷ encode_lower (digest_of cookie challenge) ∷ codes "\n" ∷ [])

-- the line of the cookie that was read was written
abbrev pub PrintsCookie : Option (List ℕ) → Option (List ℕ) → ℕ → Option (List ℕ) → Option (List ℕ) → Type 0
PrintsCookie before after challenge old new = (cookie : List ℕ) × Hears before after (Ok cookie) × Appends old new (cookie_line cookie challenge)

-- ---- `names`

-- THE TEXT OF THE ANSWER AS IT IS PRINTED: on a terminal each line is escaped
abbrev pub answer_text : Bool → List ℕ → List ℕ
answer_text true text = escaped_lines text
answer_text false text = text

-- a text that consists of whole lines, or is empty: any other was cut off
abbrev pub has_whole_lines : List ℕ → Bool
has_whole_lines text = length text == 0 || ends_with ◌==◌ text (0x0A ∷ [])

-- the text of the answer to the question for all nodes was written, after at most this many turns; no terminal acts on its bytes, and it
-- ends with a line
abbrev pub PrintsNames : Bool → StreamState → StreamState → ℕ → Option (List ℕ) → Option (List ℕ) → Type 0
PrintsNames terminal before after turns old new =
    (port : ℕ) × (text : List ℕ) × AsksFor Names before after turns names_meant (Ok (port, text))
    × (has_whole_lines text ≡ true) × (terminal ≡ true → All IsPrintableOrLineFeed (answer_text terminal text))
    × Appends old new (answer_text terminal text)
