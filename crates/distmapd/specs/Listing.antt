-- What `-names` prints of an answer, and when the answer is reported as cut.
use Rattle.std.specs.Prelude.{◌≡◌, ℕ, ◌<◌, Bool, false, ◌||◌, ◌&&◌, ◌==◌, List, [], ◌∷◌, ◌++◌, length, take, drop, codes, Option, Result, Ok, Err}
use Rattle.std.specs.Prelude.{if◌then◌else◌, IsTrue}
use Rattle.std.specs.{Int.w32, Int.from_be_bytes, Fmt.decimal, Io.KnownBytes.Appends, List.ends_with}
use Rattle.dist_names.specs.Escaped.{escaped_lines}
use Rattle.distmapd.specs.declared.{answer.ReceivedAnswer.ReceivedAnswer, fault.Fault.Fault}
use Rattle.distmapd.specs.declared.fault.Fault.TheVariants as fault

-- a text that consists of whole lines, or is empty
abbrev pub has_whole_lines : List ℕ → Bool
has_whole_lines text = length text == 0 || ends_with ◌==◌ text (0x0A ∷ [])

-- a line feed if the last line was cut, so that what is printed next begins a line
abbrev pub line_end : List ℕ → List ℕ
line_end text = if has_whole_lines text then [] else 0x0A ∷ []

-- THE LISTING of a port and a text: a line as `epmd -names` prints it, then the text, in which every byte is escaped that is neither
-- printable nor a line feed
unfoldable pub listing : ℕ → List ℕ → List ℕ
listing port text =
    codes "epmd: up and running on port " ++ (decimal port ++ (codes " with data:" ++ (0x0A ∷ (escaped_lines text ++ line_end text))))

-- the listing of an answer that includes the port
abbrev pub listing_of : List ℕ → List ℕ
listing_of bytes = listing (from_be_bytes w32 (take 4 bytes)) (drop 4 bytes)

-- whether an answer with this text is whole: it ended, at the end of a line
abbrev pub is_whole : Bool → List ℕ → Bool
is_whole is_ended text = is_ended && has_whole_lines text

-- WHAT IS PRINTED, BY THE RESULT: the listing of a whole answer; with `AnswerCut` the listing of what arrived; with `NoAnswer` nothing,
-- since the answer ends before its port does
abbrev pub Prints : Option (List ℕ) → Option (List ℕ) → ReceivedAnswer → Result (Unit {0}) Fault → Type 0
Prints old new answer (Ok done) = IsTrue (is_whole answer.is_ended (drop 4 answer.bytes.items)) × Appends old new (listing_of answer.bytes.items)
Prints old new answer (Err fault.AnswerCut) = (is_whole answer.is_ended (drop 4 answer.bytes.items) ≡ false) × Appends old new (listing_of answer.bytes.items)
Prints old new answer (Err fault.NoAnswer) = (length answer.bytes.items < 4) × (new ≡ old)
Prints old new answer (Err fault.WriteFailed) = Unit {0}
Prints old new answer (Err fault.NoMemory) = new ≡ old
Prints old new answer (Err _) = ⊥
