-- What is printed: the pieces of a line, and the lines of a verdict.
use Rattle.std.specs.Prelude.{◌≡◌, ◌==◌, Bool, true, false, ℕ, List, [], ◌∷◌, codes, decimal, if◌then◌else◌}
use Rattle.std.specs.{Fmt.digits, List.concat, List.flat_map, Net.Text.ip_text}
use Rattle.dist_flags.specs.{Names.all_flags, Names.flag_of, Names.name_of, declared.dflag.Dflag.Dflag}
use Rattle.dist_names.specs.{Escaped.escapes_of, Escaped.in_double_quotes, Flags.has_all}
use Rattle.distping_report.specs.declared.piece.LinePiece.{LinePiece}
use Rattle.distping_report.specs.declared.piece.LinePiece.TheVariants as piece
use Rattle.dist_talk.specs.{declared.verdict.HandshakeVerdict.HandshakeVerdict, Words.status_of, Words.verdict_word}

-- a mark in a colour of the terminal, and the usual colour behind it: 32 is green, 31 red
abbrev pub in_color : List ℕ → List ℕ → List ℕ
in_color color mark = concat ((0x1b ∷ codes "[") ∷ color ∷ codes "m" ∷ mark ∷ (0x1b ∷ codes "[0m") ∷ [])

-- a check mark and a cross, in UTF-8
abbrev pub check : List ℕ
check = 0xe2 ∷ 0x9c ∷ 0x93 ∷ []

abbrev pub cross : List ℕ
cross = 0xe2 ∷ 0x9c ∷ 0x97 ∷ []

-- the mark of an exit status: a check mark for 0, else a cross, plain or in its colour
abbrev pub mark_of : Bool → ℕ → List ℕ
mark_of false status = if status == 0 then check else cross
mark_of true status = if status == 0 then in_color (codes "32") check else in_color (codes "31") cross

-- THE LINES OF A VERDICT begin with the mark of its status, two blanks, its word and a colon; its cause and its remedy follow
pub record IsVerdictText (v : HandshakeVerdict) (text : List ℕ) : Type 0 where
  pub has_colors : Bool
  pub behind : List (List ℕ)
  pub is : text ≡ concat (mark_of has_colors (status_of v) ∷ codes "  " ∷ verdict_word v ∷ codes ": " ∷ behind)

-- a blank and the name of a flag, if it is among these flags
abbrev pub flag_text : ℕ → Dflag → List ℕ
flag_text flags flag = if has_all flags (flag_of flag) then 0x20 ∷ name_of flag else []

-- THE TEXT OF A PIECE of a line. Bytes from another machine or the user are escaped; a name is also put between double quotes. Numbers
-- are decimal, flags hexadecimal or by name. An address has its usual text, without a port.
abbrev pub piece_text : LinePiece → List ℕ
piece_text (piece.Text own) = own.now
piece_text (piece.Name bytes) = in_double_quotes bytes.now
piece_text (piece.Foreign bytes) = escapes_of bytes.now
piece_text (piece.Escaped text) = text.now
piece_text (piece.Number number) = decimal number
piece_text (piece.Digits flags) = digits 16 false flags.0
piece_text (piece.Names flags) = flat_map (flag_text flags.0) all_flags
piece_text (piece.Host host) = ip_text host
