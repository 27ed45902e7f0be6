-- What is written in pieces.
use Rattle.std.proofs.{Common.◌/◌, Common.◌%◌, Common.take, Common.get_or, Common.slice_index, lemmas.List.at_drop_more}
use Rattle.std.specs.Io.KnownBytes.{Appends}
use Rattle.hex.specs.Hex.{encode_lower, lower_digits, encode_with}
use Rattle.dist_core.proofs.Words.{take-append-drop, at_drop_all, ◌≡◌, ℕ, ◌+◌, ◌<◌, ◌≤◌, List, [], ◌∷◌, ◌++◌, length, drop, Option, sym, refl, ap, ◌∙◌, arith}
use Rattle.dist_script.specs.{Texts.text_of, Texts.texts_of, Texts.PutsFront, declared.pieces.Piece.Piece}
use Rattle.dist_script.proofs.Fronts.{PutSoFar, more_put, part_put, all_put}

module _ (a b c : Option (List ℕ)) (text : List ℕ) (ps : List Piece) (i : ℕ) (so : PutSoFar text a b (texts_of (drop i ps))) where
  -- one piece more
  pub put_more : (d : Piece) → i < length ps → Appends b c (text_of (get_or ps i d)) → PutSoFar text a c (texts_of (drop (i + 1) ps))
  put_more d lt put = more_put a b c text _ so _ _ put (sym (at_drop_more texts_of ps i d lt))

  -- a beginning of the next piece
  pub put_part : (d : Piece) → i < length ps → PutsFront (text_of (get_or ps i d)) b c → PutsFront text a c
  put_part d lt front = part_put a b c text _ so _ _ front (sym (at_drop_more texts_of ps i d lt))

-- no piece is left
pub put_all : (a b : Option (List ℕ)) (text : List ℕ) (ps : List Piece) (i : ℕ) → PutSoFar text a b (texts_of (drop i ps)) → length ps ≤ i → Appends a b text
put_all a b text ps i so le = all_put a b text _ so (at_drop_all texts_of ps i le)

-- the digits of bytes in two parts
digits_behind : (t xs ys : List ℕ) → encode_with t (xs ++ ys) ≡ encode_with t xs ++ encode_with t ys
unfolding encode_with
digits_behind t [] ys = refl
digits_behind t (x ∷ xs) ys = ap (λ ds. slice_index t (x / 16) ∷ slice_index t (x % 16) ∷ ds) (digits_behind t xs ys)

-- the digits of the next bytes, and of those behind them
pub hex_parts : (front back rest : List ℕ) (mid : ℕ) → front ≡ take mid rest → back ≡ drop mid rest → encode_lower front ++ encode_lower back ≡ encode_lower rest
hex_parts front back rest mid f g =
    sym (digits_behind lower_digits front back) ∙ ap encode_lower (ap (λ t. t ++ back) f ∙ ap (λ t. take mid rest ++ t) g ∙ take-append-drop mid rest)

-- no digits are left
pub hex_done : (rest : List ℕ) → length rest ≡ 0 → encode_lower rest ≡ []
unfolding encode_with
hex_done [] none = refl
hex_done (x ∷ xs) none = absurd (omega arith)
