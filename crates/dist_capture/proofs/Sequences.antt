-- The new part of a segment, by where its bytes are in the text.
use Rattle.std.proofs.Common.{◌≡◌, ℕ, ◌+◌, ◌-◌, ◌%◌, ◌^◌, ◌<◌, ◌≤◌, Bool, true, false, cond, ltb, leb, List, length, drop, Option, None, refl, ◌∙◌, arith, inl}
use Rattle.std.proofs.Common.{inr, length-take, length-drop, slice_get, lt-ltb, le-leb, le-ltb}
use Rattle.std.proofs.lemmas.{Bool.cases_lt, Bool.lt-leb, Option.slice_get_past}
use Rattle.dist_capture.specs.{Arrivals.covers, Parts.part, Streams.byte_at, Streams.past, Streams.new_part}
use Rattle.dist_capture.proofs.Known.{slice_get-drop, slice_get-take}

-- how far one sequence number is past another
pub past_ahead : (first place front : ℕ) → front ≤ place → place < front + 2 ^ 32 → past ((first + place) % 2 ^ 32) ((first + front) % 2 ^ 32) ≡ place - front
past_ahead first place front le near = omega arith

pub past_behind : (first place front : ℕ) → place < front → front ≤ place + 2 ^ 31 → past ((first + place) % 2 ^ 32) ((first + front) % 2 ^ 32) ≡ 2 ^ 32 - (front - place)
past_behind first place front lt near = omega arith

-- the byte of a text, where a piece has it
abbrev pub shown : List ℕ → Bool → ℕ → Option ℕ
shown text b i = cond b (slice_get text i) None

-- the piece's bytes from the awaited one on, as the text's
pub record IsNew (text : List ℕ) (place count front : ℕ) (new : ℕ × List ℕ) : Type 0 where
  pub byte : (j : ℕ) → byte_at new.0 new.1 j ≡ shown text (covers place count (front + j)) (front + j)
  pub end : new.0 + length new.1 + front ≤ place + count + (front - place)
  pub begins : new.0 ≡ place - front

part_byte : (place count : ℕ) (text : List ℕ) (i : ℕ) → i < count → slice_get (part place count text) i ≡ slice_get text (place + i)
part_byte place count text i lt = slice_get-take count (drop place text) i lt ∙ slice_get-drop place text i

part_len : (place count : ℕ) (text : List ℕ) → place + count ≤ length text → length (part place count text) ≡ count
part_len place count text h = omega (arith, length-take count (drop place text), length-drop place text)

covers_yes : (place count i : ℕ) → place ≤ i → i < place + count → covers place count i ≡ true
covers_yes place count i le lt = let a = le-leb place i le in let b = lt-ltb i (place + count) lt in rw (a, b) refl

covers_before : (place count i : ℕ) → i < place → covers place count i ≡ false
covers_before place count i lt = let a : leb place i ≡ false = lt-leb place i lt in rw a refl

covers_past : (place count i : ℕ) → place + count ≤ i → covers place count i ≡ false
covers_past place count i le = let a = le-leb place i (omega arith) in let b = le-ltb i (place + count) le in rw (a, b) refl

new_ahead : (text : List ℕ) (place count front : ℕ) → place + count ≤ length text → front ≤ place → IsNew text place count front (place - front, part place count text)
new_ahead text place count front inside le = record {
  byte = λ j. elim (cases_lt (front + j) place) [
    | inl lt ↦
        let a : leb (place - front) j ≡ false = lt-leb (place - front) j (omega arith) in
        let b = covers_before place count (front + j) lt in
        rw (a, b) refl
    | inr ge ↦
        let a = le-leb (place - front) j (omega arith) in
        elim (cases_lt (front + j) (place + count)) [
          | inl lt ↦
              let b = covers_yes place count (front + j) ge lt in
              let c : slice_get (part place count text) (j - (place - front)) ≡ slice_get text (place + (j - (place - front))) = part_byte place count text (j - (place - front)) (omega arith) in
              let d : place + (j - (place - front)) ≡ front + j = omega arith in
              rw (a, b, c, d) refl
          | inr behind ↦
              let b = covers_past place count (front + j) behind in
              let c : slice_get (part place count text) (j - (place - front)) ≡ None = slice_get_past (part place count text) (j - (place - front)) (omega (arith, part_len place count text inside)) in
              rw (a, b, c) refl
        ]
  ];
  end = omega (arith, part_len place count text inside);
  begins = refl;
}

new_behind : (text : List ℕ) (place count front : ℕ) → place + count ≤ length text → place < front → IsNew text place count front (0, drop (front - place) (part place count text))
new_behind text place count front inside lt = record {
  byte = λ j.
      let e : slice_get (drop (front - place) (part place count text)) j ≡ slice_get (part place count text) (front - place + j) = slice_get-drop (front - place) (part place count text) j in
      let z : j - 0 ≡ j = omega arith in
      let a = le-leb 0 j (omega arith) in
      elim (cases_lt (front + j) (place + count)) [
        | inl in_piece ↦
            let b = covers_yes place count (front + j) (omega arith) in_piece in
            let c : slice_get (part place count text) (front - place + j) ≡ slice_get text (place + (front - place + j)) = part_byte place count text (front - place + j) (omega arith) in
            let d : place + (front - place + j) ≡ front + j = omega arith in
            rw (a, z, b, e, c, d) refl
        | inr behind ↦
            let b = covers_past place count (front + j) behind in
            let c : slice_get (part place count text) (front - place + j) ≡ None = slice_get_past (part place count text) (front - place + j) (omega (arith, part_len place count text inside)) in
            rw (a, z, b, e, c) refl
      ];
  end = omega (arith, part_len place count text inside, length-drop (front - place) (part place count text));
  begins = omega arith;
}

-- the new part of a piece
pub new_is : (first : ℕ) (text : List ℕ) (place count front : ℕ) → place + count ≤ length text → place < front + 2 ^ 31 → front ≤ place + 2 ^ 31
    → IsNew text place count front (new_part ((first + front) % 2 ^ 32) ((first + place) % 2 ^ 32) (part place count text))
new_is first text place count front inside near far = elim (cases_lt place front) [
  | inl lt ↦
      let a : past ((first + place) % 2 ^ 32) ((first + front) % 2 ^ 32) ≡ 2 ^ 32 - (front - place) = past_behind first place front lt far in
      let b : ltb (2 ^ 32 - (front - place)) (2 ^ 31) ≡ false = le-ltb (2 ^ 32 - (front - place)) (2 ^ 31) (omega arith) in
      let c : past ((first + front) % 2 ^ 32) ((first + place) % 2 ^ 32) ≡ front - place = past_ahead first front place (omega arith) (omega arith) in
      rw (a, b, c) (new_behind text place count front inside lt)
  | inr le ↦
      let a : past ((first + place) % 2 ^ 32) ((first + front) % 2 ^ 32) ≡ place - front = past_ahead first place front le (omega arith) in
      let b : ltb (place - front) (2 ^ 31) ≡ true = lt-ltb (place - front) (2 ^ 31) (omega arith) in
      rw (a, b) (new_ahead text place count front inside le)
]
