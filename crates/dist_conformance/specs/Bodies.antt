-- Messages are taken apart by the forms of their fields.
use Rattle.std.specs.Prelude.{ℕ, Bool, false, ◌==◌, ◌&&◌, if◌then◌else◌, List, [], ◌∷◌, take, length, get_or, max}
use Rattle.std.specs.Prelude.{Option, Some, None, option_map, option_and_then, unwrap_or}
use Rattle.std.specs.{Int.Width, Int.w16, Int.w32, Int.w64, Cmp.Lexicographic.pointwise}
use Rattle.dist_names.specs.Fields.{Taken, number_at, bytes_at}
use Rattle.dist_conformance.specs.declared.shapes.{FieldForm.FieldForm, Framing.Framing}
use Rattle.dist_conformance.specs.declared.shapes.FieldForm.TheVariants as form
use Rattle.dist_conformance.specs.declared.shapes.Framing.TheVariants as framing

-- the text begins with this key
abbrev pub begins_with : List ℕ → List ℕ → Bool
begins_with key text = pointwise ◌==◌ (take (length key) text) key

-- the bytes begin with this one
abbrev pub begins_so : ℕ → List ℕ → Bool
begins_so byte [] = false
begins_so byte (c ∷ cs) = c == byte

-- bytes behind their number of this width
abbrev pub sized_at : Width → List ℕ → Taken (List ℕ)
sized_at w bytes = option_and_then (λ (n : ℕ × List ℕ). bytes_at n.0 n.1) (number_at w bytes)

-- A FIELD: the bytes that stand in front by its form, and those behind it
abbrev pub taken : FieldForm → List ℕ → Taken (List ℕ)
taken (form.Tag tag) bytes = if begins_so tag bytes then bytes_at 1 bytes else None
taken form.NotZero bytes = if begins_so 0 bytes then None else bytes_at 1 bytes
taken (form.Fixed size) bytes = bytes_at size bytes
taken form.Sized bytes = sized_at w16 bytes
taken form.Rest bytes = Some (bytes, [])

-- THE FIELDS OF A BODY, which has just these
abbrev pub values_in : List FieldForm → List ℕ → Option (List (List ℕ))
values_in [] [] = Some []
values_in [] (c ∷ cs) = None
values_in (f ∷ fs) body = option_and_then (λ (t : List ℕ × List ℕ). option_map (λ (vs : List (List ℕ)). t.0 ∷ vs) (values_in fs t.1)) (taken f body)

-- the field in this place, and no bytes behind the last
abbrev pub value_in : List FieldForm → ℕ → List ℕ → Option (List ℕ)
value_in fields place body = option_map (λ (vs : List (List ℕ)). get_or vs place []) (values_in fields body)

-- what stands behind the tick in front, a packet of no bytes
abbrev pub behind_tick : List ℕ → Option (List ℕ)
behind_tick (a ∷ b ∷ c ∷ d ∷ rest) = if (a == 0 && b == 0) && (c == 0 && d == 0) then Some rest else None
behind_tick other = None

-- what stands behind all ticks in front
abbrev pub behind_ticks : List ℕ → List ℕ
behind_ticks (a ∷ b ∷ c ∷ d ∷ rest) = if (a == 0 && b == 0) && (c == 0 && d == 0) then behind_ticks rest else a ∷ b ∷ c ∷ d ∷ rest
behind_ticks other = other

-- THE FIRST MESSAGE, where it has come whole, and what stands behind it
abbrev pub whole : Framing → List ℕ → Taken (List ℕ)
whole framing.Frame came = sized_at w16 came
whole framing.Packet came = sized_at w32 (behind_ticks came)
whole (framing.Bare size) came = bytes_at (max size 1) came

-- the number in the first 4 bytes
abbrev pub number_of_32 : List ℕ → Option ℕ
number_of_32 bytes = option_map (λ (n : ℕ × List ℕ). n.0) (number_at w32 bytes)

-- the number in the first 8 bytes, or in 4 where there are fewer
abbrev pub number_in : List ℕ → ℕ
number_in bytes = unwrap_or (option_map (λ (n : ℕ × List ℕ). n.0) (number_at w64 bytes)) (unwrap_or (number_of_32 bytes) 0)
