-- What is known once a segment came, in the vector that keeps it.
use Rattle.std.proofs.Common.{◌≡◌, ℕ, ◌+◌, ◌-◌, ◌<◌, ◌≤◌, Bool, true, false, ◌≢◌, [], List, length, take, drop, max, replicate, get_or, set, Option, None, refl, sym, ap, ◌∙◌, arith, inl, inr, leb, cond, slice_get, ◌++◌, length-drop, length-take, le-leb}
use Rattle.std.proofs.lemmas.{Bool.cases_lt, Bool.cases_eq, Bool.lt-leb, List.get_or-drop, List.get_or-set_same, List.get_or-set_other, List.get_or_past, List.get_or-append_right, List.get_or_append_left}
use Rattle.std.proofs.lemmas.{List.get_or-replicate, List.length-replicate, List.length-append, List.take_all, List.FromFn.fill_by_all, List.FromFn.length-map-range_with_len, Option.slice_get_past}
use Rattle.dist_capture.specs.Streams.{known_at, byte_at, first_of, laid}
use Rattle.dist_capture.proofs.Known.{slice_get-take, byte_past, first_by, known_laid}

byte_at_shifted : (start place : ℕ) (bytes : List ℕ) (k : ℕ) → byte_at (start + place) bytes (start + k) ≡ byte_at place bytes k
byte_at_shifted start place bytes k =
    let d : (start + k) - (start + place) ≡ k - place = omega arith in
    elim (cases_lt k place) [
      | inl lt ↦
          let a = lt-leb (start + place) (start + k) (omega arith) in
          let b = lt-leb place k lt in
          rw (a, b) refl
      | inr le ↦
          let a = le-leb (start + place) (start + k) (omega arith) in
          let b = le-leb place k le in
          rw (a, b, d) refl
    ]

-- what is known behind the places that were dropped
pub laid_behind : (start place : ℕ) (bytes : List ℕ) (xs ys : List (Option ℕ)) → start ≤ length xs → length ys ≡ max (length xs) (start + place + length bytes)
    → ((k : ℕ) → known_at ys k ≡ known_at xs k) → drop start (laid (start + place) bytes ys) ≡ laid place bytes (drop start xs)
laid_behind start place bytes xs ys le len same =
    let all = laid (start + place) bytes ys in
    let f = λ (i : ℕ). first_of (known_at (drop start xs) i) (byte_at place bytes i) in
    let g = λ (i : ℕ). first_of (known_at ys i) (byte_at (start + place) bytes i) in
    let n = max (length (drop start xs)) (place + length bytes) in
    let of_all : length all ≡ max (length ys) (start + place + length bytes) = length-map-range_with_len g 0 (max (length ys) (start + place + length bytes)) in
    let dropped : length (drop start xs) ≡ length xs - start = length-drop start xs in
    fill_by_all f (drop start all) n None
    (omega (arith, length-drop start all, of_all, dropped, len))
    (λ k lt. get_or-drop start all k None ∙ known_laid (start + place) bytes ys (start + k)
    ∙ ap (first_of (known_at ys (start + k))) (byte_at_shifted start place bytes k)
    ∙ ap (λ (o : Option ℕ). first_of o (byte_at place bytes k)) (same (start + k) ∙ sym (get_or-drop start xs k None)))

-- unknown places at the end say nothing
pub known_grown : (xs : List (Option ℕ)) (m : ℕ) (k : ℕ) → known_at (xs ++ replicate m None) k ≡ known_at xs k
known_grown xs m k = elim (cases_lt k (length xs)) [
  | inl lt ↦ get_or_append_left xs (replicate m None) None k lt
  | inr le ↦
      let past : known_at xs k ≡ None = get_or_past xs k None le in
      let here : known_at (xs ++ replicate m None) k ≡ known_at (replicate m None) (k - length xs) = get_or-append_right xs (replicate m None) (length xs) k None refl le in
      let none : known_at (replicate m None) (k - length xs) ≡ None = elim (cases_lt (k - length xs) m) [
        | inl lt ↦ get_or-replicate m (k - length xs) None None lt
        | inr far ↦ get_or_past (replicate m None) (k - length xs) None (omega (arith, length-replicate {A = Option ℕ} m None))
      ] in
      here ∙ none ∙ sym past
]

-- ---- the loop that lays a segment byte by byte

-- what is known once the first bytes were laid
abbrev pub Laid : ℕ → List ℕ → List (Option ℕ) → ℕ → List (Option ℕ) → Type 0
Laid place bytes old i now = (k : ℕ) → get_or now k None ≡ first_of (get_or old k None) (byte_at place (take i bytes) k)

pub none_laid : (place : ℕ) (bytes : List ℕ) (old : List (Option ℕ)) → Laid place bytes old 0 old
none_laid place bytes old k = sym (first_by (get_or old k None) (byte_at place [] k) (elim (leb place k) as (λ (b : Bool). cond {A = Option ℕ} b None None ≡ None) [ true ↦ refl | false ↦ refl ]))

more_bytes : (bytes : List ℕ) (i j : ℕ) → j ≢ i → slice_get (take (i + 1) bytes) j ≡ slice_get (take i bytes) j
more_bytes bytes i j other = elim (cases_lt j i) [
  | inl lt ↦ slice_get-take (i + 1) bytes j (omega arith) ∙ sym (slice_get-take i bytes j lt)
  | inr le ↦
      let far : i + 1 ≤ j = omega (arith, other) in
      slice_get_past (take (i + 1) bytes) j (omega (arith, length-take (i + 1) bytes)) ∙ sym (slice_get_past (take i bytes) j (omega (arith, length-take i bytes)))
]

same_place : (place : ℕ) (bytes : List ℕ) (i k : ℕ) → k ≢ place + i → byte_at place (take (i + 1) bytes) k ≡ byte_at place (take i bytes) k
same_place place bytes i k other = elim (cases_lt k place) [
  | inl lt ↦ let a = lt-leb place k lt in rw a refl
  | inr le ↦ let a = le-leb place k le in rw a (more_bytes bytes i (k - place) (λ e. other (omega (arith, e))))
]

here : (place : ℕ) (bytes : List ℕ) (i : ℕ) → byte_at place (take (i + 1) bytes) (place + i) ≡ slice_get bytes i
here place bytes i =
    let a = le-leb place (place + i) (omega arith) in
    let d : (place + i) - place ≡ i = omega arith in
    rw (a, d) (slice_get-take (i + 1) bytes i (omega arith))

-- one byte more
pub one_laid : (place : ℕ) (bytes : List ℕ) (old now : List (Option ℕ)) (i : ℕ) (value : Option ℕ) → place + i < length now
    → Laid place bytes old i now → value ≡ first_of (get_or now (place + i) None) (slice_get bytes i) → Laid place bytes old (i + 1) (set now (place + i) value)
one_laid place bytes old now i value lt laid is k = elim (cases_eq k (place + i)) [
  | inl e ↦
      let past : byte_at place (take i bytes) (place + i) ≡ None = byte_past place (take i bytes) (place + i) (omega (arith, length-take i bytes)) in
      let was : get_or now (place + i) None ≡ get_or old (place + i) None = laid (place + i) ∙ first_by (get_or old (place + i) None) (byte_at place (take i bytes) (place + i)) past in
      let done : get_or (set now (place + i) value) (place + i) None ≡ first_of (get_or old (place + i) None) (byte_at place (take (i + 1) bytes) (place + i)) =
      get_or-set_same now (place + i) value None lt ∙ is ∙ ap (λ (o : Option ℕ). first_of o (slice_get bytes i)) was
      ∙ ap (first_of (get_or old (place + i) None)) (sym (here place bytes i)) in
      rw e done
  | inr other ↦ get_or-set_other now (place + i) k value None other ∙ laid k ∙ ap (first_of (get_or old k None)) (sym (same_place place bytes i k other))
]

-- all of them
pub all_laid : (place : ℕ) (bytes : List ℕ) (old now : List (Option ℕ)) (i : ℕ) → i ≡ length bytes → length now ≡ length old → place + length bytes ≤ length old
    → Laid place bytes old i now → now ≡ laid place bytes old
all_laid place bytes old now i e len fits laid =
    let whole : take i bytes ≡ bytes = take_all i bytes (omega (arith, e)) in
    fill_by_all (λ (k : ℕ). first_of (known_at old k) (byte_at place bytes k)) now (max (length old) (place + length bytes)) None (omega arith)
    (λ k lt. laid k ∙ ap (λ (bs : List ℕ). first_of (get_or old k None) (byte_at place bs k)) whole)

-- ---- all places of the vector

pub laid_grown : (place m : ℕ) (bytes : List ℕ) (xs : List (Option ℕ)) → m ≡ place + length bytes - length xs → laid place bytes (xs ++ replicate m None) ≡ laid place bytes xs
laid_grown place m bytes xs e =
    let z : 0 + place ≡ place = omega arith in
    sym (ap (λ (p : ℕ). laid p bytes (xs ++ replicate m None)) z)
    ∙ laid_behind 0 place bytes xs (xs ++ replicate m None) (omega arith) (omega (arith, e, length-append xs (replicate m None), length-replicate {A = Option ℕ} m None)) (known_grown xs m)

pub grown_fits : (start place : ℕ) (bytes : List ℕ) (known old : List (Option ℕ)) → start ≤ length known
    → drop start known ≡ old ++ replicate (place + length bytes - length old) None → start + place + length bytes ≤ length known
grown_fits start place bytes known old le is =
    let m = place + length bytes - length old in
    let n : length (drop start known) ≡ length old + m = ap length is ∙ length-append old (replicate m None) ∙ ap (λ (k : ℕ). length old + k) (length-replicate {A = Option ℕ} m None) in
    omega (arith, n, length-drop start known)

pub laid_all : (start place : ℕ) (bytes : List ℕ) (known old : List (Option ℕ)) → start ≤ length known
    → drop start known ≡ old ++ replicate (place + length bytes - length old) None → drop start (laid (start + place) bytes known) ≡ laid place bytes old
laid_all start place bytes known old le is =
    let fits = grown_fits start place bytes known old le is in
    laid_behind start place bytes known known le (omega arith) (λ k. refl) ∙ ap (laid place bytes) is ∙ laid_grown place (place + length bytes - length old) bytes old refl

pub length-laid : (place : ℕ) (bytes : List ℕ) (known : List (Option ℕ)) → length (laid place bytes known) ≡ max (length known) (place + length bytes)
length-laid place bytes known =
    length-map-range_with_len (λ (i : ℕ). first_of (known_at known i) (byte_at place bytes i)) 0 (max (length known) (place + length bytes))
