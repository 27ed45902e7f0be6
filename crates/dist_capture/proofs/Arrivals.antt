-- Any order and repetition of the segments of one text gives that text up to its first gap.
use Rattle.std.proofs.Common.{◌≡◌, ℕ, ◌+◌, ◌-◌, ◌%◌, ◌^◌, ◌<◌, ◌≤◌, Bool, true, false, cond, ltb, leb, List, [], ◌∷◌, ◌++◌, length, take, drop, Option, Some}
use Rattle.std.proofs.Common.{None, refl, sym, ap, ◌∙◌, append_assoc, arith, inl, inr, length-append, slice_get, ◌||◌, ◌&&◌, ◌==◌, le-ltb, lt-ltb, eqb-true}
use Rattle.std.proofs.Common.{ltb-true, take-append-drop}
use Rattle.std.proofs.lemmas.{Bool.cases_lt, Bool.or_cases, List.map-append, List.nil_from_length}
use Rattle.dist_capture.specs.Arrivals.{Event, Arrives, Consumes, Seen, opening, delivered, after, after_all, IsPiece, ArePieces, covers, has_come, IsFirstGap}
use Rattle.dist_capture.specs.Parts.{part}
use Rattle.dist_capture.specs.Streams.{known_at, byte_at, first_of, laid, leading, new_part, is_near, settled}
use Rattle.dist_capture.proofs.{Known.known_laid, Known.first_by, Known.all_known, Known.leading_splits, Known.leading_stops, Known.leading_behind}
use Rattle.dist_capture.proofs.{Known.leading_is, Known.known_front, Known.known_back, Known.some_front, Sequences.shown, Sequences.IsNew, Sequences.new_is}

-- all that is known of the text
abbrev pub total : Seen → List (Option ℕ)
total s = all_known (delivered s) ++ s.stream.waiting

-- a stream that knows the bytes that came, and no others
pub record Knows (first : ℕ) (text : List ℕ) (came : ℕ → Bool) (s : Seen) : Type 0 where
  pub next : s.stream.next ≡ (first + length (delivered s)) % 2 ^ 32
  pub stuck : known_at s.stream.waiting 0 ≡ None
  pub known : (i : ℕ) → known_at (total s) i ≡ shown text (came i) i

-- a byte that came, and one that comes
first_shown : (text : List ℕ) (a b : Bool) (i : ℕ) → first_of (shown text a i) (shown text b i) ≡ shown text (a || b) i
first_shown text false b i = refl
first_shown text true b i = elim (slice_get text i) as (λ o. first_of o (cond b o None) ≡ o) [ Some x ↦ refl | None ↦ elim b as (λ c. first_of None (cond c None None) ≡ None) [ true ↦ refl | false ↦ refl ] ]

still_shown : (text bytes : List ℕ) (a b : Bool) (i : ℕ) → i < length bytes → slice_get bytes i ≡ shown text a i → slice_get bytes i ≡ shown text (a || b) i
still_shown text bytes true b i lt e = e
still_shown text bytes false b i lt e = absurd (some_front bytes i lt e)

-- what is known once a piece came
joined : (text bytes : List ℕ) (waiting later : List (Option ℕ)) (came new : ℕ → Bool)
    → ((i : ℕ) → known_at (all_known bytes ++ waiting) i ≡ shown text (came i) i)
    → ((j : ℕ) → known_at later j ≡ first_of (known_at waiting j) (shown text (new (length bytes + j)) (length bytes + j)))
    → (i : ℕ) → known_at (all_known bytes ++ later) i ≡ shown text (came i || new i) i
joined text bytes waiting later came new known comes i = elim (cases_lt i (length bytes)) [
  | inl lt ↦ known_front bytes later i lt ∙ still_shown text bytes (came i) (new i) i lt (sym (known_front bytes waiting i lt) ∙ known i)
  | inr le ↦
      let at : length bytes + (i - length bytes) ≡ i = omega arith in
      let old : known_at waiting (i - length bytes) ≡ shown text (came i) i = sym (known_back bytes waiting i le) ∙ known i in
      known_back bytes later i le ∙ comes (i - length bytes)
      ∙ ap (first_of (known_at waiting (i - length bytes))) (ap (λ (k : ℕ). shown text (new k) k) at)
      ∙ ap (λ (o : Option ℕ). first_of o (shown text (new i) i)) old
      ∙ first_shown text (came i) (new i) i
]

all_known-append : (xs ys : List ℕ) → all_known (xs ++ ys) ≡ all_known xs ++ all_known ys
all_known-append xs ys = map-append (λ b. Some b) xs ys

-- the bytes that are in order now are ready
settles : (first : ℕ) (text : List ℕ) (came : ℕ → Bool) (s : Seen) (known : List (Option ℕ)) → s.stream.next ≡ (first + length (delivered s)) % 2 ^ 32
    → ((i : ℕ) → known_at (all_known (delivered s) ++ known) i ≡ shown text (came i) i) → Knows first text came (record { stream = settled s.stream known; gone = s.gone })
settles first text came s known next h =
    let front = leading known in
    let rest = drop (length (leading known)) known in
    let now : s.gone ++ (s.stream.ready ++ front) ≡ delivered s ++ front = sym (append_assoc s.gone s.stream.ready front) in
    let whole : all_known (s.gone ++ (s.stream.ready ++ front)) ++ rest ≡ all_known (delivered s) ++ known =
    ap (λ (bs : List ℕ). all_known bs ++ rest) now ∙ ap (λ (ks : List (Option ℕ)). ks ++ rest) (all_known-append (delivered s) front)
    ∙ append_assoc (all_known (delivered s)) (all_known front) rest ∙ ap (λ (ks : List (Option ℕ)). all_known (delivered s) ++ ks) (leading_splits known) in
    let len : length (s.gone ++ (s.stream.ready ++ front)) ≡ length (delivered s) + length front = ap length now ∙ length-append (delivered s) front in
    record {
      next = omega (arith, next, len);
      stuck = leading_stops known;
      known = λ i. ap (λ (ks : List (Option ℕ)). known_at ks i) whole ∙ h i;
    }

nothing_of : (place : ℕ) (bytes : List ℕ) → length bytes ≡ 0 → (j : ℕ) → byte_at place bytes j ≡ None
nothing_of place bytes none j = rw (nil_from_length bytes none) (elim (leb place j) as (λ (b : Bool). cond {A = Option ℕ} b None None ≡ None) [ true ↦ refl | false ↦ refl ])

-- the new part of a piece is taken
new_taken : (first : ℕ) (text : List ℕ) (came : ℕ → Bool) (s : Seen) (place count : ℕ) (new : ℕ × List ℕ) → Knows first text came s → IsNew text place count (length (delivered s)) new → is_near s.stream.most new ≡ true
    → (empty : Bool) → (length new.1 == 0) ≡ empty
    → Knows first text (λ i. came i || covers place count i) (record { stream = cond empty s.stream (cond (is_near s.stream.most new) (settled s.stream (laid new.0 new.1 s.stream.waiting)) s.stream); gone = s.gone })
new_taken first text came s place count new knows is near true empty =
    let none : length new.1 ≡ 0 = eqb-true _ _ empty in
    record {
      next = knows.next;
      stuck = knows.stuck;
      known = joined text (delivered s) s.stream.waiting s.stream.waiting came (covers place count) knows.known
          (λ j. sym (first_by (known_at s.stream.waiting j) (shown text (covers place count (length (delivered s) + j)) (length (delivered s) + j)) (sym (is.byte j) ∙ nothing_of new.0 new.1 none j)));
    }
new_taken first text came s place count new knows is near false empty =
    rw near (settles first text (λ i. came i || covers place count i) s (laid new.0 new.1 s.stream.waiting) knows.next
    (joined text (delivered s) s.stream.waiting (laid new.0 new.1 s.stream.waiting) came (covers place count) knows.known
    (λ j. known_laid new.0 new.1 s.stream.waiting j ∙ ap (first_of (known_at s.stream.waiting j)) (is.byte j))))

-- a piece that is near has a new part that is near
near_is : (text : List ℕ) (place count front most : ℕ) (new : ℕ × List ℕ) → IsNew text place count front new → (front < place → place + count ≤ front + most) → is_near most new ≡ true
near_is text place count front most new is near = elim (cases_lt 0 new.0) [
  | inl lt ↦
      let begins = is.begins in let end = is.end in
      let within : place + count ≤ front + most = near (omega arith) in
      let b : ltb most (new.0 + length new.1) ≡ false = le-ltb most (new.0 + length new.1) (omega arith) in
      rw (lt-ltb 0 new.0 lt, b) refl
  | inr le ↦ rw (le-ltb 0 new.0 le) refl
]

and-right : (a b : Bool) → (a && b) ≡ true → b ≡ true
and-right true b e = e
and-right false b e = absurd cc

-- a piece comes
arrived : (first : ℕ) (text : List ℕ) (came : ℕ → Bool) (s : Seen) (place count : ℕ) → IsPiece text s place count → Knows first text came s → Knows first text (λ i. came i || covers place count i) (after first text s (Arrives place count))
arrived first text came s place count fits knows =
    let front = length (delivered s) in
    let new = new_part s.stream.next ((first + place) % 2 ^ 32) (part place count text) in
    let is : IsNew text place count front new = rw knows.next (new_is first text place count front fits.inside fits.ahead fits.behind) in
    new_taken first text came s place count new knows is (near_is text place count front s.stream.most new is fits.near) (length new.1 == 0) refl

-- bytes are taken away
still_knows : (first : ℕ) (text : List ℕ) (came : ℕ → Bool) (s : Seen) (count : ℕ) → Knows first text came s → Knows first text came (after first text s (Consumes count))
still_knows first text came s count knows =
    let same : (s.gone ++ take count s.stream.ready) ++ drop count s.stream.ready ≡ delivered s =
    append_assoc s.gone (take count s.stream.ready) (drop count s.stream.ready) ∙ ap (λ (bs : List ℕ). s.gone ++ bs) (take-append-drop count s.stream.ready) in
    record {
      next = rw same knows.next;
      stuck = knows.stuck;
      known = rw same knows.known;
    }

with_more : (first : ℕ) (text : List ℕ) (came more : ℕ → Bool) (s : Seen) → ((i : ℕ) → came i ≡ more i) → Knows first text came s → Knows first text more s
with_more first text came more s same knows = record {
  next = knows.next;
  stuck = knows.stuck;
  known = λ i. knows.known i ∙ ap (λ (b : Bool). shown text b i) (same i);
}

or_assoc : (a b c : Bool) → ((a || b) || c) ≡ (a || (b || c))
or_assoc true b c = refl
or_assoc false b c = refl

or_none : (a : Bool) → a ≡ (a || false)
or_none true = refl
or_none false = refl

all_known_of : (first : ℕ) (text : List ℕ) (events : List Event) (came : ℕ → Bool) (s : Seen) → ArePieces first text s events → Knows first text came s → Knows first text (λ i. came i || has_come events i) (after_all first text s events)
all_known_of first text [] came s fits knows = with_more first text came (λ i. came i || false) s (λ i. or_none (came i)) knows
all_known_of first text (Arrives place count ∷ es) came s fits knows =
    with_more first text (λ i. (came i || covers place count i) || has_come es i) (λ i. came i || (covers place count i || has_come es i)) (after_all first text (after first text s (Arrives place count)) es)
    (λ i. or_assoc (came i) (covers place count i) (has_come es i))
    (all_known_of first text es (λ i. came i || covers place count i) (after first text s (Arrives place count)) fits.1 (arrived first text came s place count fits.0 knows))
all_known_of first text (Consumes count ∷ es) came s fits knows = all_known_of first text es came (after first text s (Consumes count)) fits (still_knows first text came s count knows)

nothing_known : (first most : ℕ) (text : List ℕ) → first < 2 ^ 32 → Knows first text (λ i. false) (opening first most)
nothing_known first most text lt = record { next = omega arith; stuck = refl; known = λ i. refl }

-- a byte that came is the text's
inside_of : (text : List ℕ) (events : List Event) (first : ℕ) (s : Seen) → ArePieces first text s events → (i : ℕ) → has_come events i ≡ true → i < length text
inside_of text [] first s fits i e = absurd cc
inside_of text (Arrives place count ∷ es) first s fits i e = elim (or_cases (covers place count i) (has_come es i) e) [
  | inl c ↦ let lt : i < place + count = ltb-true i (place + count) (and-right (leb place i) (ltb i (place + count)) c) in let h = fits.0.inside in omega arith
  | inr c ↦ inside_of text es first (after first text s (Arrives place count)) fits.1 i c
]
inside_of text (Consumes count ∷ es) first s fits i e = inside_of text es first (after first text s (Consumes count)) fits i e

pub any_order : (first most : ℕ) (text : List ℕ) (events : List Event) (gap : ℕ) → first < 2 ^ 32 → ArePieces first text (opening first most) events → IsFirstGap events gap → delivered (after_all first text (opening first most) events) ≡ take gap text
any_order first most text events gap lt fits stop =
    let end = after_all first text (opening first most) events in
    let knows = all_known_of first text events (λ i. false) (opening first most) fits (nothing_known first most text lt) in
    sym (leading_behind (delivered end) end.stream.waiting knows.stuck)
    ∙ leading_is gap text (total end)
    (λ i below. knows.known i ∙ ap (λ (b : Bool). shown text b i) (stop.before i below))
    (λ i below. inside_of text events first (opening first most) fits i (stop.before i below))
    (knows.known gap ∙ ap (λ (b : Bool). shown text b gap) stop.here)
