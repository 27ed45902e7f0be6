-- A field that is read is the field that was written, what was written is read again, and a field that ends too early is completed
-- by more bytes.
use Rattle.dist_epmd.proofs.Words.{◌≡◌, ℕ, ◌-◌, ◌^◌, ◌<◌, Bool, true, false, cond, ltb, List, [], ◌∷◌, ◌++◌, length, take, drop, Some, None, sym, refl, ap, ◌∙◌}
use Rattle.dist_epmd.proofs.Words.{subst, ap₂, append_assoc, arith, length-append, w16, w32, ltb-true, length-replicate, Width, byte_len, from_be_bytes}
use Rattle.dist_epmd.proofs.Words.{to_be_bytes, IsBytes, Taken, bytes_at, number_at, IsBytes-append, IsBytes-rest, IsBytes-zeros, zeros, info_text, text_field}
use Rattle.dist_epmd.proofs.Words.{NodeInfo}
use Rattle.dist_names.proofs.Fields.{Takes, Takes-then, IsWide, wide16, wide32, number_takes, number_again, bytes_take, bytes_again}
use Rattle.dist_epmd.specs.Reading.{byte_at, text_behind, text_at, with_second, pair_behind, both_at, value_as, Parts, info_of_parts, info_at}

-- ---- fields of any kind

-- what a reader shows of bytes: they are a value and a rest, or with some more of them they are a value
abbrev pub ShowsField : {A : Type 0} → (A → List ℕ) → (A → Type 0) → List ℕ → Taken A → Type 0
ShowsField {A} write Fits bytes None = (x : A) × (more : List ℕ) × (0 < length more) × Fits x × (bytes ++ more ≡ write x)
ShowsField write Fits bytes (Some x) = Takes bytes (write x.0) x.1 × Fits x.0

pub record IsField {A : Type 0} (read : List ℕ → Taken A) (write : A → List ℕ) (Fits : A → Type 0) : Type 0 where
  pub shows : (bytes : List ℕ) → IsBytes bytes → ShowsField write Fits bytes (read bytes)
  pub again : (x : A) (rest : List ℕ) → Fits x → read (write x ++ rest) ≡ Some (x, rest)
  -- a value that fits
  pub some : A
  pub some_fits : Fits some

none_is : {A : Type 0} (b : Bool) (x : A) → cond b None (Some x) ≡ None → b ≡ true
none_is true x e = refl
none_is false x e = absurd cc

number_shows : (w : Width) (limit : ℕ) (wide : IsWide w limit) (bytes : List ℕ) → IsBytes bytes → (t : Taken ℕ) → number_at w bytes ≡ t → ShowsField (to_be_bytes w) (λ n. n < limit) bytes t
number_shows w limit wide bytes fits None e =
    let short : length bytes < byte_len w = ltb-true _ _ (none_is (ltb (length bytes) (byte_len w)) (from_be_bytes w (take (byte_len w) bytes), drop (byte_len w) bytes) e) in
    let more : List ℕ = zeros (byte_len w - length bytes) in
    let pads : length more ≡ byte_len w - length bytes = length-replicate {A = ℕ} (byte_len w - length bytes) 0 in
    let all : IsBytes (bytes ++ more) = IsBytes-append bytes more fits (IsBytes-zeros (byte_len w - length bytes)) in
    (from_be_bytes w (bytes ++ more), more, omega arith, wide.below (bytes ++ more) all, sym (wide.back (bytes ++ more) (omega (arith, length-append bytes more)) all))
number_shows w limit wide bytes fits (Some x) e = number_takes w limit wide bytes x.0 x.1 fits e

number_field : (w : Width) (limit : ℕ) → IsWide w limit → 0 < limit → IsField (number_at w) (to_be_bytes w) (λ n. n < limit)
number_field w limit wide some = record {
  shows = λ bytes fits. number_shows w limit wide bytes fits (number_at w bytes) refl;
  again = λ n rest lt. number_again w limit wide n rest lt;
  some = 0;
  some_fits = some;
}

pub field16 : IsField (number_at w16) (to_be_bytes w16) (λ n. n < 2 ^ 16)
field16 = number_field w16 (2 ^ 16) wide16 (omega arith)

pub field32 : IsField (number_at w32) (to_be_bytes w32) (λ n. n < 2 ^ 32)
field32 = number_field w32 (2 ^ 32) wide32 (omega arith)

abbrev pub one : ℕ → List ℕ
one b = b ∷ []

abbrev pub Any : {A : Type 0} → A → Type 0
Any x = Unit {0}

byte_shows : (bytes : List ℕ) → IsBytes bytes → ShowsField one Any bytes (byte_at bytes)
byte_shows [] fits = (0, 0 ∷ [], omega arith, tt, refl)
byte_shows (b ∷ rest) fits = (record { parts = refl; rest_fits = IsBytes-rest b rest fits }, tt)

pub byte_field : IsField byte_at one Any
byte_field = record { shows = byte_shows; again = λ x rest any. refl; some = 0; some_fits = tt }

-- a field without bytes
abbrev pub nothing_at : List ℕ → Taken (Unit {0})
nothing_at bytes = Some (tt, bytes)

pub nothing_field : IsField nothing_at (λ u. []) Any
nothing_field = record { shows = λ bytes fits. (record { parts = refl; rest_fits = fits }, tt); again = λ u rest any. refl; some = tt; some_fits = tt }

-- ---- bytes behind their number

abbrev pub Short16 : List ℕ → Type 0
Short16 text = length text < 2 ^ 16

-- this many bytes
abbrev ShowsText : ℕ → List ℕ → Taken (List ℕ) → Type 0
ShowsText n bytes t = ShowsField (λ text. text) (λ text. length text ≡ n) bytes t

text_shows : (n : ℕ) (bytes : List ℕ) → IsBytes bytes → (t : Taken (List ℕ)) → bytes_at n bytes ≡ t → ShowsText n bytes t
text_shows n bytes fits None e =
    let short : length bytes < n = ltb-true _ _ (none_is (ltb (length bytes) n) (take n bytes, drop n bytes) e) in
    let more : List ℕ = zeros (n - length bytes) in
    let pads : length more ≡ n - length bytes = length-replicate {A = ℕ} (n - length bytes) 0 in
    (bytes ++ more, more, omega arith, omega (arith, length-append bytes more), refl)
text_shows n bytes fits (Some x) e = bytes_take n bytes x.0 x.1 fits e

behind_shows : (n : ℕ) (bytes rest : List ℕ) → Takes bytes (to_be_bytes w16 n) rest → n < 2 ^ 16 → (t : Taken (List ℕ)) → ShowsText n rest t → ShowsField text_field Short16 bytes t
behind_shows n bytes rest number lt None (text, more, some, len, parts) =
    (text, more, some, omega (arith, len), ap (λ l. l ++ more) number.parts ∙ append_assoc (to_be_bytes w16 n) rest more ∙ ap₂ (λ k l. to_be_bytes w16 k ++ l) (sym len) parts)
behind_shows n bytes rest number lt (Some x) (text, len) =
    (subst (λ k. Takes bytes (to_be_bytes w16 k ++ x.0) x.1) (sym len) (Takes-then bytes (to_be_bytes w16 n) rest x.0 x.1 number text), omega (arith, len))

sized_shows : (bytes : List ℕ) (t : Taken ℕ) → ShowsField (to_be_bytes w16) (λ n. n < 2 ^ 16) bytes t → ShowsField text_field Short16 bytes (text_behind t)
sized_shows bytes None (n, more, some, lt, parts) =
    let len : length (zeros n) ≡ n = length-replicate {A = ℕ} n 0 in
    (zeros n, more ++ zeros n, omega (arith, some, length-append more (zeros n)), omega (arith, lt), sym (append_assoc bytes more (zeros n)) ∙ ap (λ l. l ++ zeros n) parts ∙ ap (λ k. to_be_bytes w16 k ++ zeros n) (sym len))
sized_shows bytes (Some x) (number, lt) = behind_shows x.0 bytes x.1 number lt (bytes_at x.0 x.1) (text_shows x.0 x.1 number.rest_fits (bytes_at x.0 x.1) refl)

pub sized_field : IsField text_at text_field Short16
sized_field = record {
  shows = λ bytes fits. sized_shows bytes (number_at w16 bytes) (field16.shows bytes fits);
  again = λ text rest lt. ap text_behind (field16.again (length text) (text ++ rest) lt) ∙ bytes_again (length text) text rest refl;
  some = [];
  some_fits = omega arith;
}

-- ---- two fields

module _ {A B : Type 0} {r : List ℕ → Taken A} {s : List ℕ → Taken B} {w : A → List ℕ} {v : B → List ℕ} {F : A → Type 0} {G : B → Type 0} (first : IsField r w F) (second : IsField s v G) where
  abbrev ShowsBoth : List ℕ → Taken (A × B) → Type 0
  ShowsBoth bytes t = ShowsField (λ p. w p.0 ++ v p.1) (λ p. F p.0 × G p.1) bytes t

  second_shows : (bytes : List ℕ) (x : A) (rest : List ℕ) → Takes bytes (w x) rest → F x → (t : Taken B) → ShowsField v G rest t → ShowsBoth bytes (with_second x t)
  second_shows bytes x rest front fits None (y, more, some, fit, parts) = ((x, y), more, some, (fits, fit), ap (λ l. l ++ more) front.parts ∙ append_assoc (w x) rest more ∙ ap (λ l. w x ++ l) parts)
  second_shows bytes x rest front fits (Some y) (next, fit) = (Takes-then bytes (w x) rest (v y.0) y.1 front next, (fits, fit))

  first_shows : (bytes : List ℕ) (t : Taken A) → ShowsField w F bytes t → ShowsBoth bytes (pair_behind t s)
  first_shows bytes None (x, more, some, fit, parts) =
      ((x, second.some), more ++ v second.some, omega (arith, some, length-append more (v second.some)), (fit, second.some_fits), sym (append_assoc bytes more (v second.some)) ∙ ap (λ l. l ++ v second.some) parts)
  first_shows bytes (Some x) (front, fit) = second_shows bytes x.0 x.1 front fit (s x.1) (second.shows x.1 front.rest_fits)

  pub both_field : IsField (both_at r s) (λ p. w p.0 ++ v p.1) (λ p. F p.0 × G p.1)
  both_field = record {
    shows = λ bytes fits. first_shows bytes (r bytes) (first.shows bytes fits);
    again = λ p rest fits.
        ap (both_at r s) (append_assoc (w p.0) (v p.1) rest)
        ∙ ap (λ t. pair_behind t s) (first.again p.0 (v p.1 ++ rest) fits.0)
        ∙ ap (with_second p.0) (second.again p.1 rest fits.1);
    some = (first.some, second.some);
    some_fits = (first.some_fits, second.some_fits);
  }

-- ---- the fields of a node

abbrev parts_of : NodeInfo → Parts
parts_of i = (i.port, (i.node_type, (i.protocol, (i.highest, (i.lowest, (i.name, i.extra))))))

abbrev pub fields16 : ℕ → Type 0
fields16 n = n < 2 ^ 16

abbrev pub FieldsFit : NodeInfo → Type 0
FieldsFit i = fields16 i.port × (Unit {0} × (Unit {0} × (fields16 i.highest × (fields16 i.lowest × (Short16 i.name × Short16 i.extra)))))

info_shows : (bytes : List ℕ) (t : Taken Parts) → ShowsField (λ p. info_text (info_of_parts p)) (λ p. FieldsFit (info_of_parts p)) bytes t → ShowsField info_text FieldsFit bytes (value_as info_of_parts t)
info_shows bytes None (p, more, some, fit, parts) = (info_of_parts p, more, some, fit, parts)
info_shows bytes (Some p) shown = shown

pub info_field : IsField info_at info_text FieldsFit
info_field =
    let parts = both_field field16 (both_field byte_field (both_field byte_field (both_field field16 (both_field field16 (both_field sized_field sized_field))))) in
    record {
      shows = λ bytes fits. info_shows bytes _ (parts.shows bytes fits);
      again = λ i rest fits. ap (value_as info_of_parts) (parts.again (parts_of i) rest fits);
      some = info_of_parts parts.some;
      some_fits = parts.some_fits;
    }
