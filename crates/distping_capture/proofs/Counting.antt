-- What the journal stands for.
use Rattle.std.proofs.Common.{◌≡◌, ℕ, ◌<◌, Bool, true, false, cond, eqb, List, [], ◌∷◌, ◌++◌, length, get_or, refl, sym, ap, ◌∙◌, arith, append_assoc, append-nil, take, drop, drop_of_length-le}
use Rattle.std.proofs.lemmas.List.{take_all}
use Rattle.std.specs.List.{remove}
use Rattle.distping_capture.specs.Captures.{StandsFor, exit_now, exit_of, first_exit}
use Rattle.distping_capture.specs.declared.{dials.PastDial.PastDial, journal.CaptureJournal.CaptureJournal}

-- ---- the first status

-- a status, or else another one
abbrev pub or_else : ℕ → ℕ → ℕ
or_else status other = cond (eqb status 0) other status

at_head : (b : Bool) (n rest other : ℕ) → eqb n 0 ≡ b → cond b (or_else rest other) n ≡ or_else (cond b rest n) other
at_head true n rest other e = refl
at_head false n rest other e = ap (λ (t : Bool). cond t other n) (sym e)

first_exit-append : (xs ys : List PastDial) → first_exit (xs ++ ys) ≡ or_else (first_exit xs) (first_exit ys)
first_exit-append [] ys = refl
first_exit-append (x ∷ xs) ys =
    ap (λ (n : ℕ). cond (eqb x.exit 0) n x.exit) (first_exit-append xs ys) ∙ at_head (eqb x.exit 0) x.exit (first_exit xs) (first_exit ys) refl

alone : (n : ℕ) → cond (eqb n 0) 0 n ≡ n
alone n = grind arith

first_exit-push : (xs : List PastDial) (dial : PastDial) → first_exit (xs ++ dial ∷ []) ≡ or_else (first_exit xs) dial.exit
first_exit-push xs dial = first_exit-append xs (dial ∷ []) ∙ ap (or_else (first_exit xs)) (alone dial.exit)

module _ {W : Type 0} where
  -- the status by what is remembered is that of all attempts
  pub exit_is : (r : CaptureJournal W) (attempts : List PastDial) → StandsFor r attempts → exit_now r ≡ exit_of r.has_found attempts
  exit_is r attempts p =
      let all : or_else r.status (first_exit r.dials.items) ≡ first_exit attempts =
      ap (λ (n : ℕ). or_else n (first_exit r.dials.items)) p.status ∙ sym (ap first_exit p.all ∙ first_exit-append p.earlier r.dials.items) in
      ap (λ (n : ℕ). cond r.has_found n 12) all

-- ---- the oldest is counted

split : (xs : List PastDial) (oldest : PastDial) → 0 < length xs → oldest ≡ get_or xs 0 oldest → xs ≡ oldest ∷ remove xs 0
split [] oldest some is = absurd (omega arith)
split (x ∷ xs) oldest some is = ap (λ (d : PastDial). d ∷ xs) (sym is)

module _ {W : Type 0} where
  pub older : (r s : CaptureJournal W) (oldest : PastDial) → 0 < length r.dials.items → oldest ≡ get_or r.dials.items 0 oldest → s.dials.items ≡ remove r.dials.items 0 → s.status ≡ or_else r.status oldest.exit
      → s.has_found ≡ r.has_found → (attempts : List PastDial) → StandsFor r attempts → StandsFor s attempts
  older r s oldest some is dials status found attempts p =
      let front : r.dials.items ≡ oldest ∷ s.dials.items = split r.dials.items oldest some is ∙ ap (λ (l : List PastDial). oldest ∷ l) (sym dials) in
      record {
        earlier = p.earlier ++ oldest ∷ [];
        all = p.all ∙ ap (λ (l : List PastDial). p.earlier ++ l) front ∙ sym (append_assoc p.earlier (oldest ∷ []) s.dials.items);
        status = status ∙ ap (λ (n : ℕ). or_else n oldest.exit) p.status ∙ sym (first_exit-push p.earlier oldest);
        nothing = λ e. p.nothing (sym found ∙ e);
      }

  abbrev pub dials_of : CaptureJournal W → List PastDial
  dials_of r = r.dials.items

  abbrev pub status_in : CaptureJournal W → ℕ
  status_in r = r.status

  abbrev pub found_in : CaptureJournal W → Bool
  found_in r = r.has_found

-- those that are remembered were written in place
pub written : (n : ℕ) (xs ys : List PastDial) → n ≡ length xs → length ys ≡ length xs → take n (ys ++ drop (length ys) xs) ≡ ys
written n xs ys is same =
    let none : drop (length ys) xs ≡ [] = drop_of_length-le xs (omega arith) in
    ap (λ (l : List PastDial). take n (ys ++ l)) none ∙ ap (take n) (append-nil ys) ∙ take_all n ys (omega arith)
