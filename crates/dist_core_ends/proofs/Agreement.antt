-- Entries that agree with the ends are the entries that the ends make.
use Rattle.dist_core_ends.proofs.Words.{◌≡◌, ℕ, zero, suc, Bool, false, cond, eqb, List, [], ◌∷◌, slice_get, Some, None, Option, option_map, refl, ap, ◌∙◌}
use Rattle.dist_core_ends.proofs.Words.{eq-eqb, eqb-suc-suc, eqb-suc-zero, false≢true, Name, Entry, Agree, entry_from, entry_in, first_of, holds, holds_at}
use Rattle.dist_core_ends.proofs.Words.{is_held, names, End, Kind, In, Out, Up}
use Rattle.dist_peers.specs.declared.entry.Entry.TheVariants as entry

abbrev pub passes : (End → Bool) → Option End → Bool
passes test None = false
passes test (Some e) = test e

pub none-first : (test : End → Bool) (es : List End) → ((i : ℕ) → passes test (slice_get es i) ≡ false) → first_of test es ≡ None
none-first test [] h = refl
none-first test (e ∷ es) h = ap (λ b. cond b (Some 0) (option_map suc (first_of test es))) (h zero) ∙ ap (option_map suc) (none-first test es (λ i. h (suc i)))

pub some-first : (test : End → Bool) (es : List End) (x : ℕ) → ((i : ℕ) → passes test (slice_get es i) ≡ eqb x i) → first_of test es ≡ Some x
some-first test [] x h = absurd (false≢true (h x ∙ eq-eqb x x refl))
some-first test (e ∷ es) zero h = ap (λ b. cond b (Some 0) (option_map suc (first_of test es))) (h zero)
some-first test (e ∷ es) (suc x) h = ap (λ b. cond b (Some 0) (option_map suc (first_of test es))) (h zero ∙ eqb-suc-zero x) ∙ ap (option_map suc) (some-first test es x (λ i. h (suc i) ∙ eqb-suc-suc x i))

pub held-passes : (p : Name) (k : Kind) (o : Option End) → passes (holds p k) o ≡ is_held p k o
held-passes p k None = refl
held-passes p k (Some e) = refl

pub no-names : (k : Kind) (i : ℕ) → names k i None ≡ false
no-names Out i = refl
no-names In i = refl
no-names Up i = refl

pub entry-from_agree : (es : List End) (p : Name) (o : Option Entry) → ((k : Kind) (i : ℕ) → holds_at es p k i ≡ names k i o) → entry_in es p ≡ o
entry-from_agree es p None h =
    let at : (k : Kind) → first_of (holds p k) es ≡ None = λ k. none-first (holds p k) es (λ i. held-passes p k (slice_get es i) ∙ h k i ∙ no-names k i) in
    λ j. entry_from (at Up j) (at In j) (at Out j)
entry-from_agree es p (Some (entry.Out x)) h =
    λ j. entry_from (none-first (holds p Up) es (λ i. held-passes p Up (slice_get es i) ∙ h Up i) j) (none-first (holds p In) es (λ i. held-passes p In (slice_get es i) ∙ h In i) j) (some-first (holds p Out) es x.0 (λ i. held-passes p Out (slice_get es i) ∙ h Out i) j)
entry-from_agree es p (Some (entry.In x)) h =
    λ j. entry_from (none-first (holds p Up) es (λ i. held-passes p Up (slice_get es i) ∙ h Up i) j) (some-first (holds p In) es x.0 (λ i. held-passes p In (slice_get es i) ∙ h In i) j) (none-first (holds p Out) es (λ i. held-passes p Out (slice_get es i) ∙ h Out i) j)
entry-from_agree es p (Some (entry.Up x)) h =
    λ j. entry_from (some-first (holds p Up) es x.0 (λ i. held-passes p Up (slice_get es i) ∙ h Up i) j) (none-first (holds p In) es (λ i. held-passes p In (slice_get es i) ∙ h In i) j) (none-first (holds p Out) es (λ i. held-passes p Out (slice_get es i) ∙ h Out i) j)
entry-from_agree es p (Some (entry.Challenged up x)) h =
    λ j. entry_from (some-first (holds p Up) es up.0 (λ i. held-passes p Up (slice_get es i) ∙ h Up i) j) (some-first (holds p In) es x.0 (λ i. held-passes p In (slice_get es i) ∙ h In i) j) (none-first (holds p Out) es (λ i. held-passes p Out (slice_get es i) ∙ h Out i) j)

-- entries that agree with the ends are those that the ends make
pub entry-agreed : (t : Name → Option Entry) (es : List End) → Agree t es → (p : Name) → entry_in es p ≡ t p
entry-agreed t es h p = entry-from_agree es p (t p) (h p)
