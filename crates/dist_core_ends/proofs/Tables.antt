-- The table that the ends make.
use Rattle.dist_core_ends.proofs.Words.{and-false, ◌≡◌, ℕ, zero, suc, Bool, true, false, cond, ◌&&◌, ◌||◌, List, [], ◌∷◌, slice_get, Some, None, Option}
use Rattle.dist_core_ends.proofs.Words.{option_map, filter_map, sym, refl, ap, ◌∙◌, or_parts, get-empty, get-from_entries, same_map, find, cons_option, Name}
use Rattle.dist_core_ends.proofs.Words.{name_cmp, same_name, one_lem, Table, Entry, exact, order, Agree, Claim, claim_of, entry_from, entry_in, first_of, holds}
use Rattle.dist_core_ends.proofs.Words.{holds_at, is_claim, names, row_in, same_kind, table_of, End, Kind, In, Out, Up}
use Rattle.dist_core_ends.proofs.Agreement.{none-first, no-names, passes, entry-agreed}
use Rattle.std.specs.FinMap as map

abbrev pub is_of : Name → Option Claim → Bool
is_of q None = false
is_of q (Some c) = same_name q c.peer

abbrev claimed : Name → List End → Bool
claimed q [] = false
claimed q (e ∷ es) = is_of q (claim_of e) || claimed q es

either_none : (b : Bool) (o : Option Entry) → o ≡ None → cond b o None ≡ None
either_none true o e = e
either_none false o e = refl

one-row : (es : List End) (q : Name) (c : Option Claim) (rest : List (Name × Entry)) (b : Bool) → find name_cmp q rest ≡ cond b (entry_in es q) None → find name_cmp q (cons_option (row_in es c) rest) ≡ cond (is_of q c || b) (entry_in es q) None
one-row es q None rest b h = h
one-row es q (Some c) rest b h =
    elim (same_name q c.peer) as (λ s. same_name q c.peer ≡ s → find name_cmp q (cons_option (option_map (λ x. (c.peer, x)) (entry_in es c.peer)) rest) ≡ cond (s || b) (entry_in es q) None) [
      | true ↦ λ s. let same : entry_in es c.peer ≡ entry_in es q = ap (entry_in es) (sym (one_lem q c.peer s)) in
          elim (entry_in es c.peer) as (λ o. o ≡ entry_in es q → find name_cmp q (cons_option (option_map (λ x. (c.peer, x)) o) rest) ≡ entry_in es q) [
            | None ↦ λ e. h ∙ either_none b (entry_in es q) (sym e) ∙ e
            | Some x ↦ λ e. ap (λ t. cond t (Some x) (find name_cmp q rest)) s ∙ e
          ] same
      | false ↦ λ s.
          elim (entry_in es c.peer) as (λ o. find name_cmp q (cons_option (option_map (λ x. (c.peer, x)) o) rest) ≡ cond b (entry_in es q) None) [
            | None ↦ h
            | Some x ↦ ap (λ t. cond t (Some x) (find name_cmp q rest)) s ∙ h
          ]
    ] refl

find-rows : (es : List End) (q : Name) (xs : List End) → find name_cmp q (filter_map (λ e. row_in es (claim_of e)) xs) ≡ cond (claimed q xs) (entry_in es q) None
find-rows es q [] = refl
find-rows es q (e ∷ xs) = one-row es q (claim_of e) (filter_map (λ e. row_in es (claim_of e)) xs) (claimed q xs) (find-rows es q xs)

not-held : (q : Name) (k : Kind) (c : Option Claim) → is_of q c ≡ false → is_claim q k c ≡ false
not-held q k None h = refl
not-held q k (Some c) h = ap (λ b. same_kind k c.kind && b) h ∙ and-false (same_kind k c.kind)

unclaimed-at : (q : Name) (es : List End) → claimed q es ≡ false → (k : Kind) (i : ℕ) → passes (holds q k) (slice_get es i) ≡ false
unclaimed-at q [] h k i = refl
unclaimed-at q (e ∷ es) h k zero = not-held q k (claim_of e) (or_parts (is_of q (claim_of e)) (claimed q es) h).0
unclaimed-at q (e ∷ es) h k (suc i) = unclaimed-at q es (or_parts (is_of q (claim_of e)) (claimed q es) h).1 k i

unclaimed : (q : Name) (es : List End) → claimed q es ≡ false → entry_in es q ≡ None
unclaimed q es h =
    let at : (k : Kind) → first_of (holds q k) es ≡ None = λ k. none-first (holds q k) es (unclaimed-at q es h k) in
    λ j. entry_from (at Up j) (at In j) (at Out j)

whole : (q : Name) (es : List End) → cond (claimed q es) (entry_in es q) None ≡ entry_in es q
whole q es = elim (claimed q es) as (λ b. claimed q es ≡ b → cond b (entry_in es q) None ≡ entry_in es q) [ true ↦ λ e. refl | false ↦ λ e. sym (unclaimed q es e) ] refl

-- the table has the entries of the ends
pub get-table : (es : List End) (q : Name) → map.get (table_of es) q ≡ entry_in es q
get-table es q = get-from_entries order _ q ∙ find-rows es q es ∙ whole q es

-- a table that agrees with the ends is the one that they make
pub table-agreed : (t : Table) (es : List End) → Agree (map.get t) es → t ≡ table_of es
table-agreed t es h = same_map order exact t (table_of es) (λ q. sym (entry-agreed (map.get t) es h q) ∙ sym (get-table es q))

pub agree-empty : (t : Table) (es : List End) → t ≡ map.empty → es ≡ [] → Agree (map.get t) es
agree-empty t es e f p k i = ap (λ xs. holds_at xs p k i) f ∙ sym (ap (names k i) (ap (λ m. map.get m p) e ∙ get-empty name_cmp p) ∙ no-names k i)
