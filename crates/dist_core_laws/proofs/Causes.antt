-- What a step reads of ends doesn't depend on why the closed ones were closed.
use Rattle.std.proofs.Common.{map, take, fold}
use Rattle.std.specs.FinMap as fin_map
use Rattle.dist_core_ends.specs.declared.known.End.TheVariants as ends
use Rattle.dist_core_ends.proofs.Forgotten.{same-open}
use Rattle.dist_core.proofs.Words.{take-append-drop, length-map, map-append, map-set, slice_get-map, End, Kind, In, Out, Up, ◌≡◌, ℕ, suc, ◌+◌, true, false}
use Rattle.dist_core.proofs.Words.{cond, ltb, List, [], ◌∷◌, ◌++◌, length, drop, set, slice_get, Some, None, count_by, Option, option_map, filter_map, sym}
use Rattle.dist_core.proofs.Words.{refl, ap, ◌∙◌, cons_option, Name, EndId, put_end, with_change, Claim, claim_of, entry_from, entry_in, first_of, holds}
use Rattle.dist_core.proofs.Words.{is_claim, is_open, row_in, table_of, without_cause, without_causes_below, superseded_end}

-- ---- one end

-- to forget a cause twice is to forget it once
cause-once : (e : End) → without_cause (without_cause e) ≡ without_cause e
cause-once (ends.Closed w) = refl
cause-once e = refl

claim-same : (e : End) → claim_of (without_cause e) ≡ claim_of e
claim-same (ends.Closed w) = refl
claim-same e = refl

superseded-same : (o : Option End) → superseded_end (option_map without_cause o) ≡ superseded_end o
superseded-same (Some (ends.Closed w)) = refl
superseded-same o = refl

-- ---- all ends

causes-once : (es : List End) → map without_cause (map without_cause es) ≡ map without_cause es
causes-once [] = refl
causes-once (e ∷ es) = λ i. cause-once e i ∷ causes-once es i

first-same : (p : Name) (k : Kind) (es : List End) → first_of (holds p k) (map without_cause es) ≡ first_of (holds p k) es
first-same p k [] = refl
first-same p k (e ∷ es) = λ i. cond (is_claim p k (claim-same e i)) (Some 0) (option_map suc (first-same p k es i))

entry-same : (es : List End) (p : Name) → entry_in (map without_cause es) p ≡ entry_in es p
entry-same es p = λ i. entry_from (first-same p Up es i) (first-same p In es i) (first-same p Out es i)

row-same : (es : List End) (c : Option Claim) → row_in (map without_cause es) c ≡ row_in es c
row-same es None = refl
row-same es (Some c) = ap (λ o. option_map (λ x. (c.peer, x)) o) (entry-same es c.peer)

rows-same : (all es : List End) → filter_map (λ e. row_in (map without_cause all) (claim_of e)) (map without_cause es) ≡ filter_map (λ e. row_in all (claim_of e)) es
rows-same all [] = refl
rows-same all (e ∷ es) =
    let here = ap (row_in (map without_cause all)) (claim-same e) ∙ row-same all (claim_of e) in
    λ i. cons_option (here i) (rows-same all es i)

table-same : (es : List End) → table_of (map without_cause es) ≡ table_of es
table-same es = ap fin_map.from_entries (rows-same es es)

opens-from : (k : ℕ) (es : List End) → fold (λ n e. n + cond (is_open e) 1 0) k (map without_cause es) ≡ fold (λ n e. n + cond (is_open e) 1 0) k es
opens-from k [] = refl
opens-from k (e ∷ es) =
    ap (λ b. fold (λ n e. n + cond (is_open e) 1 0) (k + cond b 1 0) (map without_cause es)) (same-open e)
    ∙ opens-from (k + cond (is_open e) 1 0) es

opens-same : (es : List End) → count_by is_open (map without_cause es) ≡ count_by is_open es
opens-same es = opens-from 0 es

-- to forget some causes before all makes no difference
pub forgotten-alike : (below : ℕ) (es : List End) → map without_cause es ≡ map without_cause (without_causes_below below es)
forgotten-alike below es = sym (
    map-append without_cause (map without_cause (take below es)) (drop below es)
    ∙ ap (λ xs. xs ++ map without_cause (drop below es)) (causes-once (take below es))
    ∙ sym (map-append without_cause (take below es) (drop below es))
    ∙ ap (map without_cause) (take-append-drop below es)
    )

-- ---- two lists of ends that differ in causes alone

module _ (es ds : List End) (alike : map without_cause es ≡ map without_cause ds) where
  pub entry-alike : (p : Name) → entry_in es p ≡ entry_in ds p
  entry-alike p = sym (entry-same es p) ∙ ap (λ xs. entry_in xs p) alike ∙ entry-same ds p

  pub table-alike : table_of es ≡ table_of ds
  table-alike = sym (table-same es) ∙ ap table_of alike ∙ table-same ds

  pub opens-alike : count_by is_open es ≡ count_by is_open ds
  opens-alike = sym (opens-same es) ∙ ap (count_by is_open) alike ∙ opens-same ds

  pub length-alike : length es ≡ length ds
  length-alike = sym (length-map es without_cause) ∙ ap length alike ∙ length-map ds without_cause

  pub end-alike : (i : ℕ) → option_map without_cause (slice_get es i) ≡ option_map without_cause (slice_get ds i)
  end-alike i = sym (slice_get-map without_cause es i) ∙ ap (λ xs. slice_get xs i) alike ∙ slice_get-map without_cause ds i

  pub superseded-alike : (i : ℕ) → superseded_end (slice_get es i) ≡ superseded_end (slice_get ds i)
  superseded-alike i = sym (superseded-same (slice_get es i)) ∙ ap superseded_end (end-alike i) ∙ superseded-same (slice_get ds i)

  set-alike : (i : ℕ) (e : End) → map without_cause (set es i e) ≡ map without_cause (set ds i e)
  set-alike i e = map-set without_cause es i e ∙ ap (λ xs. set xs i (without_cause e)) alike ∙ sym (map-set without_cause ds i e)

  push-alike : (e : End) → map without_cause (es ++ e ∷ []) ≡ map without_cause (ds ++ e ∷ [])
  push-alike e = map-append without_cause es (e ∷ []) ∙ ap (λ xs. xs ++ without_cause e ∷ []) alike ∙ sym (map-append without_cause ds (e ∷ []))

  put-alike : (i : ℕ) (e : End) → map without_cause (put_end es i e) ≡ map without_cause (put_end ds i e)
  put-alike i e =
      ap (λ n. map without_cause (cond (ltb i n) (set es i e) (es ++ e ∷ []))) length-alike
      ∙ elim (ltb i (length ds)) as (λ b. map without_cause (cond b (set es i e) (es ++ e ∷ [])) ≡ map without_cause (cond b (set ds i e) (ds ++ e ∷ []))) [ true ↦ set-alike i e | false ↦ push-alike e ]

pub changed-alike : (es ds : List End) → map without_cause es ≡ map without_cause ds → (id : EndId) (this : End) (other : Option (EndId × End)) → map without_cause (with_change es id this other) ≡ map without_cause (with_change ds id this other)
changed-alike es ds alike id this None = put-alike es ds alike id.0 this
changed-alike es ds alike id this (Some x) = set-alike (put_end es id.0 this) (put_end ds id.0 this) (put-alike es ds alike id.0 this) (let y = x.0 in y.0) x.1
