-- What a watch reports, by the whole history.
use Rattle.std.proofs.Common.{◌≡◌, ◌≢◌, ℕ, ◌<◌, Bool, true, false, cond, eqb, List, [], ◌∷◌, ◌++◌, Option, Some, None, length, map, filter, option_to_list}
use Rattle.std.proofs.Common.{refl, sym, ap, subst, ◌∙◌, append_assoc}
use Rattle.std.proofs.lemmas.List.{append-nil, length-set, length-replicate}
use Rattle.dist_cluster.specs.Watching.{Verdicts, watching, verdict_of, after_one, is_other, change_from}
use Rattle.dist_cluster.specs.History.{AreOfTargets, Moment, changes, is_change, last_observed, last_reported, moments_after, reports, verdict_before}
use Rattle.dist_cluster.specs.declared.change.{Observation.Observation, VerdictChange.VerdictChange}
use Rattle.dist_cluster.proofs.Lasts.{last_by-same, last_by-other}
use Rattle.dist_cluster.proofs.Watches.{Agrees, agree-more, differs, none-shown, shown-same, shown-other, stays}

-- an observation as a change from the last one of its target
abbrev pub change_at : Moment → VerdictChange
change_at m = change_from (verdict_before m) m.seen

-- what is reported of an observation, by whether its verdict differs
abbrev pub reported_if : Bool → Option (List ℕ) → Observation → List VerdictChange
reported_if b before o = option_to_list (cond b (Some (change_from before o)) None)

-- there are as many targets as before
rest-fits : (shown : Verdicts) (o : Observation) (os : List Observation) → AreOfTargets (length shown) os → AreOfTargets (length (after_one shown o)) os
rest-fits shown o os fits = let P : ℕ → Type 0 = λ n. AreOfTargets n os in subst P (sym (length-set shown o.target (Some o.verdict))) fits

all-fit : (targets : ℕ) (os : List Observation) → AreOfTargets targets os → AreOfTargets (length (watching targets)) os
all-fit targets os fits =
    let none : Option (List ℕ) = None in
    let P : ℕ → Type 0 = λ n. AreOfTargets n os in
    subst P (sym (length-replicate targets none)) fits

-- ---- the changes are reported

put-first : (b : Bool) (m : Moment) (ms : List Moment)
    → reported_if b (verdict_before m) m.seen ++ map change_at ms ≡ map change_at (cond b (m ∷ ms) ms)
put-first true m ms = refl
put-first false m ms = refl

reports-from : (os : List Observation) (shown : Verdicts) (past : List Observation) → AreOfTargets (length shown) os → Agrees shown past
    → reports shown os ≡ map change_at (filter is_change (moments_after past os))
reports-from [] shown past fits agree = refl
reports-from (o ∷ os) shown past fits agree =
    let m : Moment = record { before = past; seen = o } in
    let ms : List Moment = filter is_change (moments_after (past ++ o ∷ []) os) in
    ap (λ (v : Option (List ℕ)). reported_if (is_other v o.verdict) v o ++ reports (after_one shown o) os) (agree o.target)
    ∙ ap (λ (cs : List VerdictChange). reported_if (is_change m) (verdict_before m) o ++ cs)
    (reports-from os (after_one shown o) (past ++ o ∷ []) (rest-fits shown o os fits.1) (agree-more shown past o fits.0 agree))
    ∙ put-first (is_change m) m ms

pub reports-changes : (targets : ℕ) (history : List Observation) → AreOfTargets targets history → reports (watching targets) history ≡ changes history
reports-changes targets history fits = reports-from history (watching targets) [] (all-fit targets history fits) (none-shown targets)

-- ---- each target shows its last report

-- each target shows the verdict in its last report
abbrev pub Shows : List VerdictChange → Verdicts → Type 0
Shows reported shown = (t : ℕ) → last_reported t reported ≡ verdict_of shown t

show-same : (shown : Verdicts) (o : Observation) (reported : List VerdictChange) → Shows reported shown
    → is_other (verdict_of shown o.target) o.verdict ≡ false → Shows reported (after_one shown o)
show-same shown o reported show is t = show t ∙ ap (λ (s : Verdicts). verdict_of s t) (sym (stays shown o is))

show-other : (shown : Verdicts) (o : Observation) (reported : List VerdictChange) → o.target < length shown → Shows reported shown
    → Shows (reported ++ change_from (verdict_of shown o.target) o ∷ []) (after_one shown o)
show-other shown o reported fits show t =
    let c : VerdictChange = change_from (verdict_of shown o.target) o in
    elim (eqb o.target t) as (λ b. eqb o.target t ≡ b → last_reported t (reported ++ c ∷ []) ≡ verdict_of (after_one shown o) t) [
      | true ↦ λ is. last_by-same (λ (x : VerdictChange). x.target) (λ x. x.after) t reported c is ∙ sym (shown-same shown o t fits is)
      | false ↦ λ is. last_by-other (λ (x : VerdictChange). x.target) (λ x. x.after) t reported c is ∙ show t ∙ sym (shown-other shown o t is)
    ] refl

show-more : (shown : Verdicts) (o : Observation) (reported : List VerdictChange) → o.target < length shown → Shows reported shown
    → Shows (reported ++ reported_if (is_other (verdict_of shown o.target) o.verdict) (verdict_of shown o.target) o) (after_one shown o)
show-more shown o reported fits show =
    let before : Option (List ℕ) = verdict_of shown o.target in
    elim (is_other before o.verdict) as (λ b. is_other before o.verdict ≡ b → Shows (reported ++ reported_if b before o) (after_one shown o)) [
      | true ↦ λ is. show-other shown o reported fits show
      | false ↦ λ is t. ap (λ (cs : List VerdictChange). last_reported t cs) (append-nil reported) ∙ show-same shown o reported show is t
    ] refl

last-from : (os : List Observation) (shown : Verdicts) (past : List Observation) (reported : List VerdictChange) (t : ℕ)
    → AreOfTargets (length shown) os → Agrees shown past → Shows reported shown
    → last_reported t (reported ++ reports shown os) ≡ last_observed t (past ++ os)
last-from [] shown past reported t fits agree show =
    ap (λ (cs : List VerdictChange). last_reported t cs) (append-nil reported) ∙ show t ∙ agree t
    ∙ sym (ap (λ (os : List Observation). last_observed t os) (append-nil past))
last-from (o ∷ os) shown past reported t fits agree show =
    let first : List VerdictChange = reported_if (is_other (verdict_of shown o.target) o.verdict) (verdict_of shown o.target) o in
    ap (λ (cs : List VerdictChange). last_reported t cs) (sym (append_assoc reported first (reports (after_one shown o) os)))
    ∙ last-from os (after_one shown o) (past ++ o ∷ []) (reported ++ first) t
    (rest-fits shown o os fits.1) (agree-more shown past o fits.0 agree) (show-more shown o reported fits.0 show)
    ∙ ap (λ (os : List Observation). last_observed t os) (append_assoc past (o ∷ []) os)

pub reports-last : (targets t : ℕ) (history : List Observation) → AreOfTargets targets history
    → last_reported t (reports (watching targets) history) ≡ last_observed t history
reports-last targets t history fits =
    last-from history (watching targets) [] [] t (all-fit targets history fits) (none-shown targets) (λ n. sym (none-shown targets n))

-- ---- each report is a change from the one before

-- a report is of a change from the last report of its target
abbrev pub Follows : List VerdictChange → VerdictChange → Type 0
Follows earlier c = (c.before ≡ last_reported c.target earlier) × (is_other c.before c.after ≡ true)

nil-cons : (early late : List VerdictChange) (c : VerdictChange) → [] ≡ early ++ c ∷ late → ⊥
nil-cons [] late c e = cc
nil-cons (d ∷ early) late c e = cc

heads : (a b : VerdictChange) (xs ys : List VerdictChange) → a ∷ xs ≡ b ∷ ys → (a ≡ b) × (xs ≡ ys)
heads a b xs ys e = (cc, cc)

follows-first : (shown : Verdicts) (o : Observation) (reported : List VerdictChange) (c : VerdictChange) → Shows reported shown
    → is_other (verdict_of shown o.target) o.verdict ≡ true → change_from (verdict_of shown o.target) o ≡ c → Follows (reported ++ []) c
follows-first shown o reported c show is e =
    let P : VerdictChange → Type 0 = λ d. Follows (reported ++ []) d in
    subst P e (sym (show o.target) ∙ ap (λ (cs : List VerdictChange). last_reported o.target cs) (sym (append-nil reported)), is)

follows-from : (os : List Observation) (shown : Verdicts) (reported early late : List VerdictChange) (c : VerdictChange)
    → AreOfTargets (length shown) os → Shows reported shown → reports shown os ≡ early ++ c ∷ late → Follows (reported ++ early) c
follows-from [] shown reported early late c fits show e = absurd (nil-cons early late c e)
follows-from (o ∷ os) shown reported early late c fits show e =
    let before : Option (List ℕ) = verdict_of shown o.target in
    let next : Verdicts = after_one shown o in
    elim (is_other before o.verdict) as (λ b. is_other before o.verdict ≡ b
    → reported_if b before o ++ reports next os ≡ early ++ c ∷ late → Follows (reported ++ early) c) [
      | true ↦ λ is. elim early as (λ early. change_from before o ∷ reports next os ≡ early ++ c ∷ late → Follows (reported ++ early) c) [
        | [] ↦ λ h. follows-first shown o reported c show is (heads (change_from before o) c (reports next os) late h).0
        | (d ∷ others) ↦ λ h.
            let both = heads (change_from before o) d (reports next os) (others ++ c ∷ late) h in
            let P : List VerdictChange → Type 0 = λ cs. Follows cs c in
            let Q : VerdictChange → Type 0 = λ x. Follows (reported ++ x ∷ others) c in
            subst Q both.0 (subst P (append_assoc reported (change_from before o ∷ []) others)
            (follows-from os next (reported ++ change_from before o ∷ []) others late c
            (rest-fits shown o os fits.1) (show-other shown o reported fits.0 show) both.1))
      ]
      | false ↦ λ is h. follows-from os next reported early late c (rest-fits shown o os fits.1) (show-same shown o reported show is) h
    ] refl e

pub reports-follow : (targets : ℕ) (history : List Observation) (early late : List VerdictChange) (c : VerdictChange) → AreOfTargets targets history
    → reports (watching targets) history ≡ early ++ c ∷ late → Follows early c
reports-follow targets history early late c fits e =
    follows-from history (watching targets) [] early late c (all-fit targets history fits) (λ n. sym (none-shown targets n)) e

pub reports-differ : (targets : ℕ) (history : List Observation) (early late : List VerdictChange) (c : VerdictChange) → AreOfTargets targets history
    → reports (watching targets) history ≡ early ++ c ∷ late → c.before ≢ Some c.after
reports-differ targets history early late c fits e = differs c.before c.after (reports-follow targets history early late c fits e).1
