-- What was found out at each address that was tried.
use Rattle.std.proofs.Common.{◌≡◌, ℕ, ◌<◌, ◌++◌, List, [], ◌∷◌, None, length, get_or, inl, inr, refl, sym, ap, ◌∙◌, subst, arith}
use Rattle.std.proofs.Math.Seq.{get_or-append_seam}
use Rattle.std.proofs.lemmas.{Bool.cases_lt, List.get_or_append_left, List.length-append}
use Rattle.dist_talk.specs.declared.verdict.HandshakeVerdict.{HandshakeVerdict}
use Rattle.dist_talk.specs.declared.verdict.Unresolved.TheVariants as unresolved
use Rattle.dist_talk.specs.declared.verdict.HandshakeVerdict.TheVariants as verdict
use Rattle.distping.specs.{Coming.AllCome, Coming.Comes, Coming.ComesBy, Trying.IsFurthest, declared.links.tries.Tries.Tries}
use Rattle.distping_report.specs.declared.{asked.Dial.Dial, found.Found.Found, found.ProbeOutcome.ProbeOutcome}

-- an element of a list, or the one behind it
at_seam : {X : Type 0} (xs : List X) (x d : X) (i : ℕ) → i ≡ length xs → get_or (xs ++ x ∷ []) i d ≡ x
at_seam xs x d i e = ap (λ k. get_or (xs ++ x ∷ []) k d) e ∙ get_or-append_seam xs x [] d

-- one address more
pub push_comes : (d : Dial) (old new : Tries) (found : Found) (v : HandshakeVerdict) → length old.found.items ≡ length old.verdicts.items
    → new.found.items ≡ old.found.items ++ found ∷ [] → new.verdicts.items ≡ old.verdicts.items ++ v ∷ []
    → Comes d found v → AllCome d old → AllCome d new
push_comes d old new found v paired fs vs comes all i f w less =
    let P : List Found → List HandshakeVerdict → Type 0 = λ xs ys. Comes d (get_or xs i f) (get_or ys i w) in
    let Q : Found → HandshakeVerdict → Type 0 = λ x y. Comes d x y in
    let more : length new.verdicts.items ≡ length (old.verdicts.items ++ v ∷ []) = ap length vs in
    let len = length-append old.verdicts.items (v ∷ []) in
    let both : P (old.found.items ++ found ∷ []) (old.verdicts.items ++ v ∷ []) = elim (cases_lt i (length old.verdicts.items)) [
      | inl l ↦
          subst (λ x. Q x (get_or (old.verdicts.items ++ v ∷ []) i w)) (sym (get_or_append_left old.found.items (found ∷ []) f i (omega (arith, l, paired))))
          (subst (λ y. Q (get_or old.found.items i f) y) (sym (get_or_append_left old.verdicts.items (v ∷ []) w i l)) (all i f w l))
      | inr g ↦
          subst (λ x. Q x (get_or (old.verdicts.items ++ v ∷ []) i w)) (sym (at_seam old.found.items found f i (omega (arith, less, more, len, g, paired))))
          (subst (λ y. Q found y) (sym (at_seam old.verdicts.items v w i (omega (arith, less, more, len, g)))) comes)
    ] in
    subst (λ xs. P xs new.verdicts.items) (sym fs) (subst (λ ys. P (old.found.items ++ found ∷ []) ys) (sym vs) both)

-- none so far
pub none_come : (d : Dial) (all : Tries) → all.verdicts.items ≡ [] → AllCome d all
none_come d all none i f w less = let e : length all.verdicts.items ≡ 0 = ap length none in absurd (omega (arith, less, e))

-- the outcome is that of one of them, or that the host has no address
pub outcome_comes : (d : Dial) (all : Tries) (it : ProbeOutcome) → (0 < length all.verdicts.items → IsFurthest all it)
    → (length all.verdicts.items ≡ 0 → (it.verdict ≡ verdict.NoHost unresolved.NoName) × (it.found.handshake ≡ None)) → AllCome d all
    → Comes d it.found it.verdict
outcome_comes d all it some none come =
    elim (cases_lt 0 (length all.verdicts.items)) [
      | inl l ↦
          let best = some l in
          let place : ℕ = best.place in
          let Q : Found → HandshakeVerdict → Type 0 = λ x y. Comes d x y in
          subst (λ x. Q x it.verdict) (sym (best.found it.found)) (subst (λ y. Q (get_or all.found.items place it.found) y) (sym (best.verdict it.verdict)) (come place it.found it.verdict best.best.0))
      | inr g ↦
          let is = none (omega (arith, g)) in
          subst (λ h. ComesBy d it.found.registration h it.verdict) (sym is.1) (subst (λ y. ComesBy d it.found.registration None y) (sym is.0) refl)
    ]
