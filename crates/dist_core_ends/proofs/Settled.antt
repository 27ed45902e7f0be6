-- The numbers below which no end is of a kind, when ends change: an end that is up or closed is never pending again, and one that
-- has a name is never nameless again.
use Rattle.dist_core_ends.proofs.Words.{◌≡◌, ℕ, zero, suc, ◌<◌, ◌≤◌, true, false, cond, eqb, List, [], ◌∷◌, length, slice_get, Some, None, Option, sym, refl}
use Rattle.dist_core_ends.proofs.Words.{ap, ◌∙◌, subst, arith, length-set, eqb-true, false≢true, slice_get-get_or, Name, Table, EndId, Fits, IsThere}
use Rattle.dist_core_ends.proofs.Words.{OtherStaysClosed, StaysClosed, put_end, table_after, with_change, is_pending, is_unnamed, without_cause}
use Rattle.dist_core_ends.proofs.Words.{without_causes_below, AreSettled, IsPast, KeepsEnds, finds_sought, is_sought, End, Sought}
use Rattle.dist_core_ends.proofs.{Changes.get-put, Changes.length-put, Fitting.named-settled, Forgotten.forgotten-length, Forgotten.agree-forgotten}
use Rattle.dist_core_ends.proofs.Keeping.{put-within}
use Rattle.dist_core_ends.specs.declared.known.End.TheVariants as ends
use Rattle.dist_core_ends.specs.declared.slots.Sought.TheVariants as sought

still-settled : (k : Sought) (d e : End) → is_sought k d ≡ false → StaysClosed (Some d) e → is_sought k e ≡ false
still-settled sought.Pending (ends.Up r) e h s = s
still-settled sought.Pending (ends.Closed w) e h s = ap is_pending s
still-settled sought.Nameless (ends.Attempt a) e h s = s
still-settled sought.Nameless (ends.Up r) e h s = named-settled e s
still-settled sought.Nameless (ends.Closed w) e h s = ap is_unnamed s
still-settled k d e h s = absurd (false≢true (sym h))

end-there : (es : List End) (i : ℕ) → i < length es → (d : End) × (slice_get es i ≡ Some d)
end-there es i h = (_, slice_get-get_or es i ends.Unnamed h)

changed-longer : (es : List End) (id : EndId) (this : End) (other : Option (EndId × End)) → length es ≤ length (with_change es id this other)
changed-longer es id this None = length-put es id.0 this
changed-longer es id this (Some x) = omega (arith, length-put es id.0 this, length-set {A = End})

same-sought : (k : Sought) (e : End) → is_sought k (without_cause e) ≡ is_sought k e
same-sought sought.Pending (ends.Closed w) = refl
same-sought sought.Nameless (ends.Closed w) = refl
same-sought k e = refl

module _ (k : Sought) where
  -- an end that exists
  here-settled : (es : List End) (i : ℕ) (e : End) → i < length es → finds_sought k (slice_get es i) ≡ false → StaysClosed (slice_get es i) e → is_sought k e ≡ false
  here-settled es i e within h s =
      let d = end-there es i within in
      let P : Option End → Type 0 = λ o. StaysClosed o e in
      still-settled k (d.0) e (sym (ap (finds_sought k) (d.1)) ∙ h) (subst P (d.1) s)

  put-settled : (es : List End) (n x : ℕ) (e : End) → AreSettled k es n → n ≤ length es → x ≤ length es → StaysClosed (slice_get es x) e → AreSettled k (put_end es x e) n
  put-settled es n x e a within place s i h =
      let P : ℕ → Type 0 = λ y. StaysClosed (slice_get es y) e in
      ap (finds_sought k) (get-put es x e i place)
      ∙ elim (eqb x i) as (λ b. eqb x i ≡ b → finds_sought k (cond b (Some e) (slice_get es i)) ≡ false) [
        | true ↦ λ b. here-settled es i e (omega (arith, h, within)) (a i h) (subst P (eqb-true x i b) s)
        | false ↦ λ b. a i h
      ] refl

  changed-settled : (es : List End) (n : ℕ) (id : EndId) (this : End) (other : Option (EndId × End)) → AreSettled k es n → n ≤ length es → id.0 ≤ length es → StaysClosed (slice_get es id.0) this → IsThere es other → OtherStaysClosed (put_end es id.0 this) other → AreSettled k (with_change es id this other) n
  changed-settled es n id this None a within place s there o = put-settled es n id.0 this a within place s
  changed-settled es n id this (Some x) a within place s there o =
      let fs = put_end es id.0 this in
      let longer : length es ≤ length fs = length-put es id.0 this in
      let y : ℕ = let y = x.0 in y.0 in
      let P : List End → Type 0 = λ gs. AreSettled k gs n in
      subst P (sym (put-within fs y x.1 (omega (arith, there, longer)))) (put-settled fs n y x.1 (put-settled es n id.0 this a within place s) (omega (arith, within, longer)) (omega (arith, there, longer)) o)

  pub past-changed : (me : Name) (t : Table) (es : List End) (n : ℕ) (id : EndId) (this : End) (other : Option (EndId × End)) → IsPast k es n → Fits me es t id this other
      → IsPast k (with_change es id this other) n
  past-changed me t es n id this other p f = record {
    within = omega (arith, p.within, changed-longer es id this other);
    settled = changed-settled es n id this other p.settled p.within f.place f.stays f.other_there f.other_stays;
  }

  sought-forgotten : (b : ℕ) (es : List End) (i : ℕ) → finds_sought k (slice_get (without_causes_below b es) i) ≡ finds_sought k (slice_get es i)
  sought-forgotten zero [] i = refl
  sought-forgotten (suc b) [] i = refl
  sought-forgotten zero (e ∷ es) i = refl
  sought-forgotten (suc b) (e ∷ es) zero = same-sought k e
  sought-forgotten (suc b) (e ∷ es) (suc i) = sought-forgotten b es i

  pub past-forgotten : (b : ℕ) (es : List End) (n : ℕ) → IsPast k es n → IsPast k (without_causes_below b es) n
  past-forgotten b es n p = record { within = omega (arith, p.within, forgotten-length b es); settled = λ i h. sought-forgotten b es i ∙ p.settled i h }

-- what always holds still does after a change
pub keeps-changed : (me : Name) (t : Table) (es : List End) (passed named : ℕ) (id : EndId) (this : End) (other : Option (EndId × End)) → KeepsEnds t es passed named
    → Fits me es t id this other → KeepsEnds (table_after me es t id this) (with_change es id this other) passed named
keeps-changed me t es passed named id this other h f = record {
  agree = f.agree;
  pending = past-changed sought.Pending me t es passed id this other h.pending f;
  nameless = past-changed sought.Nameless me t es named id this other h.nameless f;
}

pub keeps-forgotten : (b : ℕ) (t : Table) (es : List End) (passed named : ℕ) → KeepsEnds t es passed named → KeepsEnds t (without_causes_below b es) passed named
keeps-forgotten b t es passed named h = record {
  agree = agree-forgotten t b es h.agree;
  pending = past-forgotten sought.Pending b es passed h.pending;
  nameless = past-forgotten sought.Nameless b es named h.nameless;
}
