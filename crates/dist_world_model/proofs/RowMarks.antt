-- What a mark does to a row, and what a row says of its end.
use Rattle.dist_world_model.proofs.Words.{or-false, or-true, ◌≡◌, ℕ, ◌+◌, ◌<◌, ◌≤◌, Bool, true, false, cond, ◌&&◌, ◌||◌, ◌⊎◌, List, is_some, slice_get, Some}
use Rattle.dist_world_model.proofs.Words.{None, Option, option_map, sym, refl, ap, ◌∙◌, subst, inl, inr, arith, false≢true, nat_tests, Name, Side, Acceptor}
use Rattle.dist_world_model.proofs.Words.{Dialler, claim_of, kind_in, End, Phase, Reply, EndRow, claim_before, claim_when, holds_peer, new_row, once, past}
use Rattle.dist_world_model.proofs.Words.{rises, row_after, says_reply, takes_name}
use Rattle.dist_world_model.proofs.EndStates.{AreBeside, Below, Beside, Fits, Stand, row_stand, stand_after, stand_claim, stand_in, stand_of, stand_row}
use Rattle.dist_core_ends.specs.declared.known.End.TheVariants as ends
use Rattle.dist_core_ends.specs.declared.phase.Phase.TheVariants as phase

pub once-false : (t : ℕ) (o : Option ℕ) → once false t o ≡ o
once-false t None = refl
once-false t (Some n) = refl

pub once-some : (t : ℕ) (o : Option ℕ) → is_some (once true t o) ≡ true
once-some t None = refl
once-some t (Some n) = refl

pub once-past : (b : Bool) (t j : ℕ) (o : Option ℕ) → past j o ≡ true → past j (once b t o) ≡ true
once-past b t j (Some n) h = h
once-past b t j None h = absurd (false≢true h)

is-once : (b : Bool) (t : ℕ) (o : Option ℕ) → is_some (once b t o) ≡ (is_some o || b)
is-once b t (Some n) = refl
is-once true t None = refl
is-once false t None = refl

-- what is written at number t was there, or is written now
pub written : (b : Bool) (t n : ℕ) (o : Option ℕ) → once b t o ≡ Some n → (o ≡ Some n) ⊎ ((b ≡ true) × (o ≡ None) × (t ≡ n))
written b t n (Some k) e = inl e
written true t n None e = inr (refl, refl, cc)
written false t n None e = absurd cc

-- at an earlier moment, what is written now is not there
pub past-once : (s t : ℕ) (b : Bool) (o : Option ℕ) → s ≤ t → past s (once b t o) ≡ past s o
past-once s t b (Some n) h = refl
past-once s t false None h = refl
past-once s t true None h = grind (arith, nat_tests)

pub past-later : (t s : ℕ) (o : Option ℕ) → t ≤ s → past t o ≡ is_some o → past s o ≡ is_some o
past-later t s None g h = refl
past-later t s (Some n) g h = grind (arith, nat_tests)

pub once-below : (t : ℕ) (b : Bool) (o : Option ℕ) → past t o ≡ is_some o → past (t + 1) (once b t o) ≡ is_some (once b t o)
once-below t b (Some n) h = past-later t (t + 1) (Some n) (omega arith) h
once-below t false None h = refl
once-below t true None h = grind (arith, nat_tests)

-- a number that is there is before t
pub below-of : (t n : ℕ) (o : Option ℕ) → past t o ≡ is_some o → o ≡ Some n → n < t
below-of t n o b e = let h : past t (Some n) ≡ true = ap (past t) (sym e) ∙ b ∙ ap is_some e in grind (arith, nat_tests)

pub later-below : (t s : ℕ) (row : EndRow) → t ≤ s → Below t row → Below s row
later-below t s row g b = record {
  given = past-later t s (Some row.given) g b.given;
  named = past-later t s row.named g b.named;
  doomed = past-later t s row.doomed g b.doomed;
  replied = past-later t s row.replied g b.replied;
  rose = past-later t s row.rose g b.rose;
  closed = past-later t s row.closed g b.closed;
}

pub new-below : (t : ℕ) (side : Side) (p : Option Name) (c : Option ℕ) → Below (t + 1) (new_row side p c t)
new-below t side p c = record { given = (let h : t < t + 1 = omega arith in grind (arith, nat_tests)); named = refl; doomed = refl; replied = refl; rose = refl; closed = refl }

-- an end that stands in its place has a row that fits it
pub fits-at : (es : List End) (rows : List EndRow) → AreBeside es rows → (i : ℕ) (e : End) (row : EndRow) → slice_get es i ≡ Some e → slice_get rows i ≡ Some row → Fits e row
fits-at es rows h i e row a b = let P : Option End → Option EndRow → Type 0 = λ o q. Beside o q in subst (P (Some e)) b (subst (λ o. P o (slice_get rows i)) a (h i))

-- a mark that closes
pub closed-stand : (t : ℕ) (own doom : Bool) (r : Reply) (row : EndRow) → row_stand (row_after t own doom true r row) ≡ None
closed-stand t own doom r row = ap (λ b. cond b None (Some (stand_row (row_after t own doom true r row)))) (is-once true t row.closed ∙ or-true (is_some row.closed))

-- a mark that does not
pub written-stand : (t : ℕ) (own doom : Bool) (r : Reply) (row : EndRow) → row_stand (row_after t own doom false r row) ≡ option_map (stand_after own doom r) (row_stand row)
written-stand t own doom r row =
    let m = row_after t own doom false r row in
    (λ i. cond ((is-once false t row.closed ∙ or-false (is_some row.closed)) i) None (Some (record { side = m.side; peer = m.peer; named = is-once (own && takes_name r.note) t row.named i; doomed = is-once doom t row.doomed i; replied = is-once (own && says_reply r.note) t row.replied i; rose = is-once (own && rises r.up) t row.rose i })))
    ∙ by (is_some row.closed)
  where
    by : (b : Bool) → cond b None (Some (stand_after own doom r (stand_row row))) ≡ option_map (stand_after own doom r) (cond b None (Some (stand_row row)))
    by true = refl
    by false = refl

-- what an end holds is what its stand holds
pub end-claim : (side : Side) (e : End) → claim_of e ≡ stand_claim (stand_of side e)
end-claim side ends.Unnamed = refl
end-claim side (ends.Closed w) = refl
end-claim Dialler (ends.Up r) = refl
end-claim Acceptor (ends.Up r) = refl
end-claim side (ends.Attempt a) = by a.phase
  where
    by : (q : Phase) → option_map (λ k. record { peer = a.peer; kind = k }) (kind_in q) ≡ stand_claim (Some (stand_in a.peer q))
    by phase.Dialing = refl
    by q = refl

closed-claim : (b : Bool) (s : Stand) → claim_when s.side s.peer (holds_peer s.side true s.named) (s.doomed || b) s.rose ≡ stand_claim (cond b None (Some s))
closed-claim false s = ap (λ d. claim_when s.side s.peer (holds_peer s.side true s.named) d s.rose) (or-false s.doomed)
closed-claim true s = ap (λ d. claim_when s.side s.peer (holds_peer s.side true s.named) d s.rose) (or-true s.doomed) ∙ none (holds_peer s.side true s.named)
  where
    none : (b : Bool) → claim_when s.side s.peer b true s.rose ≡ None
    none true = refl
    none false = refl

-- THE ROW HOLDS NOW WHAT THE END HOLDS, once all its numbers are past
pub fits-claim : (t : ℕ) (e : End) (row : EndRow) → Below t row → Fits e row → claim_before t row ≡ claim_of e
fits-claim t e row b f =
    (λ i. claim_when row.side row.peer (holds_peer row.side (b.given i) (b.named i)) (b.doomed i || b.closed i) (b.rose i))
    ∙ closed-claim (is_some row.closed) (stand_row row) ∙ ap stand_claim (sym f) ∙ sym (end-claim row.side e)
