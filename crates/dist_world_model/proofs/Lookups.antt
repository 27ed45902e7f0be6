-- What stands at a place of the world.
use Rattle.dist_world_model.proofs.Words.{◌≡◌, ℕ, zero, suc, true, false, cond, eqb, ◌≢◌, List, [], ◌∷◌, ◌++◌, length, slice_get, Some, None, Option}
use Rattle.dist_world_model.proofs.Words.{option_map, sym, refl, ap, ◌∙◌, subst, arith, ne_eqb, eqb-true, false≢true, slice_get_past, End, at_place, EndRow}
use Rattle.dist_world_model.proofs.Words.{Life, end_of_life, row_of_life}
use Rattle.dist_world_model.proofs.{Places.eqb-self, Places.get-more, Places.get-place, Wires.Voice, Wires.voice}

-- the row and the end of this number in incarnation i, and what its node says of itself
abbrev pub row_in : List Life → ℕ → ℕ → Option EndRow
row_in ls i p = row_of_life (slice_get ls i) p

abbrev pub end_in : List Life → ℕ → ℕ → Option End
end_in ls i p = end_of_life (slice_get ls i) p

abbrev pub voice_of : Option Life → Option Voice
voice_of None = None
voice_of (Some l) = Some (voice l.node.setup)

abbrev pub voice_in : List Life → ℕ → Option Voice
voice_in ls i = voice_of (slice_get ls i)

-- what a number that may be absent leads to
abbrev pub far : {A : Type 0} → (ℕ → Option A) → Option ℕ → Option A
far f None = None
far f (Some y) = f y

-- equal or not
pub decide : (P : Type 0) (i j : ℕ) → (i ≡ j → P) → (i ≢ j → P) → P
decide P i j h g = elim (eqb i j) as (λ b. eqb i j ≡ b → P) [
  | true ↦ λ b. h (eqb-true i j b)
  | false ↦ λ b. g (λ e. false≢true (sym b ∙ ap (eqb i) (sym e) ∙ eqb-self i))
] refl

-- a relation between what stands at a place before and after a change of one place
pub changed-at : {X : Type 0} (L : Option Life → X) (R : X → X → Type 0) → ((x : X) → R x x) → (i : ℕ) (g : Life → Life) (ls : List Life) (old : Life) → slice_get ls i ≡ Some old
    → (j : ℕ) → (i ≡ j → R (L (Some old)) (L (Some (g old)))) → R (L (slice_get ls j)) (L (slice_get (at_place i g ls) j))
changed-at L R same i g ls old at j own =
    let P : Option Life → Type 0 = λ o. R (L (slice_get ls j)) (L o) in
    subst P (sym (get-place i g ls j)) (elim (eqb i j) as (λ b. eqb i j ≡ b → R (L (slice_get ls j)) (L (cond b (option_map g (slice_get ls j)) (slice_get ls j)))) [
      | true ↦ λ b. let e : slice_get ls j ≡ Some old = ap (slice_get ls) (sym (eqb-true i j b)) ∙ at in let Q : Option Life → Type 0 = λ o. R (L o) (L (option_map g o)) in subst Q (sym e) (own (eqb-true i j b))
      | false ↦ λ b. same (L (slice_get ls j))
    ] refl)

-- and after one more was added
pub more-at : {X : Type 0} (L : Option Life → X) (R : X → X → Type 0) → ((x : X) → R x x) → (ls : List Life) (new : Life) → R (L None) (L (Some new)) → (j : ℕ) → R (L (slice_get ls j)) (L (slice_get (ls ++ new ∷ []) j))
more-at L R same ls new own j =
    let P : Option Life → Type 0 = λ o. R (L (slice_get ls j)) (L o) in
    subst P (sym (get-more ls new j)) (elim (eqb (length ls) j) as (λ b. eqb (length ls) j ≡ b → R (L (slice_get ls j)) (L (cond b (Some new) (slice_get ls j)))) [
      | true ↦ λ b. let z : length ls ≡ j = eqb-true (length ls) j b in let e : slice_get ls j ≡ None = slice_get_past ls j (omega (arith, z)) in let Q : Option Life → Type 0 = λ o. R (L o) (L (Some new)) in subst Q (sym e) own
      | false ↦ λ b. same (L (slice_get ls j))
    ] refl)

-- the list that was changed at a place, of which the others are known
pub at-other : {A : Type 0} (P : ℕ → A → Type 0) (i : ℕ) (f : A → A) (xs : List A) → ((x : A) → slice_get xs i ≡ Some x → P i (f x)) → ((j : ℕ) (x : A) → i ≢ j → slice_get xs j ≡ Some x → P j x)
    → (j : ℕ) (y : A) → slice_get (at_place i f xs) j ≡ Some y → P j y
at-other P i f xs new old j y h =
    decide (P j y) i j
    (λ e. by (slice_get xs i) refl e (ap (λ b. cond b (option_map f (slice_get xs j)) (slice_get xs j)) (sym (ap (eqb i) (sym e) ∙ eqb-self i)) ∙ sym (get-place i f xs j) ∙ h))
    (λ n. old j y n (ap (λ b. cond b (option_map f (slice_get xs j)) (slice_get xs j)) (sym (ne_eqb i j n)) ∙ sym (get-place i f xs j) ∙ h))
  where
    by : (o : Option _) → slice_get xs i ≡ o → i ≡ j → option_map f (slice_get xs j) ≡ Some y → P j y
    by None at e q = absurd (let z : None ≡ Some y = ap (option_map f) (sym (ap (slice_get xs) (sym e) ∙ at)) ∙ q in cc)
    by (Some x) at e q = let z : Some (f x) ≡ Some y = ap (option_map f) (sym (ap (slice_get xs) (sym e) ∙ at)) ∙ q in let w : f x ≡ y = cc in let Q : ℕ → Type 0 = λ k. P k y in subst Q e (subst (P i) w (new x at))

-- what stood at a place that was changed
pub placed : {A : Type 0} (i : ℕ) (f : A → A) (xs : List A) (x : A) → slice_get xs i ≡ Some x → slice_get (at_place i f xs) i ≡ Some (f x)
placed i f xs x at = get-place i f xs i ∙ ap (λ b. cond b (option_map f (slice_get xs i)) (slice_get xs i)) (eqb-self i) ∙ ap (option_map f) at

pub unplaced : {A : Type 0} (i : ℕ) (f : A → A) (xs : List A) (j : ℕ) → i ≢ j → slice_get (at_place i f xs) j ≡ slice_get xs j
unplaced i f xs j h = get-place i f xs j ∙ ap (λ b. cond b (option_map f (slice_get xs j)) (slice_get xs j)) (ne_eqb i j h)

pub place-twice : {A : Type 0} (i : ℕ) (f g : A → A) (xs : List A) → at_place i g (at_place i f xs) ≡ at_place i (λ x. g (f x)) xs
place-twice i f g [] = refl
place-twice zero f g (x ∷ xs) = refl
place-twice (suc i) f g (x ∷ xs) = ap (λ r. x ∷ r) (place-twice i f g xs)

-- a row that is there belongs to an incarnation that is there
pub life-there : (ls : List Life) (i p : ℕ) (x : EndRow) → row_in ls i p ≡ Some x → (l : Life) × (slice_get ls i ≡ Some l) × (slice_get l.rows p ≡ Some x)
life-there ls i p x h = by (slice_get ls i) refl h
  where
    by : (o : Option Life) → slice_get ls i ≡ o → row_of_life o p ≡ Some x → (l : Life) × (slice_get ls i ≡ Some l) × (slice_get l.rows p ≡ Some x)
    by None at e = absurd cc
    by (Some l) at e = (l, at, e)

pub voice-there : (ls : List Life) (i : ℕ) (s : Voice) → voice_in ls i ≡ Some s → (l : Life) × (slice_get ls i ≡ Some l) × (voice l.node.setup ≡ s)
voice-there ls i s h = by (slice_get ls i) refl h
  where
    by : (o : Option Life) → slice_get ls i ≡ o → voice_of o ≡ Some s → (l : Life) × (slice_get ls i ≡ Some l) × (voice l.node.setup ≡ s)
    by None at e = absurd cc
    by (Some l) at e = (l, at, cc)
