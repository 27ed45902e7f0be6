-- The index of the running incarnations, when an incarnation begins, changes or ends.
use mathlib.Core.Bool.{and-true}
use Rattle.std.proofs.{Common.◌==◌, Common.IfOk, Common.OnErr, Common.MatchOption, lemmas.Option.slice_get-get_or}
use Rattle.std.specs.declared.alloc.AllocError.{AllocError}
use Rattle.dist_world_model.proofs.Words.{is_some, and_parts, and_right, Event, not, ◌≡◌, ℕ, zero, suc, ◌<◌, Bool, true, false, cond, ◌&&◌, ◌⊎◌, List, [], ◌∷◌}
use Rattle.dist_world_model.proofs.Words.{◌++◌, length, slice_get, Some, None, Ok, Err, Option, Result, option_map, sym, refl, ap, ◌∙◌, subst, inl, inr, arith}
use Rattle.dist_world_model.proofs.Words.{eq-eqb, eqb-true, life_after, life_after_end, at_place, first_where, Conn, Life, runs_for}
use Rattle.dist_world_lives.specs.{Index.flat, Index.index_at, Index.passes, Index.IsIndexed, Notifying.HasNotified, Notifying.Declines}
use Rattle.dist_world_lives.specs.declared.stepping.LifeStep.{LifeStep}
use Rattle.dist_world_lives.proofs.Edits.{changed_if, get_at}

-- ---- the first that passes

first_by : {A : Type 0} (t : A → Bool) (xs ys : List A) → ((q : ℕ) → passes t (slice_get xs q) ≡ passes t (slice_get ys q)) → first_where t xs ≡ first_where t ys
first_by t [] [] h = refl
first_by t [] (y ∷ ys) h = ap (option_map suc) (first_by t [] ys (λ q. h (suc q))) ∙ ap (λ b. cond b (Some 0) (option_map suc (first_where t ys))) (h 0)
first_by t (x ∷ xs) [] h = ap (λ b. cond b (Some 0) (option_map suc (first_where t xs))) (h 0) ∙ ap (option_map suc) (first_by t xs [] (λ q. h (suc q)))
first_by t (x ∷ xs) (y ∷ ys) h = λ j. cond (h 0 j) (Some 0) (option_map suc (first_by t xs ys (λ q. h (suc q)) j))

none_first : {A : Type 0} (t : A → Bool) (xs : List A) → ((q : ℕ) → passes t (slice_get xs q) ≡ false) → first_where t xs ≡ None
none_first t xs h = first_by t xs [] h

step_none : (b : Bool) (o : Option ℕ) → cond b (Some 0) (option_map suc o) ≡ None → (b ≡ false) × (o ≡ None)
step_none true o e = absurd cc
step_none false None e = (refl, refl)
step_none false (Some p) e = absurd cc

none_passes : {A : Type 0} (t : A → Bool) (xs : List A) → first_where t xs ≡ None → (q : ℕ) → passes t (slice_get xs q) ≡ false
none_passes t [] e q = refl
none_passes t (x ∷ xs) e zero = (step_none (t x) (first_where t xs) e).0
none_passes t (x ∷ xs) e (suc q) = none_passes t xs ((step_none (t x) (first_where t xs) e).1) q

pub first_passes : {A : Type 0} (t : A → Bool) (xs : List A) (p : ℕ) → first_where t xs ≡ Some p → passes t (slice_get xs p) ≡ true
first_passes t [] p e = absurd cc
first_passes {A = A} t (x ∷ xs) p e =
    (elim (t x) as (λ b. t x ≡ b → cond b (Some 0) (option_map suc (first_where t xs)) ≡ Some p → passes t (slice_get (x ∷ xs) p) ≡ true) [
      | true ↦ λ (h : t x ≡ true) (e : Some 0 ≡ Some p). let z : 0 ≡ p = cc in let P : ℕ → Type 0 = λ n. passes t (slice_get (x ∷ xs) n) ≡ true in subst P z h
      | false ↦ λ (h : t x ≡ false) (e : option_map suc (first_where t xs) ≡ Some p). by (first_where t xs) (λ k f. first_passes t xs k f) refl e
    ]) refl e
  where
    by : (o : Option ℕ) → ((k : ℕ) → first_where t xs ≡ Some k → passes t (slice_get xs k) ≡ true) → first_where t xs ≡ o → option_map suc o ≡ Some p → passes t (slice_get (x ∷ xs) p) ≡ true
    by None more f e = absurd cc
    by (Some k) more f e = let z : suc k ≡ p = cc in let P : ℕ → Type 0 = λ n. passes t (slice_get (x ∷ xs) n) ≡ true in subst P z (more k f)

abbrev or_else : Option ℕ → Option ℕ → Option ℕ
or_else None y = y
or_else (Some p) y = Some p

later : (o : Option ℕ) (b : Bool) (n : ℕ) → option_map suc (or_else o (cond b (Some n) None)) ≡ or_else (option_map suc o) (cond b (Some (suc n)) None)
later None true n = refl
later None false n = refl
later (Some p) b n = refl

first_push : {A : Type 0} (t : A → Bool) (xs : List A) (l : A) → first_where t (xs ++ l ∷ []) ≡ or_else (first_where t xs) (cond (t l) (Some (length xs)) None)
first_push t [] l = refl
first_push t (x ∷ xs) l =
    elim (t x) as (λ b. cond b (Some 0) (option_map suc (first_where t (xs ++ l ∷ []))) ≡ or_else (cond b (Some 0) (option_map suc (first_where t xs))) (cond (t l) (Some (suc (length xs))) None)) [
      | true ↦ refl
      | false ↦ ap (option_map suc) (first_push t xs l) ∙ later (first_where t xs) (t l) (length xs)
    ]

push_passes : {A : Type 0} (t : A → Bool) (xs : List A) (l : A) (p : ℕ) → passes t (slice_get (xs ++ l ∷ []) p) ≡ true → ((p ≡ length xs) × (t l ≡ true)) ⊎ (passes t (slice_get xs p) ≡ true)
push_passes t [] l zero h = inl (refl, h)
push_passes t [] l (suc p) h = absurd cc
push_passes t (x ∷ xs) l zero h = inr h
push_passes t (x ∷ xs) l (suc p) h = elim (push_passes t xs l p h) as (λ _. ((suc p ≡ suc (length xs)) × (t l ≡ true)) ⊎ (passes t (slice_get xs p) ≡ true)) [
  | inl k ↦ inl (ap suc k.0, k.1)
  | inr k ↦ inr k
]

or_none : (o : Option ℕ) → or_else o None ≡ o
or_none None = refl
or_none (Some p) = refl

-- ---- the index

here_in : (v : Option ℕ) (o : Option (Option ℕ)) → is_some o ≡ true → flat (option_map (changed_if true (λ _. v)) o) ≡ v
here_in v None h = absurd cc
here_in v (Some x) h = refl

away_in : (v : Option ℕ) (o : Option (Option ℕ)) → flat (option_map (changed_if false (λ _. v)) o) ≡ flat o
away_in v None = refl
away_in v (Some x) = refl

gone_in : (o : Option (Option ℕ)) → flat (option_map (changed_if true (λ _. None)) o) ≡ None
gone_in None = refl
gone_in (Some x) = refl

put_index : (index : List (Option ℕ)) (node i : ℕ) (v : Option ℕ) (b : Bool) → (node == i) ≡ b → index_at (at_place node (λ _. v) index) i ≡ flat (option_map (changed_if b (λ _. v)) (slice_get index i))
put_index index node i v b e = ap flat (get_at (λ _. v) index node i) ∙ ap (λ b. flat (option_map (changed_if b (λ _. v)) (slice_get index i))) e

-- ---- what happens to an incarnation

pub keeps : (lives ys : List Life) (index : List (Option ℕ)) → ((i q : ℕ) → passes (runs_for i) (slice_get ys q) ≡ passes (runs_for i) (slice_get lives q)) → IsIndexed lives index → IsIndexed ys index
keeps lives ys index h k = record {
  found = λ i. k.found i ∙ first_by (runs_for i) lives ys (λ q. sym (h i q));
  alone = λ i p q a b. k.alone i p q (sym (h i p) ∙ a) (sym (h i q) ∙ b);
}

-- an incarnation changes, but not whose it is nor whether it runs
pub changed : (lives : List Life) (index : List (Option ℕ)) (p : ℕ) (f : Life → Life) → ((l : Life) → slice_get lives p ≡ Some l → (i : ℕ) → runs_for i (f l) ≡ runs_for i l) → IsIndexed lives index → IsIndexed (at_place p f lives) index
changed lives index p f same = keeps lives (at_place p f lives) index (λ i q. ap (passes (runs_for i)) (get_at f lives p q) ∙ by i q (p == q) refl (slice_get lives q) refl)
  where
    by : (i q : ℕ) (b : Bool) → (p == q) ≡ b → (o : Option Life) → slice_get lives q ≡ o → passes (runs_for i) (option_map (changed_if b f) o) ≡ passes (runs_for i) o
    by i q b e None at = refl
    by i q false e (Some l) at = refl
    by i q true e (Some l) at = same l (ap (slice_get lives) (eqb-true p q e) ∙ at) i

pub pushed : (lives : List Life) (index : List (Option ℕ)) (node : ℕ) (l : Life) → first_where (runs_for node) lives ≡ None → node < length index → l.who ≡ node → l.over ≡ None → IsIndexed lives index → IsIndexed (lives ++ l ∷ []) (at_place node (λ _. Some (length lives)) index)
pushed lives index node l idle few whose runs k = record {
  found = λ i. found i (node == i) refl;
  alone = λ i p q a b. by i p q (push_passes (runs_for i) lives l p a) (push_passes (runs_for i) lives l q b);
}
  where
    new : (i : ℕ) → runs_for i l ≡ (node == i)
    new i = (λ j. (whose j == i) && not (is_some (runs j))) ∙ and-true (node == i)

    found : (i : ℕ) (b : Bool) → (node == i) ≡ b → index_at (at_place node (λ _. Some (length lives)) index) i ≡ first_where (runs_for i) (lives ++ l ∷ [])
    found i true e =
        let same : node ≡ i = eqb-true node i e in
        let none : first_where (runs_for i) lives ≡ None = ap (λ n. first_where (runs_for n) lives) (sym same) ∙ idle in
        put_index index node i (Some (length lives)) true e ∙ (here_in (Some (length lives)) (slice_get index i) (ap is_some (slice_get-get_or index i None (omega arith)))
        ∙ sym (first_push (runs_for i) lives l ∙ (λ j. or_else (none j) (cond ((new i ∙ e) j) (Some (length lives)) None))))
    found i false e =
        put_index index node i (Some (length lives)) false e ∙ (away_in (Some (length lives)) (slice_get index i) ∙ (k.found i
        ∙ sym (first_push (runs_for i) lives l ∙ (ap (λ b. or_else (first_where (runs_for i) lives) (cond b (Some (length lives)) None)) (new i ∙ e) ∙ or_none (first_where (runs_for i) lives)))))

    other : (i q : ℕ) → runs_for i l ≡ true → passes (runs_for i) (slice_get lives q) ≡ true → ⊥
    other i q own h =
        let same : node ≡ i = eqb-true node i (sym (new i) ∙ own) in
        let none : passes (runs_for i) (slice_get lives q) ≡ false = none_passes (runs_for i) lives (ap (λ n. first_where (runs_for n) lives) (sym same) ∙ idle) q in
        absurd cc

    by : (i p q : ℕ) → ((p ≡ length lives) × (runs_for i l ≡ true)) ⊎ (passes (runs_for i) (slice_get lives p) ≡ true) → ((q ≡ length lives) × (runs_for i l ≡ true)) ⊎ (passes (runs_for i) (slice_get lives q) ≡ true) → p ≡ q
    by i p q (inl a) (inl b) = a.0 ∙ sym b.0
    by i p q (inl a) (inr b) = absurd (other i q a.1 b)
    by i p q (inr a) (inl b) = absurd (other i p b.1 a)
    by i p q (inr a) (inr b) = k.alone i p q a b

pub finished : (lives : List Life) (index : List (Option ℕ)) (node p t : ℕ) → first_where (runs_for node) lives ≡ Some p → IsIndexed lives index → IsIndexed (at_place p (life_after_end t) lives) (at_place node (λ _. None) index)
finished lives index node p t is k = record {
  found = λ i. found i (node == i) refl;
  alone = λ i a b h g. k.alone i a b (before i a h) (before i b g);
}
  where
    own : passes (runs_for node) (slice_get lives p) ≡ true
    own = first_passes (runs_for node) lives p is

    after_in : (i : ℕ) (b : Bool) (o : Option Life) → passes (runs_for i) (option_map (changed_if b (life_after_end t)) o) ≡ cond b false (passes (runs_for i) o)
    after_in i true None = refl
    after_in i false None = refl
    after_in i true (Some l) = and_right (l.who == i) false refl
    after_in i false (Some l) = refl

    after : (i q : ℕ) → passes (runs_for i) (slice_get (at_place p (life_after_end t) lives) q) ≡ cond (p == q) false (passes (runs_for i) (slice_get lives q))
    after i q = ap (passes (runs_for i)) (get_at (life_after_end t) lives p q) ∙ after_in i (p == q) (slice_get lives q)

    was : (b c : Bool) → cond b false c ≡ true → c ≡ true
    was true c e = absurd cc
    was false c e = e

    before : (i q : ℕ) → passes (runs_for i) (slice_get (at_place p (life_after_end t) lives) q) ≡ true → passes (runs_for i) (slice_get lives q) ≡ true
    before i q h = was (p == q) _ (sym (after i q) ∙ h)

    -- no other incarnation of the node ran
    none_left : (q : ℕ) (b c : Bool) → (p == q) ≡ b → passes (runs_for node) (slice_get lives q) ≡ c → cond b false c ≡ false
    none_left q true c e h = refl
    none_left q false false e h = refl
    none_left q false true e h = let same : p ≡ q = k.alone node p q own h in let yes : (p == q) ≡ true = eq-eqb p q same in absurd cc

    whose_in : (i : ℕ) (o : Option Life) → passes (runs_for node) o ≡ true → passes (runs_for i) o ≡ true → node ≡ i
    whose_in i None h g = absurd cc
    whose_in i (Some l) h g = sym (eqb-true l.who node (and_parts (l.who == node) _ h).0) ∙ eqb-true l.who i (and_parts (l.who == i) _ g).0

    same_pass : (i q : ℕ) (b c : Bool) → (node == i) ≡ false → (p == q) ≡ b → passes (runs_for i) (slice_get lives q) ≡ c → cond b false c ≡ c
    same_pass i q true false away e h = refl
    same_pass i q true true away e h =
        let same : p ≡ q = eqb-true p q e in
        let P : ℕ → Type 0 = λ n. passes (runs_for node) (slice_get lives n) ≡ true in
        let one : node ≡ i = whose_in i (slice_get lives q) (subst P same own) h in
        let yes : (node == i) ≡ true = eq-eqb node i one in absurd cc
    same_pass i q false c away e h = refl

    found : (i : ℕ) (b : Bool) → (node == i) ≡ b → index_at (at_place node (λ _. None) index) i ≡ first_where (runs_for i) (at_place p (life_after_end t) lives)
    found i true e =
        let same : node ≡ i = eqb-true node i e in
        let none : first_where (runs_for node) (at_place p (life_after_end t) lives) ≡ None = none_first (runs_for node) _ (λ q. after node q ∙ none_left q (p == q) _ refl refl) in
        put_index index node i None true e ∙ (gone_in (slice_get index i) ∙ sym (ap (λ n. first_where (runs_for n) (at_place p (life_after_end t) lives)) (sym same) ∙ none))
    found i false e =
        put_index index node i None false e ∙ (away_in None (slice_get index i) ∙ (k.found i
        ∙ first_by (runs_for i) lives (at_place p (life_after_end t) lives) (λ q. sym (after i q ∙ same_pass i q (p == q) _ e refl refl))))

-- ---- for the code

pub as_wide : (lives : List Life) (index wide : List (Option ℕ)) → ((i : ℕ) → index_at wide i ≡ index_at index i) → IsIndexed lives index → IsIndexed lives wide
as_wide lives index wide same k = record { found = λ i. same i ∙ k.found i; alone = k.alone }

pub notify_keeps : (r : Result (Option (ℕ × LifeStep)) AllocError) (lives new : List Life) (index : List (Option ℕ)) (conns said : List Conn) (place t fresh : ℕ) (v : Event)
    → IfOk r (λ notified. MatchOption notified (Declines lives place v fresh × (new ≡ lives) × (said ≡ conns)) (λ x. HasNotified x.0 x.1 place t v fresh lives new conns said))
    → OnErr r ((new ≡ lives) × (said ≡ conns)) → IsIndexed lives index → IsIndexed new index
notify_keeps (Ok None) lives new index conns said place t fresh v ok err k = let P : List Life → Type 0 = λ ls. IsIndexed ls index in subst P (sym ok.1) k
notify_keeps (Ok (Some x)) lives new index conns said place t fresh v ok err k =
    let P : List Life → Type 0 = λ ls. IsIndexed ls index in
    subst P (sym ok.lived_) (changed lives index place (λ old. life_after t v ok.reply ok.node ok.life) (λ l at i. (let same : Some ok.life ≡ Some l = sym ok.there ∙ at in let one : ok.life ≡ l = cc in ap (runs_for i) one)) k)
notify_keeps (Err e) lives new index conns said place t fresh v ok err k = let P : List Life → Type 0 = λ ls. IsIndexed ls index in subst P (sym err.0) k
