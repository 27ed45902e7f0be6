-- Lines by whether somebody outside did what they say: they say the same, and a link that comes in one of the others is dialled.
use Rattle.dist_audit.proofs.Words.{◌≡◌, ℕ, Bool, true, false, cond, not, ◌&&◌, ◌||◌, List, [], ◌∷◌, is_some, Some, None, Option, sym, refl, ap, ◌∙◌, subst}
use Rattle.dist_audit.proofs.Words.{list_any, or_parts, EndId, Event, Closed, BTreeMap, BTreeSet, Knows, UnlessOutside, AreTold, comes_unopened, links_repeat, links_unpaired, repeats, stands_twice}
use Rattle.dist_audit.proofs.Words.{NodeLine, lines_by_node, acceptor_of, comes_in, dialled_in, dialler_of, mentions, opens_in, or_else}
use Rattle.dist_audit.proofs.Words.{is_paired, is_done_outside, with_marks, marked_lines}
use Rattle.dist_audit.proofs.{Homing.AllKnown, Homing.HasDialler, Homing.IsKnown, Homing.all-known, Outside.nothing, Pairs.unpaired-alike}
use Rattle.dist_core.specs.declared.event.Event.TheVariants as event

module _ (all : List NodeLine) where
  dialler-marked : (k : ℕ) (ts : List NodeLine) → dialler_of k (marked_lines all ts) ≡ dialler_of k ts
  dialler-marked k [] = refl
  dialler-marked k (t ∷ ts) = ap (λ (o : Option (ℕ × EndId)). or_else t.node (dialled_in k t) o) (dialler-marked k ts)

  acceptor-marked : (k : ℕ) (ts : List NodeLine) → acceptor_of k (marked_lines all ts) ≡ acceptor_of k ts
  acceptor-marked k [] = refl
  acceptor-marked k (t ∷ ts) = ap (λ (o : Option ℕ). cond (comes_in k t) (Some t.node) o) (acceptor-marked k ts)

  opens-marked : (k : ℕ) (ts : List NodeLine) → list_any (opens_in k) (marked_lines all ts) ≡ list_any (opens_in k) ts
  opens-marked k [] = refl
  opens-marked k (t ∷ ts) = ap (λ b. opens_in k t || b) (opens-marked k ts)

  comes-marked : (k : ℕ) (ts : List NodeLine) → list_any (comes_in k) (marked_lines all ts) ≡ list_any (comes_in k) ts
  comes-marked k [] = refl
  comes-marked k (t ∷ ts) = ap (λ b. comes_in k t || b) (comes-marked k ts)

  repeats-marked : (e : Event) (ts : List NodeLine) → repeats e (marked_lines all ts) ≡ repeats e ts
  repeats-marked (event.Opened id k) ts = opens-marked k ts
  repeats-marked (event.Incoming k) ts = comes-marked k ts
  repeats-marked (event.Dial p o) ts = refl
  repeats-marked (event.Frame id body) ts = refl
  repeats-marked (event.Lost id w) ts = refl
  repeats-marked (event.Tick id) ts = refl

  twice-marked : (k : ℕ) (ts : List NodeLine) → stands_twice k (marked_lines all ts) ≡ stands_twice k ts
  twice-marked k [] = refl
  twice-marked k (t ∷ ts) = let l = t.line in (λ i. (repeats-marked l.event ts i && mentions k l.event) || twice-marked k ts i)

  -- what is known of the lines is known of them so
  pub knows-marked : (d : BTreeMap ℕ (ℕ × EndId)) (a : BTreeMap ℕ ℕ) (s : BTreeSet ℕ) → Knows d a s all → Knows d a s (with_marks all)
  knows-marked d a s h = record {
    dialled = λ k. h.dialled k ∙ sym (dialler-marked k all);
    came = λ k. h.came k ∙ sym (acceptor-marked k all);
    twice = λ k. h.twice k ∙ sym (twice-marked k all);
  }

  there-is : (o : Option (ℕ × EndId)) → is_some o ≡ true → (x : ℕ × EndId) × (o ≡ Some x)
  there-is None e = absurd cc
  there-is (Some x) e = (x, refl)

  paired-parts : (a b c : Bool) → (a && b && not c) ≡ true → (a ≡ true) × (c ≡ false)
  paired-parts true true false e = (refl, refl)
  paired-parts true true true e = absurd cc
  paired-parts true false c e = absurd cc
  paired-parts false b c e = absurd cc

  paired-known : (k : ℕ) → is_paired all k ≡ true → HasDialler (with_marks all) k × (stands_twice k (with_marks all) ≡ false)
  paired-known k e =
      let p = paired-parts (is_some (dialler_of k all)) (is_some (acceptor_of k all)) (stands_twice k all) e in
      let x = there-is (dialler_of k all) p.0 in
      ((x.0, dialler-marked k all ∙ x.1), twice-marked k all ∙ p.1)

  known-marked : (i : ℕ) (e : Event) → UnlessOutside (is_done_outside all i e) (IsKnown (with_marks all) e)
  known-marked i (event.Incoming k) = by (is_paired all k) refl
    where
      by : (b : Bool) → is_paired all k ≡ b → UnlessOutside (not b) (IsKnown (with_marks all) (event.Incoming k))
      by true e = paired-known k e
      by false e = tt
  known-marked i (event.Dial p o) = nothing (is_done_outside all i (event.Dial p o))
  known-marked i (event.Opened id k) = nothing (is_done_outside all i (event.Opened id k))
  known-marked i (event.Frame id body) = nothing (is_done_outside all i (event.Frame id body))
  known-marked i (event.Lost id w) = nothing (is_done_outside all i (event.Lost id w))
  known-marked i (event.Tick id) = nothing (is_done_outside all i (event.Tick id))

  all-known-marked : (ts : List NodeLine) → AllKnown (with_marks all) (marked_lines all ts)
  all-known-marked [] = tt
  all-known-marked (t ∷ ts) = let l = t.line in (known-marked t.node l.event, all-known-marked ts)

-- the lines of histories whose links are in pairs, unless others took part
pub told-known : (others : Bool) (cs : List Closed) (ts : List NodeLine) → AreTold others cs ts → (not others && links_unpaired (lines_by_node cs)) ≡ false → AllKnown ts ts
told-known false cs ts told none =
    let p = or_parts (links_repeat ts) (comes_unopened ts) (sym (unpaired-alike (lines_by_node cs) ts told.all) ∙ none) in
    all-known ts ts p.0 p.1
told-known true cs ts (us, told, is) none = subst (λ xs. AllKnown xs xs) (sym is) (all-known-marked us us)
