-- How the knowledge of a list goes from pass to pass.
use lib.ListN.{get_elem?}
use mathlib.Core.{Bool.or-false, Option.some, Option.some-ne-none}
use Rattle.std.proofs.Common.{◌≡◌, ◌≢◌, ℕ, zero, suc, Bool, true, false, ◌||◌, if◌then◌else◌, List, [], ◌∷◌, ◌++◌, length, set, ⊎_elim, sym, refl, ap, ◌∙◌}
use Rattle.crossbeam_queue.proofs.Lists.{at_set, at_snoc}
use Rattle.dist_locked.specs.{Rule.Owned, declared.rule.View.View}

not_true : false ≡ true → ⊥
not_true e = cc

at_end : (l : List View) (a b : View) (j : ℕ) → (get_elem? l j ≡ some b → ⊥) → get_elem? (l ++ a ∷ []) j ≡ some b → j ≡ length l
at_end [] a b zero n e = refl
at_end [] a b (suc j) n e = absurd (some-ne-none b (sym e))
at_end (x ∷ xs) a b zero n e = absurd (n e)
at_end (x ∷ xs) a b (suc j) n e = ap suc (at_end xs a b j n e)

module _ {X : Type 0} {has : View → Bool} {what : View → X} {views : List View} {xs : X} (own : Owned has what views xs) where
  -- a pass changes, and the list with it
  changed : (port : ℕ) (w : View) (ys : X) → (has w ≡ true → (port ≡ own.owner) × (what w ≡ ys)) → ((j : ℕ) → j ≢ port → j ≡ own.owner → xs ≡ ys) → Owned has what (set views port w) ys
  changed port w ys here there = record {
    owner = own.owner;
    only = λ j u at knows.
        ⊎_elim (λ (x : (j ≡ port) × (w ≡ u)). let o = here (ap has x.1 ∙ knows) in (x.0 ∙ o.0, ap what (sym x.1) ∙ o.1))
        (λ (x : (j ≢ port) × (get_elem? views j ≡ some u)). let o = own.only j u x.1 knows in (o.0, o.1 ∙ there j x.0 o.0)) (at_set views port j w u at);
  }

  -- a pass changes and this list of it stays
  pub owned_same : (port : ℕ) (v w : View) → get_elem? views port ≡ some v → has w ≡ has v → what w ≡ what v → Owned has what (set views port w) xs
  owned_same port v w at h e = changed port w xs (λ knows. let o = own.only port v at (sym h ∙ knows) in (o.0, e ∙ o.1)) (λ j n is. refl)

  -- the pass that knows the list changes it
  pub owned_write : (port : ℕ) (v w : View) (ys : X) → get_elem? views port ≡ some v → has v ≡ true → what w ≡ ys → Owned has what (set views port w) ys
  owned_write port v w ys at h e = let mine = (own.only port v at h).0 in changed port w ys (λ _. (mine, e)) (λ j n is. absurd (n (is ∙ sym mine)))

  -- a pass forgets the list
  pub owned_drop : (port : ℕ) (w : View) → has w ≡ false → Owned has what (set views port w) xs
  owned_drop port w h = changed port w xs (λ knows. absurd (not_true (sym h ∙ knows))) (λ j n is. refl)

  -- a new pass does not know the list
  pub owned_more : (w : View) → has w ≡ false → Owned has what (views ++ w ∷ []) xs
  owned_more w h = record {
    owner = own.owner;
    only = λ j u at knows.
        ⊎_elim (λ (x : get_elem? views j ≡ some u). own.only j u x knows) (λ (x : w ≡ u). absurd (not_true (sym h ∙ ap has x ∙ knows))) (at_snoc views w u j at);
  }

  -- a new pass knows the list in place of this one
  pub owned_fork : (port : ℕ) (v l r : View) → get_elem? views port ≡ some v → has v ≡ true → has l ≡ false → what r ≡ what v → Owned has what (set views port l ++ r ∷ []) xs
  owned_fork port v l r at h gone e =
      let mine = own.only port v at h in
      let none : (j : ℕ) (u : View) → has u ≡ true → get_elem? (set views port l) j ≡ some u → ⊥ = λ j u knows here.
      ⊎_elim (λ (x : (j ≡ port) × (l ≡ u)). not_true (sym gone ∙ ap has x.1 ∙ knows))
      (λ (x : (j ≢ port) × (get_elem? views j ≡ some u)). x.0 ((own.only j u x.1 knows).0 ∙ sym mine.0)) (at_set views port j l u here) in
      record {
        owner = length (set views port l);
        only = λ j u there knows. (
          at_end (set views port l) r u j (none j u knows) there,
          ⊎_elim (λ x. absurd (none j u knows x)) (λ (x : r ≡ u). ap what (sym x) ∙ e ∙ mine.1) (at_snoc (set views port l) r u j there),
        );
      }

-- this pass takes in what another knows, which is spent
pub owned_merge : {X : Type 0} {has : View → Bool} {what : View → X} {views : List View} {xs : X} → Owned has what views xs → (port : ℕ) (v : View) (other : ℕ) (u both spent : View)
    → get_elem? views port ≡ some v → (other ≡ port → ⊥) → get_elem? (set views port both) other ≡ some u
    → has both ≡ (has v || has u) → what both ≡ (if has u then what u else what v) → has spent ≡ false → Owned has what (set (set views port both) other spent) xs
owned_merge {X} {has} {what} {views} {xs} own port v other u both spent at two there h e none =
    elim (has u) as (λ b. has u ≡ b → has both ≡ (has v || b) → what both ≡ (if b then what u else what v) → Owned has what (set (set views port both) other spent) xs) [
      | true ↦ λ is _ same.
          let was : get_elem? views other ≡ some u = ⊎_elim (λ (x : (other ≡ port) × (both ≡ u)). absurd (two x.0)) (λ (x : (other ≢ port) × (get_elem? views other ≡ some u)). x.1) (at_set views port other both u there) in
          let theirs = own.only other u was is in
          record {
            owner = port;
            only = λ j y here knows. ⊎_elim (λ (x : (j ≡ other) × (spent ≡ y)). absurd (not_true (sym none ∙ ap has x.1 ∙ knows)))
                (λ (x : (j ≢ other) × (get_elem? (set views port both) j ≡ some y)).
                ⊎_elim (λ (z : (j ≡ port) × (both ≡ y)). (z.0, ap what (sym z.1) ∙ same ∙ theirs.1))
                (λ (z : (j ≢ port) × (get_elem? views j ≡ some y)). absurd (x.0 ((own.only j y z.1 knows).0 ∙ sym theirs.0))) (at_set views port j both y x.1)) (at_set (set views port both) other j spent y here);
          }
      | false ↦ λ _ has' same. owned_drop (owned_same own port v both at (has' ∙ or-false (has v)) same) other spent none
    ] refl h e
