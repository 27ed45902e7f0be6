-- All nodes begin.
use Rattle.dist_audit.proofs.Words.{◌≡◌, ℕ, suc, ◌+◌, ◌<◌, ◌≤◌, cond, ◌&&◌, ltb, List, [], ◌∷◌, ◌++◌, length, is_none, slice_get, Some, None, Option}
use Rattle.dist_audit.proofs.Words.{option_map, sym, refl, ap, ◌∙◌, subst, append_assoc, arith, length-append, lt-ltb, ne_eqb, Setup, first_where, one_where}
use Rattle.dist_audit.proofs.Words.{Life, World, empty, running, runs, runs_for, Happening, holds, there, AllApply, begins}
use Rattle.dist_world_model.specs.Happenings.{applied_at, begin, happens, new_life, ticked_on, without_closing}
use Rattle.dist_world_model.specs.declared.happening.Happening.TheVariants as happening

-- these are incarnations of nodes below number i
abbrev AreBelow : ℕ → List Life → Type 0
AreBelow i [] = Unit {0}
AreBelow i (l ∷ ls) = (l.who < i) × AreBelow i ls

below-more : (i : ℕ) (ls : List Life) (l : Life) → l.who ≡ i → AreBelow i ls → AreBelow (suc i) (ls ++ l ∷ [])
below-more i [] l e h = (omega (arith, e), tt)
below-more i (x ∷ ls) l e h = (omega (arith, h.0), below-more i ls l e h.1)

none-runs : (i : ℕ) (ls : List Life) → AreBelow i ls → first_where (runs_for i) ls ≡ None
none-runs i [] h = refl
none-runs i (l ∷ ls) h =
    ap (λ b. cond (b && runs l) (Some 0) (option_map suc (first_where (runs_for i) ls))) (ne_eqb l.who i (λ e. omega (arith, e, h.0)))
    ∙ ap (λ o. option_map suc o) (none-runs i ls h.1)

at-end : (pre ss : List Setup) (s : Setup) → slice_get (pre ++ s ∷ ss) (length pre) ≡ Some s
at-end [] ss s = refl
at-end (x ∷ pre) ss s = at-end pre ss s

-- this many nodes began
record HaveBegun (w : World) (pre ss : List Setup) : Type 0 where
  setups : w.setups ≡ pre ++ ss
  count : length w.lives ≡ length pre
  clock : w.clock ≡ length pre
  below : AreBelow (length pre) w.lives

module _ (w : World) (pre ss : List Setup) (s : Setup) (h : HaveBegun w pre (s ∷ ss)) (few : length pre < 1048576) where
  e : Happening
  e = happening.Begin (length pre) s.creation

  abbrev next : World
  next = record (without_closing w) { lives = w.lives ++ new_life (length pre) w.clock s s.creation ∷ [] }

  begin-applies : applied_at w (happening.Begin (length pre) s.creation) ≡ Some next
  begin-applies =
      ap (λ b. cond b (begin (without_closing w) (length pre) s.creation) None) (lt-ltb w.clock 4611686018427387904 (omega (arith, few, h.clock)))
      ∙ (there (slice_get w.setups (length pre)) s _ (ap (λ (xs : List Setup). slice_get xs (length pre)) h.setups ∙ at-end pre ss s)
      ∙ (holds (is_none (running w (length pre))) _ (ap (λ (o : Option ℕ). is_none o) (none-runs (length pre) w.lives h.below))
      ∙ holds (ltb (length w.lives) 281474976710656) _ (lt-ltb (length w.lives) 281474976710656 (omega (arith, few, h.count)))))

  more : length (pre ++ s ∷ []) ≡ suc (length pre)
  more = length-append pre (s ∷ []) ∙ omega arith

  begin-on : HaveBegun (happens w (happening.Begin (length pre) s.creation)) (pre ++ s ∷ []) ss
  begin-on =
      subst (λ (o : Option World). HaveBegun (ticked_on w o) (pre ++ s ∷ []) ss) (sym begin-applies) (record {
        setups = h.setups ∙ sym (append_assoc pre (s ∷ []) ss);
        count = length-append w.lives (new_life (length pre) w.clock s s.creation ∷ []) ∙ (ap (λ n. n + 1) h.count ∙ sym (length-append pre (s ∷ [])));
        clock = ap (λ n. n + 1) h.clock ∙ sym (length-append pre (s ∷ []));
        below = subst (λ n. AreBelow n (w.lives ++ new_life (length pre) w.clock s s.creation ∷ [])) (sym more) (below-more (length pre) w.lives (new_life (length pre) w.clock s s.creation) refl h.below);
      })

begin-all : (w : World) (pre ss : List Setup) (i : ℕ) → i ≡ length pre → HaveBegun w pre ss → length pre + length ss ≤ 1048576 → AllApply (begins i ss) w
begin-all w pre [] i is h few = refl
begin-all w pre (s ∷ ss) i is h few =
    let lt : length pre < 1048576 = omega (arith, few) in
    let go : AllApply (begins (suc (length pre)) ss) (happens w (happening.Begin (length pre) s.creation)) = begin-all (happens w (happening.Begin (length pre) s.creation)) (pre ++ s ∷ []) ss (suc (length pre)) (sym (more w pre ss s h lt)) (begin-on w pre ss s h lt) (omega (arith, few, length-append pre (s ∷ []))) in
    let one : one_where (applied_at w (happening.Begin (length pre) s.creation)) ≡ 1 = ap (λ (o : Option World). one_where o) (begin-applies w pre ss s h lt) in
    subst (λ j. AllApply (begins j (s ∷ ss)) w) (sym is) (omega (arith, one, go))

-- ALL NODES BEGIN, where they are not too many
pub all-begin : (ss : List Setup) → length ss ≤ 1048576 → AllApply (begins 0 ss) (empty ss)
all-begin ss few = begin-all (empty ss) [] ss 0 refl (record { setups = refl; count = refl; clock = refl; below = tt }) (omega (arith, few))
