-- What a change of an incarnation's setup does to the list.
use Rattle.std.specs.declared.alloc.AllocError.{AllocError}
use Rattle.dist_core_ends.proofs.Words.{◌≡◌, ℕ, ◌<◌, ◌≤◌, Bool, true, false, List, length, get_or, set, slice_get, Some, None, Ok, Err, Option, Result, sym}
use Rattle.dist_core_ends.proofs.Words.{refl, ap, ◌∙◌, subst, slice_get_past}
use Rattle.dist_core.specs.{Changing.IsChange, Changing.change, Node.NodeState, declared.changing.Change.Change, declared.changing.ChangeError.ChangeError}
use Rattle.dist_core.specs.declared.changing.ChangeError.TheVariants as error
use Rattle.dist_world_model.specs.{Happenings.with_node, Happenings.◌>>=◌, World.Life, World.running}
use Rattle.dist_world_model.proofs.Conditions.{there, is_refused}
use Rattle.dist_world_lives.specs.{Index.IsIndexed, Resetting.Forbids, Resetting.HasReset, Resetting.Resets, Resetting.is_reset_memory_error}
use Rattle.dist_world_lives.proofs.{Edits.at_set, Indexes.changed, Notified.of_world, Notified.put_back, Notified.stands}

-- ---- what a refusal says

stays : (e : ChangeError) (s : Result NodeState ChangeError) (old new : NodeState) → IsChange {T = Unit {0}} (Err e) s old new → new ≡ old
stays error.NoMemory s old new h = h.1
stays e s old new h = h.1

refused : (e : ChangeError) (s : Result NodeState ChangeError) (old new : NodeState) → is_reset_memory_error e ≡ false → IsChange {T = Unit {0}} (Err e) s old new → s ≡ Err e
refused error.NoMemory s old new n h = absurd cc
refused e s old new n h = h.0

nothing_after : {A B : Type 0} (o : Option A) (f : A → Option B) → o ≡ None → (o >>= f) ≡ None
nothing_after o f is = ap (λ p. p >>= f) is

-- no incarnation stands there
pub forbids_past : (lives : List Life) (i : ℕ) (v : Change) → length lives ≤ i → Forbids lives i v
forbids_past lives i v past = λ w node same place.
    there (running w node) i _ place ∙ nothing_after (slice_get w.lives i) _ (of_world lives w i None same (slice_get_past lives i past))

-- ---- an incarnation among all

module _ (lives : List Life) (i : ℕ) (l : Life) (few : i < length lives) (is : l ≡ get_or lives i l) (v : Change) where
  pub forbids_refused : (e : ChangeError) (m : Life) → is_reset_memory_error e ≡ false → IsChange {T = Unit {0}} (Err e) (change l.node v) l.node m.node → Forbids lives i v
  forbids_refused e m short h = λ w node same place.
      there (running w node) i _ place
      ∙ (there (slice_get w.lives i) l _ (of_world lives w i (Some l) same (stands lives i l few is)) ∙ is_refused (change l.node v) e _ (refused e (change l.node v) l.node m.node short h))

  pub not_reset : (e : ChangeError) (m : Life) → IsChange {T = Unit {0}} (Err e) (change l.node v) l.node m.node → m ≡ with_node m.node l → set lives i m ≡ lives
  not_reset e m h same = put_back lives i l few is m (same ∙ ap (λ n. with_node n l) (stays e (change l.node v) l.node m.node h))

  pub has_reset : (m : Life) → change l.node v ≡ Ok m.node → m ≡ with_node m.node l → HasReset i v lives (set lives i m)
  has_reset m made same = record {
    life = l;
    node = m.node;
    there = stands lives i l few is;
    changed = made;
    lived_ = ap (set lives i) same ∙ at_set (with_node m.node) lives i l few is;
  }

-- the index stays
pub reset_keeps : (r : Result Bool AllocError) (lives new : List Life) (index : List (Option ℕ)) (i : ℕ) (v : Change) → Resets r i v lives new → IsIndexed lives index → IsIndexed new index
reset_keeps (Ok true) lives new index i v h k = subst (λ ls. IsIndexed ls index) (sym h.lived_) (changed lives index i (with_node h.node) (λ l at j. refl) k)
reset_keeps (Ok false) lives new index i v h k = subst (λ ls. IsIndexed ls index) (sym h.1) k
reset_keeps (Err e) lives new index i v h k = subst (λ ls. IsIndexed ls index) (sym h) k
