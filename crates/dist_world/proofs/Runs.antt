-- A run, one happening on.
use Rattle.std.proofs.{Common.add_assoc, lemmas.List.take_more}
use Rattle.dist_core_ends.proofs.Words.{◌≡◌, ℕ, ◌+◌, ◌<◌, ◌≤◌, Bool, true, false, List, [], ◌∷◌, ◌++◌, length, get_or, take, is_some, Some, None, Option, sym}
use Rattle.dist_core_ends.proofs.Words.{refl, ap, ◌∙◌, subst, arith, one_if}
use Rattle.dist_world_model.specs.{Agreement.AllFit, Agreement.Fits, Happenings.happens, Happenings.applied_at, Run.count_applied, Run.one_where, Run.run}
use Rattle.dist_world_model.specs.{World.World, declared.happening.Happening.Happening}

run_last : (hs : List Happening) (h : Happening) (w : World) → run (hs ++ h ∷ []) w ≡ happens (run hs w) h
run_last [] h w = refl
run_last (x ∷ hs) h w = run_last hs h (happens w x)

count_last : (hs : List Happening) (h : Happening) (w : World) → count_applied (hs ++ h ∷ []) w ≡ count_applied hs w + one_where (applied_at (run hs w) h)
count_last [] h w = omega arith
count_last (x ∷ hs) h w = ap (λ n. one_where (applied_at w x) + n) (count_last hs h (happens w x)) ∙ sym (add_assoc (one_where (applied_at w x)) (count_applied hs (happens w x)) (one_where (applied_at (run hs (happens w x)) h)))

pub run_more : (hs : List Happening) (i : ℕ) (d : Happening) (w : World) → i < length hs → run (take (i + 1) hs) w ≡ happens (run (take i hs) w) (get_or hs i d)
run_more hs i d w few = ap (λ xs. run xs w) (take_more hs i d few) ∙ run_last (take i hs) (get_or hs i d) w

pub count_more : (hs : List Happening) (i : ℕ) (d : Happening) (w : World) → i < length hs → count_applied (take (i + 1) hs) w ≡ count_applied (take i hs) w + one_where (applied_at (run (take i hs) w) (get_or hs i d))
count_more hs i d w few = ap (λ xs. count_applied xs w) (take_more hs i d few) ∙ count_last (take i hs) (get_or hs i d) w

pub as_one : {A : Type 0} (o : Option A) → one_if (is_some o) ≡ one_where o
as_one None = refl
as_one (Some x) = refl

-- one_if is at most 1
pub at_most_one : (b : Bool) → one_if b ≤ 1
at_most_one true = omega arith
at_most_one false = omega arith

module _ (hs : List Happening) (i : ℕ) (d : Happening) (begun now new : World) (few : i < length hs) (is : d ≡ get_or hs i d) (so_far : now ≡ run (take i hs) begun) where
  pub goes_on : new ≡ happens now d → new ≡ run (take (i + 1) hs) begun
  goes_on did = did ∙ ((λ j. happens (so_far j) (is j)) ∙ sym (run_more hs i d begun few))

  pub counts_on : (count : ℕ) (b : Bool) → count ≡ count_applied (take i hs) begun → b ≡ is_some (applied_at now d) → count + one_if b ≡ count_applied (take (i + 1) hs) begun
  counts_on count b counted applies =
      let one : one_if b ≡ one_where (applied_at (run (take i hs) begun) (get_or hs i d)) = ap one_if applies ∙ (as_one (applied_at now d) ∙ (λ j. one_where (applied_at (so_far j) (is j)))) in
      (λ j. counted j + one j) ∙ sym (count_more hs i d begun few)

fit_last : (hs : List Happening) (h : Happening) → AllFit hs → Fits h → AllFit (hs ++ h ∷ [])
fit_last [] h k f = (f, tt)
fit_last (x ∷ hs) h k f = (k.0, fit_last hs h k.1 f)

pub fit_on : (hs : List Happening) (i : ℕ) (d : Happening) → i < length hs → d ≡ get_or hs i d → AllFit (take i hs) → Fits d → AllFit (take (i + 1) hs)
fit_on hs i d few is k f = subst AllFit (sym (take_more hs i d few)) (fit_last (take i hs) (get_or hs i d) k (subst Fits is f))
