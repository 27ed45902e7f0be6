-- Lines that are followed, one on.
use Rattle.dist_audit.proofs.Words.{◌≡◌, ℕ, ◌+◌, List, [], ◌∷◌, ◌++◌, length, option_to_list, sym, refl, ap, ◌∙◌, add_assoc, arith, length-append}
use Rattle.dist_audit.proofs.Words.{count_applied, one_where, run, World, empty, Happening, Closed, AllApply, AreFollowed, AreOfOneWorld, StopsAt, after}
use Rattle.dist_audit.proofs.Words.{world_before_lines, ahead, begins, happenings, itself, of_lines, setups_of, with_mentions, NodeLine, AuditError}
use Rattle.dist_world_model.specs.Happenings.{applied_at, happens}

-- what is left of the lines decides
pub record Decides (all : List NodeLine) (count : ℕ) (ks : List ℕ) (w : World) (rest : List NodeLine) (world_before_lines : World) : Type 0 where
  pub whole : AreFollowed all count ks w rest → AreFollowed all count [] world_before_lines all
  pub part : AreFollowed all count [] world_before_lines all → AreFollowed all count ks w rest
  pub runs : run (of_lines all count ks rest) w ≡ run (of_lines all count [] all) world_before_lines
  pub stops : (e : AuditError) → StopsAt e all count ks w rest → StopsAt e all count [] world_before_lines all

-- ---- all of them apply

count-append : (xs ys : List Happening) (w : World) → count_applied (xs ++ ys) w ≡ count_applied xs w + count_applied ys (run xs w)
count-append [] ys w = omega arith
count-append (x ∷ xs) ys w = ap (λ n. one_where (applied_at w x) + n) (count-append xs ys (happens w x)) ∙ sym (add_assoc (one_where (applied_at w x)) (count_applied xs (happens w x)) (count_applied ys (run xs (happens w x))))

-- what is joined of two lists that apply applies
all-append : (xs ys : List Happening) (w : World) → AllApply xs w → AllApply ys (run xs w) → AllApply (xs ++ ys) w
all-append xs ys w p q = count-append xs ys w ∙ ((λ j. p j + q j) ∙ sym (length-append xs ys))

all-followed : (all : List NodeLine) (count : ℕ) (ks : List ℕ) (w : World) (ts : List NodeLine) → AreFollowed all count ks w ts → AllApply (of_lines all count ks ts) w
all-followed all count ks w [] f = refl
all-followed all count ks w (t ∷ ts) f =
    let x = ahead all count ks t in
    let later = all-followed all count (with_mentions ks t) (after all count ks w t) ts f.1 in
    all-append (option_to_list x) (itself ks t ∷ of_lines all count (with_mentions ks t) ts) w (let g = f.0 in g.before) (all-append (itself ks t ∷ []) (of_lines all count (with_mentions ks t) ts) (run (option_to_list x) w) (let g = f.0 in g.applies) later)

-- all the happenings of histories of one world apply
pub all-apply : (cs : List Closed) (ts : List NodeLine) → AllApply (begins 0 (setups_of cs)) (empty (setups_of cs)) → AreOfOneWorld cs ts → AllApply (happenings cs ts) (empty (setups_of cs))
all-apply cs ts b f = all-append (begins 0 (setups_of cs)) (of_lines ts (length cs) [] ts) (empty (setups_of cs)) b (all-followed ts (length cs) [] (world_before_lines cs) ts f.followed)
