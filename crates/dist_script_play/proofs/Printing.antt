-- What is printed in parts.
use Rattle.dist_script_play.proofs.Words.{◌≡◌, ℕ, zero, suc, ◌+◌, ◌<◌, ◌≤◌, List, [], ◌∷◌, ◌++◌, length, get_or, drop, slice_get, codes, Option, sym, refl, ap}
use Rattle.dist_script_play.proofs.Words.{◌∙◌, subst, arith, Appends-nil, Appends-trans, at_drop_all, at_drop_more, Appends, Name, Entry, Setup, NodeState}
use Rattle.dist_script_play.proofs.Words.{append-nil, concat, World, node_of, PutSoFar, all_put, more_put, found_text, node_text, rows_text, table_lines, nodes_from, nodes_text}

-- nothing more
pub nothing : (a : Option (List ℕ)) → Appends a a []
nothing a = Appends-nil a

-- two parts
pub in_two : (a b c : Option (List ℕ)) (x y : List ℕ) → Appends a b x → Appends b c y → Appends a c (x ++ y)
in_two a b c x y p q = Appends-trans a b c x y p q

-- three parts
pub in_three : (a b c d : Option (List ℕ)) (x y z : List ℕ) → Appends a b x → Appends b c y → Appends c d z → Appends a d (x ++ y ++ z)
in_three a b c d x y z p q r = Appends-trans a c d (x ++ y) z (Appends-trans a b c x y p q) r

-- four parts, as they are joined
pub in_four : (a b c d e : Option (List ℕ)) (x y z w : List ℕ) → Appends a b x → Appends b c y → Appends c d z → Appends d e w → Appends a e (concat (x ∷ y ∷ z ∷ w ∷ []))
in_four a b c d e x y z w p q r s =
    Appends-trans a b e x _ p (Appends-trans b c e y _ q (Appends-trans c d e z _ r (subst (Appends d e) (sym (append-nil w)) s)))

-- ---- the rows of a table

-- the next row, if there is one, and those behind it
pub next_row : (n : NodeState) (rows : List (Name × Entry)) (i : ℕ) → found_text n (slice_get rows i) ++ rows_text n (drop (i + 1) rows) ≡ rows_text n (drop i rows)
next_row n rows i = let next : suc i ≡ i + 1 = omega arith in subst (λ k. found_text n (slice_get rows i) ++ rows_text n (drop k rows) ≡ rows_text n (drop i rows)) next (there n rows i)
  where
    there : (n : NodeState) (rows : List (Name × Entry)) (i : ℕ) → found_text n (slice_get rows i) ++ rows_text n (drop (suc i) rows) ≡ rows_text n (drop i rows)
    there n [] zero = refl
    there n [] (suc i) = refl
    there n (r ∷ rs) zero = refl
    there n (r ∷ rs) (suc i) = there n rs i

-- all rows, of which there is one
pub all_rows : (a b : Option (List ℕ)) (n : NodeState) (rows : List (Name × Entry)) (i : ℕ) → 0 < length rows → length rows ≤ i → PutSoFar (rows_text n rows) a b (rows_text n (drop i rows)) → Appends a b (table_lines n rows)
all_rows a b n [] i some all so = absurd (omega arith)
all_rows a b n (r ∷ rs) i some all so = all_put a b _ _ so (at_drop_all (rows_text n) (r ∷ rs) i all)

-- no rows
pub no_rows : (n : NodeState) (rows : List (Name × Entry)) → length rows ≡ 0 → codes "no peers\n" ≡ table_lines n rows
no_rows n [] none = refl
no_rows n (r ∷ rs) none = absurd (omega arith)

-- ---- the nodes of a world

-- one node more
pub node_more : (a b c : Option (List ℕ)) (w : World) (i : ℕ) (d : Setup) (name : Name) (o : Option NodeState) → i < length w.setups → name ≡ (get_or w.setups i d).name → o ≡ node_of w i
    → PutSoFar (nodes_text w) a b (nodes_from w i (drop i w.setups)) → Appends b c (node_text name o) → PutSoFar (nodes_text w) a c (nodes_from w (i + 1) (drop (i + 1) w.setups))
node_more a b c w i d name o lt is there so put =
    let next : suc i ≡ i + 1 = omega arith in
    let line : node_text name o ≡ node_text (get_or w.setups i d).name (node_of w i) = ap (λ n. node_text n o) is ∙ ap (node_text (get_or w.setups i d).name) there in
    more_put a b c (nodes_text w) _ so _ _ put (
    ap (λ t. t ++ nodes_from w (i + 1) (drop (i + 1) w.setups)) line ∙ ap (λ k. node_text (get_or w.setups i d).name (node_of w i) ++ nodes_from w k (drop (i + 1) w.setups)) (sym next)
    ∙ sym (at_drop_more (nodes_from w i) w.setups i d lt))
