-- Where the numbers of two texts' first bytes differ, they order the texts.
use Rattle.std.proofs.Common.{◌≡◌, ◌≢◌, ℕ, zero, suc, ◌+◌, ◌*◌, ◌^◌, ◌<◌, true, List, [], ◌∷◌, take, drop, drop-drop, refl, sym, ap, subst, ◌∙◌, arith, w64}
use Rattle.std.proofs.Common.{nat_cmp}
use Rattle.std.proofs.{Math.Nat.pow-succ', Math.Nat.one-le-pow, lemmas.Cmp.ranked, lemmas.Cmp.by_ranked, lemmas.Cmp.nat_list_cmp_total, lemmas.Nat.mul-add-lt}
use Rattle.std.specs.{Array.IsFirstChunk, Int.from_be_bytes, List.list_all, Ordering.ordering_then, Ordering.ordering_reverse}
use Rattle.std.specs.declared.cmp.{Ordering.Ordering, Ordering.TheVariants.Less, Ordering.TheVariants.Equal, Ordering.TheVariants.Greater}
use Rattle.dist_names.specs.{Bytes.is_visible, Front.front_number, Front.front_numbers, NodeName.IsNodeName, Order.Name, Order.name_cmp}
use Rattle.dist_names.proofs.Texts.{visible_range, visible_parts, visible_drop}

abbrev IsVisible : List ℕ → Type 0
IsVisible text = list_all is_visible text ≡ true

-- the first k bytes as one number
abbrev front : ℕ → List ℕ → ℕ
front zero text = 0
front (suc k) [] = 0
front (suc k) (b ∷ text) = b * 256 ^ k + front k text

-- eight bytes as std reads them
is_front : (text : List ℕ) → front_number text ≡ front 8 text
is_front [] = refl
is_front (a ∷ []) = omega arith
is_front (a ∷ b ∷ []) = omega arith
is_front (a ∷ b ∷ c ∷ []) = omega arith
is_front (a ∷ b ∷ c ∷ d ∷ []) = omega arith
is_front (a ∷ b ∷ c ∷ d ∷ e ∷ []) = omega arith
is_front (a ∷ b ∷ c ∷ d ∷ e ∷ f ∷ []) = omega arith
is_front (a ∷ b ∷ c ∷ d ∷ e ∷ f ∷ g ∷ []) = omega arith
is_front (a ∷ b ∷ c ∷ d ∷ e ∷ f ∷ g ∷ h ∷ text) = omega arith

front-take : (k : ℕ) (text : List ℕ) → front k (take k text) ≡ front k text
front-take zero text = refl
front-take (suc k) [] = refl
front-take (suc k) (b ∷ text) = ap (λ n. b * 256 ^ k + n) (front-take k text)

-- the number of the first eight bytes alone
pub of_eight : (text eight : List ℕ) → IsFirstChunk text eight 8 → from_be_bytes w64 eight ≡ front_number text
of_eight text eight h = ap front_number h.same ∙ is_front (take 8 text) ∙ front-take 8 text ∙ sym (is_front text)

-- a number of k bytes
front_below : (k : ℕ) (text : List ℕ) → IsVisible text → front k text < 256 ^ k
front_below zero text h = omega arith
front_below (suc k) [] h = omega (arith, one-le-pow (suc k) 256)
front_below (suc k) (b ∷ text) h =
    let p = visible_parts b text h in
    omega (arith, pow-succ' 256 k, mul-add-lt b (256 ^ k) (front k text) 256 (omega (arith, (visible_range b p.0).1)) (front_below k text p.1))

-- where a text goes on it is not zero
front_above : (k : ℕ) (b : ℕ) (text : List ℕ) → IsVisible (b ∷ text) → 0 < front (suc k) (b ∷ text)
front_above k b text h =
    omega (arith, mul-add-lt 0 (256 ^ k) 0 b (omega (arith, (visible_range b (visible_parts b text h).0).0)) (omega (arith, one-le-pow k 256)))

-- the smaller number is that of the smaller text
smaller : (k : ℕ) (ours theirs : Name) → IsVisible ours → IsVisible theirs → front k ours < front k theirs → name_cmp ours theirs ≡ Less
smaller zero ours theirs x y h = absurd (omega (arith, h))
smaller (suc k) [] [] x y h = absurd (omega (arith, h))
smaller (suc k) [] (c ∷ theirs) x y h = refl
smaller (suc k) (b ∷ ours) [] x y h = absurd (omega (arith, h))
smaller (suc k) (b ∷ ours) (c ∷ theirs) x y h =
    let p = visible_parts b ours x in
    let q = visible_parts c theirs y in
    by_ranked (b < c) (b ≡ c) (c < b) (nat_cmp b c) (ranked b c (nat_cmp b c) refl)
    (λ e less. ap (λ o. ordering_then o (name_cmp ours theirs)) e)
    (λ e same. ap (λ o. ordering_then o (name_cmp ours theirs)) e ∙ smaller k ours theirs p.1 q.1 (omega (arith, h, ap (λ n. n * 256 ^ k) same)))
    (λ e more. absurd (omega (arith, h, mul-add-lt c (256 ^ k) (front k theirs) b more (front_below k theirs q.1))))

-- where the numbers are equal, these bytes do not decide
alike : (k : ℕ) (ours theirs : Name) → IsVisible ours → IsVisible theirs → front k ours ≡ front k theirs → name_cmp (drop k ours) (drop k theirs) ≡ name_cmp ours theirs
alike zero ours theirs x y e = refl
alike (suc k) [] [] x y e = refl
alike (suc k) [] (c ∷ theirs) x y e = absurd (omega (arith, e, front_above k c theirs y))
alike (suc k) (b ∷ ours) [] x y e = absurd (omega (arith, e, front_above k b ours x))
alike (suc k) (b ∷ ours) (c ∷ theirs) x y e =
    let p = visible_parts b ours x in
    let q = visible_parts c theirs y in
    by_ranked (b < c) (b ≡ c) (c < b) (nat_cmp b c) (ranked b c (nat_cmp b c) refl)
    (λ o less. absurd (omega (arith, e, mul-add-lt b (256 ^ k) (front k ours) c less (front_below k ours p.1))))
    (λ o same. alike k ours theirs p.1 q.1 (omega (arith, e, ap (λ n. n * 256 ^ k) same)) ∙ sym (ap (λ o. ordering_then o (name_cmp ours theirs)) o))
    (λ o more. absurd (omega (arith, e, mul-add-lt c (256 ^ k) (front k theirs) b more (front_below k theirs q.1))))

-- the numbers of eight bytes decide, or else what stands behind them
by_eight : (ours theirs : Name) → IsVisible ours → IsVisible theirs
    → ordering_then (nat_cmp (front_number ours) (front_number theirs)) (name_cmp (drop 8 ours) (drop 8 theirs)) ≡ name_cmp ours theirs
by_eight ours theirs x y =
    let a = front_number ours in
    let b = front_number theirs in
    let behind = name_cmp (drop 8 ours) (drop 8 theirs) in
    by_ranked (a < b) (a ≡ b) (b < a) (nat_cmp a b) (ranked a b (nat_cmp a b) refl)
    (λ e less. ap (λ o. ordering_then o behind) e ∙ sym (smaller 8 ours theirs x y (omega (arith, less, is_front ours, is_front theirs))))
    (λ e same. ap (λ o. ordering_then o behind) e ∙ alike 8 ours theirs x y (sym (is_front ours) ∙ same ∙ is_front theirs))
    (λ e more. ap (λ o. ordering_then o behind) e
    ∙ ap ordering_reverse (sym (smaller 8 theirs ours y x (omega (arith, more, is_front ours, is_front theirs))))
    ∙ sym (nat_list_cmp_total.antisymm ours theirs))

then_then : (a b c : Ordering) → ordering_then (ordering_then a b) c ≡ ordering_then a (ordering_then b c)
then_then Less b c = refl
then_then Equal b c = refl
then_then Greater b c = refl

-- the same further on
by_next_eight : (n : ℕ) (ours theirs : Name) → IsVisible ours → IsVisible theirs
    → ordering_then (nat_cmp (front_number (drop n ours)) (front_number (drop n theirs))) (name_cmp (drop (n + 8) ours) (drop (n + 8) theirs)) ≡ name_cmp (drop n ours) (drop n theirs)
by_next_eight n ours theirs x y =
    (λ i. ordering_then (nat_cmp (front_number (drop n ours)) (front_number (drop n theirs))) (name_cmp (sym (drop-drop 8 n ours) i) (sym (drop-drop 8 n theirs) i)))
    ∙ by_eight (drop n ours) (drop n theirs) (visible_drop n ours x) (visible_drop n theirs y)

-- the first of the four numbers that differ
abbrev pub fronts_cmp : (ours theirs : ℕ × ℕ × ℕ × ℕ) → Ordering
fronts_cmp ours theirs = ordering_then (ordering_then (ordering_then (nat_cmp ours.0 theirs.0) (nat_cmp ours.1 theirs.1)) (nat_cmp ours.2 theirs.2)) (nat_cmp ours.3 theirs.3)

-- the numbers of two names' first 32 bytes decide, or else what stands behind them
names_in_order : (ours theirs : Name) → IsNodeName ours → IsNodeName theirs
    → ordering_then (fronts_cmp (front_numbers ours) (front_numbers theirs)) (name_cmp (drop 32 ours) (drop 32 theirs)) ≡ name_cmp ours theirs
names_in_order ours theirs x y =
    let at : ℕ → Ordering = λ n. nat_cmp (front_number (drop n ours)) (front_number (drop n theirs)) in
    let step = λ (n : ℕ). by_next_eight n ours theirs x.bytes y.bytes in
    then_then _ (at 24) _ ∙ then_then _ (at 16) _ ∙ then_then (at 0) (at 8) _
    ∙ ap (ordering_then (at 0)) (ap (ordering_then (at 8)) (ap (ordering_then (at 16)) (step 24) ∙ step 16) ∙ step 8) ∙ step 0

decided : (first next all : Ordering) → first ≢ Equal → ordering_then first next ≡ all → first ≡ all
decided Less next all apart e = e
decided Equal next all apart e = absurd (apart refl)
decided Greater next all apart e = e

undecided : (first next all : Ordering) → first ≡ Equal → ordering_then first next ≡ all → next ≡ all
undecided first next all same e = ap (λ o. ordering_then o next) (sym same) ∙ e

-- each of the four cases, in the words of what was called
pub eight_decide : (ours theirs : Name) → IsVisible ours → IsVisible theirs → (o : Ordering)
    → o ≡ nat_cmp (front_number ours) (front_number theirs) → o ≢ Equal → o ≡ name_cmp ours theirs
eight_decide ours theirs x y o is apart = decided o _ _ apart (ap (λ o. ordering_then o (name_cmp (drop 8 ours) (drop 8 theirs))) is ∙ by_eight ours theirs x y)

pub behind_eight : (ours theirs : Name) → IsVisible ours → IsVisible theirs → (o : Ordering)
    → o ≡ nat_cmp (front_number ours) (front_number theirs) → o ≡ Equal → name_cmp (drop 8 ours) (drop 8 theirs) ≡ name_cmp ours theirs
behind_eight ours theirs x y o is same = undecided o _ _ same (ap (λ o. ordering_then o (name_cmp (drop 8 ours) (drop 8 theirs))) is ∙ by_eight ours theirs x y)

pub fronts_decide : (ours theirs : Name) → IsNodeName ours → IsNodeName theirs → (o : Ordering)
    → o ≡ fronts_cmp (front_numbers ours) (front_numbers theirs) → o ≢ Equal → o ≡ name_cmp ours theirs
fronts_decide ours theirs x y o is apart = decided o _ _ apart (ap (λ o. ordering_then o (name_cmp (drop 32 ours) (drop 32 theirs))) is ∙ names_in_order ours theirs x y)

pub behind_fronts : (ours theirs : Name) → IsNodeName ours → IsNodeName theirs → (o : Ordering)
    → o ≡ fronts_cmp (front_numbers ours) (front_numbers theirs) → o ≡ Equal → name_cmp (drop 32 ours) (drop 32 theirs) ≡ name_cmp ours theirs
behind_fronts ours theirs x y o is same = undecided o _ _ same (ap (λ o. ordering_then o (name_cmp (drop 32 ours) (drop 32 theirs))) is ∙ names_in_order ours theirs x y)

-- what stands behind the first bytes of a name, as two calls return it
pub visible_behind : (name bytes behind : Name) → behind ≡ drop 32 bytes → bytes ≡ name → IsNodeName name → IsVisible behind
visible_behind name bytes behind a b good = subst IsVisible (sym (a ∙ ap (drop 32) b)) (visible_drop 32 name good.bytes)
