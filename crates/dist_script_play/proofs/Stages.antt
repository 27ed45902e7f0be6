-- What happenings print, in turn.
use Rattle.dist_script_play.proofs.Words.{◌≡◌, ℕ, suc, ◌+◌, ◌<◌, ◌≤◌, List, [], ◌∷◌, ◌++◌, length, take, drop, Some, None, Option, sym, refl, ap, ◌∙◌, subst}
use Rattle.dist_script_play.proofs.Words.{append_assoc, append-nil, arith, count_applied, one_where, run, World, Happening, ScriptFault, Puts, PutsPart}
use Rattle.dist_script_play.proofs.Words.{closed_by, closed_now, happenings_text, closed_after}
use Rattle.dist_script_play.proofs.Pages.{puts_none, puts_more, part_more}
use Rattle.dist_world_model.specs.Happenings.{applied_at, happens, ticked_on}

-- of one happening the line is that of the end that it closed
one_closed : (w : World) (hs : List Happening) → length hs ≡ 1 → closed_after (count_applied hs w) (run hs w).last_closed ≡ happenings_text w hs
one_closed w [] one = absurd (omega arith)
one_closed w (h ∷ g ∷ hs) one = absurd (omega arith)
one_closed w (h ∷ []) one =
    elim (applied_at w h) as (λ o. closed_after (one_where o + 0) (ticked_on w o).last_closed ≡ closed_by o ++ []) [
      | None ↦ refl
      | Some x ↦ sym (append-nil (closed_now x.last_closed))
    ]

-- the line after one happening is its text
one_line : (w w2 : World) (hs : List Happening) (k : ℕ) → length hs ≡ 1 → w2 ≡ run hs w → k ≡ count_applied hs w → closed_after k w2.last_closed ≡ happenings_text w hs
one_line w w2 hs k one after count =
    ap (λ v. closed_after k v.last_closed) after ∙ ap (λ n. closed_after n (run hs w).last_closed) count ∙ one_closed w hs one

pub one_puts : (a b : Option (List ℕ)) (p q : List ℕ) (w w2 : World) (hs : List Happening) (k : ℕ) → length hs ≡ 1 → w2 ≡ run hs w → k ≡ count_applied hs w
    → Puts (closed_after k w2.last_closed) a b p q → Puts (happenings_text w hs) a b p q
one_puts a b p q w w2 hs k one after count put = subst (λ t. Puts t a b p q) (one_line w w2 hs k one after count) put

pub one_puts_part : (a b : Option (List ℕ)) (p q : List ℕ) (w w2 : World) (hs : List Happening) (k : ℕ) (fault : ScriptFault) → length hs ≡ 1 → w2 ≡ run hs w → k ≡ count_applied hs w
    → PutsPart (closed_after k w2.last_closed) a b p q fault → PutsPart (happenings_text w hs) a b p q fault
one_puts_part a b p q w w2 hs k fault one after count part = subst (λ t. PutsPart t a b p q fault) (one_line w w2 hs k one after count) part

-- at most all apply
pub few_applied : (w : World) (hs : List Happening) → count_applied hs w ≤ length hs
few_applied w [] = omega arith
few_applied w (h ∷ hs) =
    let others : count_applied hs (happens w h) ≤ length hs = few_applied (happens w h) hs in
    elim (applied_at w h) as (λ o. one_where o + count_applied hs (happens w h) ≤ suc (length hs)) [
      | None ↦ omega (arith, others)
      | Some x ↦ omega (arith, others)
    ]

-- the lines so far, and those of what is left, are those of all
pub record HappenedSoFar (w0 : World) (all : List Happening) (old now : Option (List ℕ)) (page left : List ℕ) (w : World) (rest : List Happening) (applied : ℕ) : Type 0 where
  pub done : List ℕ
  pub put : Puts done old now page left
  pub text : done ++ happenings_text w rest ≡ happenings_text w0 all
  pub after : run rest w ≡ run all w0
  pub count : applied + count_applied rest w ≡ count_applied all w0

pub none_happened : (w0 : World) (all : List Happening) (old : Option (List ℕ)) (page : List ℕ) → HappenedSoFar w0 all old old page page w0 all 0
none_happened w0 all old page = record { done = []; put = puts_none old page; text = refl; after = refl; count = omega arith }

one_text : (w : World) (rest : List Happening) → 0 < length rest → happenings_text w rest ≡ happenings_text w (take 1 rest) ++ happenings_text (run (take 1 rest) w) (drop 1 rest)
one_text w [] some = absurd (omega arith)
one_text w (h ∷ hs) some = ap (λ t. t ++ happenings_text (happens w h) hs) (sym (append-nil (closed_by (applied_at w h))))

one_run : (w : World) (rest : List Happening) → 0 < length rest → run rest w ≡ run (drop 1 rest) (run (take 1 rest) w)
one_run w [] some = absurd (omega arith)
one_run w (h ∷ hs) some = refl

one_count : (w : World) (rest : List Happening) → 0 < length rest → count_applied rest w ≡ count_applied (take 1 rest) w + count_applied (drop 1 rest) (run (take 1 rest) w)
one_count w [] some = absurd (omega arith)
one_count w (h ∷ hs) some =
    elim (applied_at w h) as (λ o. one_where o + count_applied hs (happens w h) ≡ one_where o + 0 + count_applied hs (happens w h)) [ None ↦ omega arith | Some x ↦ omega arith ]

-- one more
pub one_happened : (w0 : World) (all : List Happening) (old mid new : Option (List ℕ)) (page p q : List ℕ) (w : World) (rest front others : List Happening) (applied more : ℕ) (w2 : World)
    → HappenedSoFar w0 all old mid page p w rest applied → 0 < length rest → front ≡ take 1 rest → others ≡ drop 1 rest
    → Puts (happenings_text w front) mid new p q → w2 ≡ run front w → more ≡ count_applied front w
    → HappenedSoFar w0 all old new page q w2 others (applied + more)
one_happened w0 all old mid new page p q w rest front others applied more w2 so some is_front is_others put is_after is_count =
    let here : w2 ≡ run (take 1 rest) w = is_after ∙ ap (λ f. run f w) is_front in
    let text1 : happenings_text w front ++ happenings_text w2 others ≡ happenings_text w rest =
    ap (λ f. happenings_text w f ++ happenings_text w2 others) is_front
    ∙ ap (λ v. happenings_text w (take 1 rest) ++ happenings_text v others) here
    ∙ ap (λ os. happenings_text w (take 1 rest) ++ happenings_text (run (take 1 rest) w) os) is_others
    ∙ sym (one_text w rest some) in
    let counted : more + count_applied others w2 ≡ count_applied rest w =
    ap (λ k. k + count_applied others w2) (is_count ∙ ap (λ f. count_applied f w) is_front)
    ∙ ap (λ v. count_applied (take 1 rest) w + count_applied others v) here
    ∙ ap (λ os. count_applied (take 1 rest) w + count_applied os (run (take 1 rest) w)) is_others
    ∙ sym (one_count w rest some) in
    record {
      done = so.done ++ happenings_text w front;
      put = puts_more old mid new page p q so.done (happenings_text w front) so.put put;
      text = append_assoc so.done (happenings_text w front) (happenings_text w2 others) ∙ ap (λ t. so.done ++ t) text1 ∙ so.text;
      after = ap (run others) here ∙ ap (λ os. run os (run (take 1 rest) w)) is_others ∙ sym (one_run w rest some) ∙ so.after;
      count = omega (arith, counted, so.count);
    }

-- or a beginning of one more
pub cut_happened : (w0 : World) (all : List Happening) (old mid new : Option (List ℕ)) (page p q : List ℕ) (w : World) (rest front : List Happening) (applied : ℕ) (fault : ScriptFault)
    → HappenedSoFar w0 all old mid page p w rest applied → 0 < length rest → front ≡ take 1 rest → PutsPart (happenings_text w front) mid new p q fault → PutsPart (happenings_text w0 all) old new page q fault
cut_happened w0 all old mid new page p q w rest front applied fault so some is_front part =
    let others = happenings_text (run (take 1 rest) w) (drop 1 rest) in
    part_more old mid new page p q so.done (happenings_text w front) others (happenings_text w0 all) fault so.put part (
    ap (λ t. so.done ++ t) (ap (λ f. happenings_text w f ++ others) is_front ∙ sym (one_text w rest some)) ∙ so.text)

-- no more apply than there are
pub fits_more : (w0 : World) (all : List Happening) (old now : Option (List ℕ)) (page left : List ℕ) (w : World) (rest front : List Happening) (applied more : ℕ)
    → HappenedSoFar w0 all old now page left w rest applied → 0 < length rest → front ≡ take 1 rest → more ≡ count_applied front w → applied + more ≤ length all
fits_more w0 all old now page left w rest front applied more so some is_front is_count =
    let counted : more ≡ count_applied (take 1 rest) w = is_count ∙ ap (λ f. count_applied f w) is_front in
    let here = one_count w rest some in
    let few = few_applied w0 all in
    omega (arith, counted, here, few, so.count)

-- once none is left
pub happened_text : (w0 : World) (all : List Happening) (old now : Option (List ℕ)) (page left : List ℕ) (w : World) (rest : List Happening) (applied : ℕ)
    → HappenedSoFar w0 all old now page left w rest applied → length rest ≡ 0 → Puts (happenings_text w0 all) old now page left
happened_text w0 all old now page left w (h ∷ hs) applied so none = absurd (omega arith)
happened_text w0 all old now page left w [] applied so none = subst (λ t. Puts t old now page left) (sym (append-nil so.done) ∙ so.text) so.put

pub happened_after : (w0 : World) (all : List Happening) (old now : Option (List ℕ)) (page left : List ℕ) (w : World) (rest : List Happening) (applied : ℕ)
    → HappenedSoFar w0 all old now page left w rest applied → length rest ≡ 0 → w ≡ run all w0
happened_after w0 all old now page left w (h ∷ hs) applied so none = absurd (omega arith)
happened_after w0 all old now page left w [] applied so none = so.after

pub happened_count : (w0 : World) (all : List Happening) (old now : Option (List ℕ)) (page left : List ℕ) (w : World) (rest : List Happening) (applied : ℕ)
    → HappenedSoFar w0 all old now page left w rest applied → length rest ≡ 0 → applied ≡ count_applied all w0
happened_count w0 all old now page left w (h ∷ hs) applied so none = absurd (omega arith)
happened_count w0 all old now page left w [] applied so none = omega (arith, so.count)

-- what happenings do in turn
pub ruleset happenings_in_turn = (none_happened, happened_text, happened_after, happened_count, cut_happened)
