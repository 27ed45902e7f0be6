-- THE LAWS OF EVERY INCARNATION: who holds a peer, who comes up, and after whom.
use Rattle.dist_world_model.proofs.Words.{◌≡◌, ℕ, ◌+◌, ◌<◌, true, false, ◌||◌, ◌⊎◌, List, slice_get, Some, None, Option, sym, ap, ◌∙◌, inl, inr, arith}
use Rattle.dist_world_model.proofs.Words.{false≢true, true_from_ne_false, nat_tests, Setup, AreApart, AllLives, Alone, Apart, Decided, InTurn, NodeLaws, EndRow}
use Rattle.dist_world_model.proofs.Words.{past, run, Replaces, RisesFirst, TakesOver, left_before, Life, empty, Happening}
use Rattle.dist_world_model.proofs.{IncarnationEffects.always, LastingFacts.IsWhole, LastingFacts.whole_keeps, Places.flip, RowChanges.Lasts, RowChanges.Timed}
use Rattle.dist_world_model.proofs.PastMoments.{contra, dialled-entered, entered-later, is-past, left-sooner, not-above, not-past, past-is, past-sooner}
use Rattle.dist_world_model.proofs.SoleHolders.{in-alone, out-alone, up-alone}

module _ (laws : NodeLaws) (t : ℕ) (l : Life) (w : IsWhole t l) where
  apart : AreApart l.rows
  apart = let h = w.0 in h.apart

  timed : (i : ℕ) (x : EndRow) → slice_get l.rows i ≡ Some x → Timed x
  timed i x ax = let s = w.1 in let r = s.rows i x ax in r.timed

  lasts : (i : ℕ) (x : EndRow) → slice_get l.rows i ≡ Some x → Lasts x
  lasts i x ax = let s = w.1 in let r = s.rows i x ax in r.lasts

  pub alone : Alone l
  alone = (
    (λ i j x y p n d ax ay px py re ey. let g = timed i x ax in let s = g.said n re in out-alone laws l.rows apart n p i j d x y ax ay px py s.0 s.1 s.2 s.3 ey),
    (λ i j x y p n d ax ay px py sx sy ro ey ry. let g = timed i x ax in let s = g.rose n ro in in-alone laws l.rows apart n p i j d x y ax ay px py sx sy s.0 s.1 (ap (past n) ro ∙ not-past n) ey ry),
    (λ i j x y p n d ax ay px py ro sy ey ry. let g = timed i x ax in let s = g.rose n ro in
        true_from_ne_false (left_before n y) (λ b. false≢true (sym s.1 ∙ out-alone laws l.rows apart n p j i (flip d) y x ay ax py px sy ey b ry s.0))),
  )

  replaces : Replaces l.rows
  replaces i j x y p u v d ax ay px py ro rv lt stayed =
      let tx = timed i x ax in let g = tx.rose u ro in
      let ty = timed j y ay in let k = ty.rose v rv in
      let last = lasts i x ax u ro in
      let left : left_before (u + 1) y ≡ true = up-alone laws l.rows apart (u + 1) p i j d x y ax ay px py (entered-later u (u + 1) x (omega arith) g.0) last.0 (ap (past (u + 1)) ro ∙ is-past (u + 1) u (omega arith)) (entered-later v (u + 1) y (omega (arith, lt)) k.0) (ap (past (u + 1)) rv ∙ is-past (u + 1) v (omega (arith, lt))) in
      let never = lasts j y ay v rv in
      closed-at y.closed (ap (λ o. past (u + 1) o || past (u + 1) y.closed) (sym never.1) ∙ left) (ap (λ o. past u o || past u y.closed) (sym never.1) ∙ stayed)
    where
      closed-at : (o : Option ℕ) → past (u + 1) o ≡ true → past u o ≡ false → o ≡ Some u
      closed-at None a b = absurd (false≢true a)
      closed-at (Some n) a b = let e : n ≡ u = grind (arith, nat_tests) in ap Some e

  rises-first : RisesFirst l.rows
  rises-first i j x y p u v d ax ay px py sd ro rv lt = not-above u v (λ le.
      let tx = timed i x ax in let g = tx.rose u ro in
      let ty = timed j y ay in let k = ty.rose v rv in
      contra (left_before v y) k.1 (out-alone laws l.rows apart v p i j d x y ax ay px py sd (dialled-entered v x sd lt) (left-sooner v u x le g.1) (past-sooner v u x.rose le (ap (past u) ro ∙ not-past u)) k.0))

  takes-over : TakesOver l.rows
  takes-over i j y z p n m u d ay az py pz sy sz ny nz lt ro = by (let s = w.1 in s.ousted i j y z p n m d ay az py pz sy sz ny nz lt)
    where
      by : (past n z.rose ≡ true) ⊎ (left_before (n + 1) z ≡ true) → u < n
      by (inl r) = past-is n u (ap (past n) (sym ro) ∙ r)
      by (inr r) = not-above u n (λ le. let last = lasts j z az u ro in contra (left_before (n + 1) z) (left-sooner (n + 1) (u + 1) z (omega (arith, le)) last.0) r)

  pub in-turn : InTurn l
  in-turn = (let s = w.1 in s.idle, rises-first, takes-over, replaces)

module _ (laws : NodeLaws) (ss : List Setup) (hs : List Happening) where
  whole : (let w = run hs (empty ss) in AllLives (IsWhole w.clock) w)
  whole = always IsWhole (whole_keeps laws) ss hs

  pub apart_lives : AllLives Apart (run hs (empty ss))
  apart_lives i l at = let h = whole i l at in h.0.apart

  pub decided_lives : AllLives Decided (run hs (empty ss))
  decided_lives i l at x y p t own other c = let h = whole i l at in let g = h.1.gone x y p t own other c in g.0

  pub alone_lives : AllLives Alone (run hs (empty ss))
  alone_lives i l at = alone laws _ l (whole i l at)

  pub in_turn_lives : AllLives InTurn (run hs (empty ss))
  in_turn_lives i l at = in-turn laws _ l (whole i l at)
