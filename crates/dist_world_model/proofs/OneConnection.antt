-- Two connections on which two nodes count each other as up cannot differ: order alone.
use Rattle.dist_world_model.proofs.Words.{◌≡◌, ℕ, ◌+◌, ◌<◌, ◌≤◌, true, false, ◌≢◌, ◌⊎◌, Some, sym, refl, ap, ◌∙◌, inl, inr, arith, cases_lt, Name, Acceptor}
use Rattle.dist_world_model.proofs.Words.{Dialler, NodeLaws, past, entered_before, left_before, World, runs}
use Rattle.dist_world_model.proofs.EndPairs.{IsOpen, Line, Older, Seat, in-not, older-number, out-not, rose-not, same-or-older, since, stays-in, timed}
use Rattle.dist_world_model.proofs.PastMoments.{accepted-entered, contra, dialled-entered, entered-dialled, left-sooner, not-below, not-past, past-sooner}
use Rattle.dist_world_model.proofs.{Places.flip, WorldFacts.IsKept}

module _ (laws : NodeLaws) (w : World) (h : IsKept w) where
  -- ---- the reply of a dialled end

  said-at : {c : ℕ} (l : Line w c) → (let s = l.dialled in let r = s.row in (r.given < l.replied) × (left_before l.replied r ≡ false) × (past l.replied r.rose ≡ false))
  said-at l = let s = l.dialled in let t = (timed laws w h) s in let q = t.said l.replied l.replied_is in (entered-dialled l.replied s.row s.side_is q.1, q.2, q.3)

  -- ---- ONE NODE DIALLED BOTH

  module _ {c d : ℕ} (n : c ≢ d) (L : Line w c) (M : Line w d) (who-x : M.dialled.life.who ≡ L.dialled.life.who) (who-y : L.accepted.life.who ≡ M.accepted.life.who)
      (p q : Name) (pl : L.dialled.row.peer ≡ Some p) (pm : M.dialled.row.peer ≡ Some p) (ql : L.accepted.row.peer ≡ Some q) (qm : M.accepted.row.peer ≡ Some q)
      (live-x : (let s = L.dialled in runs s.life) ≡ true) (open-x : (let s = L.dialled in IsOpen s.row)) (live-y : (let s = M.accepted in runs s.life) ≡ true) (open-y : (let s = M.accepted in IsOpen s.row)) (u : ℕ) (up : L.accepted.row.rose ≡ Some u) where
    early : u ≤ M.named → ⊥
    early le = by ((same-or-older laws w h) M.dialled L.dialled who-x live-x)
      where
        gx : ℕ
        gx = let s = L.dialled in let r = s.row in r.given

        gz : ℕ
        gz = let s = M.dialled in let r = s.row in r.given

        chain : gx < M.replied
        chain = let sx = said-at L in let ru = L.rises u up in let first = M.first in let lt = sx.0 in omega (arith, lt, ru, first, le)

        by : (let s = M.dialled in let t = L.dialled in s.place ≡ t.place) ⊎ (Older laws w h) M.dialled L.dialled → ⊥
        by (inr o) = let s = (since laws w h) L.dialled in let k = (older-number laws w h) M.dialled L.dialled o (λ r. r.replied) (λ t row b. b.replied) M.replied gx M.replied_is s.given in let ch = chain in absurd (omega (arith, k, ch))
        by (inl e) = at (cases_lt gz gx)
          where
            at : (gz < gx) ⊎ (gx ≤ gz) → ⊥
            at (inl lt) =
                let s = L.dialled in let t = M.dialled in
                let sx = said-at L in let sz = said-at M in
                let within = sx.0 in let ch = chain in
                contra (left_before (gx + 1) t.row) (left-sooner (gx + 1) M.replied t.row (omega (arith, ch)) sz.1)
                ((out-not laws w h) s t n (sym e) p pl pm (gx + 1) s.side_is (dialled-entered (gx + 1) s.row s.side_is (omega arith)) (stays-in (gx + 1) s.row open-x) (let r = s.row in past-sooner (gx + 1) L.replied r.rose (omega (arith, within)) sx.2) (dialled-entered (gx + 1) t.row t.side_is (omega (arith, lt))))
            at (inr ge) =
                let s = L.dialled in let t = M.dialled in
                let sz = said-at M in
                let within = sz.0 in
                contra (left_before (gz + 1) s.row) (stays-in (gz + 1) s.row open-x)
                ((out-not laws w h) t s (flip n) e p pm pl (gz + 1) t.side_is (dialled-entered (gz + 1) t.row t.side_is (omega arith)) (left-sooner (gz + 1) M.replied t.row (omega (arith, within)) sz.1) (let r = t.row in past-sooner (gz + 1) M.replied r.rose (omega (arith, within)) sz.2) (dialled-entered (gz + 1) s.row s.side_is (omega (arith, ge))))

    late : M.named < u → ⊥
    late lt = by ((same-or-older laws w h) L.accepted M.accepted who-y live-y)
      where
        by : (let s = L.accepted in let t = M.accepted in s.place ≡ t.place) ⊎ (Older laws w h) L.accepted M.accepted → ⊥
        by (inr o) = let s = (since laws w h) M.accepted in let k = (older-number laws w h) L.accepted M.accepted o (λ r. r.rose) (λ t row b. b.rose) u M.named up (s.named M.named M.named_is) in absurd (omega (arith, k, lt))
        by (inl e) =
            let s = L.accepted in let t = M.accepted in
            let ts = (timed laws w h) s in let g = ts.rose u up in
            let entered-t : entered_before u t.row ≡ true = accepted-entered u M.named t.row t.side_is M.named_is lt in
            elim (let r = t.row in past u r.rose) as (λ b. (let r = t.row in past u r.rose) ≡ b → ⊥) [
              | true ↦ λ b. (rose-not laws w h) s t n e q ql qm open-y u up entered-t b
              | false ↦ λ b. contra (left_before u t.row) (stays-in u t.row open-y) ((in-not laws w h) s t n e q ql qm u s.side_is t.side_is g.0 g.1 (ap (past u) up ∙ not-past u) entered-t b)
            ] refl

    pub both-dialled : ⊥
    both-dialled = early (not-below M.named u late)

  -- ---- EACH DIALLED ONE, and their dialled ends are up

  rises-early : {c d : ℕ} (n : c ≢ d) (s : Seat w Dialler c) (t : Seat w Acceptor d) → t.life.who ≡ s.life.who → (p : Name) → s.row.peer ≡ Some p → t.row.peer ≡ Some p → runs s.life ≡ true → IsOpen s.row → (u : ℕ) → t.row.rose ≡ Some u → (let r = s.row in u ≤ r.given)
  rises-early n s t who p ps pt live kept_open u up = by ((same-or-older laws w h) t s who live)
    where
      by : (t.place ≡ s.place) ⊎ (Older laws w h) t s → (let r = s.row in u ≤ r.given)
      by (inr o) = let z = (since laws w h) s in let k = (older-number laws w h) t s o (λ r. r.rose) (λ t row b. b.rose) u s.row.given up z.given in omega (arith, k)
      by (inl e) = not-below s.row.given u late
        where
          late : s.row.given < u → ⊥
          late lt =
              let tt' = (timed laws w h) t in let q = tt'.rose u up in
              let es : entered_before u s.row ≡ true = dialled-entered u s.row s.side_is lt in
              elim (let r = s.row in past u r.rose) as (λ b. (let r = s.row in past u r.rose) ≡ b → ⊥) [
                | true ↦ λ b. (rose-not laws w h) t s (flip n) e p pt ps kept_open u up es b
                | false ↦ λ b. contra (left_before u t.row) q.1 ((out-not laws w h) s t n (sym e) p ps pt u s.side_is es (stays-in u s.row kept_open) b q.0)
              ] refl

  pub each-dialled : {c d : ℕ} (n : c ≢ d) (L : Line w c) (M : Line w d) → M.accepted.life.who ≡ L.dialled.life.who → L.accepted.life.who ≡ M.dialled.life.who
      → (p q : Name) → L.dialled.row.peer ≡ Some p → M.accepted.row.peer ≡ Some p → M.dialled.row.peer ≡ Some q → L.accepted.row.peer ≡ Some q
      → (let s = L.dialled in runs s.life) ≡ true → (let s = L.dialled in IsOpen s.row) → (let s = M.dialled in runs s.life) ≡ true → (let s = M.dialled in IsOpen s.row)
      → (u v : ℕ) → L.accepted.row.rose ≡ Some u → M.accepted.row.rose ≡ Some v → ⊥
  each-dialled n L M who-a who-b p q pl pm qm ql live-l open-l live-m open-m u v up-l up-m =
      let a = rises-early n L.dialled M.accepted who-a p pl pm live-l open-l v up-m in
      let b = rises-early (flip n) M.dialled L.accepted who-b q qm ql live-m open-m u up-l in
      let sl = said-at L in let sm = said-at M in
      let x = sl.0 in let y = sm.0 in
      let ru = L.rises u up-l in let rv = M.rises v up-m in
      absurd (omega (arith, a, b, x, y, ru, rv))

  -- ---- EACH ACCEPTED ONE

  replies-early : {c d : ℕ} (n : c ≢ d) (s : Seat w Acceptor c) (M : Line w d) → M.dialled.life.who ≡ s.life.who → (p : Name) → s.row.peer ≡ Some p → M.dialled.row.peer ≡ Some p → runs s.life ≡ true → IsOpen s.row → (k : ℕ) → s.row.named ≡ Some k → M.replied ≤ k
  replies-early n s M who p ps pt live kept_open k nm = by ((same-or-older laws w h) M.dialled s who live)
    where
      by : (let t = M.dialled in t.place ≡ s.place) ⊎ (Older laws w h) M.dialled s → M.replied ≤ k
      by (inr o) = let z = (since laws w h) s in let g = (older-number laws w h) M.dialled s o (λ r. r.replied) (λ t row b. b.replied) M.replied k M.replied_is (z.named k nm) in omega (arith, g)
      by (inl e) = not-below k M.replied late
        where
          late : k < M.replied → ⊥
          late lt =
              let t = M.dialled in let g = (timed laws w h) t in let q = g.said M.replied M.replied_is in
              contra (left_before M.replied s.row) (stays-in M.replied s.row kept_open) ((out-not laws w h) t s (flip n) e p pt ps M.replied q.0 q.1 q.2 q.3 (accepted-entered M.replied k s.row s.side_is nm lt))

  pub each-accepted : {c d : ℕ} (n : c ≢ d) (L : Line w c) (M : Line w d) → M.dialled.life.who ≡ L.accepted.life.who → L.dialled.life.who ≡ M.accepted.life.who
      → (p q : Name) → L.accepted.row.peer ≡ Some p → M.dialled.row.peer ≡ Some p → M.accepted.row.peer ≡ Some q → L.dialled.row.peer ≡ Some q
      → (let s = L.accepted in runs s.life) ≡ true → (let s = L.accepted in IsOpen s.row) → (let s = M.accepted in runs s.life) ≡ true → (let s = M.accepted in IsOpen s.row) → ⊥
  each-accepted n L M who-a who-b p q pl pm qm ql live-l open-l live-m open-m =
      let a = replies-early n L.accepted M who-a p pl pm live-l open-l L.named L.named_is in
      let b = replies-early (flip n) M.accepted L who-b q qm ql live-m open-m M.named M.named_is in
      let x = L.first in let y = M.first in
      absurd (omega (arith, a, b, x, y))
