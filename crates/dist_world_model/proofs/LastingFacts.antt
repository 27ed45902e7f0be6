-- Each incarnation keeps what is true of it, whatever happens.
use Rattle.dist_world_model.proofs.Words.{◌≡◌, ℕ, ◌+◌, ◌<◌, ◌≤◌, Bool, true, false, cond, ◌||◌, ◌≢◌, ◌⊎◌, List, is_some, slice_get, Some, None, Option, sym}
use Rattle.dist_world_model.proofs.Words.{refl, ap, ◌∙◌, subst, inl, inr, arith, false_from_ne_true, false≢true, or_right, Name, Creation, Acceptor, Dialler}
use Rattle.dist_world_model.proofs.Words.{is_greater, is_claim, Out, Setup, after_change, after, lesser, life_after, life_after_end, new_life, reached_life}
use Rattle.dist_world_model.proofs.Words.{with_node, claim_in, held_before, NodeLaws, EndRow, claim_before, once, past, DialsIdle, left_before, Life}
use Rattle.dist_world_model.proofs.{EndStates.Below, IncarnationEffects.Keeps, RowMarks.below-of, RowMarks.written, WithEvent.lives-grown, WithEvent.lives-life}
use Rattle.dist_world_model.proofs.IncarnationFacts.{AllRows, AreGone, Grown, IsDone, IsGone, IsLife, NamedNow, New, OldAgree, Origin, Was, grows-agree}
use Rattle.dist_world_model.proofs.RowChanges.{IsRow, Writes, left-stays, name-stays, new-is-row, peer-stays, rose-stays, writes-claim, writes-row}
use Rattle.dist_world_model.proofs.WithoutEvent.{ends-grown, ends-life, kept-grown, kept-life, reaches-grown, reaches-life, setup-name}

module _ (laws : NodeLaws) where
  pub life_keeps : Keeps IsLife
  life_keeps = record {
    stays = λ t l h. kept-life t l l refl h refl refl;
    begins = λ t who s c. record { legal = laws.opening_legal (record s { creation = c }); beside = λ e i. tt; below = λ i row is. absurd cc; apart = λ u p k l i j a b d. absurd (false≢true a) };
    ends = λ t l live h. ends-life t l h;
    reaches = reaches-life;
    lives = λ t l v fresh f live ok h. lives-life laws t l v fresh f live ok h;
    resets = λ t l v live ok h. kept-life t l (with_node (after_change l.node v) l) refl h refl refl;
  }

  -- a statement is kept of each incarnation that is kept where its rows grow
  pub grown_keeps : (P : ℕ → Life → Type 0) → ((t who : ℕ) (s : Setup) (c : Creation) → P (t + 1) (new_life who t s c))
      → ((t : ℕ) (l m : Life) → IsLife t l → IsLife (t + 1) m → Grown t l m → P t l → P (t + 1) m) → Keeps (λ t l. IsLife t l × P t l)
  grown_keeps P new grow = record {
    stays = λ t l h. by t l l h ((life_keeps).stays t l h.0) (kept-grown t l l refl refl refl refl);
    begins = λ t who s c. ((life_keeps).begins t who s c, new t who s c);
    ends = λ t l live h. by t l (life_after_end t l) h ((life_keeps).ends t l live h.0) (ends-grown t l);
    reaches = λ t l id c live h. by t l (reached_life id c l) h ((life_keeps).reaches t l id c live h.0) (reaches-grown t l id c live);
    lives = λ t l v fresh f live ok h. by t l (life_after t v f.reply (after l.node v f) l) h ((life_keeps).lives t l v fresh f live ok h.0) (lives-grown laws t l v fresh f live ok h.0);
    resets = λ t l v live ok h. by t l (with_node (after_change l.node v) l) h ((life_keeps).resets t l v live ok h.0) (kept-grown t l (with_node (after_change l.node v) l) refl refl (setup-name l.node.setup v) refl);
  }
    where
      by : (t : ℕ) (l m : Life) → IsLife t l × P t l → IsLife (t + 1) m → Grown t l m → IsLife (t + 1) m × P (t + 1) m
      by t l m h new-life g = (new-life, grow t l m h.0 new-life g h.1)

-- ---- what rests on the growth of rows

-- an accepted end that took its name before another took the same: it was up by then, or has left
abbrev pub Superseded : List EndRow → Type 0
Superseded rows = (i j : ℕ) (y z : EndRow) (p : Name) (n m : ℕ) → i ≢ j → slice_get rows i ≡ Some y → slice_get rows j ≡ Some z → y.peer ≡ Some p → z.peer ≡ Some p → y.side ≡ Acceptor → z.side ≡ Acceptor
    → y.named ≡ Some n → z.named ≡ Some m → m < n → IsDone n z

pub record IsSeen (t : ℕ) (l : Life) : Type 0 where
  pub rows : AllRows (IsRow l.begun) l.rows
  pub start : l.begun < t
  pub over : (n : ℕ) → l.over ≡ Some n → (n < t) × AllRows (Below (n + 1)) l.rows
  pub idle : DialsIdle l.rows
  pub ousted : Superseded l.rows
  pub gone : AreGone l.node.setup.name l.rows

module _ (t : ℕ) (l m : Life) (old : IsLife t l) (new : IsLife (t + 1) m) (g : Grown t l m) (h : IsSeen t l) where
  agree : OldAgree t l.rows m.rows
  agree = grows-agree t l.rows m.rows g.rows

  rows-kept : AllRows (IsRow m.begun) m.rows
  rows-kept i y at = subst (λ b. IsRow b y) (sym g.begun) (by (g.rows.from i y at))
    where
      by : Origin t l.rows i y → IsRow l.begun y
      by (Was x ax w) = writes-row t x y w l.begun h.start (old.below i x ax) (h.rows i x ax)
      by (New side p c none idle e) = subst (IsRow l.begun) (sym e) (new-is-row l.begun t h.start side p c)

  over-kept : (n : ℕ) → m.over ≡ Some n → (n < t + 1) × AllRows (Below (n + 1)) m.rows
  over-kept n e = by (g.over n e)
    where
      by : (n ≡ t) ⊎ ((l.over ≡ Some n) × (m.rows ≡ l.rows)) → (n < t + 1) × AllRows (Below (n + 1)) m.rows
      by (inl z) = (omega (arith, z), λ i row at. subst (λ k. Below (k + 1) row) (sym z) (new.below i row at))
      by (inr q) = let k = h.over n q.0 in let lt = k.0 in (omega (arith, lt), subst (AllRows (Below (n + 1))) (sym q.1) k.1)

  idle-kept : DialsIdle m.rows
  idle-kept i y p at sd pe k j = by (g.rows.from i y at)
    where
      by : Origin t l.rows i y → held_before m.rows y.given p k j ≡ false
      by (Was x ax w) =
          let b = old.below i x ax in
          let lt : x.given < t = below-of t x.given (Some x.given) b.given refl in
          let xd : x.side ≡ Dialler = sym w.side ∙ sd in
          ap (λ s. held_before m.rows s p k j) w.given ∙ ap (is_claim p k) (agree x.given j (omega (arith, lt))) ∙ h.idle i x p ax xd (sym (peer-stays t x y w xd) ∙ pe) k j
      by (New side q c none idle e) =
          ap (λ (r : EndRow). held_before m.rows r.given p k j) e ∙ ap (is_claim p k) (agree t j (omega arith)) ∙ idle p (ap (λ (r : EndRow). r.side) (sym e) ∙ sd) (ap (λ (r : EndRow). r.peer) (sym e) ∙ pe) k j

  -- a row with a name was there, and had it or takes it now
  named-before : (i : ℕ) (y : EndRow) (n : ℕ) → slice_get m.rows i ≡ Some y → y.named ≡ Some n → (x : EndRow) × (slice_get l.rows i ≡ Some x) × Writes t x y × ((x.named ≡ Some n) ⊎ ((x.named ≡ None) × (t ≡ n)))
  named-before i y n at e = by (g.rows.from i y at)
    where
      by : Origin t l.rows i y → (x : EndRow) × (slice_get l.rows i ≡ Some x) × Writes t x y × ((x.named ≡ Some n) ⊎ ((x.named ≡ None) × (t ≡ n)))
      by (New side p c none idle z) = absurd (let q : None ≡ Some n = ap (λ (r : EndRow). r.named) (sym z) ∙ e in cc)
      by (Was x ax w) = (x, ax, w, at-name (written w.names_now t n x.named (sym w.named ∙ e)))
        where
          at-name : (x.named ≡ Some n) ⊎ ((w.names_now ≡ true) × (x.named ≡ None) × (t ≡ n)) → (x.named ≡ Some n) ⊎ ((x.named ≡ None) × (t ≡ n))
          at-name (inl q) = inl q
          at-name (inr q) = inr (q.1, q.2)

  now-named : (i : ℕ) (x y : EndRow) (p : Name) (n : ℕ) → slice_get l.rows i ≡ Some x → slice_get m.rows i ≡ Some y → x.named ≡ None → y.named ≡ Some n → t ≡ n → y.peer ≡ Some p → NamedNow t l.rows m.rows i p
  now-named i x y p n ax ay free named tn peer = record { before = x; after = y; was = ax; is = ay; free = free; named = named ∙ ap Some (sym tn); peer = peer }

  ousted-kept : Superseded m.rows
  ousted-kept i j y z p n k d ay az py pz sy sz ny nz lt =
      let a = named-before i y n ay ny in let b = named-before j z k az nz in
      by a.0 b.0 a.1 b.1 a.2 b.2 a.3 b.3
    where
      by : (x u : EndRow) → slice_get l.rows i ≡ Some x → slice_get l.rows j ≡ Some u → Writes t x y → Writes t u z → (x.named ≡ Some n) ⊎ ((x.named ≡ None) × (t ≡ n)) → (u.named ≡ Some k) ⊎ ((u.named ≡ None) × (t ≡ k)) → IsDone n z
      by x u ax au wx wu a (inr (free, tk)) = absurd (let b = new.below i y ay in let q = below-of (t + 1) n y.named b.named ny in omega (arith, q, tk, lt))
      by x u ax au wx wu (inl nx) (inl nu) =
          let kx = name-stays t x y wx n nx in let ku = name-stays t u z wu k nu in
          kept (h.ousted i j x u p n k d ax au (sym kx.1 ∙ py) (sym ku.1 ∙ pz) (sym wx.side ∙ sy) (sym wu.side ∙ sz) nx nu lt)
        where
          kept : IsDone n u → IsDone n z
          kept (inl r) = inl (rose-stays t u z wu n r)
          kept (inr r) = inr (left-stays t u z wu (n + 1) r)
      by x u ax au wx wu (inr (free, tn)) (inl nu) =
          let ku = name-stays t u z wu k nu in
          kept (g.ousts i p (now-named i x y p n ax ay free ny tn py) j u z k au az (sym wu.side ∙ sz) (sym ku.1 ∙ pz) nu)
        where
          kept : (past t u.rose ≡ true) ⊎ (left_before (t + 1) z ≡ true) → IsDone n z
          kept (inl r) = inl (rose-stays t u z wu n (ap (λ s. past s u.rose) (sym tn) ∙ r))
          kept (inr r) = inr (ap (λ s. left_before (s + 1) z) (sym tn) ∙ r)

  gone-stays : (x y : EndRow) → Writes t x y → IsGone x → IsGone y
  gone-stays x y w q = (
    w.rose ∙ (λ i. once (unrisen i) t (q.0 i)),
    (λ i. is_some (w.doomed i) || is_some (w.closed i)) ∙ by x.doomed x.closed q.1,
  )
    where
      unrisen : w.rises_now ≡ false
      unrisen = false_from_ne_true w.rises_now (λ b. let r = w.at_rise b in false≢true ((λ i. is_some (sym r.1 i) || is_some (sym r.2 i)) ∙ q.1))

      by : (d c : Option ℕ) → (is_some d || is_some c) ≡ true → (is_some (once w.dooms_now t d) || is_some (once w.shuts_now t c)) ≡ true
      by (Some a) c e = refl
      by None (Some a) e = or_right (is_some (once w.dooms_now t None)) true refl
      by None None e = absurd (false≢true e)

  gone-kept : AreGone m.node.setup.name m.rows
  unfolding now-named
  gone-kept x y p u own other c = subst (λ me. IsGone (lesser me p own other)) (sym g.name) (let a = named-before y other u c.came c.took in by a.0 a.1 a.2 a.3)
    where
      early : u ≤ t
      early = let b = new.below y other c.came in let q = below-of (t + 1) u other.named b.named c.took in omega (arith, q)

      by : (oy : EndRow) → slice_get l.rows y ≡ Some oy → Writes t oy other → (oy.named ≡ Some u) ⊎ ((oy.named ≡ None) × (t ≡ u)) → IsGone (lesser l.node.setup.name p own other)
      by oy ay wy s = at (g.rows.from x own c.dialled)
        where
          at : Origin t l.rows x own → IsGone (lesser l.node.setup.name p own other)
          at (New side q k none idle e) = absurd (false≢true (ap (is_claim p Out) (ap (claim_in u) (sym none) ∙ sym (agree u x early) ∙ ap (claim_in u) c.dialled) ∙ c.out))
          at (Was ox ax wx) = old-or-now s
            where
              out : is_claim p Out (claim_before u ox) ≡ true
              out = ap (is_claim p Out) (sym (writes-claim t ox own wx u early)) ∙ c.out

              old-or-now : (oy.named ≡ Some u) ⊎ ((oy.named ≡ None) × (t ≡ u)) → IsGone (lesser l.node.setup.name p own other)
              old-or-now (inl ny) =
                  let k = name-stays t oy other wy u ny in
                  still (is_greater l.node.setup.name p) (h.gone x y p u ox oy (record { dialled = ax; came = ay; took = ny; name = sym k.1 ∙ c.name; out = out }))
                where
                  still : (b : Bool) → IsGone (cond b oy ox) → IsGone (cond b other own)
                  still true q = gone-stays oy other wy q
                  still false q = gone-stays ox own wx q
              old-or-now (inr (free, tu)) = g.decides y p (now-named y oy other p u ay c.came free c.took tu c.name) x ox own ax c.dialled (ap (λ s. is_claim p Out (claim_before s ox)) tu ∙ out)

  pub seen-grows : IsSeen (t + 1) m
  seen-grows = record { rows = rows-kept; start = (let s = h.start in subst (λ b. b < t + 1) (sym g.begun) (omega (arith, s))); over = over-kept; idle = idle-kept; ousted = ousted-kept; gone = gone-kept }

-- AN INCARNATION AND WHAT IS SEEN IN IT
abbrev pub IsWhole : ℕ → Life → Type 0
IsWhole t l = IsLife t l × IsSeen t l

module _ (laws : NodeLaws) where
  pub whole_keeps : Keeps IsWhole
  whole_keeps = grown_keeps laws IsSeen
      (λ t who s c. record { rows = λ i row e. absurd cc; start = omega arith; over = λ n e. absurd cc; idle = λ i x p e. absurd cc; ousted = λ i j y z p n m d e. absurd cc; gone = λ x y p u own other z. absurd (let e = z.dialled in cc) })
      seen-grows
