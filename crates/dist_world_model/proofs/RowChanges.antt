-- What any happening may make of the rows of an incarnation, and what is kept of each row.
use Rattle.dist_world_model.proofs.Words.{or-true, ◌≡◌, ℕ, ◌+◌, ◌<◌, ◌≤◌, Bool, true, false, ◌||◌, ltb, ◌⊎◌, is_some, Some, None, Option, sym, refl, ap, ◌∙◌}
use Rattle.dist_world_model.proofs.Words.{subst, inl, inr, arith, false_from_ne_true, false≢true, Name, Side, Acceptor, Dialler, Numbers, EndRow, claim_before}
use Rattle.dist_world_model.proofs.Words.{claim_when, holds_peer, new_row, once, past, entered_before, left_before}
use Rattle.dist_world_model.proofs.EndStates.{Below}
use Rattle.dist_world_model.proofs.RowMarks.{below-of, once-below, once-false, once-past, past-later, past-once, written}

-- WHAT A HAPPENING AT NUMBER t MAKES OF A ROW x: each number stays or is written now, and of what is written now it is known how
-- the row stood
pub record Writes (t : ℕ) (x y : EndRow) : Type 0 where
  pub names_now : Bool
  pub replies_now : Bool
  pub rises_now : Bool
  pub dooms_now : Bool
  pub shuts_now : Bool
  pub side : y.side ≡ x.side
  pub given : y.given ≡ x.given
  pub named : y.named ≡ once names_now t x.named
  pub replied : y.replied ≡ once replies_now t x.replied
  pub rose : y.rose ≡ once rises_now t x.rose
  pub doomed : y.doomed ≡ once dooms_now t x.doomed
  pub closed : y.closed ≡ once shuts_now t x.closed
  pub peer : names_now ≡ false → y.peer ≡ x.peer
  pub at_name : names_now ≡ true → (x.side ≡ Acceptor) × (x.named ≡ None) × (x.rose ≡ None)
  pub at_reply : replies_now ≡ true → (x.side ≡ Dialler) × (x.doomed ≡ None) × (x.closed ≡ None) × (x.rose ≡ None)
  pub at_rise : rises_now ≡ true → (holds_peer x.side true (is_some x.named) ≡ true) × (x.doomed ≡ None) × (x.closed ≡ None) × (y.doomed ≡ None) × (y.closed ≡ None)
  pub at_doom : dooms_now ≡ true → x.rose ≡ None

-- nothing is written but perhaps that it is closed
pub quiet-writes : (t : ℕ) (b : Bool) (x y : EndRow) → y.side ≡ x.side → y.given ≡ x.given → y.peer ≡ x.peer → y.named ≡ x.named → y.replied ≡ x.replied → y.rose ≡ x.rose → y.doomed ≡ x.doomed → y.closed ≡ once b t x.closed → Writes t x y
quiet-writes t b x y sd gi pe nm re ro dm cl = record {
  names_now = false;
  replies_now = false;
  rises_now = false;
  dooms_now = false;
  shuts_now = b;
  side = sd;
  given = gi;
  named = nm ∙ sym (once-false t x.named);
  replied = re ∙ sym (once-false t x.replied);
  rose = ro ∙ sym (once-false t x.rose);
  doomed = dm ∙ sym (once-false t x.doomed);
  closed = cl;
  peer = λ e. pe;
  at_name = λ e. absurd cc;
  at_reply = λ e. absurd cc;
  at_rise = λ e. absurd cc;
  at_doom = λ e. absurd cc;
}

pub same-writes : (t : ℕ) (x : EndRow) → Writes t x x
same-writes t x = quiet-writes t false x x refl refl refl refl refl refl refl (sym (once-false t x.closed))

-- ---- what is kept of each row

-- when the reply is sent the end holds its peer and is not up; when it comes up it holds its peer
pub record Timed (row : EndRow) : Type 0 where
  pub said : (n : ℕ) → row.replied ≡ Some n → (row.side ≡ Dialler) × (entered_before n row ≡ true) × (left_before n row ≡ false) × (past n row.rose ≡ false)
  pub rose : (n : ℕ) → row.rose ≡ Some n → (entered_before n row ≡ true) × (left_before n row ≡ false)

-- after it came up the end has not left, and who came up was never doomed
abbrev pub Lasts : EndRow → Type 0
Lasts row = (n : ℕ) → row.rose ≡ Some n → (left_before (n + 1) row ≡ false) × (row.doomed ≡ None)

-- all of this, and its numbers are above b
pub record IsRow (b : ℕ) (row : EndRow) : Type 0 where
  pub timed : Timed row
  pub lasts : Lasts row
  pub since : Numbers (λ n. b < n) row

pub open-left : (t : ℕ) (row : EndRow) → row.doomed ≡ None → row.closed ≡ None → left_before t row ≡ false
open-left t row d c = λ i. past t (d i) || past t (c i)

module _ (t : ℕ) (x y : EndRow) (w : Writes t x y) where
  -- what had happened before is not changed
  module _ (s : ℕ) (h : s ≤ t) where
    pub old-left : left_before s y ≡ left_before s x
    old-left = λ i. (ap (past s) w.doomed ∙ past-once s t w.dooms_now x.doomed h) i || (ap (past s) w.closed ∙ past-once s t w.shuts_now x.closed h) i

    pub old-entered : entered_before s y ≡ entered_before s x
    old-entered = λ i. holds_peer (w.side i) (ltb (w.given i) s) ((ap (past s) w.named ∙ past-once s t w.names_now x.named h) i)

    pub old-rose : past s y.rose ≡ past s x.rose
    old-rose = ap (past s) w.rose ∙ past-once s t w.rises_now x.rose h

    pub writes-claim : claim_before s y ≡ claim_before s x
    writes-claim = (λ i. claim_when (w.side i) y.peer (old-entered i) (old-left i) (old-rose i)) ∙ by w.names_now refl
      where
        by : (b : Bool) → w.names_now ≡ b → claim_when x.side y.peer (entered_before s x) (left_before s x) (past s x.rose) ≡ claim_before s x
        by false e = ap (λ p. claim_when x.side p (entered_before s x) (left_before s x) (past s x.rose)) (w.peer e)
        by true e =
            let q = w.at_name e in
            let none : entered_before s x ≡ false = (λ i. holds_peer (q.0 i) (ltb x.given s) (past s (q.1 i))) in
            ap (λ b. claim_when x.side y.peer b (left_before s x) (past s x.rose)) none ∙ sym (ap (λ b. claim_when x.side x.peer b (left_before s x) (past s x.rose)) none)

  -- who had left has left
  pub left-stays : (s : ℕ) → left_before s x ≡ true → left_before s y ≡ true
  left-stays s h = by (past s x.doomed) (past s x.closed) refl refl h
    where
      by : (a b : Bool) → past s x.doomed ≡ a → past s x.closed ≡ b → (a || b) ≡ true → left_before s y ≡ true
      by true b ea eb g = ap (λ k. k || past s y.closed) (ap (past s) w.doomed ∙ once-past w.dooms_now t s x.doomed ea)
      by false true ea eb g = ap (λ k. past s y.doomed || k) (ap (past s) w.closed ∙ once-past w.shuts_now t s x.closed eb) ∙ or-true (past s y.doomed)
      by false false ea eb g = absurd (false≢true g)

  pub rose-stays : (s : ℕ) → past s x.rose ≡ true → past s y.rose ≡ true
  rose-stays s h = ap (past s) w.rose ∙ once-past w.rises_now t s x.rose h

  -- a name that was taken stays
  pub name-stays : (m : ℕ) → x.named ≡ Some m → (y.named ≡ Some m) × (y.peer ≡ x.peer)
  name-stays m e = (w.named ∙ ap (once w.names_now t) e, w.peer (false_from_ne_true w.names_now (λ b. let q = w.at_name b in let z : Some m ≡ None = sym e ∙ q.1 in cc)))

  -- an end that was dialled keeps its peer
  pub peer-stays : x.side ≡ Dialler → y.peer ≡ x.peer
  peer-stays sd = w.peer (false_from_ne_true w.names_now (λ b. let q = w.at_name b in let z : Dialler ≡ Acceptor = sym sd ∙ q.0 in cc))

  pub writes-below : Below t x → Below (t + 1) y
  writes-below b = record {
    given = ap (λ g. past (t + 1) (Some g)) w.given ∙ past-later t (t + 1) (Some x.given) (omega arith) b.given;
    named = at y.named _ x.named w.named b.named;
    doomed = at y.doomed _ x.doomed w.doomed b.doomed;
    replied = at y.replied _ x.replied w.replied b.replied;
    rose = at y.rose _ x.rose w.rose b.rose;
    closed = at y.closed _ x.closed w.closed b.closed;
  }
    where
      at : (u : Option ℕ) (c : Bool) (o : Option ℕ) → u ≡ once c t o → past t o ≡ is_some o → past (t + 1) u ≡ is_some u
      at u c o e h = subst (λ u. past (t + 1) u ≡ is_some u) (sym e) (once-below t c o h)

  module _ (b : ℕ) (begun : b < t) (below : Below t x) (h : IsRow b x) where
    since : Numbers (λ n. b < n) y
    since = let s = h.since in record {
      given = subst (λ n. b < n) (sym w.given) s.given;
      named = at y.named _ x.named w.named s.named;
      doomed = at y.doomed _ x.doomed w.doomed s.doomed;
      replied = at y.replied _ x.replied w.replied s.replied;
      rose = at y.rose _ x.rose w.rose s.rose;
      closed = at y.closed _ x.closed w.closed s.closed;
    }
      where
        at : (u : Option ℕ) (c : Bool) (o : Option ℕ) → u ≡ once c t o → ((n : ℕ) → o ≡ Some n → b < n) → (n : ℕ) → u ≡ Some n → b < n
        at u c o e g n q = by (written c t n o (sym e ∙ q))
          where
            by : (o ≡ Some n) ⊎ ((c ≡ true) × (o ≡ None) × (t ≡ n)) → b < n
            by (inl k) = g n k
            by (inr k) = let z = k.2 in omega (arith, z, begun)

    timed : Timed y
    timed = record { said = said; rose = rose }
      where
        old : Timed x
        old = h.timed

        open-then : x.doomed ≡ None → x.closed ≡ None → left_before t y ≡ false
        open-then d c = old-left t (omega arith) ∙ open-left t x d c

        said : (n : ℕ) → y.replied ≡ Some n → (y.side ≡ Dialler) × (entered_before n y ≡ true) × (left_before n y ≡ false) × (past n y.rose ≡ false)
        said n e = by (written w.replies_now t n x.replied (sym w.replied ∙ e))
          where
            by : (x.replied ≡ Some n) ⊎ ((w.replies_now ≡ true) × (x.replied ≡ None) × (t ≡ n)) → (y.side ≡ Dialler) × (entered_before n y ≡ true) × (left_before n y ≡ false) × (past n y.rose ≡ false)
            by (inl q) =
                let le : n ≤ t = (let k = below-of t n x.replied below.replied q in omega (arith, k)) in
                let g = old.said n q in
                (w.side ∙ g.0, old-entered n le ∙ g.1, old-left n le ∙ g.2, old-rose n le ∙ g.3)
            by (inr (now, none, tn)) =
                let g = w.at_reply now in
                let le : t ≤ t = omega arith in
                let P : ℕ → Type 0 = λ k. (y.side ≡ Dialler) × (entered_before k y ≡ true) × (left_before k y ≡ false) × (past k y.rose ≡ false) in
                subst P tn (w.side ∙ g.0, old-entered t le ∙ (λ i. holds_peer (g.0 i) (ltb x.given t) (past t x.named)) ∙ below.given, open-then g.1 g.2, old-rose t le ∙ ap (past t) g.3)

        rose : (n : ℕ) → y.rose ≡ Some n → (entered_before n y ≡ true) × (left_before n y ≡ false)
        rose n e = by (written w.rises_now t n x.rose (sym w.rose ∙ e))
          where
            by : (x.rose ≡ Some n) ⊎ ((w.rises_now ≡ true) × (x.rose ≡ None) × (t ≡ n)) → (entered_before n y ≡ true) × (left_before n y ≡ false)
            by (inl q) =
                let le : n ≤ t = (let k = below-of t n x.rose below.rose q in omega (arith, k)) in
                let g = old.rose n q in
                (old-entered n le ∙ g.0, old-left n le ∙ g.1)
            by (inr (now, none, tn)) =
                let g = w.at_rise now in
                let P : ℕ → Type 0 = λ k. (entered_before k y ≡ true) × (left_before k y ≡ false) in
                subst P tn (old-entered t (omega arith) ∙ (λ i. holds_peer x.side (below.given i) (below.named i)) ∙ g.0, open-then g.1 g.2)

    lasts : Lasts y
    lasts n e = by (written w.rises_now t n x.rose (sym w.rose ∙ e))
      where
        by : (x.rose ≡ Some n) ⊎ ((w.rises_now ≡ true) × (x.rose ≡ None) × (t ≡ n)) → (left_before (n + 1) y ≡ false) × (y.doomed ≡ None)
        by (inl q) =
            let k = below-of t n x.rose below.rose q in
            let g = h.lasts n q in
            let spared : w.dooms_now ≡ false = false_from_ne_true w.dooms_now (λ d. let z : Some n ≡ None = sym q ∙ w.at_doom d in cc) in
            (old-left (n + 1) (omega (arith, k)) ∙ g.0, w.doomed ∙ ap (λ d. once d t x.doomed) spared ∙ once-false t x.doomed ∙ g.1)
        by (inr (now, none, tn)) = let g = w.at_rise now in (open-left (n + 1) y g.3 g.4, g.3)

    pub writes-row : IsRow b y
    writes-row = record { timed = timed; lasts = lasts; since = since }

pub new-is-row : (b t : ℕ) → b < t → (side : Side) (p : Option Name) (c : Option ℕ) → IsRow b (new_row side p c t)
new-is-row b t h side p c = record {
  timed = record { said = λ n e. absurd cc; rose = λ n e. absurd cc };
  lasts = λ n e. absurd cc;
  since = record { given = h; named = λ n e. absurd cc; doomed = λ n e. absurd cc; replied = λ n e. absurd cc; rose = λ n e. absurd cc; closed = λ n e. absurd cc };
}
