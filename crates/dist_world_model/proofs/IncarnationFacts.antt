-- What is true of each incarnation, at every moment.
use Rattle.dist_world_model.proofs.Words.{◌≡◌, ℕ, ◌+◌, ◌<◌, ◌≤◌, true, false, ◌||◌, ltb, ◌≢◌, ◌⊎◌, List, is_some, slice_get, Some, None, Option, sym, refl, ap}
use Rattle.dist_world_model.proofs.Words.{◌∙◌, subst, inl, inr, arith, le-ltb, eqb-true, cases_lt, Name, Side, Acceptor, Dialler, Entry, AreLegal, entry_in}
use Rattle.dist_world_model.proofs.Words.{holds_at, is_claim, is_held, names, End, Kind, In, Out, Up, Crosses, lesser, AreApart, claim_in, get_along}
use Rattle.dist_world_model.proofs.Words.{held_before, EndRow, claim_before, claim_when, new_row, past, left_before, Life, runs}
use Rattle.dist_world_model.proofs.{EndStates.AreBeside, EndStates.Below, EndStates.Beside, RowChanges.Writes, RowChanges.writes-below, RowChanges.writes-claim}
use Rattle.dist_world_model.proofs.RowMarks.{fits-claim, later-below, new-below}
use Rattle.dist_peers.specs.declared.entry.Entry.TheVariants as entry

-- ---- two ends that an entry names get along

names-apart : (o : Option Entry) (k l : Kind) (i j : ℕ) → names k i o ≡ true → names l j o ≡ true → i ≢ j → get_along k l ≡ true
names-apart (Some (entry.Out x)) Out Out i j a b d = absurd (d (sym (eqb-true x.0 i a) ∙ eqb-true x.0 j b))
names-apart (Some (entry.In x)) In In i j a b d = absurd (d (sym (eqb-true x.0 i a) ∙ eqb-true x.0 j b))
names-apart (Some (entry.Up x)) Up Up i j a b d = absurd (d (sym (eqb-true x.0 i a) ∙ eqb-true x.0 j b))
names-apart (Some (entry.Challenged u x)) In In i j a b d = absurd (d (sym (eqb-true x.0 i a) ∙ eqb-true x.0 j b))
names-apart (Some (entry.Challenged u x)) Up Up i j a b d = absurd (d (sym (eqb-true u.0 i a) ∙ eqb-true u.0 j b))
names-apart (Some (entry.Challenged u x)) In Up i j a b d = refl
names-apart (Some (entry.Challenged u x)) Up In i j a b d = refl
names-apart o k l i j a b d = cc

-- ---- what is kept

-- it left without coming up
abbrev pub IsGone : EndRow → Type 0
IsGone row = (row.rose ≡ None) × ((is_some row.doomed || is_some row.closed) ≡ true)

abbrev pub AllRows : (EndRow → Type 0) → List EndRow → Type 0
AllRows P rows = (i : ℕ) (row : EndRow) → slice_get rows i ≡ Some row → P row

abbrev pub AreGone : Name → List EndRow → Type 0
AreGone me rows = (x y : ℕ) (p : Name) (t : ℕ) (own other : EndRow) → Crosses rows x y p t own other → IsGone (lesser me p own other)

-- AN INCARNATION when the clock shows t
pub record IsLife (t : ℕ) (l : Life) : Type 0 where
  pub legal : AreLegal l.node.ends
  pub beside : runs l ≡ true → AreBeside l.node.ends l.rows
  pub below : AllRows (Below t) l.rows
  pub apart : AreApart l.rows

-- ---- rows that change at number t

-- where a row comes from: it was there, or it is new, and if it is dialled nobody holds its peer
pub data Origin (t : ℕ) (rows : List EndRow) (i : ℕ) (y : EndRow) : Type 0 where
  Was : (x : EndRow) → slice_get rows i ≡ Some x → Writes t x y → Origin t rows i y
  New : (side : Side) → (p : Option Name) → (c : Option ℕ) → slice_get rows i ≡ None → ((q : Name) → side ≡ Dialler → p ≡ Some q → (k : Kind) (j : ℕ) → held_before rows t q k j ≡ false)
      → y ≡ new_row side p c t → Origin t rows i y

pub record Grows (t : ℕ) (rows new : List EndRow) : Type 0 where
  pub from : (i : ℕ) (y : EndRow) → slice_get new i ≡ Some y → Origin t rows i y
  pub kept : (i : ℕ) (x : EndRow) → slice_get rows i ≡ Some x → (y : EndRow) × (slice_get new i ≡ Some y)

-- it was up just before number n, or had left just after
abbrev pub IsDone : ℕ → EndRow → Type 0
IsDone n row = (past n row.rose ≡ true) ⊎ (left_before (n + 1) row ≡ true)

-- a row takes the name of p now
pub record NamedNow (t : ℕ) (rows new : List EndRow) (i : ℕ) (p : Name) : Type 0 where
  pub before : EndRow
  pub after : EndRow
  pub was : slice_get rows i ≡ Some before
  pub is : slice_get new i ≡ Some after
  pub free : before.named ≡ None
  pub named : after.named ≡ Some t
  pub peer : after.peer ≡ Some p

-- WHAT A HAPPENING AT NUMBER t MAKES OF AN INCARNATION l
pub record Grown (t : ℕ) (l m : Life) : Type 0 where
  pub begun : m.begun ≡ l.begun
  pub name : m.node.setup.name ≡ l.node.setup.name
  pub rows : Grows t l.rows m.rows
  pub over : (n : ℕ) → m.over ≡ Some n → (n ≡ t) ⊎ ((l.over ≡ Some n) × (m.rows ≡ l.rows))
  -- an end that takes a name now ousts each accepted end that took the same before, and of two attempts that cross now the lesser goes
  pub ousts : (i : ℕ) (p : Name) → NamedNow t l.rows m.rows i p → (j : ℕ) (u z : EndRow) (n : ℕ) → slice_get l.rows j ≡ Some u → slice_get m.rows j ≡ Some z → u.side ≡ Acceptor → u.peer ≡ Some p → u.named ≡ Some n
      → (past t u.rose ≡ true) ⊎ (left_before (t + 1) z ≡ true)
  pub decides : (i : ℕ) (p : Name) (k : NamedNow t l.rows m.rows i p) (x : ℕ) (own new : EndRow) → slice_get l.rows x ≡ Some own → slice_get m.rows x ≡ Some new → is_claim p Out (claim_before t own) ≡ true
      → IsGone (lesser l.node.setup.name p new k.after)

-- what was held before is what was held
abbrev pub OldAgree : ℕ → List EndRow → List EndRow → Type 0
OldAgree t rows new = (s i : ℕ) → s ≤ t → claim_in s (slice_get new i) ≡ claim_in s (slice_get rows i)

new-claim : (s t : ℕ) (side : Side) (p : Option Name) (c : Option ℕ) → s ≤ t → claim_before s (new_row side p c t) ≡ None
new-claim s t Dialler p c h = ap (λ b. claim_when Dialler p b false false) (let q : ltb t s ≡ false = le-ltb t s h in q)
new-claim s t Acceptor p c h = refl

pub grows-agree : (t : ℕ) (rows new : List EndRow) → Grows t rows new → OldAgree t rows new
grows-agree t rows new g s i h = by (slice_get new i) (slice_get rows i) refl refl
  where
    by : (o q : Option EndRow) → slice_get new i ≡ o → slice_get rows i ≡ q → claim_in s (slice_get new i) ≡ claim_in s (slice_get rows i)
    by None None a b = ap (claim_in s) (a ∙ sym b)
    by None (Some x) a b = absurd (let k = g.kept i x b in let z : None ≡ Some k.0 = sym a ∙ k.1 in cc)
    by (Some y) q a b = at (g.from i y a)
      where
        at : Origin t rows i y → claim_in s (slice_get new i) ≡ claim_in s (slice_get rows i)
        at (Was x ax w) = ap (claim_in s) a ∙ writes-claim t x y w s h ∙ ap (claim_in s) (sym ax)
        at (New side p c none idle e) = ap (claim_in s) a ∙ ap (claim_before s) e ∙ new-claim s t side p c h ∙ ap (claim_in s) (sym none)

pub grows-below : (t : ℕ) (rows new : List EndRow) → Grows t rows new → AllRows (Below t) rows → AllRows (Below (t + 1)) new
grows-below t rows new g b i y at = by (g.from i y at)
  where
    by : Origin t rows i y → Below (t + 1) y
    by (Was x ax w) = writes-below t x y w (b i x ax)
    by (New side p c none idle e) = subst (Below (t + 1)) (sym e) (new-below t side p c)

-- ---- what is held at a moment

pub held-now : (t : ℕ) (es : List End) (rows : List EndRow) → AreBeside es rows → AllRows (Below t) rows → (s : ℕ) → t ≤ s → (p : Name) (k : Kind) (i : ℕ) → held_before rows s p k i ≡ holds_at es p k i
held-now t es rows h below s later p k i = by (slice_get es i) (slice_get rows i) (h i) (below i)
  where
    by : (o : Option End) (q : Option EndRow) → Beside o q → ((row : EndRow) → q ≡ Some row → Below t row) → is_claim p k (claim_in s q) ≡ is_held p k o
    by None None b g = refl
    by None (Some row) b g = absurd b
    by (Some e) None b g = absurd b
    by (Some e) (Some row) b g = ap (is_claim p k) (fits-claim s e row (later-below t s row later (g row refl)) b)

-- ends that are apart stay so, where those are that hold a peer from now on
pub apart-step : (t : ℕ) (rows new : List EndRow) → AreApart rows → Grows t rows new
    → ((s : ℕ) → t < s → (p : Name) (k l : Kind) (i j : ℕ) → held_before new s p k i ≡ true → held_before new s p l j ≡ true → i ≢ j → get_along k l ≡ true) → AreApart new
apart-step t rows new old g now s p k l i j a b d = by (cases_lt t s)
  where
    by : (t < s) ⊎ (s ≤ t) → get_along k l ≡ true
    by (inl h) = now s h p k l i j a b d
    by (inr h) = old s p k l i j (sym (ap (is_claim p k) (grows-agree t rows new g s i h)) ∙ a) (sym (ap (is_claim p l) (grows-agree t rows new g s j h)) ∙ b) d

-- AN INCARNATION STAYS ONE whose rows grow and stand beside legal ends
pub life-by : (t : ℕ) (l m : Life) → IsLife t l → Grows t l.rows m.rows → AreLegal m.node.ends → AreBeside m.node.ends m.rows → IsLife (t + 1) m
life-by t l m h g legal beside =
    let below = grows-below t l.rows m.rows g h.below in
    record {
      legal = legal;
      beside = λ e. beside;
      below = below;
      apart = apart-step t l.rows m.rows h.apart g (λ s later p k q i j a b d.
          let held = held-now (t + 1) m.node.ends m.rows beside below s (omega (arith, later)) p in
          names-apart (entry_in m.node.ends p) k q i j (sym (legal p k i) ∙ sym (held k i) ∙ a) (sym (legal p q j) ∙ sym (held q j) ∙ b) d);
    }
