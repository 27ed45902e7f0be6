-- The rows after an event: where each comes from, and which stand beside their ends.
use Rattle.dist_world_model.proofs.Words.{◌≡◌, ℕ, zero, suc, Bool, true, false, cond, ◌&&◌, eqb, ◌⊎◌, List, [], ◌∷◌, length, slice_get, Some, None, Option}
use Rattle.dist_world_model.proofs.Words.{option_map, sym, refl, ap, ◌∙◌, subst, inl, inr, arith, ne_eqb, eqb-true, and_right, slice_get_within, Name, Side}
use Rattle.dist_world_model.proofs.Words.{Acceptor, Dialler, EndId, IsThere, other_view, End, NodeState, ends_after, Effect, Event, Reply, add_some, NodeLaws}
use Rattle.dist_world_model.proofs.Words.{EndRow, conn_behind, dooms, given_by, mark, new_row, once, peer_by, rises, row_after, rows_after, says_reply, shuts_end}
use Rattle.dist_world_model.proofs.Words.{takes_name}
use Rattle.dist_world_model.proofs.{EndStates.AreBeside, EndStates.Beside, EndStates.Fits, EventEnds.Gives, RowMarks.once-false, StepEffects.is_given}
use Rattle.dist_world_model.proofs.Places.{before-map, eqb-self, get-each, get-more, one-more}
use Rattle.dist_core.specs.declared.event.Event.TheVariants as event

pub same-length : (es : List End) (rows : List EndRow) → AreBeside es rows → length es ≡ length rows
same-length [] [] h = refl
same-length [] (r ∷ rows) h = absurd (h zero)
same-length (e ∷ es) [] h = absurd (h zero)
same-length (e ∷ es) (r ∷ rows) h = ap suc (same-length es rows (λ i. h (suc i)))

pub not-given : (c : ℕ) (v : Event) → is_given v ≡ false → given_by c v ≡ None
not-given c (event.Dial p o) h = cc
not-given c (event.Incoming link) h = cc
not-given c v h = refl

-- the row that stands at a place after an event
pub get-row : (c : ℕ) (v : Event) (r : Reply) (rows : List EndRow) (i : ℕ) → slice_get (rows_after c v r rows) i ≡ option_map (mark c r i) (slice_get (add_some rows (given_by c v)) i)
get-row c v r rows i = get-each 0 (mark c r) (add_some rows (given_by c v)) i i (omega arith)

pub get-row-old : (c : ℕ) (v : Event) (r : Reply) (rows : List EndRow) (i : ℕ) → is_given v ≡ false → slice_get (rows_after c v r rows) i ≡ option_map (mark c r i) (slice_get rows i)
get-row-old c v r rows i g = get-row c v r rows i ∙ ap (λ o. option_map (mark c r i) (slice_get (add_some rows o) i)) (not-given c v g)

-- a row that was there is there still
pub add-keeps : (rows : List EndRow) (o : Option EndRow) (p : ℕ) (x : EndRow) → slice_get rows p ≡ Some x → slice_get (add_some rows o) p ≡ Some x
add-keeps rows None p x h = h
add-keeps rows (Some new) p x h = get-more rows new p ∙ ap (λ b. cond b (Some new) (slice_get rows p)) (ne_eqb (length rows) p (λ e. let w = slice_get_within rows p x h in omega (arith, w, e))) ∙ h

pub row-then : (c : ℕ) (v : Event) (r : Reply) (rows : List EndRow) (i : ℕ) (x : EndRow) → slice_get rows i ≡ Some x → slice_get (rows_after c v r rows) i ≡ Some (mark c r i x)
row-then c v r rows i x h = get-row c v r rows i ∙ ap (option_map (mark c r i)) (add-keeps rows (given_by c v) i x h)

-- the row that is given out
pub row-new : (c : ℕ) (v : Event) (r : Reply) (rows : List EndRow) (new : EndRow) → given_by c v ≡ Some new → slice_get (rows_after c v r rows) (length rows) ≡ Some (mark c r (length rows) new)
row-new c v r rows new g =
    get-row c v r rows (length rows) ∙ ap (λ o. option_map (mark c r (length rows)) (slice_get (add_some rows o) (length rows))) g
    ∙ ap (option_map (mark c r (length rows))) (get-more rows new (length rows) ∙ ap (λ b. cond b (Some new) (slice_get rows (length rows))) (eqb-self (length rows)))

-- WHERE A ROW COMES FROM that stands at place i after an event: it was there and was marked, or it was given out
pub data Came (c : ℕ) (v : Event) (r : Reply) (rows : List EndRow) (i : ℕ) (y : EndRow) : Type 0 where
  Old : (x : EndRow) → slice_get rows i ≡ Some x → y ≡ mark c r i x → Came c v r rows i y
  Fresh : (side : Side) → (p : Option Name) → (link : Option ℕ) → i ≡ length rows → given_by c v ≡ Some (new_row side p link c) → y ≡ mark c r i (new_row side p link c) → Came c v r rows i y

pub came : (c : ℕ) (v : Event) (r : Reply) (rows : List EndRow) (i : ℕ) (y : EndRow) → slice_get (rows_after c v r rows) i ≡ Some y → Came c v r rows i y
came c v r rows i y at =
    let g = before-map (mark c r i) (slice_get (add_some rows (given_by c v)) i) y (sym (get-row c v r rows i) ∙ at) in
    by v g.0 g.1 g.2 refl
  where
    added : (side : Side) (p : Option Name) (link : Option ℕ) (x : EndRow) → given_by c v ≡ Some (new_row side p link c) → y ≡ mark c r i x
        → (slice_get rows i ≡ Some x) ⊎ ((i ≡ length rows) × (new_row side p link c ≡ x)) → Came c v r rows i y
    added side p link x g e (inl q) = Old x q e
    added side p link x g e (inr q) = Fresh side p link q.0 g (e ∙ ap (mark c r i) (sym q.1))

    by : (u : Event) (x : EndRow) → slice_get (add_some rows (given_by c u)) i ≡ Some x → y ≡ mark c r i x → given_by c v ≡ given_by c u → Came c v r rows i y
    by (event.Dial p o) x q e g = added Dialler (Some p) None x g e (one-more rows (new_row Dialler (Some p) None c) i x q)
    by (event.Incoming link) x q e g = added Acceptor None (conn_behind link) x g e (one-more rows (new_row Acceptor None (conn_behind link) c) i x q)
    by u x q e g = Old x q e

pub given-is : (v : Event) (side : Side) (p : Option Name) (link : Option ℕ) (c : ℕ) → given_by c v ≡ Some (new_row side p link c) → is_given v ≡ true
given-is (event.Dial q o) side p link c g = refl
given-is (event.Incoming k) side p link c g = refl
given-is v side p link c g = cc

-- ---- marks that write nothing

still : (c : ℕ) (r : Reply) (row : EndRow) → row_after c false false false r row ≡ row
still c r row = (λ j. record { side = row.side; peer = row.peer; conn = row.conn; given = row.given; named = once-false c row.named j; doomed = once-false c row.doomed j; replied = once-false c row.replied j; rose = once-false c row.rose j; closed = once-false c row.closed j })

pub unmarked : (c : ℕ) (r : Reply) (i : ℕ) (row : EndRow) → eqb r.end_.0 i ≡ false → dooms r.note i ≡ false → shuts_end r.closed i ≡ false → mark c r i row ≡ row
unmarked c r i row a d s = (λ j. row_after c (a j) (d j) (s j) r row) ∙ still c r row

-- an end that is given out leaves its row as it is
pub given-mark : (n : NodeState) (f : Effect) → Gives n f → (c i : ℕ) (row : EndRow) → mark c f.reply i row ≡ row
given-mark n f g c i row =
    let r : Reply = f.reply in
    let a : (eqb r.end_.0 i && takes_name r.note) ≡ false = and_right _ _ (ap takes_name g.note) in
    let b : (eqb r.end_.0 i && says_reply r.note) ≡ false = and_right _ _ (ap says_reply g.note) in
    let d : (eqb r.end_.0 i && rises r.up) ≡ false = and_right _ _ (ap rises g.up) in
    (λ j. record { side = row.side; peer = cond (a j) (peer_by r.note row.peer) row.peer; conn = row.conn; given = row.given; named = once (a j) c row.named; doomed = once (dooms (g.note j) i) c row.doomed; replied = once (b j) c row.replied; rose = once (d j) c row.rose; closed = once (shuts_end (g.closed j) i) c row.closed })
    ∙ still c r row

-- ---- rows beside ends

beside-map : (o : Option End) (e d : End) (f : EndRow → EndRow) (q : Option EndRow) → o ≡ Some e → Beside o q → ((row : EndRow) → Fits e row → Fits d (f row)) → Beside (Some d) (option_map f q)
beside-map o e d f q at b g = by q (let P : Option End → Type 0 = λ x. Beside x q in subst P at b)
  where
    by : (q : Option EndRow) → Beside (Some e) q → Beside (Some d) (option_map f q)
    by None b = absurd b
    by (Some row) b = g row b

beside-same : (o : Option End) (f : EndRow → EndRow) (q : Option EndRow) → ((row : EndRow) → f row ≡ row) → Beside o q → Beside o (option_map f q)
beside-same None f None s b = tt
beside-same (Some e) f (Some row) s b = subst (Fits e) (sym (s row)) b
beside-same o f q s b = b

pub beside-by : (o u : Option End) (q p : Option EndRow) → o ≡ u → q ≡ p → Beside u p → Beside o q
beside-by o u q p e g b = let P : Option End → Type 0 = λ x. Beside x q in let Q : Option EndRow → Type 0 = λ x. Beside u x in subst P (sym e) (subst Q (sym g) b)

-- the other end that changes stands at place i
abbrev pub is_other : Option (EndId × End) → ℕ → Bool
is_other None i = false
is_other (Some x) i = eqb (let y = x.0 in y.0) i

module _ (laws : NodeLaws) (n : NodeState) (rows : List EndRow) (c : ℕ) (h : AreBeside n.ends rows) (v : Event) where
  -- an end is given out
  pub given : (f : Effect) (new : EndRow) → given_by c v ≡ Some new → Gives n f → f.other ≡ None → Fits f.this new → AreBeside (ends_after n.ends f) (rows_after c v f.reply rows)
  given f new g is none fit i =
      let long : length rows ≡ length n.ends = sym (same-length n.ends rows h) in
      let id : f.reply.end_.0 ≡ length n.ends = is.id in
      beside-by _ _ _ _ (laws.after n.ends f i (omega (arith, id)) (subst (IsThere n.ends) (sym none) tt) ∙ ap (λ o. other_view o (λ i. cond (eqb f.reply.end_.0 i) (Some f.this) (slice_get n.ends i)) i) none)
      (get-row c v f.reply rows i ∙ ap (λ o. option_map (mark c f.reply i) (slice_get (add_some rows o) i)) g ∙ ap (option_map (mark c f.reply i)) (get-more rows new i ∙ ap (λ k. cond (eqb k i) (Some new) (slice_get rows i)) (long ∙ sym id)))
      (elim (eqb f.reply.end_.0 i) as (λ b. Beside (cond b (Some f.this) (slice_get n.ends i)) (option_map (mark c f.reply i) (cond b (Some new) (slice_get rows i)))) [
        | true ↦ subst (Fits f.this) (sym (given-mark n f is c i new)) fit
        | false ↦ beside-same (slice_get n.ends i) (mark c f.reply i) (slice_get rows i) (given-mark n f is c i) (h i)
      ])

  -- what becomes of the other end that changes
  abbrev pub OtherFits : Reply → Option (EndId × End) → Type 0
  OtherFits r None = Unit {0}
  OtherFits r (Some x) = (o : End) × (slice_get n.ends (let y = x.0 in y.0) ≡ Some o) × ((row : EndRow) → Fits o row → Fits x.1 (mark c r (let y = x.0 in y.0) row))

  -- an end changes that was there, and perhaps another
  pub changed : (f : Effect) (e : End) → is_given v ≡ false → slice_get n.ends f.reply.end_.0 ≡ Some e → ((row : EndRow) → Fits e row → Fits f.this (mark c f.reply f.reply.end_.0 row)) → OtherFits f.reply f.other
      → ((i : ℕ) → eqb f.reply.end_.0 i ≡ false → is_other f.other i ≡ false → (dooms f.reply.note i ≡ false) × (shuts_end f.reply.closed i ≡ false))
      → AreBeside (ends_after n.ends f) (rows_after c v f.reply rows)
  changed f e g at own oth rest i =
      beside-by _ _ _ _ (laws.after n.ends f i (let w = slice_get_within n.ends f.reply.end_.0 e at in omega (arith, w)) (there f.other oth)) (get-row-old c v f.reply rows i g) (by f.other refl oth)
    where
      there : (o : Option (EndId × End)) → OtherFits f.reply o → IsThere n.ends o
      there None w = tt
      there (Some x) w = slice_get_within n.ends (let y = x.0 in y.0) w.0 w.1

      at-one : (k : ℕ) (d s : End) → eqb k i ≡ true → slice_get n.ends k ≡ Some d → ((row : EndRow) → Fits d row → Fits s (mark c f.reply k row)) → Beside (Some s) (option_map (mark c f.reply i) (slice_get rows i))
      at-one k d s b there fit = let P : ℕ → Type 0 = λ k. Beside (Some s) (option_map (mark c f.reply k) (slice_get rows k)) in subst P (eqb-true k i b) (beside-map _ d s (mark c f.reply k) (slice_get rows k) there (h k) fit)

      mine : is_other f.other i ≡ false → Beside (cond (eqb f.reply.end_.0 i) (Some f.this) (slice_get n.ends i)) (option_map (mark c f.reply i) (slice_get rows i))
      mine q = elim (eqb f.reply.end_.0 i) as (λ b. eqb f.reply.end_.0 i ≡ b → Beside (cond b (Some f.this) (slice_get n.ends i)) (option_map (mark c f.reply i) (slice_get rows i))) [
        | true ↦ λ b. at-one f.reply.end_.0 e f.this b at own
        | false ↦ λ b. let w = rest i b q in beside-same (slice_get n.ends i) (mark c f.reply i) (slice_get rows i) (λ row. unmarked c f.reply i row b w.0 w.1) (h i)
      ] refl

      by : (o : Option (EndId × End)) → f.other ≡ o → OtherFits f.reply o → Beside (other_view o (λ i. cond (eqb f.reply.end_.0 i) (Some f.this) (slice_get n.ends i)) i) (option_map (mark c f.reply i) (slice_get rows i))
      by None q w = mine (ap (λ o. is_other o i) q)
      by (Some x) q w = elim (eqb (let y = x.0 in y.0) i) as (λ b. eqb (let y = x.0 in y.0) i ≡ b → Beside (cond b (Some x.1) (cond (eqb f.reply.end_.0 i) (Some f.this) (slice_get n.ends i))) (option_map (mark c f.reply i) (slice_get rows i))) [
        | true ↦ λ b. at-one (let y = x.0 in y.0) w.0 x.1 b w.1 w.2
        | false ↦ λ b. mine (ap (λ o. is_other o i) q ∙ b)
      ] refl
