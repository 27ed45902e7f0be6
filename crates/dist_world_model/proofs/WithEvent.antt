-- An incarnation that gets an event.
use Rattle.dist_world_model.proofs.Words.{◌≡◌, ℕ, ◌+◌, Bool, true, false, cond, ◌&&◌, ◌||◌, eqb, ◌⊎◌, List, length, is_some, slice_get, Some, None, Ok, Option}
use Rattle.dist_world_model.proofs.Words.{Result, sym, refl, ap, ◌∙◌, subst, inl, inr, arith, eqb-true, and_parts, and_right, false≢true, or_left, or_right}
use Rattle.dist_world_model.proofs.Words.{same_Some, slice_get_past, Name, Side, Acceptor, Dialler, is_greater, AreLegal, entry_in, is_claim, names, End}
use Rattle.dist_world_model.proofs.Words.{UpRecord, Kind, In, Out, Up, NodeState, ends_after, node_after, after, effect_of, step_result, Effect, Event, Reply}
use Rattle.dist_world_model.proofs.Words.{StepError, lesser, life_after, claim_in, held_before, NodeLaws, EndRow, claim_before, claim_when, dooms, given_by}
use Rattle.dist_world_model.proofs.Words.{holds_peer, mark, new_row, once, past, peer_by, rises, rows_after, says_reply, shuts_end, takes_name, entered_before}
use Rattle.dist_world_model.proofs.Words.{conn_behind, left_before, Life, runs}
use Rattle.dist_world_model.proofs.{EndStates.AreBeside, EndStates.Fits, EndStates.Stand, EndStates.open-row, EndStates.ready_stand, OtherRows.own-after}
use Rattle.dist_world_model.proofs.EventEnds.{climber, dial-idle, doomer, gives, none-of, sayer, taker}
use Rattle.dist_world_model.proofs.IncarnationFacts.{Grown, Grows, IsGone, IsLife, NamedNow, New, Origin, Was, held-now, life-by}
use Rattle.dist_world_model.proofs.{PastMoments.accepted-entered, PastMoments.left-later, Places.eqb-self, RowChanges.Writes, RowChanges.left-stays}
use Rattle.dist_world_model.proofs.{RowMarks.below-of, RowMarks.fits-at, RowMarks.once-below, RowMarks.once-some, RowMarks.written, RowsBesideEnds.beside-deed}
use Rattle.dist_world_model.proofs.StepEffects.{Deed, Dooms, Drops, Refuses, Takes, Takes_over, Works, deed_of, greater_at}
use Rattle.dist_world_model.proofs.UnchangedRows.{Came, Fresh, Old, came, given-is, given-mark, row-then}
use Rattle.dist_world_model.proofs.WithoutEvent.{not-over}
use Rattle.dist_core_ends.specs.declared.known.End.TheVariants as ends
use Rattle.dist_core.specs.declared.event.Event.TheVariants as event

-- ---- what a deed says of a name that is taken

-- the accepted end that its peer's entry names is closed
ousted : (n : NodeState) (v : Event) (f : Effect) → Deed n v f → (o : Option Name) (p : Name) (j : ℕ) → takes_name f.reply.note ≡ true → peer_by f.reply.note o ≡ Some p → names In j (entry_in n.ends p) ≡ true → shuts_end f.reply.closed j ≡ true
ousted n v f d o p j tk pr nm = by f d tk pr
  where
    named : (q : Name) → Some q ≡ Some p → names In j (entry_in n.ends q) ≡ true
    named q e = ap (λ r. names In j (entry_in n.ends r)) (same_Some q p e) ∙ nm

    by : (f : Effect) → Deed n v f → takes_name f.reply.note ≡ true → peer_by f.reply.note o ≡ Some p → shuts_end f.reply.closed j ≡ true
    by f (Works id e g own at (Takes say a st no-out no-in)) tk pr = absurd (false≢true (sym (no-in j) ∙ named a.peer pr))
    by f (Works id e g own at (Takes_over say a x st no-out is-in)) tk pr = sym (is-in j) ∙ named a.peer pr
    by f (Works id e g own at (Refuses say q x en gr)) tk pr = absurd (false≢true (ap (names In j) (sym en) ∙ named q pr))
    by f (Works id e g own at (Dooms say a x b d st en gr atx sb sd)) tk pr = absurd (false≢true (ap (names In j) (sym en) ∙ named a.peer pr))
    by f (Works id e g own at (Drops say a x st en gr)) tk pr = absurd (false≢true (ap (names In j) (sym en) ∙ named a.peer pr))
    by f d tk pr = cc

gone-by : (t : ℕ) (r : Reply) (i : ℕ) (row : EndRow) → row.rose ≡ None → rises r.up ≡ false → (dooms r.note i ≡ true) ⊎ (shuts_end r.closed i ≡ true) → IsGone (mark t r i row)
gone-by t r i row ro up h = ((λ j. once (and_right (eqb r.end_.0 i) (rises r.up) up j) t (ro j)), by h)
  where
    by : (dooms r.note i ≡ true) ⊎ (shuts_end r.closed i ≡ true) → (is_some (once (dooms r.note i) t row.doomed) || is_some (once (shuts_end r.closed i) t row.closed)) ≡ true
    by (inl d) = or_left _ _ (ap (λ b. is_some (once b t row.doomed)) d ∙ once-some t row.doomed)
    by (inr s) = or_right _ _ (ap (λ b. is_some (once b t row.closed)) s ∙ once-some t row.closed)

-- of two attempts that cross the lesser goes
decided : (n : NodeState) (v : Event) (f : Effect) → Deed n v f → (t x : ℕ) (p : Name) (own other : EndRow) → takes_name f.reply.note ≡ true → peer_by f.reply.note other.peer ≡ Some p → names Out x (entry_in n.ends p) ≡ true
    → own.rose ≡ None → other.rose ≡ None → IsGone (lesser n.setup.name p (mark t f.reply x own) (mark t f.reply f.reply.end_.0 other))
decided n v f d t x p own other tk pr nm ro rt = by f d tk pr
  where
    named : (q : Name) → Some q ≡ Some p → names Out x (entry_in n.ends q) ≡ true
    named q e = ap (λ r. names Out x (entry_in n.ends r)) (same_Some q p e) ∙ nm

    lost : (q : Name) (b : Bool) (k m : EndRow) → Some q ≡ Some p → greater_at n q ≡ b → IsGone (cond b m k) → IsGone (lesser n.setup.name p k m)
    lost q b k m e g h = subst (λ c. IsGone (cond c m k)) (sym (ap (is_greater n.setup.name) (sym (same_Some q p e)) ∙ g)) h

    by : (f : Effect) → Deed n v f → takes_name f.reply.note ≡ true → peer_by f.reply.note other.peer ≡ Some p → IsGone (lesser n.setup.name p (mark t f.reply x own) (mark t f.reply f.reply.end_.0 other))
    by f (Works id e g own' at (Takes say a st no-out no-in)) tk pr = absurd (false≢true (sym (no-out x) ∙ named a.peer pr))
    by f (Works id e g own' at (Takes_over say a y st no-out is-in)) tk pr = absurd (false≢true (sym (no-out x) ∙ named a.peer pr))
    by f (Works id e g own' at (Refuses say q y en gr)) tk pr = lost q true _ _ pr gr (gone-by t f.reply id.0 other rt refl (inr (eqb-self id.0)))
    by f (Works id e g own' at (Dooms say a y b d st en gr aty sb sd)) tk pr = lost a.peer false _ _ pr gr (gone-by t f.reply x own ro refl (inl (ap (names Out x) (sym en) ∙ named a.peer pr)))
    by f (Works id e g own' at (Drops say a y st en gr)) tk pr = lost a.peer false _ _ pr gr (gone-by t f.reply x own ro refl (inr (ap (names Out x) (sym en) ∙ named a.peer pr)))
    by f d tk pr = absurd cc

-- ---- how a row stands whose end comes up

ready-facts : (side : Side) (p : Name) → (holds_peer (ready_stand side p).side true (ready_stand side p).named ≡ true) × ((ready_stand side p).doomed ≡ false)
ready-facts Dialler p = (refl, refl)
ready-facts Acceptor p = (refl, refl)

-- a row beside an end that is up is open
pub up-open : (r : UpRecord) (row : EndRow) → Fits (ends.Up r) row → (row.doomed ≡ None) × (row.closed ≡ None)
up-open r row fits = let g = open-row _ row fits in (none-of row.doomed (sym (ap (λ (s : Stand). s.doomed) g.1)), none-of row.closed g.0)

-- an end that holds p as dialled is not up
out-unrisen : (u : ℕ) (p : Name) (row : EndRow) → is_claim p Out (claim_before u row) ≡ true → past u row.rose ≡ false
out-unrisen u p row e = by row.side row.peer (entered_before u row) (left_before u row) (past u row.rose) e
  where
    by : (side : Side) (q : Option Name) (there left risen : Bool) → is_claim p Out (claim_when side q there left risen) ≡ true → risen ≡ false
    by side q there left false e = refl
    by side q false left true e = cc
    by side q true true true e = cc
    by side None true false true e = cc
    by side (Some m) true false true e = cc

module _ (laws : NodeLaws) (t : ℕ) (l : Life) (v : Event) (fresh : ℕ) (f : Effect) (live : runs l ≡ true) (ok : effect_of l.node v fresh ≡ Ok f) (h : IsLife t l) where
  deed : Deed l.node v f
  deed = deed_of laws l.node v fresh f ok

  abbrev me : ℕ
  me = f.reply.end_.0

  abbrev rows' : List EndRow
  rows' = rows_after t v f.reply l.rows

  beside-now : AreBeside (ends_after l.node.ends f) rows'
  beside-now = beside-deed laws l.node h.legal l.rows t (h.beside live) v f deed

  held-is : (p : Name) (k : Kind) (i : ℕ) → held_before l.rows t p k i ≡ names k i (entry_in l.node.ends p)
  held-is p k i = held-now t l.node.ends l.rows (h.beside live) h.below t (omega arith) p k i ∙ h.legal p k i

  row-of : (i : ℕ) (x : EndRow) (e : End) → slice_get l.rows i ≡ Some x → slice_get l.node.ends i ≡ Some e → Fits e x
  row-of i x e ax at = fits-at l.node.ends l.rows (h.beside live) i e x at ax

  own-row : (i : ℕ) (x : EndRow) (e : End) → slice_get l.rows i ≡ Some x → eqb me i ≡ true → slice_get l.node.ends me ≡ Some e → Fits e x
  own-row i x e ax b at = row-of i x e ax (ap (slice_get l.node.ends) (sym (eqb-true me i b)) ∙ at)

  -- WHAT THE EVENT WRITES IN A ROW
  mark-writes : (i : ℕ) (x : EndRow) → slice_get l.rows i ≡ Some x → Writes t x (mark t f.reply i x)
  mark-writes i x ax = record {
    names_now = eqb me i && takes_name f.reply.note;
    replies_now = eqb me i && says_reply f.reply.note;
    rises_now = eqb me i && rises f.reply.up;
    dooms_now = dooms f.reply.note i;
    shuts_now = shuts_end f.reply.closed i;
    side = refl;
    given = refl;
    named = refl;
    replied = refl;
    rose = refl;
    doomed = refl;
    closed = refl;
    peer = λ b. ap (λ k. cond k (peer_by f.reply.note x.peer) x.peer) b;
    at_name = λ b. (let q = and_parts _ _ b in let o = open-row _ x (own-row i x ends.Unnamed ax q.0 (taker l.node v f deed q.1)) in
        (ap (λ (s : Stand). s.side) (sym o.1), none-of x.named (ap (λ (s : Stand). s.named) (sym o.1)), none-of x.rose (ap (λ (s : Stand). s.rose) (sym o.1))));
    at_reply = λ b. (let q = and_parts _ _ b in let k = sayer l.node v f deed q.1 in let o = open-row _ x (own-row i x (ends.Attempt k.0) ax q.0 k.1) in let s = sym o.1 ∙ k.2 in
        (ap (λ (s : Stand). s.side) s, none-of x.doomed (ap (λ (s : Stand). s.doomed) s), none-of x.closed o.0, none-of x.rose (ap (λ (s : Stand). s.rose) s)));
    at_rise = λ b. (
        let q = and_parts _ _ b in
        let k = climber l.node v f deed q.1 in
        let o = open-row _ x (own-row i x (ends.Attempt k.was) ax q.0 k.at_) in
        let s = sym o.1 ∙ k.ready in
        let r = ready-facts k.side k.was.peer in
        let after = own-after laws l.node h.legal v fresh f ok in
        let u = up-open k.kept (mark t f.reply i x) (fits-at (ends_after l.node.ends f) rows' beside-now i (ends.Up k.kept) (mark t f.reply i x) (ap (slice_get (ends_after l.node.ends f)) (sym (eqb-true me i q.0)) ∙ after ∙ ap Some k.now) (row-then t v f.reply l.rows i x ax)) in
        (ap (λ (s : Stand). holds_peer s.side true s.named) s ∙ r.0, none-of x.doomed (ap (λ (s : Stand). s.doomed) s ∙ r.1), none-of x.closed o.0, u.0, u.1));
    at_doom = λ d. (let k = doomer l.node v f deed i d in let o = open-row _ x (row-of i x (ends.Attempt k.0) ax k.1) in none-of x.rose (ap (λ (s : Stand). s.rose) (sym o.1 ∙ k.2)));
  }

  event-grows : Grows t l.rows rows'
  event-grows = record { from = λ i y ay. from i y (came t v f.reply l.rows i y ay); kept = λ i x ax. (mark t f.reply i x, row-then t v f.reply l.rows i x ax) }
    where
      from : (i : ℕ) (y : EndRow) → Came t v f.reply l.rows i y → Origin t l.rows i y
      from i y (Old x ax e) = Was x ax (subst (Writes t x) (sym e) (mark-writes i x ax))
      from i y (Fresh side p c long g e) = New side p c (ap (slice_get l.rows) long ∙ slice_get_past l.rows (length l.rows) (omega arith)) (idle side p g) (e ∙ given-mark l.node f (gives l.node v f deed (given-is v side p c t g)) t i (new_row side p c t))
        where
          idle : (side : Side) (p : Option Name) → given_by t v ≡ Some (new_row side p c t) → (q : Name) → side ≡ Dialler → p ≡ Some q → (k : Kind) (j : ℕ) → held_before l.rows t q k j ≡ false
          idle side p g q sd pq k j = by v refl g
            where
              none : (k : Kind) → names k j None ≡ false
              none Out = refl
              none In = refl
              none Up = refl

              by : (u : Event) → v ≡ u → given_by t u ≡ Some (new_row side p c t) → held_before l.rows t q k j ≡ false
              by (event.Dial m o) is g =
                  let s : new_row Dialler (Some m) None t ≡ new_row side p c t = same_Some _ _ g in
                  let w : Some m ≡ Some q = ap (λ (r : EndRow). r.peer) s ∙ pq in
                  held-is q k j ∙ ap (names k j) (dial-idle l.node v f deed q o (is ∙ ap (λ r. event.Dial r o) (same_Some m q w))) ∙ none k
              by (event.Incoming link) is g = absurd (let s : new_row Acceptor None (conn_behind link) t ≡ new_row side p c t = same_Some _ _ g in let z : Acceptor ≡ Dialler = ap (λ (r : EndRow). r.side) s ∙ sd in cc)
              by u is g = absurd cc

  pub lives-life : IsLife (t + 1) (life_after t v f.reply (after l.node v f) l)
  lives-life = life-by t l (life_after t v f.reply (after l.node v f) l) h event-grows
      (let Q : Result Effect StepError → Type 0 = λ o. AreLegal (node_after l.node (step_result l.node v o)).ends in subst Q ok (laws.step_legal l.node v fresh h.legal)) beside-now

  -- ---- a name that is taken now

  module _ (i : ℕ) (p : Name) (k : NamedNow t l.rows rows' i p) where
    marked : k.after ≡ mark t f.reply i k.before
    marked = same_Some _ _ (sym k.is ∙ row-then t v f.reply l.rows i k.before k.was)

    taking : (eqb me i && takes_name f.reply.note) ≡ true
    taking = by (written (eqb me i && takes_name f.reply.note) t t k.before.named (ap (λ (r : EndRow). r.named) (sym marked) ∙ k.named))
      where
        by : (k.before.named ≡ Some t) ⊎ (((eqb me i && takes_name f.reply.note) ≡ true) × (k.before.named ≡ None) × (t ≡ t)) → (eqb me i && takes_name f.reply.note) ≡ true
        by (inl e) = absurd (let z : None ≡ Some t = sym k.free ∙ e in cc)
        by (inr q) = q.0

    takes : takes_name f.reply.note ≡ true
    takes = let q = and_parts _ _ taking in q.1

    name-is : peer_by f.reply.note k.before.peer ≡ Some p
    name-is = ap (λ b. cond b (peer_by f.reply.note k.before.peer) k.before.peer) (sym taking) ∙ ap (λ (r : EndRow). r.peer) (sym marked) ∙ k.peer

    event-ousts : (j : ℕ) (u z : EndRow) (n : ℕ) → slice_get l.rows j ≡ Some u → slice_get rows' j ≡ Some z → u.side ≡ Acceptor → u.peer ≡ Some p → u.named ≡ Some n → (past t u.rose ≡ true) ⊎ (left_before (t + 1) z ≡ true)
    event-ousts j u z n au az su pu nu = by (past t u.rose) (left_before t u) refl refl
      where
        is : z ≡ mark t f.reply j u
        is = same_Some _ _ (sym az ∙ row-then t v f.reply l.rows j u au)

        by : (a b : Bool) → past t u.rose ≡ a → left_before t u ≡ b → (past t u.rose ≡ true) ⊎ (left_before (t + 1) z ≡ true)
        by true b r lf = inl r
        by false true r lf = inr (ap (left_before (t + 1)) is ∙ left-stays t u (mark t f.reply j u) (mark-writes j u au) (t + 1) (left-later t (t + 1) u (omega arith) lf))
        by false false r lf =
            let b = h.below j u au in
            let claim : claim_before t u ≡ Some (record { peer = p; kind = In }) = (λ q. claim_when (su q) (pu q) (accepted-entered t n u su nu (below-of t n u.named b.named nu) q) (lf q) (r q)) in
            let held : held_before l.rows t p In j ≡ true = ap (λ o. is_claim p In (claim_in t o)) au ∙ ap (is_claim p In) claim ∙ laws.names.itself p in
            let shut = ousted l.node v f deed k.before.peer p j takes name-is (sym (held-is p In j) ∙ held) in
            inr (ap (left_before (t + 1)) is ∙ or_right _ _ (ap (λ c. past (t + 1) (once c t u.closed)) shut ∙ once-below t true u.closed b.closed ∙ once-some t u.closed))

    event-decides : (x : ℕ) (own new : EndRow) → slice_get l.rows x ≡ Some own → slice_get rows' x ≡ Some new → is_claim p Out (claim_before t own) ≡ true → IsGone (lesser l.node.setup.name p new k.after)
    unfolding mark-writes
    event-decides x own new ax nx out =
        let q = and_parts (eqb me i) (takes_name f.reply.note) taking in
        let w = mark-writes i k.before k.was in
        let other = w.at_name taking in
        let b = h.below x own ax in
        let g = decided l.node v f deed t x p own k.before takes name-is (sym (held-is p Out x) ∙ ap (λ o. is_claim p Out (claim_in t o)) ax ∙ out) (none-of own.rose (sym b.rose ∙ out-unrisen t p own out)) other.2 in
        let e : new ≡ mark t f.reply x own = same_Some _ _ (sym nx ∙ row-then t v f.reply l.rows x own ax) in
        let P : EndRow → EndRow → Type 0 = λ a c. IsGone (lesser l.node.setup.name p a c) in
        subst (λ c. P new c) (ap (λ m. mark t f.reply m k.before) (eqb-true me i q.0) ∙ sym marked) (subst (λ a. P a (mark t f.reply me k.before)) (sym e) g)

  pub lives-grown : Grown t l (life_after t v f.reply (after l.node v f) l)
  lives-grown = record { begun = refl; name = refl; rows = event-grows; over = λ n e. absurd (not-over l n live e); ousts = event-ousts; decides = event-decides }
