-- What is sent at the event's own end, and the frame that it takes, keep all connections wires.
use Rattle.dist_world_model.proofs.Words.{◌≡◌, ℕ, true, false, List, length, slice_get, Some, None, Option, option_map, sym, refl, ap, ◌∙◌, subst, w16}
use Rattle.dist_world_model.proofs.Words.{false≢true, first_body, Acceptor, Dialler, EndId, End, Event, body_taken, change_to, conns_after_saying, says, spoken_on}
use Rattle.dist_world_model.proofs.Words.{text_to, conn_behind, conn_of, is_none, is_outside, at_place, NodeLaws, EndRow, dooms, given_by, mark, new_row, row_after, shuts_end, Conn, row_at}
use Rattle.dist_world_model.proofs.Words.{row_of_life}
use Rattle.dist_world_model.proofs.{EndStates.Beside, EndStates.Fits, EventEnds.frame-end, EventEnds.gives, EventEnds.named-end, EventEnds.own-end, GrowingRows.spoken-none}
use Rattle.dist_world_model.proofs.{HappeningEffects.IsPlain, HappeningEffects.none-by, Lookups.place-twice, OwnWires.own-says, OwnWires.own-takes, Places.eqb-self, StepEffects.is_given, StepEffects.own_id}
use Rattle.dist_world_model.proofs.SilentWires.{Kept, Notifying, beside, deed, me, rows', silent}
use Rattle.dist_world_model.proofs.UnchangedRows.{get-row-old, row-new, same-length}
use Rattle.dist_core.specs.declared.event.Event.TheVariants as event

module _ (laws : NodeLaws) (notifying : Notifying) where
  open notifying use {w, lives, fit, wired, i, old, v, fresh, f, small, at, live, ok}

  -- ---- the event's own row

  pub record Found : Type 0 where
    pub x0 : EndRow
    pub e0 : End
    pub at-x : slice_get old.rows (me laws notifying) ≡ Some x0
    pub at-e : (let n = old.node in slice_get n.ends (me laws notifying)) ≡ Some e0
    pub fits : Fits e0 x0
    pub row-is : slice_get (rows' laws notifying) (me laws notifying) ≡ Some (row_after w.clock true (dooms f.reply.note (me laws notifying)) (shuts_end f.reply.closed (me laws notifying)) f.reply x0)

  pub found : is_given v ≡ false → Found
  found ng = let e = own-end old.node v f (deed laws notifying) ng in by e.0 e.1 (slice_get old.rows (me laws notifying)) refl (let P : Option End → Type 0 = λ o. Beside o (slice_get old.rows (me laws notifying)) in subst P e.1 ((beside laws notifying) (me laws notifying)))
    where
      by : (e : End) → (let n = old.node in slice_get n.ends (me laws notifying)) ≡ Some e → (o : Option EndRow) → slice_get old.rows (me laws notifying) ≡ o → Beside (Some e) o → Found
      by e ae None ax b = absurd b
      by e ae (Some x) ax b = record { x0 = x; e0 = e; at-x = ax; at-e = ae; fits = b; row-is = get-row-old w.clock v f.reply old.rows (me laws notifying) ng ∙ ap (option_map (mark w.clock f.reply (me laws notifying))) ax ∙ (λ n. Some (row_after w.clock (eqb-self (me laws notifying) n) (dooms f.reply.note (me laws notifying)) (shuts_end f.reply.closed (me laws notifying)) f.reply x)) }

  pub conn-not : (x : EndRow) → slice_get old.rows (me laws notifying) ≡ Some x → x.conn ≡ None → (c : ℕ) (y : EndRow) → slice_get old.rows (me laws notifying) ≡ Some y → y.conn ≡ Some c → is_given v ≡ true
  conn-not x ax none c y ay on = absurd (let z : Some x ≡ Some y = sym ax ∙ ay in let q : x ≡ y = cc in let u : None ≡ Some c = sym none ∙ ap (λ (r : EndRow). r.conn) q ∙ on in cc)

  -- ---- a row that is given out

  pub long : length old.rows ≡ length old.node.ends
  long = sym (same-length old.node.ends old.rows (beside laws notifying))

  pub new-row-at : (new : EndRow) → is_given v ≡ true → given_by w.clock v ≡ Some new → slice_get (rows' laws notifying) (me laws notifying) ≡ Some (mark w.clock f.reply (me laws notifying) new)
  new-row-at new g is =
      let h = gives old.node v f (deed laws notifying) g in
      let P : ℕ → Type 0 = λ k. slice_get (rows' laws notifying) k ≡ Some (mark w.clock f.reply k new) in
      subst P (long ∙ sym h.id) (row-new w.clock v f.reply old.rows new is)

  pub dial-conn : is_given v ≡ true → IsPlain v → conn_of (slice_get (rows' laws notifying) (me laws notifying)) ≡ None
  dial-conn g plain = by v refl
    where
      by : (u : Event) → v ≡ u → conn_of (slice_get (rows' laws notifying) (me laws notifying)) ≡ None
      by (event.Dial p o) is = ap conn_of (new-row-at (new_row Dialler (Some p) None w.clock) g (ap (given_by w.clock) is))
      by (event.Incoming link) is = absurd (subst IsPlain is plain)
      by u is = absurd (false≢true (ap is_given (sym is) ∙ g))

  plain-not : IsPlain v → (link : ℕ) → v ≡ event.Incoming link → conn_behind link ≡ None
  plain-not plain link is = absurd (subst IsPlain is plain)

  pub plain-notified : (ds : List Conn) → IsPlain v → ds ≡ w.conns → (Kept laws notifying) (conns_after_saying ds (slice_get (rows' laws notifying) (me laws notifying)) f.reply.say)
  plain-notified ds plain e = elim (is_given v) as (λ b. is_given v ≡ b → (Kept laws notifying) (conns_after_saying ds (slice_get (rows' laws notifying) (me laws notifying)) f.reply.say)) [
    | true ↦ λ g. subst (Kept laws notifying) (sym (spoken-none ds (slice_get (rows' laws notifying) (me laws notifying)) f.reply.say (dial-conn g plain) ∙ e)) ((silent laws notifying) (plain-not plain) (λ c x a b. g))
    | false ↦ λ ng. own ng (found ng)
  ] refl
    where
      own : is_given v ≡ false → Found → (Kept laws notifying) (conns_after_saying ds (slice_get (rows' laws notifying) (me laws notifying)) f.reply.say)
      own ng q = by q.x0.conn refl
        where
          by : (o : Option ℕ) → q.x0.conn ≡ o → (Kept laws notifying) (conns_after_saying ds (slice_get (rows' laws notifying) (me laws notifying)) f.reply.say)
          by None none = subst (Kept laws notifying) (sym (spoken-none ds (slice_get (rows' laws notifying) (me laws notifying)) f.reply.say (ap conn_of q.row-is ∙ none) ∙ e)) ((silent laws notifying) (plain-not plain) (conn-not q.x0 q.at-x none))
          by (Some c) on =
              let k = wired.0.only i (me laws notifying) c q.x0 (ap (λ o. row_of_life o (me laws notifying)) at ∙ q.at-x) on in
              subst (Kept laws notifying) (sym ((λ n. conns_after_saying (e n) (q.row-is n) f.reply.say) ∙ ap (λ o. spoken_on w.conns o q.x0.side f.reply.say) on))
              ((own-says laws notifying) q.x0 q.e0 q.at-x q.at-e q.fits q.row-is c on k.conn k.there ng plain)

  -- ---- something from outside

  strange-not : is_outside w i v ≡ true → (link : ℕ) → v ≡ event.Incoming link → conn_behind link ≡ None
  strange-not strange link is = none-by _ (ap (is_outside w i) (sym is) ∙ strange)

  pub strange-free : is_outside w i v ≡ true → is_given v ≡ false → conn_of (slice_get old.rows (me laws notifying)) ≡ None
  strange-free strange ng = by v refl
    where
      own : (id : EndId) → f.reply.end_ ≡ id → is_none (conn_of (row_at w i id.0)) ≡ true → conn_of (slice_get old.rows (me laws notifying)) ≡ None
      own id e n = ap (λ (y : EndId). conn_of (slice_get old.rows y.0)) e ∙ ap (λ o. conn_of (row_of_life o id.0)) (sym at) ∙ none-by _ n

      by : (u : Event) → v ≡ u → conn_of (slice_get old.rows (me laws notifying)) ≡ None
      by (event.Opened id link) is = own id (named-end old.node v f id (deed laws notifying) (ap own_id is)) (ap (is_outside w i) (sym is) ∙ strange)
      by (event.Frame id body) is = own id (named-end old.node v f id (deed laws notifying) (ap own_id is)) (ap (is_outside w i) (sym is) ∙ strange)
      by (event.Incoming link) is = absurd (false≢true (sym ng ∙ ap is_given is))
      by u is = absurd (false≢true (ap (is_outside w i) (sym is) ∙ strange))

  pub strange-given : is_outside w i v ≡ true → is_given v ≡ true → conn_of (slice_get (rows' laws notifying) (me laws notifying)) ≡ None
  strange-given strange g = by v refl
    where
      by : (u : Event) → v ≡ u → conn_of (slice_get (rows' laws notifying) (me laws notifying)) ≡ None
      by (event.Incoming link) is = ap conn_of (new-row-at (new_row Acceptor None (conn_behind link) w.clock) g (ap (given_by w.clock) is)) ∙ strange-not strange link is
      by (event.Dial p o) is = absurd (false≢true (ap (is_outside w i) (sym is) ∙ strange))
      by u is = absurd (false≢true (ap is_given (sym is) ∙ g))

  pub strange-notified : (ds : List Conn) → is_outside w i v ≡ true → ds ≡ w.conns → (Kept laws notifying) (conns_after_saying ds (slice_get (rows' laws notifying) (me laws notifying)) f.reply.say)
  strange-notified ds strange e = elim (is_given v) as (λ b. is_given v ≡ b → (Kept laws notifying) (conns_after_saying ds (slice_get (rows' laws notifying) (me laws notifying)) f.reply.say)) [
    | true ↦ λ g. subst (Kept laws notifying) (sym (spoken-none ds (slice_get (rows' laws notifying) (me laws notifying)) f.reply.say (strange-given strange g) ∙ e)) ((silent laws notifying) (strange-not strange) (λ c x a b. g))
    | false ↦ λ ng. own (found ng) (strange-free strange ng)
  ] refl
    where
      own : Found → conn_of (slice_get old.rows (me laws notifying)) ≡ None → (Kept laws notifying) (conns_after_saying ds (slice_get (rows' laws notifying) (me laws notifying)) f.reply.say)
      own q none =
          let free : q.x0.conn ≡ None = ap conn_of (sym q.at-x) ∙ none in
          subst (Kept laws notifying) (sym (spoken-none ds (slice_get (rows' laws notifying) (me laws notifying)) f.reply.say (ap conn_of q.row-is ∙ free) ∙ e)) ((silent laws notifying) (strange-not strange) (conn-not q.x0 q.at-x free))

  pub take-notified : (ds : List Conn) (id : EndId) (row : EndRow) (c : ℕ) (k : Conn) (body : List ℕ) → v ≡ event.Frame id body → row_at w i id.0 ≡ Some row → row.conn ≡ Some c → slice_get w.conns c ≡ Some k → (let u = text_to row.side k in first_body w16 u.come) ≡ Some body → ds ≡ at_place c (change_to row.side body_taken) w.conns
      → (Kept laws notifying) (conns_after_saying ds (slice_get (rows' laws notifying) (me laws notifying)) f.reply.say)
  take-notified ds id row c k body is ar on ak first e =
      let ng : is_given v ≡ false = ap is_given is in
      let q = found ng in
      let own : (me laws notifying) ≡ id.0 = ap (λ (y : EndId). y.0) (frame-end old.node v f id body (deed laws notifying) is) in
      let z : Some q.x0 ≡ Some row = sym q.at-x ∙ ap (slice_get old.rows) own ∙ sym (ap (λ o. row_of_life o id.0) at) ∙ ar in
      let same : row ≡ q.x0 = cc in
      let on0 : q.x0.conn ≡ Some c = ap (λ (r : EndRow). r.conn) (sym same) ∙ on in
      let first0 : (let s = let x = q.x0 in x.side in let u = text_to s k in first_body w16 u.come) ≡ Some body = ap (λ (r : EndRow). let u = text_to r.side k in first_body w16 u.come) (sym same) ∙ first in
      let ds0 : ds ≡ at_place c (change_to q.x0.side body_taken) w.conns = e ∙ ap (λ (r : EndRow). at_place c (change_to r.side body_taken) w.conns) same in
      subst (Kept laws notifying) (sym ((λ n. conns_after_saying (ds0 n) (q.row-is n) f.reply.say) ∙ ap (λ o. spoken_on (at_place c (change_to q.x0.side body_taken) w.conns) o q.x0.side f.reply.say) on0
      ∙ place-twice c (change_to q.x0.side body_taken) (says q.x0.side f.reply.say) w.conns))
      ((own-takes laws notifying) q.x0 q.e0 q.at-x q.at-e q.fits q.row-is c on0 k ak ng id body is first0)
