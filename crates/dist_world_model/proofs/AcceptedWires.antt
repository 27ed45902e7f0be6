-- A connection that is accepted is a wire; and so all connections are wires still, whatever event comes.
use Rattle.dist_world_model.proofs.Words.{◌≡◌, ℕ, true, ◌⊎◌, List, ◌++◌, length, slice_get, Some, None, sym, refl, ap, ◌∙◌, subst, inl, inr, append-nil, arith}
use Rattle.dist_world_model.proofs.Words.{slice_get_past, Side, Acceptor, Dialler, conns_after_saying, says, text_to, accepted_by, next_end, at_place, NodeLaws}
use Rattle.dist_world_model.proofs.Words.{EndRow, given_by, mark, new_row, Conn, Life, end_of_life, row_of_life, Happening}
use Rattle.dist_world_model.proofs.{AllWires.Alike, AllWires.WireAt, AllWires.alike-refl, AllWires.ends-refl, AllWires.same-conn, EventEnds.gives}
use Rattle.dist_world_model.proofs.ConnectionRows.{ConnOf, RowOf, StaysConn, WasConn, linked-keeps}
use Rattle.dist_world_model.proofs.{HappeningEffects.Accepts, HappeningEffects.Plain, HappeningEffects.Ready, HappeningEffects.Strange, HappeningEffects.Takes, StepEffects.is_given}
use Rattle.dist_world_model.proofs.Lookups.{at-other, decide, end_in, place-twice, placed, row_in, unplaced}
use Rattle.dist_world_model.proofs.{SendingWires.long, SendingWires.new-row-at, SendingWires.plain-notified, SendingWires.strange-notified, SendingWires.take-notified, WholeFrames.on_way}
use Rattle.dist_world_model.proofs.SilentWires.{Kept, Notifying, all-stay, deed, get-now, ls', me, notify-voices, now, other-wire, row-was, rows'}
use Rattle.dist_core.specs.declared.event.Event.TheVariants as event

module _ (laws : NodeLaws) (notifying : Notifying) where
  open notifying use {w, lives, fit, wired, i, old, v, fresh, f, small, at, live, ok}

  -- ---- a connection is accepted

  module _ (c : ℕ) (k : Conn) (is : v ≡ event.Incoming c) (ak : slice_get w.conns c ≡ Some k) (free : k.accepted ≡ None) (target : k.target ≡ i) where
    given : is_given v ≡ true
    given = ap is_given is

    abbrev next : ℕ
    next = next_end (slice_get w.lives i)

    abbrev take_in : Conn → Conn
    take_in h = says Acceptor f.reply.say (accepted_by next h)

    abbrev new : EndRow
    new = new_row Acceptor None (Some c) w.clock

    next-is : next ≡ length old.rows
    next-is = ap next_end at ∙ sym (long laws notifying)

    me-is : (me laws notifying) ≡ length old.rows
    me-is = (let h = gives old.node v f (deed laws notifying) given in h.id) ∙ sym (long laws notifying)

    row-at : slice_get (rows' laws notifying) (me laws notifying) ≡ Some (mark w.clock f.reply (me laws notifying) new)
    row-at = (new-row-at laws notifying) new given (ap (given_by w.clock) is ∙ ap (λ o. Some (new_row Acceptor None o w.clock)) (wired.0.behind c k ak))

    row-there : (j p : ℕ) → j ≡ i → p ≡ (me laws notifying) → row_in (ls' laws notifying) j p ≡ Some (mark w.clock f.reply (me laws notifying) new)
    row-there j p e q = (λ n. row_in (ls' laws notifying) (e n) (q n)) ∙ ap (λ o. row_of_life o (me laws notifying)) (get-now laws notifying) ∙ row-at

    abbrev cs' : List Conn
    cs' = at_place c take_in w.conns

    stays : (d : ℕ) (h : Conn) → slice_get w.conns d ≡ Some h → StaysConn cs' d h
    stays d h ah = decide (StaysConn cs' d h) c d
        (λ e. let z : k ≡ h = same-conn w.conns c k h ak (ap (slice_get w.conns) e ∙ ah) in record {
          new = take_in h;
          there = ap (slice_get cs') (sym e) ∙ placed c take_in w.conns h (ap (slice_get w.conns) e ∙ ah);
          same = record { life = refl; dialler = refl; target = refl };
          accepted = λ y q. absurd (let u : None ≡ Some y = sym free ∙ ap (λ (k : Conn). k.accepted) z ∙ q in cc);
        })
        (λ n. record { new = h; there = unplaced c take_in w.conns d n ∙ ah; same = ends-refl h; accepted = λ y q. q })

    were : (d : ℕ) (h : Conn) → slice_get cs' d ≡ Some h → WasConn w.conns d h
    were = at-other (λ d h. WasConn w.conns d h) c take_in w.conns
        (λ h ah. record { old = h; there = ah; same = record { life = refl; dialler = refl; target = refl } })
        (λ d h n ah. record { old = h; there = ah; same = ends-refl h })

    accs : (d y : ℕ) (h u : Conn) → slice_get w.conns d ≡ Some h → slice_get cs' d ≡ Some u → u.accepted ≡ Some y → (h.accepted ≡ Some y) ⊎ RowOf (ls' laws notifying) Acceptor u.target y d
    accs d y h u ah au e = decide ((h.accepted ≡ Some y) ⊎ RowOf (ls' laws notifying) Acceptor u.target y d) c d
        (λ q.
        let z : k ≡ h = same-conn w.conns c k h ak (ap (slice_get w.conns) q ∙ ah) in
        let p : Some (take_in k) ≡ Some u = sym (placed c take_in w.conns k ak) ∙ ap (slice_get cs') q ∙ au in
        let r : take_in k ≡ u = cc in
        let n : Some next ≡ Some y = ap (λ (k : Conn). k.accepted) r ∙ e in
        let ny : next ≡ y = cc in
        inr (record { row = mark w.clock f.reply (me laws notifying) new; there = row-there u.target y (ap (λ (k : Conn). k.target) (sym r) ∙ target) (sym ny ∙ next-is ∙ sym me-is); side_is = refl; conn = ap Some q }))
        (λ n. inl (let p : Some h ≡ Some u = sym ah ∙ sym (unplaced c take_in w.conns d n) ∙ au in let r : h ≡ u = cc in ap (λ (k : Conn). k.accepted) r ∙ e))

    backs : (j p d : ℕ) (x : EndRow) → row_in (ls' laws notifying) j p ≡ Some x → x.conn ≡ Some d → RowOf w.lives x.side j p d ⊎ ConnOf cs' x.side j p d
    backs j p d x e on = decide (RowOf w.lives x.side j p d ⊎ ConnOf cs' x.side j p d) i j
        (λ q. decide (RowOf w.lives x.side j p d ⊎ ConnOf cs' x.side j p d) (length old.rows) p
        (λ r. inr (
        let z : Some (mark w.clock f.reply (me laws notifying) new) ≡ Some x = sym (row-there j p (sym q) (sym r ∙ sym me-is)) ∙ e in
        let s : mark w.clock f.reply (me laws notifying) new ≡ x = cc in
        let cd : Some c ≡ Some d = ap (λ (r : EndRow). r.conn) s ∙ on in
        let cd' : c ≡ d = cc in
        let side : Acceptor ≡ x.side = ap (λ (r : EndRow). r.side) s in
        let base : ConnOf cs' Acceptor j p d = record { conn = take_in k; there = ap (slice_get cs') (sym cd') ∙ placed c take_in w.conns k ak; is_end = (sym q ∙ sym target, ap Some (next-is ∙ r)) } in
        subst (λ s. ConnOf cs' s j p d) side base))
        (λ n. inl (
        let e2 : slice_get (rows' laws notifying) p ≡ Some x = sym (ap (λ o. row_of_life o p) (get-now laws notifying)) ∙ ap (λ k. row_in (ls' laws notifying) k p) q ∙ e in
        let g = row-was laws notifying p (λ long. absurd (n long)) d x e2 on in
        record { row = g.0; there = ap (λ k. row_in w.lives k p) (sym q) ∙ ap (λ o. row_of_life o p) at ∙ g.1; side_is = g.2; conn = g.3 })))
        (λ n. inl (record { row = x; there = ap (λ o. row_of_life o p) (sym (unplaced i (λ (l : Life). (now laws notifying)) w.lives j n)) ∙ e; side_is = refl; conn = on }))

    no-row : row_in w.lives k.target next ≡ None
    no-row = (λ n. row_in w.lives (target n) (next-is n)) ∙ ap (λ o. row_of_life o (length old.rows)) at ∙ slice_get_past old.rows (length old.rows) (omega arith)

    no-end : end_in w.lives k.target next ≡ None
    no-end = (λ n. end_in w.lives (target n) ((next-is ∙ (long laws notifying)) n)) ∙ ap (λ o. end_of_life o (length old.node.ends)) at ∙ slice_get_past old.node.ends (length old.node.ends) (omega arith)

    alike : Alike w.lives k (take_in k)
    alike = record {
      same = record { life = refl; dialler = refl; target = refl };
      texts = texts;
      accepted = inr (free, next, refl, no-row, no-end);
    }
      where
        texts : (side : Side) → on_way (text_to side (take_in k)) ≡ on_way (text_to side k)
        texts Acceptor = refl
        texts Dialler = (let h = gives old.node v f (deed laws notifying) given in let b = k.back in ap (λ s. b.come ++ (b.said ++ s)) h.say ∙ ap (λ s. b.come ++ s) (append-nil b.said))

    accept-kept : (Kept laws notifying) cs'
    accept-kept = (
      linked-keeps w.lives (ls' laws notifying) w.conns cs' (all-stay laws notifying) (notify-voices laws notifying) stays (λ d h a. inl (were d h a)) accs backs wired.0,
      at-other (λ d h. WireAt (ls' laws notifying) h) c take_in w.conns
          (λ h ah. let z : k ≡ h = same-conn w.conns c k h ak ah in let P : Conn → Type 0 = λ h. WireAt (ls' laws notifying) (take_in h) in subst P z ((other-wire laws notifying) c k (take_in k) ak alike (λ y e. inr given) (λ x a b. given)))
          (λ d h n ah. (other-wire laws notifying) d h h ah (alike-refl w.lives h) (λ y e. inl e) (λ x a b. given)),
    )

    accept-notified : (ds : List Conn) → ds ≡ at_place c (accepted_by next) w.conns → (Kept laws notifying) (conns_after_saying ds (slice_get (rows' laws notifying) (me laws notifying)) f.reply.say)
    accept-notified ds e = subst (Kept laws notifying) (sym ((λ n. conns_after_saying (e n) (row-at n) f.reply.say) ∙ place-twice c (accepted_by next) (says Acceptor f.reply.say) w.conns)) accept-kept

  -- ALL CONNECTIONS ARE WIRES STILL
  pub notified-kept : {h : Happening} (ds : List Conn) → Ready h w i v fresh ds → (Kept laws notifying) (conns_after_saying ds (slice_get (rows' laws notifying) (me laws notifying)) f.reply.say)
  notified-kept ds (Plain plain e) = (plain-notified laws notifying) ds plain e
  notified-kept ds (Accepts c k is ak free target e) = accept-notified c k is ak free target ds e
  notified-kept ds (Strange a is runs strange e) = (strange-notified laws notifying) ds strange e
  notified-kept ds (Takes id row c k body is ar on ak first e) = (take-notified laws notifying) ds id row c k body is ar on ak first e
