-- All connections are wires still, where a dialled end gets its connection.
use Rattle.dist_world_model.proofs.Words.{◌≡◌, ℕ, true, false, cond, ◌⊎◌, List, [], ◌∷◌, ◌++◌, length, is_some, slice_get, Some, None, Option, option_map, sym}
use Rattle.dist_world_model.proofs.Words.{refl, ap, ◌∙◌, subst, inl, inr, arith, ne_eqb, false≢true, slice_get_within, Side, Acceptor, Dialler, is_dialing}
use Rattle.dist_world_model.proofs.Words.{waits_in, End, Phase, conn_of, new_conn, reached_life, reached_row, at_place, EndRow, Conn, Life, end_of_life}
use Rattle.dist_world_model.proofs.Words.{row_of_life, ltb, most_connections}
use Rattle.dist_world_model.proofs.AllWires.{AreWired, Loc, WireAt, alike-refl, ends-refl, hush-refl, same-conn, voice-refl, wire-alike}
use Rattle.dist_world_model.proofs.ConnectionRows.{ConnOf, Linked, NewConn, RowOf, Stays, VoiceStays, WasConn, linked-keeps}
use Rattle.dist_world_model.proofs.{EndStates.AreBeside, EndStates.Beside, EndStates.Stand, EndStates.open-row, EndStates.stand_in, EventEnds.none-of}
use Rattle.dist_world_model.proofs.Lookups.{changed-at, decide, end_in, placed, row_in, unplaced, voice_in, voice_of}
use Rattle.dist_world_model.proofs.{Places.eqb-self, Places.get-more, SentFrames.nothing-said}
use Rattle.dist_world_model.proofs.Wires.{Hushed, NotedAt, NotedIn, Quiet, Voice, marks_of, quiet-refl, voice}
use Rattle.dist_world_model.proofs.WithoutEvent.{get-reached, reach, reach-any}
use Rattle.dist_core_ends.specs.declared.known.End.TheVariants as ends
use Rattle.dist_core_ends.specs.declared.phase.Phase.TheVariants as phase

-- ---- a dialled end gets a connection

-- an end that waits for its connection has sent no reply and is not up
dialing-noted : (own other : Voice) (o : Option End) → is_dialing o ≡ true → NotedAt own other o
dialing-noted own other (Some (ends.Attempt a)) h = by a.phase h
  where
    by : (q : Phase) → waits_in q ≡ true → NotedIn own other a q
    by phase.Dialing e = tt
    by phase.DoomedDialing e = tt
    by q e = absurd (false≢true e)
dialing-noted own other o h = absurd (false≢true h)

dialing-row : (o : Option End) (q : Option EndRow) → is_dialing o ≡ true → Beside o q → (x : EndRow) × (q ≡ Some x) × (x.side ≡ Dialler) × (x.replied ≡ None) × (x.rose ≡ None)
dialing-row (Some (ends.Attempt a)) None h b = absurd b
dialing-row (Some (ends.Attempt a)) (Some row) h b =
    let g = open-row (stand_in a.peer a.phase) row b in
    let p = by a.phase h in
    let s = sym g.1 in
    (row, refl, ap (λ (s : Stand). s.side) s ∙ p.0, none-of row.replied (ap (λ (s : Stand). s.replied) s ∙ p.1), none-of row.rose (ap (λ (s : Stand). s.rose) s ∙ p.2))
  where
    by : (q : Phase) → waits_in q ≡ true → ((stand_in a.peer q).side ≡ Dialler) × ((stand_in a.peer q).replied ≡ false) × ((stand_in a.peer q).rose ≡ false)
    by phase.Dialing e = (refl, refl, refl)
    by phase.DoomedDialing e = (refl, refl, refl)
    by q e = absurd (false≢true e)
dialing-row o q h b = absurd (false≢true h)

reach-quiet : (id c p : ℕ) (o : Option EndRow) → Quiet o (option_map (reach id c p) o)
reach-quiet id c p None = quiet-refl None
reach-quiet id c p (Some row) = reach-any (λ r. Quiet (Some row) (Some r)) row (quiet-refl (Some row)) (λ c. record { marks = refl; peer = λ s h. refl }) id c p

module _ (i id j : ℕ) (ls : List Life) (cs : List Conn) (old away : Life) (at : slice_get ls i ≡ Some old) (at-away : slice_get ls j ≡ Some away) (beside : AreBeside old.node.ends old.rows) (dialing : is_dialing (end_in ls i id) ≡ true) (free : conn_of (row_in ls i id) ≡ None) (few : ltb (length cs) most_connections ≡ true) where
  abbrev pub c : ℕ
  c = length cs

  abbrev pub ls' : List Life
  ls' = at_place i (reached_life id c) ls

  abbrev pub cs' : List Conn
  cs' = cs ++ new_conn i id j ∷ []

  found : (x : EndRow) × (slice_get old.rows id ≡ Some x) × (x.side ≡ Dialler) × (x.replied ≡ None) × (x.rose ≡ None)
  found = dialing-row _ _ (ap (λ o. is_dialing (end_of_life o id)) (sym at) ∙ dialing) (beside id)

  row-now : (p : ℕ) → row_in ls i p ≡ slice_get old.rows p
  row-now p = ap (λ o. row_of_life o p) at

  reach-voices : (k : ℕ) → VoiceStays (voice_in ls k) (voice_in ls' k)
  reach-voices k = changed-at voice_of VoiceStays voice-refl i (reached_life id c) ls old at k (λ e s h. h)

  get-new : (d : ℕ) (k : Conn) → slice_get cs d ≡ Some k → slice_get cs' d ≡ Some k
  get-new d k h = get-more cs (new_conn i id j) d ∙ ap (λ b. cond b (Some (new_conn i id j)) (slice_get cs d)) (ne_eqb c d (λ e. let w = slice_get_within cs d k h in absurd (omega (arith, w, e)))) ∙ h

  get-last : slice_get cs' c ≡ Some (new_conn i id j)
  get-last = get-more cs (new_conn i id j) c ∙ ap (λ b. cond b (Some (new_conn i id j)) (slice_get cs c)) (eqb-self c)

  split : (P : Type 0) (d : ℕ) (h : Conn) → slice_get cs' d ≡ Some h → (c ≡ d → new_conn i id j ≡ h → P) → (slice_get cs d ≡ Some h → P) → P
  split P d h e new same = decide P c d
      (λ q. new q (let z : Some (new_conn i id j) ≡ Some h = sym get-last ∙ ap (slice_get cs') q ∙ e in cc))
      (λ n. same (ap (λ b. cond b (Some (new_conn i id j)) (slice_get cs d)) (sym (ne_eqb c d n)) ∙ sym (get-more cs (new_conn i id j) d) ∙ e))

  reach-stays : (p : ℕ) → Stays (slice_get old.rows p) (slice_get (at_place id (reached_row c) old.rows) p)
  reach-stays p d x e h = decide ((y : EndRow) × (slice_get (at_place id (reached_row c) old.rows) p ≡ Some y) × (y.side ≡ x.side) × (y.conn ≡ Some d)) id p
      (λ q. absurd (let z : None ≡ Some d = sym free ∙ ap conn_of (row-now id ∙ ap (slice_get old.rows) q ∙ e) ∙ h in cc))
      (λ n. (x, unplaced id (reached_row c) old.rows p n ∙ e, refl, h))

  new-row : slice_get (at_place id (reached_row c) old.rows) id ≡ Some (reached_row c found.0)
  new-row = placed id (reached_row c) old.rows found.0 found.1

  new-there : row_in ls' i id ≡ Some (reached_row c found.0)
  new-there = ap (λ o. row_of_life o id) (placed i (reached_life id c) ls old at) ∙ new-row

  new-of : RowOf ls' Dialler i id c
  new-of = record { row = reached_row c found.0; there = new-there; side_is = found.2; conn = refl }

  reached-linked : Linked ls cs → Linked ls' cs'
  reached-linked l = linked-keeps ls ls' cs cs'
      (λ k p. changed-at (λ o. row_of_life o p) Stays (λ o c x e h. (x, e, refl, h)) i (reached_life id c) ls old at k (λ e. reach-stays p))
      reach-voices
      (λ d k h. record { new = k; there = get-new d k h; same = ends-refl k; accepted = λ y e. e })
      (λ d h e. split (WasConn cs d h ⊎ NewConn ls' d h) d h e
      (λ q z. inr (let P : ℕ → Conn → Type 0 = λ d h. NewConn ls' d h in subst (P d) z (subst (λ d. P d (new_conn i id j)) q (record { dialled = new-of; target = (voice away.node.setup, reach-voices j (voice away.node.setup) (ap voice_of at-away)); free = refl; behind = ap (λ b. cond b (Some c) None) few }))))
      (λ s. inl (record { old = h; there = s; same = ends-refl h })))
      (λ d y k h ak ah e. split ((k.accepted ≡ Some y) ⊎ RowOf ls' Acceptor h.target y d) d h ah
      (λ q z. absurd (let w : None ≡ Some y = ap (λ (k : Conn). k.accepted) z ∙ e in cc))
      (λ s. inl (let z : k ≡ h = same-conn cs d k h ak s in ap (λ (k : Conn). k.accepted) z ∙ e)))
      back l
    where
      back : (k p d : ℕ) (x : EndRow) → row_in ls' k p ≡ Some x → x.conn ≡ Some d → RowOf ls x.side k p d ⊎ ConnOf cs' x.side k p d
      back k p d x e h = decide (RowOf ls x.side k p d ⊎ ConnOf cs' x.side k p d) i k
          (λ q. decide (RowOf ls x.side k p d ⊎ ConnOf cs' x.side k p d) id p
          (λ r. inr (
          let z : Some (reached_row c found.0) ≡ Some x = sym new-there ∙ (λ n. row_in ls' (q n) (r n)) ∙ e in
          let w : reached_row c found.0 ≡ x = cc in
          let cd : Some c ≡ Some d = ap (λ (r : EndRow). r.conn) w ∙ h in
          let cd' : c ≡ d = cc in
          let P : Side → ℕ → ℕ → ℕ → Type 0 = λ s k p d. ConnOf cs' s k p d in
          let base : ConnOf cs' Dialler i id c = record { conn = new_conn i id j; there = get-last; is_end = (refl, refl) } in
          let side : Dialler ≡ x.side = sym found.2 ∙ ap (λ (r : EndRow). r.side) w in
          subst (λ s. P s k p d) side (subst (λ k. P Dialler k p d) q (subst (λ p. P Dialler i p d) r (subst (P Dialler i id) cd' base)))))
          (λ n. inl (
          let e2 : slice_get old.rows p ≡ Some x = sym (unplaced id (reached_row c) old.rows p n) ∙ sym (ap (λ o. row_of_life o p) (placed i (reached_life id c) ls old at)) ∙ ap (λ k. row_in ls' k p) q ∙ e in
          record { row = x; there = ap (λ k. row_in ls k p) (sym q) ∙ row-now p ∙ e2; side_is = refl; conn = h })))
          (λ n. inl (record { row = x; there = ap (λ o. row_of_life o p) (sym (unplaced i (reached_life id c) ls k n)) ∙ e; side_is = refl; conn = h }))

  loc : (k p : ℕ) → Loc ls ls' k p
  loc k p = (
    changed-at (λ o. row_of_life o p) Quiet quiet-refl i (reached_life id c) ls old at k (λ e. subst (Quiet (slice_get old.rows p)) (sym (get-reached id c old.rows p)) (reach-quiet id c p (slice_get old.rows p))),
    changed-at (λ o. end_of_life o p) Hushed hush-refl i (reached_life id c) ls old at k (λ e a b h. h),
  )

  fresh : WireAt ls' (new_conn i id j)
  fresh = (
    (λ n m hn hm. record {
      said = nothing-said Dialler _;
      follows = (λ k q. absurd (let z : None ≡ Some k = sym g.3 ∙ (ap (λ z. z.replied) (sym (ap marks_of new-there)) ∙ q) in cc), λ k q. absurd (let z : None ≡ Some k = sym g.4 ∙ (ap (λ z. z.rose) (sym (ap marks_of new-there)) ∙ q) in cc));
      peer = λ q. absurd (false≢true (ap is_some (sym g.3) ∙ ap (λ z. is_some z.replied) (sym (ap marks_of new-there)) ∙ q));
      noted = (let l = loc i id in l.1 n m (dialing-noted n m (end_in ls i id) dialing));
    }),
    (λ n m hn hm. record { said = nothing-said Acceptor _; follows = λ k q. absurd cc; peer = λ q. absurd (false≢true q); noted = tt }),
  )
    where
      g : (x : EndRow) × (slice_get old.rows id ≡ Some x) × (x.side ≡ Dialler) × (x.replied ≡ None) × (x.rose ≡ None)
      g = found

  pub reached-wired : AreWired ls cs → AreWired ls' cs'
  reached-wired w = (
    reached-linked w.0,
    λ d h e. split (WireAt ls' h) d h e
        (λ q z. subst (WireAt ls') z fresh)
        (λ s. wire-alike ls ls' cs reach-voices w.0 w.1 d h h s (alike-refl ls h) (loc h.life h.dialler) (λ y a. loc h.target y)),
  )
