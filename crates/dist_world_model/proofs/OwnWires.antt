-- The connection of the event's own end is a wire still.
use Rattle.dist_world_model.proofs.Words.{◌≡◌, ℕ, Bool, true, false, not, List, slice_get, Some, None, Option, sym, refl, ap, ◌∙◌, subst, inl, w16, both_ways}
use Rattle.dist_world_model.proofs.Words.{same_Some, first_body, Message, Side, Acceptor, Dialler, EndId, End, Setup, Event, body_taken, change_to, more_said}
use Rattle.dist_world_model.proofs.Words.{says, text_to, at_place, NodeLaws, EndRow, dooms, once, past, row_after, shuts_end, Conn, Text, end_of_life}
use Rattle.dist_world_model.proofs.Words.{row_of_life}
use Rattle.dist_world_model.proofs.AllWires.{EndAt, Loc, WireAt, alike-refl, conns-at, linked-same, same-conn, voice-was}
use Rattle.dist_world_model.proofs.ConnectionRows.{IsEndOf, RowOf, SameEnds, end_of, life_of, row_of}
use Rattle.dist_world_model.proofs.{EndStates.Fits, GrowingRows.may-more, GrowingRows.once-keeps, HappeningEffects.IsPlain, OtherRows.own-after}
use Rattle.dist_world_model.proofs.Lookups.{at-other, end_in, far, row_in, voice-there, voice_in, voice_of}
use Rattle.dist_world_model.proofs.{OwnSide.away, OwnSide.did, RowMarks.once-past, StepEffects.is_given}
use Rattle.dist_world_model.proofs.SilentWires.{Kept, Notifying, all-stay, all-were, get-now, life, loc, ls', me, notify-voices, other-wire, own-row}
use Rattle.dist_world_model.proofs.SilentWires.{past-marks, rows', the-row}
use Rattle.dist_world_model.proofs.WholeFrames.{Whole, on_way, way-said, way-taken, whole-map}
use Rattle.dist_world_model.proofs.Wires.{Follows, Hushed, IsEnd, Marks, May, Quiet, Said, Voice, end-quiet, marks_of, quiet-refl, said-map, voice}
use Rattle.dist_core.specs.declared.event.Event.TheVariants as event

follows-later : (side : Side) (x y z : Marks) (a b c : Bool) (t : ℕ) → z.named ≡ once a t y.named → z.replied ≡ once b t y.replied → z.rose ≡ once c t y.rose → Follows side x y → Follows side x z
follows-later Dialler x y z a b c t na re ro f = (λ k h. ap (past k) na ∙ once-past a t k y.named (f.0 k h), λ k h. ap (past k) ro ∙ once-past c t k y.rose (f.1 k h))
follows-later Acceptor x y z a b c t na re ro f = λ k h. ap (past k) re ∙ once-past b t k y.replied (f k h)

module _ (laws : NodeLaws) (notifying : Notifying) where
  open notifying use {w, lives, fit, wired, i, old, v, fresh, f, small, at, live, ok}

  -- a text of which the event's body was taken, where it has one
  abbrev pub Taken_of : Text → Text → Type 1
  Taken_of x y = (P : List ℕ → Type 0) → Whole P (on_way x) → Whole P (on_way y) × ((id : EndId) (body : List ℕ) → v ≡ event.Frame id body → P body)

  module _ (x0 : EndRow) (e0 : End) (at-x : slice_get old.rows (me laws notifying) ≡ Some x0) (at-e : slice_get old.node.ends (me laws notifying) ≡ Some e0) (fits : Fits e0 x0)
      (row-is : slice_get (rows' laws notifying) (me laws notifying) ≡ Some (row_after w.clock true (dooms f.reply.note (me laws notifying)) (shuts_end f.reply.closed (me laws notifying)) f.reply x0))
      (c : ℕ) (on : x0.conn ≡ Some c) (k : Conn) (ak : slice_get w.conns c ≡ Some k) where
    abbrev x1 : EndRow
    x1 = row_after w.clock true (dooms f.reply.note (me laws notifying)) (shuts_end f.reply.closed (me laws notifying)) f.reply x0

    -- the other end of this connection is another
    far-loc : (side : Side) (j p : ℕ) → RowOf w.lives side j p c → (x0.side ≡ side → ⊥) → Loc w.lives (ls' laws notifying) j p
    far-loc side j p r not = loc laws notifying j p (λ e q. absurd (not (let z = same_Some x0 r.row (sym at-x ∙ own-row laws notifying j p r.row e q r.there) in ap (λ (r : EndRow). r.side) z ∙ r.side_is)))

    -- how a side of the connection stands, then and now
    record Sides (side : Side) : Type 0 where
      life : life_of side k ≡ i
      row : row_of w.lives side k ≡ Some x0
      end_ : end_of w.lives side k ≡ Some e0
      row-now : row_of (ls' laws notifying) side k ≡ Some x1
      end-now : end_of (ls' laws notifying) side k ≡ Some f.this
      quiet : Quiet (row_of w.lives (away side) k) (row_of (ls' laws notifying) (away side) k)
      hushed : Hushed (end_of w.lives (away side) k) (end_of (ls' laws notifying) (away side) k)

    row-then : row_in w.lives i (me laws notifying) ≡ Some x0
    row-then = ap (λ o. row_of_life o (me laws notifying)) at ∙ at-x

    sides : (side : Side) → x0.side ≡ side → IsEndOf side k i (me laws notifying) → Sides side
    sides side sd e = by side sd e
      where
        end-then : end_in w.lives i (me laws notifying) ≡ Some e0
        end-then = ap (λ o. end_of_life o (me laws notifying)) at ∙ at-e

        row-here : row_in (ls' laws notifying) i (me laws notifying) ≡ Some x1
        row-here = ap (λ o. row_of_life o (me laws notifying)) (get-now laws notifying) ∙ row-is

        end-here : end_in (ls' laws notifying) i (me laws notifying) ≡ Some f.this
        end-here = ap (λ o. end_of_life o (me laws notifying)) (get-now laws notifying) ∙ own-after laws old.node (life laws notifying).legal v fresh f ok

        by : (side : Side) → x0.side ≡ side → IsEndOf side k i (me laws notifying) → Sides side
        by Dialler sd e =
            let q : Quiet (far (row_in w.lives k.target) k.accepted) (far (row_in (ls' laws notifying) k.target) k.accepted) × Hushed (far (end_in w.lives k.target) k.accepted) (far (end_in (ls' laws notifying) k.target) k.accepted) = far-end k.accepted (λ y e. e) in
            record {
              life = sym e.0;
              row = (λ n. row_in w.lives (sym e.0 n) (sym e.1 n)) ∙ row-then;
              end_ = (λ n. end_in w.lives (sym e.0 n) (sym e.1 n)) ∙ end-then;
              row-now = (λ n. row_in (ls' laws notifying) (sym e.0 n) (sym e.1 n)) ∙ row-here;
              end-now = (λ n. end_in (ls' laws notifying) (sym e.0 n) (sym e.1 n)) ∙ end-here;
              quiet = q.0;
              hushed = q.1;
            }
          where
            far-end : (o : Option ℕ) → ((y : ℕ) → o ≡ Some y → k.accepted ≡ Some y) → Quiet (far (row_in w.lives k.target) o) (far (row_in (ls' laws notifying) k.target) o) × Hushed (far (end_in w.lives k.target) o) (far (end_in (ls' laws notifying) k.target) o)
            far-end None h = (quiet-refl None, λ a b n. n)
            far-end (Some y) h = far-loc Acceptor k.target y (wired.0.accepted c y k ak (h y refl)) (λ s. let z : Dialler ≡ Acceptor = sym sd ∙ s in absurd cc)
        by Acceptor sd e =
            let q = far-loc Dialler k.life k.dialler (wired.0.dialled c k ak) (λ s. let z : Acceptor ≡ Dialler = sym sd ∙ s in absurd cc) in
            record {
              life = sym e.0;
              row = (λ n. far (row_in w.lives (sym e.0 n)) (e.1 n)) ∙ row-then;
              end_ = (λ n. far (end_in w.lives (sym e.0 n)) (e.1 n)) ∙ end-then;
              row-now = (λ n. far (row_in (ls' laws notifying) (sym e.0 n)) (e.1 n)) ∙ row-here;
              end-now = (λ n. far (end_in (ls' laws notifying) (sym e.0 n)) (e.1 n)) ∙ end-here;
              quiet = q.0;
              hushed = q.1;
            }

    both : (side : Side) → EndAt w.lives side (away side) k × EndAt w.lives (away side) side k
    both Dialler = let g = wired.1 c k ak in (g.0, g.1)
    both Acceptor = let g = wired.1 c k ak in (g.1, g.0)

    -- both ends afterwards, where this side has said f.reply.say and T is left of the text on its way to it
    module _ (side : Side) (sd : x0.side ≡ side) (e : IsEndOf side k i (me laws notifying)) (T : Text) (taken : Taken_of (text_to side k) T) (own other : Voice) (ho : voice_in (ls' laws notifying) (life_of side k) ≡ Some own) (ha : voice_in (ls' laws notifying) (life_of (away side) k) ≡ Some other) where
      abbrev Both : Voice → Voice → Type 0
      Both o a = IsEnd side o a (on_way (more_said f.reply.say (text_to (away side) k))) (row_of (ls' laws notifying) side k) (row_of (ls' laws notifying) (away side) k) (end_of (ls' laws notifying) side k)
          × IsEnd (away side) a o (on_way T) (row_of (ls' laws notifying) (away side) k) (row_of (ls' laws notifying) side k) (end_of (ls' laws notifying) (away side) k)

      both-now : Both own other
      both-now =
          let s = sides side sd e in
          let was = voice-was w.lives (ls' laws notifying) w.conns (notify-voices laws notifying) wired.0 c k ak in
          let vo = was side own ho in let va = was (away side) other ha in
          let m = voice-there w.lives (life_of (away side) k) other va in
          let own-is : voice old.node.setup ≡ own = same_Some _ _ (sym (ap voice_of at) ∙ ap (voice_in w.lives) (sym s.life) ∙ vo) in
          let P : Voice → Voice → Type 0 = λ o a. voice_in w.lives (life_of side k) ≡ Some o → voice_in w.lives (life_of (away side) k) ≡ Some a → Both o a in
          subst (λ o. P o other) own-is (subst (P (voice old.node.setup)) m.2 (λ ho ha. made m.0.node.setup ho ha)) vo va
        where
          made : (m : Setup) → voice_in w.lives (life_of side k) ≡ Some (voice old.node.setup) → voice_in w.lives (life_of (away side) k) ≡ Some (voice m) → Both (voice old.node.setup) (voice m)
          made m ho ha =
              let s = sides side sd e in
              let n : Voice = voice old.node.setup in
              let g = both side in
              let y : Option EndRow = row_of w.lives (away side) k in
              let y' : Option EndRow = row_of (ls' laws notifying) (away side) k in
              let d : Option End = end_of w.lives (away side) k in
              let sent : List ℕ = on_way (text_to (away side) k) in
              let now : List ℕ = on_way (more_said f.reply.say (text_to (away side) k)) in
              let P : Option EndRow → Option End → Type 0 = λ r q. IsEnd side n (voice m) sent r y q in
              let near : IsEnd side n (voice m) sent (Some x0) y (Some e0) = subst (λ r. P r (Some e0)) s.row (subst (P (row_of w.lives side k)) s.end_ (g.0 n (voice m) ho ha)) in
              let away-then : IsEnd (away side) (voice m) n (on_way (text_to side k)) y (Some x0) d = subst (λ r. IsEnd (away side) (voice m) n (on_way (text_to side k)) y r d) s.row (g.1 (voice m) n ha ho) in
              let tk = taken (Said (away side) (May (away side) (voice m) n (marks_of y))) away-then.said in
              let kept = did laws old.node m side w.clock x0 y e0 (record { fit = fit i old at; side_is = sd; fits = fits; past_far = past-marks laws notifying (away side) k; text = sent; wired = near }) v fresh f small tk.1 at-e (the-row laws notifying)
              (dooms f.reply.note (me laws notifying)) (shuts_end f.reply.closed (me laws notifying)) in
              let M0 : Message → Type 0 = May side n (voice m) (marks_of (Some x0)) in
              let M1 : Message → Type 0 = May side n (voice m) (marks_of (Some x1)) in
              let more : (k : Message) → M0 k → M1 k = may-more side n (voice m) (marks_of (Some x0)) (marks_of (Some x1)) (once-keeps _ w.clock x0.named) (once-keeps _ w.clock x0.replied) (once-keeps _ w.clock x0.rose) in
              let near-now : IsEnd side n (voice m) now (Some x1) y (Some f.this) = record {
                said = way-said (Said side M1) (text_to (away side) k) f.reply.say (whole-map (Said side M0) (Said side M1) (said-map side M0 M1 more) sent near.said) kept.said;
                follows = kept.follows;
                peer = kept.peer;
                noted = kept.noted;
              } in
              let away-now : IsEnd (away side) (voice m) n (on_way T) y (Some x1) d = record {
                said = tk.0;
                follows = follows-later (away side) (marks_of y) (marks_of (Some x0)) (marks_of (Some x1)) _ _ _ w.clock refl refl refl away-then.follows;
                peer = away-then.peer;
                noted = away-then.noted;
              } in
              let Q : Option EndRow → Option End → Type 0 = λ r q. IsEnd side n (voice m) now r y' q in (
                subst (λ r. Q r (end_of (ls' laws notifying) side k)) (sym s.row-now) (subst (Q (Some x1)) (sym s.end-now) (end-quiet side n (voice m) now (Some x1) (Some x1) y y' (Some f.this) (Some f.this) (quiet-refl (Some x1)) s.quiet (λ a b h. h) near-now)),
                subst (λ r. IsEnd (away side) (voice m) n (on_way T) y' r (end_of (ls' laws notifying) (away side) k)) (sym s.row-now) (end-quiet (away side) (voice m) n (on_way T) y y' (Some x1) (Some x1) d _ s.quiet (quiet-refl (Some x1)) s.hushed away-now),
              )

    -- ---- so each connection is a wire still

    own-kept : is_given v ≡ false → (g : Conn → Conn) → ((h : Conn) → SameEnds h (g h) × ((g h).accepted ≡ h.accepted)) → WireAt (ls' laws notifying) (g k) → Kept laws notifying (at_place c g w.conns)
    own-kept ng g same own = (
      linked-same w.lives (ls' laws notifying) w.conns (at_place c g w.conns) (all-stay laws notifying) (all-were laws notifying (λ link is. absurd (both_ways (is_given v) ng (ap is_given is)))) (notify-voices laws notifying) (conns-at c g w.conns same) wired.0,
      at-other (λ d h. WireAt (ls' laws notifying) h) c g w.conns
          (λ h ah. let z = same-conn w.conns c k h ak ah in let P : Conn → Type 0 = λ h. WireAt (ls' laws notifying) (g h) in subst P z own)
          (λ d h n ah. other-wire laws notifying d h h ah (alike-refl w.lives h) (λ y e. inl e) (λ x ax ox. absurd (n (same_Some c d (sym on ∙ ap (λ (r : EndRow). r.conn) (same_Some x0 x (sym at-x ∙ ax)) ∙ ox))))),
    )

    the-end : IsEndOf x0.side k i (me laws notifying)
    the-end = let q = wired.0.only i (me laws notifying) c x0 row-then on in subst (λ h. IsEndOf x0.side h i (me laws notifying)) (same-conn w.conns c q.conn k q.there ak) q.is_end

    ends-kept : (k h : Conn) → h.life ≡ k.life → h.dialler ≡ k.dialler → h.target ≡ k.target → SameEnds k h
    ends-kept k h a b d = record { life = a; dialler = b; target = d }

    pub own-says : is_given v ≡ false → IsPlain v → Kept laws notifying (at_place c (says x0.side f.reply.say) w.conns)
    own-says ng plain = by x0.side refl the-end
      where
        untaken : (x : Text) → Taken_of x x
        untaken x P h = (h, λ id body is. absurd (let Q : Event → Type 0 = λ u. IsPlain u in subst Q is plain))

        by : (s : Side) → x0.side ≡ s → IsEndOf s k i (me laws notifying) → Kept laws notifying (at_place c (says s f.reply.say) w.conns)
        by Dialler s e = own-kept ng (says Dialler f.reply.say) (λ h. (ends-kept h _ refl refl refl, refl)) (
          λ n m hn hm. (let b = both-now Dialler s e k.back (untaken k.back) n m hn hm in b.0),
          λ m n hm hn. (let b = both-now Dialler s e k.back (untaken k.back) n m hn hm in b.1),
        )
        by Acceptor s e = own-kept ng (says Acceptor f.reply.say) (λ h. (ends-kept h _ refl refl refl, refl)) (
          λ n m hn hm. (let b = both-now Acceptor s e k.there (untaken k.there) m n hm hn in b.1),
          λ m n hm hn. (let b = both-now Acceptor s e k.there (untaken k.there) m n hm hn in b.0),
        )

    pub own-takes : is_given v ≡ false → (id : EndId) (body : List ℕ) → v ≡ event.Frame id body → first_body w16 (text_to x0.side k).come ≡ Some body → Kept laws notifying (at_place c (λ h. says x0.side f.reply.say (change_to x0.side body_taken h)) w.conns)
    own-takes ng id body is = by x0.side refl the-end
      where
        is-taken : (x : Text) → first_body w16 x.come ≡ Some body → Taken_of x (body_taken x)
        is-taken x h P g = let t = way-taken P x body g h in (t.1, λ id' b e. (let z : event.Frame id body ≡ event.Frame id' b = sym is ∙ e in let q : body ≡ b = cc in subst P q t.0))

        by : (s : Side) → x0.side ≡ s → IsEndOf s k i (me laws notifying) → first_body w16 (text_to s k).come ≡ Some body → Kept laws notifying (at_place c (λ h. says s f.reply.say (change_to s body_taken h)) w.conns)
        by Dialler s e first = own-kept ng (λ h. says Dialler f.reply.say (change_to Dialler body_taken h)) (λ h. (ends-kept h _ refl refl refl, refl)) (
          λ n m hn hm. (let b = both-now Dialler s e (body_taken k.back) (is-taken k.back first) n m hn hm in b.0),
          λ m n hm hn. (let b = both-now Dialler s e (body_taken k.back) (is-taken k.back first) n m hn hm in b.1),
        )
        by Acceptor s e first = own-kept ng (λ h. says Acceptor f.reply.say (change_to Acceptor body_taken h)) (λ h. (ends-kept h _ refl refl refl, refl)) (
          λ n m hn hm. (let b = both-now Acceptor s e (body_taken k.there) (is-taken k.there first) m n hm hn in b.1),
          λ m n hm hn. (let b = both-now Acceptor s e (body_taken k.there) (is-taken k.there first) m n hm hn in b.0),
        )
