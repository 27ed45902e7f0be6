-- What a happening that disturbs nobody does to the course of a handshake.
use Rattle.dist_world_model.specs.declared.happening.Happening.{Happening}
use Rattle.dist_world_model.proofs.Words.{◌≡◌, ℕ, true, false, cond, eqb, List, ◌++◌, slice_get, Some, None, Option, sym, refl, ap, ◌∙◌, subst}
use Rattle.dist_world_model.proofs.Words.{inl, inr, ◌⊎◌, append_assoc, append-nil, arith, ne_eqb, false≢true, same_Some, slice_get_within, w16, first_body}
use Rattle.dist_world_model.proofs.Words.{Name, NodeLaws, Side, Acceptor, Dialler, End, EndId, Why, Effect, Event, StepRow, entry_in, is_held, holds, holds_at, other_view, ends_after, after}
use Rattle.dist_world_model.proofs.Words.{after_delivery, body_taken, change_to, conns_after_saying, more_said, says, spoken_on, text_to, accepted_by, conn_of, is_outside, next_end, at_place}
use Rattle.dist_world_model.proofs.Words.{given_by, mark, new_row, Conn, Life, Text, EndRow, end_of_life, row_at, row_of_life, IsOther}
use Rattle.dist_world_model.proofs.{AllWires.AreWired, AllWires.same-conn, ConnectionRows.IsEndOf, ConnectionRows.RowOf, EndStates.Beside, EventEnds.frame-end, EventEnds.gives}
use Rattle.dist_world_model.proofs.HappeningEffects.{Accepts, IsPlain, Plain, Ready, Strange, Takes}
use Rattle.dist_world_model.proofs.{Lookups.at-other, Lookups.changed-at, Lookups.end_in, Lookups.far, Lookups.place-twice, OtherRows.end-after, OtherRows.own-after}
use Rattle.dist_world_model.proofs.{GrowingRows.spoken-none, SendingWires.Found, SendingWires.conn-not, SendingWires.dial-conn, SendingWires.found, SendingWires.new-row-at, SendingWires.strange-free, SendingWires.strange-given}
use Rattle.dist_world_model.proofs.SilentWires.{Notifying, all-stay, beside, deed, get-now, life, ls', me, now, own-row, rows', the-row}
use Rattle.dist_world_model.proofs.{StepEffects.is_given, StepEffects.own_id, WholeFrames.on_way, WholeFrames.way-delivered}
use Rattle.dist_core_ends.specs.declared.known.End.TheVariants as ends
use Rattle.dist_core.specs.Node.{is_full_for}
use Rattle.dist_core.specs.Rows as core
use Rattle.dist_core.specs.declared.event.Event.TheVariants as event
use Rattle.dist_world_progress.specs.Connecting.{HoldsPeer}
use Rattle.dist_world_progress.proofs.FlowSteps.{TakenOf, Took, Untaken}
use Rattle.dist_world_progress.proofs.{Losing.idle-when, Meeting.IsFor, TakeCounts.event-end}
use Rattle.dist_world_progress.proofs.Courses.{Course, Match, accepted-goes, accepted-peer, course-accepted, dialled-goes, dialled-peer, holds-peer, ousts, own-of, peer_in}

-- ---- what is known of a world in which nobody disturbs connection c

pub record Quiet (g : Match) (c : ℕ) (ls : List Life) (cs : List Conn) : Type 0 where
  pub wired : AreWired ls cs
  pub conn : Conn
  pub there : slice_get cs c ≡ Some conn
  pub setup_x : (l : Life) → slice_get ls conn.life ≡ Some l → l.node.setup ≡ g.sx
  pub setup_y : (l : Life) → slice_get ls conn.target ≡ Some l → l.node.setup ≡ g.sy
  pub sole_x : (l : Life) → slice_get ls conn.life ≡ Some l → (id : ℕ) → HoldsPeer (let s = g.sy in s.name) l.node id → conn.dialler ≡ id
  pub sole_y : (l : Life) → slice_get ls conn.target ≡ Some l → (id : ℕ) → HoldsPeer (let s = g.sx in s.name) l.node id → conn.accepted ≡ Some id

-- the connection has the same ends still, and those that it got since
pub record Persists (k r : Conn) : Type 0 where
  pub life : k.life ≡ r.life
  pub dialler : k.dialler ≡ r.dialler
  pub accepted : (j : ℕ) → k.accepted ≡ Some j → (k.target ≡ r.target) × (r.accepted ≡ Some j)

pub persists-same : (k r : Conn) → k ≡ r → Persists k r
persists-same k r e = record { life = ap (λ (k : Conn). k.life) e; dialler = ap (λ (k : Conn). k.dialler) e; accepted = λ j aj. (ap (λ (k : Conn). k.target) e, ap (λ (k : Conn). k.accepted) (sym e) ∙ aj) }

module _ (laws : NodeLaws) (g : Match) (c : ℕ) where
  -- the course of connection k
  abbrev pub CourseAt : List Life → Conn → Type 0
  CourseAt ls k = Course laws g (on_way k.there) (on_way k.back) (end_in ls k.life k.dialler) (far (end_in ls k.target) k.accepted)

  -- of connection c
  abbrev pub Going : List Life → List Conn → Type 0
  Going ls cs = (k : Conn) → slice_get cs c ≡ Some k → CourseAt ls k

  -- ---- ends that stay

  pub course-stays : (ls ls' : List Life) (k : Conn) → end_in ls k.life k.dialler ≡ end_in ls' k.life k.dialler → ((j : ℕ) → k.accepted ≡ Some j → end_in ls k.target j ≡ end_in ls' k.target j) → CourseAt ls k → CourseAt ls' k
  course-stays ls ls' k d a h =
      let P : Option End → Option End → Type 0 = λ x y. Course laws g (on_way k.there) (on_way k.back) x y in
      subst (λ x. P x (far (end_in ls' k.target) k.accepted)) d (subst (P (end_in ls k.life k.dialler)) (by k.accepted a) h)
    where
      by : (o : Option ℕ) → ((j : ℕ) → o ≡ Some j → end_in ls k.target j ≡ end_in ls' k.target j) → far (end_in ls k.target) o ≡ far (end_in ls' k.target) o
      by None h = refl
      by (Some j) h = h j refl

  pub all-going : (ls ls' : List Life) (cs : List Conn) → ((i p : ℕ) → end_in ls i p ≡ end_in ls' i p) → Going ls cs → Going ls' cs
  all-going ls ls' cs h going k at = course-stays ls ls' k (h k.life k.dialler) (λ j e. h k.target j) (going k at)

  -- bytes come
  pub come-going : (side : Side) (d n : ℕ) (ls : List Life) (cs : List Conn) → Going ls cs → Going ls (at_place d (change_to side (after_delivery n)) cs)
  come-going side d n ls cs going k at = at-other (λ j h. j ≡ c → CourseAt ls h) d (change_to side (after_delivery n)) cs (λ h ah e. by side h (going h (ap (slice_get cs) (sym e) ∙ ah))) (λ j h ne ah e. going h (ap (slice_get cs) (sym e) ∙ ah)) c k at refl
    where
      by : (s : Side) (k : Conn) → CourseAt ls k → CourseAt ls (change_to s (after_delivery n) k)
      by Dialler k f = subst (λ t. Course laws g (on_way k.there) t (end_in ls k.life k.dialler) (far (end_in ls k.target) k.accepted)) (sym (way-delivered n k.back)) f
      by Acceptor k f = subst (λ t. Course laws g t (on_way k.back) (end_in ls k.life k.dialler) (far (end_in ls k.target) k.accepted)) (sym (way-delivered n k.there)) f

  -- ---- an event that a running incarnation gets

  module _ (notifying : Notifying) (ds : List Conn) where
    open notifying use {w, lives, fit, wired, i, old, v, fresh, f, small, at, live, ok}

    abbrev pub cs' : List Conn
    cs' = conns_after_saying ds (slice_get (rows' laws notifying) (me laws notifying)) f.reply.say

    module _ (q : Quiet g c w.lives w.conns) (place : (l : Life) → slice_get w.lives (let k = q.conn in k.target) ≡ Some l → (let s = g.sx in is_full_for l.node (entry_in l.node.ends s.name)) ≡ false) (course : CourseAt w.lives q.conn) (r : Quiet g c (ls' laws notifying) cs')
        (spared : (id : EndId) (z : Why) → v ≡ event.Lost id z → (let k = q.conn in (i ≡ k.life → k.dialler ≡ id.0 → ⊥) × (i ≡ k.target → k.accepted ≡ Some id.0 → ⊥))) where
      abbrev k : Conn
      k = q.conn

      abbrev ak : slice_get w.conns c ≡ Some k
      ak = q.there

      row-x : RowOf w.lives Dialler k.life k.dialler c
      row-x = wired.0.dialled c k ak

      row-y : (j : ℕ) → k.accepted ≡ Some j → RowOf w.lives Acceptor k.target j c
      row-y j e = wired.0.accepted c j k ak e

      -- the connection has the same ends then
      same-end : (side : Side) (a b : ℕ) → RowOf w.lives side a b c → IsEndOf side r.conn a b
      same-end side a b x =
          let s = all-stay laws notifying a b c x.row x.there x.conn in
          let rw = r.wired in
          let y = rw.0.only a b c s.0 s.1 s.3 in
          subst (λ h. IsEndOf side h a b) (same-conn cs' c y.conn r.conn y.there r.there) (subst (λ d. IsEndOf d y.conn a b) (s.2 ∙ x.side_is) y.is_end)

      pub notified-persists : Persists k r.conn
      notified-persists = let a = same-end Dialler k.life k.dialler row-x in record { life = a.0; dialler = a.1; accepted = λ j aj. same-end Acceptor k.target j (row-y j aj) }

      -- an end that was there, and is not the event's own
      end-there : (p : ℕ) (x : EndRow) → slice_get old.rows p ≡ Some x → (e : End) × (slice_get old.node.ends p ≡ Some e)
      end-there p x ax = by (slice_get old.node.ends p) refl (let P : Option EndRow → Type 0 = λ o. Beside (slice_get old.node.ends p) o in subst P ax (beside laws notifying p))
        where
          by : (o : Option End) → slice_get old.node.ends p ≡ o → Beside o (Some x) → (e : End) × (slice_get old.node.ends p ≡ Some e)
          by None e b = absurd b
          by (Some d) e b = (d, e)

      -- no other end of the same peer ousts it
      ousted : (p : Name) (e : End) (id : ℕ) → slice_get old.node.ends id ≡ Some e → ((n : Name) → peer_in e ≡ Some n → n ≡ p) → ((j : ℕ) → HoldsPeer p (after old.node v f) j → id ≡ j) → (z : EndId) (s : End) → f.other ≡ Some (z, s) → z.0 ≡ id → ⊥
      ousted p e id at-e named sole z s other zid =
          let l = life laws notifying in
          let o = ousts laws old.node v fresh f z s other (the-row laws notifying) in
          let held : holds_at old.node.ends o.peer o.kind z.0 ≡ true = l.legal o.peer o.kind z.0 ∙ o.was in
          let holds-e : holds o.peer o.kind e ≡ true = sym (ap (is_held o.peer o.kind) (ap (slice_get old.node.ends) zid ∙ at-e)) ∙ held in
          let same : o.peer ≡ p = named o.peer (holds-peer laws e o.peer o.kind holds-e) in
          let now-held : holds_at (ends_after old.node.ends f) p o.then_ (me laws notifying) ≡ true = ap (is_held p o.then_) (own-after laws old.node l.legal v fresh f ok) ∙ subst (λ p. holds p o.then_ f.this ≡ true) same o.now in
          let mine : id ≡ me laws notifying = sole (me laws notifying) (o.then_, now-held) in
          let g : IsOther old.node f.reply.end_ z = laws.other old.node v fresh f z s l.legal ok other in
          g.apart (ap (λ i. record { 0 = i }) (zid ∙ mine))

      stays-here : (p : ℕ) (e : End) → slice_get old.node.ends p ≡ Some e → ((me laws notifying) ≡ p → is_given v ≡ true) → ((z : EndId) (s : End) → f.other ≡ Some (z, s) → z.0 ≡ p → ⊥) → slice_get old.node.ends p ≡ slice_get (ends_after old.node.ends f) p
      stays-here p e at-e h kept =
          let l = life laws notifying in
          sym (end-after laws old.node l.legal v fresh f ok p ∙ by f.other refl)
        where
          not-me : (me laws notifying) ≡ p → ⊥
          not-me q = let g = gives old.node v f (deed laws notifying) (h q) in let w = slice_get_within old.node.ends p e at-e in omega (arith, w, g.id, q)

          own : cond (eqb (me laws notifying) p) (Some f.this) (slice_get old.node.ends p) ≡ slice_get old.node.ends p
          own = ap (λ b. cond b (Some f.this) (slice_get old.node.ends p)) (ne_eqb (me laws notifying) p not-me)

          by : (o : Option (EndId × End)) → f.other ≡ o → other_view o (λ i. cond (eqb (me laws notifying) i) (Some f.this) (slice_get old.node.ends i)) p ≡ slice_get old.node.ends p
          by None e = own
          by (Some x) e =
              let y = x.0 in
              ap (λ b. cond b (Some x.1) (cond (eqb (me laws notifying) p) (Some f.this) (slice_get old.node.ends p))) (ne_eqb y.0 p (kept x.0 x.1 e)) ∙ own

      stays-at : (j p : ℕ) → (i ≡ j → slice_get old.node.ends p ≡ slice_get (ends_after old.node.ends f) p) → end_in w.lives j p ≡ end_in (ls' laws notifying) j p
      stays-at j p h = changed-at (λ o. end_of_life o p) (λ a b. a ≡ b) (λ o. refl) i (λ (l : Life). now laws notifying) w.lives old at j h

      -- what stands in the incarnation then
      now-there : (j : ℕ) → i ≡ j → slice_get (ls' laws notifying) j ≡ Some (now laws notifying)
      now-there j e = ap (slice_get (ls' laws notifying)) (sym e) ∙ get-now laws notifying

      there-old : (j : ℕ) → i ≡ j → slice_get w.lives j ≡ Some old
      there-old j e = ap (slice_get w.lives) (sym e) ∙ at

      -- ---- the two ends

      dialled-stays : (i ≡ k.life → (me laws notifying) ≡ k.dialler → is_given v ≡ true) → end_in w.lives k.life k.dialler ≡ end_in (ls' laws notifying) k.life k.dialler
      dialled-stays h = stays-at k.life k.dialler here
        where
          here : i ≡ k.life → slice_get old.node.ends k.dialler ≡ slice_get (ends_after old.node.ends f) k.dialler
          here e =
              let x = row-x in
              let t = end-there k.dialler x.row (sym (ap (λ o. row_of_life o k.dialler) (there-old k.life e)) ∙ x.there) in
              let is : end_in w.lives k.life k.dialler ≡ Some t.0 = ap (λ o. end_of_life o k.dialler) (there-old k.life e) ∙ t.1 in
              let peer = dialled-peer laws g (on_way k.there) (on_way k.back) t.0 (far (end_in w.lives k.target) k.accepted) (subst (λ o. Course laws g (on_way k.there) (on_way k.back) o (far (end_in w.lives k.target) k.accepted)) is course) in
              let s = same-end Dialler k.life k.dialler x in
              stays-here k.dialler t.0 t.1 (h e) (ousted (let y = g.sy in y.name) t.0 k.dialler t.1 (λ n q. same_Some n _ (sym q ∙ peer.1))
              (λ j held. s.1 ∙ r.sole_x (now laws notifying) (now-there r.conn.life (e ∙ s.0)) j held))

      accepted-stays : (j : ℕ) → k.accepted ≡ Some j → (i ≡ k.target → (me laws notifying) ≡ j → is_given v ≡ true) → end_in w.lives k.target j ≡ end_in (ls' laws notifying) k.target j
      accepted-stays j aj h = stays-at k.target j here
        where
          here : i ≡ k.target → slice_get old.node.ends j ≡ slice_get (ends_after old.node.ends f) j
          here e =
              let x = row-y j aj in
              let t = end-there j x.row (sym (ap (λ o. row_of_life o j) (there-old k.target e)) ∙ x.there) in
              let is : far (end_in w.lives k.target) k.accepted ≡ Some t.0 = ap (far (end_in w.lives k.target)) aj ∙ ap (λ o. end_of_life o j) (there-old k.target e) ∙ t.1 in
              let peer = accepted-peer laws g (on_way k.there) (on_way k.back) (end_in w.lives k.life k.dialler) t.0 (subst (λ o. Course laws g (on_way k.there) (on_way k.back) (end_in w.lives k.life k.dialler) o) is course) in
              let s = same-end Acceptor k.target j x in
              stays-here j t.0 t.1 (h e) (ousted (let y = g.sx in y.name) t.0 j t.1 (named t.0 peer.1)
              (λ id held. same_Some j id (sym s.1 ∙ r.sole_y (now laws notifying) (now-there r.conn.target (e ∙ s.0)) id held)))
            where
              named : (d : End) → (d ≡ ends.Unnamed) ⊎ (peer_in d ≡ Some (let y = g.sx in y.name)) → (n : Name) → peer_in d ≡ Some n → n ≡ (let y = g.sx in y.name)
              named d (inl z) n q = absurd (let u : None ≡ Some n = sym (ap peer_in z) ∙ q in cc)
              named d (inr z) n q = same_Some n _ (sym q ∙ z)

      -- an event that is not of this connection
      other-course : ((x : EndRow) → slice_get old.rows (me laws notifying) ≡ Some x → x.conn ≡ Some c → is_given v ≡ true) → CourseAt (ls' laws notifying) k
      other-course free = course-stays w.lives (ls' laws notifying) k
          (dialled-stays (λ e m. (let x = row-x in free x.row (own-row laws notifying k.life k.dialler x.row e m x.there) x.conn)))
          (λ j aj. accepted-stays j aj (λ e m. (let x = row-y j aj in free x.row (own-row laws notifying k.target j x.row e m x.there) x.conn)))
          course

      -- ---- an event of one of them

      module _ (ng : is_given v ≡ false) (x0 : EndRow) (e0 : End) (at-x : slice_get old.rows (me laws notifying) ≡ Some x0) (at-e : slice_get old.node.ends (me laws notifying) ≡ Some e0) (on : x0.conn ≡ Some c) where
        end-then : end_in w.lives i (me laws notifying) ≡ Some e0
        end-then = ap (λ o. end_of_life o (me laws notifying)) at ∙ at-e

        end-here : end_in (ls' laws notifying) i (me laws notifying) ≡ Some f.this
        end-here = let l = life laws notifying in ap (λ o. end_of_life o (me laws notifying)) (get-now laws notifying) ∙ own-after laws old.node l.legal v fresh f ok

        the-side : IsEndOf x0.side k i (me laws notifying)
        the-side = let z = wired.0.only i (me laws notifying) c x0 (ap (λ o. row_of_life o (me laws notifying)) at ∙ at-x) on in subst (λ h. IsEndOf x0.side h i (me laws notifying)) (same-conn w.conns c z.conn k z.there ak) z.is_end

        -- the other end of this connection is another
        not-both : (side : Side) (j p : ℕ) → RowOf w.lives side j p c → (x0.side ≡ side → ⊥) → i ≡ j → (me laws notifying) ≡ p → is_given v ≡ true
        not-both side j p x not e m = absurd (not (let z = same_Some x0 x.row (sym at-x ∙ own-row laws notifying j p x.row e m x.there) in ap (λ (r : EndRow). r.side) z ∙ x.side_is))

        lost-own : (id : EndId) (z : Why) → v ≡ event.Lost id z → me laws notifying ≡ id.0
        lost-own id z lost = ap (λ (x : EndId). x.0) (event-end old.node v f id (deed laws notifying) (ap own_id lost))

        dialled-own : x0.side ≡ Dialler → IsEndOf Dialler k i (me laws notifying) → (y : Text) → TakenOf v k.back y
            → Course laws g (on_way (more_said f.reply.say k.there)) (on_way y) (end_in (ls' laws notifying) k.life k.dialler) (far (end_in (ls' laws notifying) k.target) k.accepted)
        dialled-own sd e y taken =
            let a : Option End = far (end_in w.lives k.target) k.accepted in
            let was : Course laws g (on_way k.there) (on_way k.back) (Some e0) a = subst (λ o. Course laws g (on_way k.there) (on_way k.back) o a) ((λ n. end_in w.lives (sym e.0 n) (sym e.1 n)) ∙ end-then) course in
            let own = own-of laws old.node v fresh f e0 (the-row laws notifying) ng (λ id z lost. (let s = spared id z lost in s.0 e.0 (sym e.1 ∙ lost-own id z lost))) at-e in
            let is : Course laws g (on_way k.there ++ f.reply.say) (on_way y) (Some f.this) a = dialled-goes laws g old.node v fresh small f ok e0 at-e own k.back y taken (q.setup_x old (there-old k.life e.0)) (on_way k.there) a was in
            let t = k.there in
            let more : Course laws g (on_way (more_said f.reply.say k.there)) (on_way y) (Some f.this) a = subst (λ z. Course laws g z (on_way y) (Some f.this) a) (append_assoc t.come t.said f.reply.say) is in
            let end_ : Some f.this ≡ end_in (ls' laws notifying) k.life k.dialler = sym ((λ n. end_in (ls' laws notifying) (sym e.0 n) (sym e.1 n)) ∙ end-here) in
            subst (λ o. Course laws g (on_way (more_said f.reply.say k.there)) (on_way y) o (far (end_in (ls' laws notifying) k.target) k.accepted)) end_
            (subst (λ o. Course laws g (on_way (more_said f.reply.say k.there)) (on_way y) (Some f.this) o) (away k.accepted (λ j h. h)) more)
          where
            away : (o : Option ℕ) → ((j : ℕ) → o ≡ Some j → k.accepted ≡ Some j) → far (end_in w.lives k.target) o ≡ far (end_in (ls' laws notifying) k.target) o
            away None h = refl
            away (Some j) h = accepted-stays j (h j refl) (not-both Acceptor k.target j (row-y j (h j refl)) (λ s. let z : Dialler ≡ Acceptor = sym sd ∙ s in absurd cc))

        -- the name is taken while no other end of y holds x
        free-y : i ≡ k.target → k.accepted ≡ Some (me laws notifying) → e0 ≡ ends.Unnamed → IsFor (let s = g.sx in s.name) None old.node
        free-y e aj un =
            let p : Name = (let s = g.sx in s.name) in
            let l = life laws notifying in
            let idle : entry_in old.node.ends p ≡ None = idle-when old.node.ends p (λ kind id held. (
            let mine : me laws notifying ≡ id = same_Some (me laws notifying) id (sym aj ∙ q.sole_y old (there-old k.target e) id (kind, held)) in
            let at-id : slice_get old.node.ends id ≡ Some ends.Unnamed = ap (slice_get old.node.ends) (sym mine) ∙ at-e ∙ ap (λ (z : End). Some z) un in
            false≢true (sym (ap (is_held p kind) at-id) ∙ held))) in
            (idle, ap (is_full_for old.node) (sym idle) ∙ place old (there-old k.target e))

        accepted-own : x0.side ≡ Acceptor → IsEndOf Acceptor k i (me laws notifying) → (y : Text) → TakenOf v k.there y
            → Course laws g (on_way y) (on_way (more_said f.reply.say k.back)) (end_in (ls' laws notifying) k.life k.dialler) (far (end_in (ls' laws notifying) k.target) k.accepted)
        accepted-own sd e y taken =
            let d : Option End = end_in w.lives k.life k.dialler in
            let was : Course laws g (on_way k.there) (on_way k.back) d (Some e0) = subst (λ o. Course laws g (on_way k.there) (on_way k.back) d o) ((λ n. far (end_in w.lives (sym e.0 n)) (e.1 n)) ∙ end-then) course in
            let own = own-of laws old.node v fresh f e0 (the-row laws notifying) ng (λ id z lost. (let s = spared id z lost in s.1 e.0 (e.1 ∙ ap (λ (n : ℕ). Some n) (lost-own id z lost)))) at-e in
            let is : Course laws g (on_way y) (on_way k.back ++ f.reply.say) d (Some f.this) = accepted-goes laws g old.node v fresh small f ok e0 at-e own k.there y taken (q.setup_y old (there-old k.target e.0)) (free-y e.0 e.1) (on_way k.back) d was in
            let t = k.back in
            let more : Course laws g (on_way y) (on_way (more_said f.reply.say k.back)) d (Some f.this) = subst (λ z. Course laws g (on_way y) z d (Some f.this)) (append_assoc t.come t.said f.reply.say) is in
            let end_ : Some f.this ≡ far (end_in (ls' laws notifying) k.target) k.accepted = sym ((λ n. far (end_in (ls' laws notifying) (sym e.0 n)) (e.1 n)) ∙ end-here) in
            subst (λ o. Course laws g (on_way y) (on_way (more_said f.reply.say k.back)) (end_in (ls' laws notifying) k.life k.dialler) o) end_
            (subst (λ o. Course laws g (on_way y) (on_way (more_said f.reply.say k.back)) o (Some f.this))
            (dialled-stays (not-both Dialler k.life k.dialler row-x (λ s. let z : Acceptor ≡ Dialler = sym sd ∙ s in absurd cc))) more)

      -- ---- all of it

      -- connection d is changed by t
      going-by : (d : ℕ) (t : Conn → Conn) → (d ≡ c → CourseAt (ls' laws notifying) (t k)) → ((d ≡ c → ⊥) → CourseAt (ls' laws notifying) k) → Going (ls' laws notifying) (at_place d t w.conns)
      going-by d t own other h ah = at-other (λ j h. j ≡ c → CourseAt (ls' laws notifying) h) d t w.conns
          (λ x ax e. (let z = same-conn w.conns c k x ak (ap (slice_get w.conns) (sym e) ∙ ax) in let P : Conn → Type 0 = λ h. CourseAt (ls' laws notifying) (t h) in subst P z (own e)))
          (λ j x n ax e. (let z = same-conn w.conns c k x ak (ap (slice_get w.conns) (sym e) ∙ ax) in subst (CourseAt (ls' laws notifying)) z (other (λ dc. n (dc ∙ sym e)))))
          c h ah refl

      silent : ((x : EndRow) → slice_get old.rows (me laws notifying) ≡ Some x → x.conn ≡ Some c → is_given v ≡ true) → Going (ls' laws notifying) w.conns
      silent free h ah = subst (CourseAt (ls' laws notifying)) (same-conn w.conns c k h ak ah) (other-course free)

      -- the event's own end says something on connection d, and has taken a frame perhaps
      module _ (ng : is_given v ≡ false) (x0 : EndRow) (e0 : End) (at-x : slice_get old.rows (me laws notifying) ≡ Some x0) (at-e : slice_get old.node.ends (me laws notifying) ≡ Some e0) (d : ℕ) (on : x0.conn ≡ Some d) where
        apart : (d ≡ c → ⊥) → CourseAt (ls' laws notifying) k
        apart n = other-course (λ x ax ox. absurd (n (same_Some d c (sym on ∙ ap (λ (r : EndRow). r.conn) (same_Some x0 x (sym at-x ∙ ax)) ∙ ox))))

        here-on : d ≡ c → x0.conn ≡ Some c
        here-on e = on ∙ ap (λ (n : ℕ). Some n) e

        says-going : IsPlain v → Going (ls' laws notifying) (at_place d (says x0.side f.reply.say) w.conns)
        says-going plain = going-by d (says x0.side f.reply.say) (λ e. by e x0.side refl (the-side ng x0 e0 at-x at-e (here-on e))) apart
          where
            untaken : (x : Text) → TakenOf v x x
            untaken x = Untaken (λ id body is. let Q : Event → Type 0 = λ u. IsPlain u in subst Q is plain) refl

            by : d ≡ c → (s : Side) → x0.side ≡ s → IsEndOf s k i (me laws notifying) → CourseAt (ls' laws notifying) (says s f.reply.say k)
            by dc Dialler s e = dialled-own ng x0 e0 at-x at-e (here-on dc) s e k.back (untaken k.back)
            by dc Acceptor s e = accepted-own ng x0 e0 at-x at-e (here-on dc) s e k.there (untaken k.there)

        takes-going : (id : EndId) (body : List ℕ) (h : Conn) → v ≡ event.Frame id body → slice_get w.conns d ≡ Some h → first_body w16 (text_to x0.side h).come ≡ Some body → Going (ls' laws notifying) (at_place d (λ h. says x0.side f.reply.say (change_to x0.side body_taken h)) w.conns)
        takes-going id body h is ah first = going-by d (λ h. says x0.side f.reply.say (change_to x0.side body_taken h)) (λ e. by e x0.side refl (the-side ng x0 e0 at-x at-e (here-on e)) (ap (λ (h : Conn). first_body w16 (text_to x0.side h).come) (same-conn w.conns c k h ak (ap (slice_get w.conns) (sym e) ∙ ah)) ∙ first)) apart
          where
            by : d ≡ c → (s : Side) → x0.side ≡ s → IsEndOf s k i (me laws notifying) → first_body w16 (text_to x0.side k).come ≡ Some body → CourseAt (ls' laws notifying) (says s f.reply.say (change_to s body_taken k))
            by dc Dialler s e first = dialled-own ng x0 e0 at-x at-e (here-on dc) s e (body_taken k.back) (Took id body is (ap (λ z. first_body w16 (text_to z k).come) (sym s) ∙ first) refl)
            by dc Acceptor s e first = accepted-own ng x0 e0 at-x at-e (here-on dc) s e (body_taken k.there) (Took id body is (ap (λ z. first_body w16 (text_to z k).come) (sym s) ∙ first) refl)

      silent-spoken : ds ≡ w.conns → conn_of (slice_get (rows' laws notifying) (me laws notifying)) ≡ None → ((x : EndRow) → slice_get old.rows (me laws notifying) ≡ Some x → x.conn ≡ Some c → is_given v ≡ true) → Going (ls' laws notifying) cs'
      silent-spoken e none free = subst (Going (ls' laws notifying)) (sym (spoken-none ds (slice_get (rows' laws notifying) (me laws notifying)) f.reply.say none ∙ e)) (silent free)

      plain-going : IsPlain v → ds ≡ w.conns → Going (ls' laws notifying) cs'
      plain-going plain e = elim (is_given v) as (λ b. is_given v ≡ b → Going (ls' laws notifying) cs') [
        | true ↦ λ g. silent-spoken e (dial-conn laws notifying g plain) (λ x a b. g)
        | false ↦ λ ng. own ng (found laws notifying ng)
      ] refl
        where
          own : is_given v ≡ false → Found laws notifying → Going (ls' laws notifying) cs'
          own ng q = by q.x0.conn refl
            where
              by : (o : Option ℕ) → q.x0.conn ≡ o → Going (ls' laws notifying) cs'
              by None none = silent-spoken e (ap conn_of q.row-is ∙ none) (conn-not laws notifying q.x0 q.at-x none c)
              by (Some d) on = subst (Going (ls' laws notifying)) (sym ((λ n. conns_after_saying (e n) (q.row-is n) f.reply.say) ∙ ap (λ o. spoken_on w.conns o q.x0.side f.reply.say) on)) (says-going ng q.x0 q.e0 q.at-x q.at-e d on plain)

      take-going : (id : EndId) (row : EndRow) (d : ℕ) (h : Conn) (body : List ℕ) → v ≡ event.Frame id body → row_at w i id.0 ≡ Some row → row.conn ≡ Some d → slice_get w.conns d ≡ Some h → (let u = text_to row.side h in first_body w16 u.come) ≡ Some body
          → ds ≡ at_place d (change_to row.side body_taken) w.conns → Going (ls' laws notifying) cs'
      take-going id row d h body is ar on ah first e =
          let ng : is_given v ≡ false = ap is_given is in
          let q = found laws notifying ng in
          let own : (me laws notifying) ≡ id.0 = ap (λ (y : EndId). y.0) (frame-end old.node v f id body (deed laws notifying) is) in
          let z : Some q.x0 ≡ Some row = sym q.at-x ∙ ap (slice_get old.rows) own ∙ sym (ap (λ o. row_of_life o id.0) at) ∙ ar in
          let same : row ≡ q.x0 = cc in
          let on0 : q.x0.conn ≡ Some d = ap (λ (r : EndRow). r.conn) (sym same) ∙ on in
          let first0 : (let s = let x = q.x0 in x.side in let u = text_to s h in first_body w16 u.come) ≡ Some body = ap (λ (r : EndRow). let u = text_to r.side h in first_body w16 u.come) (sym same) ∙ first in
          let ds0 : ds ≡ at_place d (change_to q.x0.side body_taken) w.conns = e ∙ ap (λ (r : EndRow). at_place d (change_to r.side body_taken) w.conns) same in
          subst (Going (ls' laws notifying)) (sym ((λ n. conns_after_saying (ds0 n) (q.row-is n) f.reply.say) ∙ ap (λ o. spoken_on (at_place d (change_to q.x0.side body_taken) w.conns) o q.x0.side f.reply.say) on0
          ∙ place-twice d (change_to q.x0.side body_taken) (says q.x0.side f.reply.say) w.conns))
          (takes-going ng q.x0 q.e0 q.at-x q.at-e d on0 id body h is ah first0)

      -- ---- a connection is accepted

      module _ (d : ℕ) (h : Conn) (is : v ≡ event.Incoming d) (ah : slice_get w.conns d ≡ Some h) (free : h.accepted ≡ None) (target : h.target ≡ i) where
        abbrev next : ℕ
        next = next_end (slice_get w.lives i)

        abbrev take_in : Conn → Conn
        take_in h = says Acceptor f.reply.say (accepted_by next h)

        given : is_given v ≡ true
        given = ap is_given is

        next-is : next ≡ (me laws notifying)
        next-is = let g = gives old.node v f (deed laws notifying) given in ap next_end at ∙ sym g.id

        -- the new end has no name
        unnamed : f.this ≡ ends.Unnamed
        unnamed = by (the-row laws notifying)
          where
            by : StepRow old.node v fresh f → f.this ≡ ends.Unnamed
            by (core.Comes_in link is' sp cr q) = ap (λ (f : Effect). f.this) q
            by (core.Dials p o is' idle sp full cr q) = absurd (let z : event.Incoming d ≡ event.Dial p o = sym is ∙ is' in cc)
            by (core.Begins id link b is' a ph sp q) = absurd (let z : event.Incoming d ≡ event.Opened id link = sym is ∙ is' in cc)
            by (core.Ceases id link b is' a ph sp q) = absurd (let z : event.Incoming d ≡ event.Opened id link = sym is ∙ is' in cc)
            by (core.Loses id y e is' a op q) = absurd (let z : event.Incoming d ≡ event.Lost id y = sym is ∙ is' in cc)
            by (core.Ticks id r is' a sp q) = absurd (let z : event.Incoming d ≡ event.Tick id = sym is ∙ is' in cc)
            by (core.Fails id body e side x is' a to sp says q) = absurd (let z : event.Incoming d ≡ event.Frame id body = sym is ∙ is' in cc)
            by (core.Hears id body e side m is' a to sp says q) = absurd (let z : event.Incoming d ≡ event.Frame id body = sym is ∙ is' in cc)

        accepted-course : d ≡ c → CourseAt (ls' laws notifying) (take_in k)
        accepted-course dc =
            let same : h ≡ k = same-conn w.conns c h k (ap (slice_get w.conns) (sym dc) ∙ ah) ak in
            let there_ : List ℕ = on_way k.there in
            let back : List ℕ = on_way k.back in
            let dd : Option End = end_in (ls' laws notifying) k.life k.dialler in
            let was : Course laws g there_ back dd (far (end_in (ls' laws notifying) k.target) k.accepted) = other-course (λ x ax ox. given) in
            let free_was : Course laws g there_ back dd None = subst (λ o. Course laws g there_ back dd (far (end_in (ls' laws notifying) k.target) o)) (ap (λ (h : Conn). h.accepted) (sym same) ∙ free) was in
            let b = k.back in
            let gv = gives old.node v f (deed laws notifying) given in
            let quiet : on_way k.back ≡ on_way (more_said f.reply.say k.back) = sym (ap (λ s. b.come ++ (b.said ++ s)) gv.say ∙ ap (λ s. b.come ++ s) (append-nil b.said)) in
            let l = life laws notifying in
            let end-new : end_in (ls' laws notifying) k.target next ≡ Some ends.Unnamed =
            (λ n. end_in (ls' laws notifying) ((ap (λ (h : Conn). h.target) (sym same) ∙ target) n) (next-is n)) ∙ ap (λ o. end_of_life o (me laws notifying)) (get-now laws notifying) ∙ own-after laws old.node l.legal v fresh f ok ∙ ap (λ (e : End). Some e) unnamed in
            subst (λ o. Course laws g there_ (on_way (more_said f.reply.say k.back)) dd o) (sym end-new) (subst (λ z. Course laws g there_ z dd (Some ends.Unnamed)) quiet (course-accepted laws g there_ back dd free_was))

        row-then : slice_get (rows' laws notifying) (me laws notifying) ≡ Some (mark w.clock f.reply (me laws notifying) (new_row Acceptor None (Some d) w.clock))
        row-then = new-row-at laws notifying (new_row Acceptor None (Some d) w.clock) given (ap (given_by w.clock) is ∙ ap (λ o. Some (new_row Acceptor None o w.clock)) (wired.0.behind d h ah))

        accept-going : ds ≡ at_place d (accepted_by next) w.conns → Going (ls' laws notifying) cs'
        accept-going e = subst (Going (ls' laws notifying)) (sym ((λ n. conns_after_saying (e n) (row-then n) f.reply.say) ∙ place-twice d (accepted_by next) (says Acceptor f.reply.say) w.conns))
            (going-by d take_in accepted-course (λ n. other-course (λ x ax ox. given)))

      -- ---- something from outside

      strange-going : is_outside w i v ≡ true → ds ≡ w.conns → Going (ls' laws notifying) cs'
      strange-going strange e = elim (is_given v) as (λ b. is_given v ≡ b → Going (ls' laws notifying) cs') [
        | true ↦ λ g. silent-spoken e (strange-given laws notifying strange g) (λ x a b. g)
        | false ↦ λ ng. own (found laws notifying ng) (strange-free laws notifying strange ng)
      ] refl
        where
          own : Found laws notifying → conn_of (slice_get old.rows (me laws notifying)) ≡ None → Going (ls' laws notifying) cs'
          own q none =
              let free : q.x0.conn ≡ None = ap conn_of (sym q.at-x) ∙ none in
              silent-spoken e (ap conn_of q.row-is ∙ free) (conn-not laws notifying q.x0 q.at-x free c)

      pub notified-going : {hap : Happening} → Ready hap w i v fresh ds → Going (ls' laws notifying) cs'
      notified-going (Plain plain e) = plain-going plain e
      notified-going (Strange a is runs strange e) = strange-going strange e
      notified-going (Accepts d h is ah free target e) = accept-going d h is ah free target e
      notified-going (Takes id row d h body is ar on ah first e) = take-going id row d h body is ar on ah first e
