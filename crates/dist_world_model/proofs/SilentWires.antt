-- An event that a running incarnation gets: the connections on which nothing is sent are wires still.
use Rattle.dist_world_model.proofs.Words.{◌≡◌, ℕ, ◌^◌, ◌<◌, true, not, ◌⊎◌, List, length, slice_get, Some, None, Ok, Option, sym, refl, ap, ◌∙◌, inl, inr}
use Rattle.dist_world_model.proofs.Words.{same_Some, Side, Acceptor, Dialler, StepRow, after, effect_of, Effect, Event, life_after, at_place, NodeLaws, EndRow}
use Rattle.dist_world_model.proofs.Words.{conn_behind, given_by, mark, new_row, rows_after, Conn, Life, World, end_of_life, row_of_life, runs}
use Rattle.dist_world_model.proofs.AllWires.{Alike, AreWired, Loc, WireAt, alike-refl, conns-same, hush-refl, linked-same, voice-refl, wire-alike}
use Rattle.dist_world_model.proofs.{ConnectionRows.Stays, ConnectionRows.VoiceStays, ConnectionRows.Was, ConnectionRows.row_of, EndStates.AreBeside}
use Rattle.dist_world_model.proofs.{IncarnationFacts.IsLife, OtherRows.end-hushed, OtherRows.row-quiet, OwnSide.IsPast, SentFrames.IsFit}
use Rattle.dist_world_model.proofs.Lookups.{changed-at, far, life-there, placed, row_in, voice_in, voice_of}
use Rattle.dist_world_model.proofs.{StepEffects.Deed, StepEffects.deed_of, StepEffects.is_given, Wires.Hushed, Wires.Quiet, Wires.marks_of, Wires.quiet-refl}
use Rattle.dist_world_model.proofs.UnchangedRows.{Came, Fresh, Old, came, row-then}
use Rattle.dist_core.specs.declared.event.Event.TheVariants as event

-- an event that a running incarnation gets, in a world all of whose connections are wires
pub record Notifying : Type 0 where
  pub w : World
  pub lives : (i : ℕ) (l : Life) → slice_get w.lives i ≡ Some l → IsLife w.clock l
  pub fit : (i : ℕ) (l : Life) → slice_get w.lives i ≡ Some l → IsFit l.node.setup
  pub wired : AreWired w.lives w.conns
  pub i : ℕ
  pub old : Life
  pub v : Event
  pub fresh : ℕ
  pub f : Effect
  pub small : fresh < 2 ^ 32
  pub at : slice_get w.lives i ≡ Some old
  pub live : runs old ≡ true
  pub ok : effect_of old.node v fresh ≡ Ok f

module _ (laws : NodeLaws) (notifying : Notifying) where
  open notifying use {w, lives, fit, wired, i, old, v, fresh, f, small, at, live, ok}

  abbrev pub now : Life
  now = life_after w.clock v f.reply (after old.node v f) old

  abbrev pub ls' : List Life
  ls' = at_place i (λ (l : Life). now) w.lives

  abbrev pub rows' : List EndRow
  rows' = rows_after w.clock v f.reply old.rows

  abbrev pub me : ℕ
  me = f.reply.end_.0

  pub life : IsLife w.clock old
  life = lives i old at

  pub deed : Deed old.node v f
  deed = deed_of laws old.node v fresh f ok

  pub beside : AreBeside old.node.ends old.rows
  beside = life.beside live

  pub the-row : StepRow old.node v fresh f
  the-row = laws.row old.node v fresh f ok

  pub get-now : slice_get ls' i ≡ Some now
  get-now = placed i (λ (l : Life). now) w.lives old at

  pub notify-voices : (j : ℕ) → VoiceStays (voice_in w.lives j) (voice_in ls' j)
  notify-voices j = changed-at voice_of VoiceStays voice-refl i (λ (l : Life). now) w.lives old at j (λ e s h. h)

  -- ---- rows stay with their connections

  row-stays : (p : ℕ) → Stays (slice_get old.rows p) (slice_get rows' p)
  row-stays p c x e h = (mark w.clock f.reply p x, row-then w.clock v f.reply old.rows p x e, refl, h)

  -- a row that was not given out now was there
  pub row-was : (p : ℕ) → (length old.rows ≡ p → (link : ℕ) → v ≡ event.Incoming link → conn_behind link ≡ None) → Was (slice_get old.rows p) (slice_get rows' p)
  row-was p not c y e h = by (came w.clock v f.reply old.rows p y e)
    where
      by : Came w.clock v f.reply old.rows p y → (x : EndRow) × (slice_get old.rows p ≡ Some x) × (x.side ≡ y.side) × (x.conn ≡ Some c)
      by (Old x ax z) = (x, ax, ap (λ (r : EndRow). r.side) (sym z), ap (λ (r : EndRow). r.conn) (sym z) ∙ h)
      by (Fresh side q link long g z) = absurd (given-conn v refl g)
        where
          given-conn : (u : Event) → v ≡ u → given_by w.clock u ≡ Some (new_row side q link w.clock) → ⊥
          given-conn (event.Incoming k) is g = let n : None ≡ Some c = sym (not (sym long) k is) ∙ ap (λ (r : EndRow). r.conn) (same_Some _ _ g) ∙ ap (λ (r : EndRow). r.conn) (sym z) ∙ h in cc
          given-conn (event.Dial a o) is g = let n : None ≡ Some c = ap (λ (r : EndRow). r.conn) (same_Some _ _ g) ∙ ap (λ (r : EndRow). r.conn) (sym z) ∙ h in cc
          given-conn u is g = cc

  pub all-stay : (j p : ℕ) → Stays (row_in w.lives j p) (row_in ls' j p)
  all-stay j p = changed-at (λ o. row_of_life o p) Stays (λ o c x e h. (x, e, refl, h)) i (λ (l : Life). now) w.lives old at j (λ e. row-stays p)

  pub all-were : ((link : ℕ) → v ≡ event.Incoming link → conn_behind link ≡ None) → (j p : ℕ) → Was (row_in w.lives j p) (row_in ls' j p)
  all-were not j p = changed-at (λ o. row_of_life o p) Was (λ o c x e h. (x, e, refl, h)) i (λ (l : Life). now) w.lives old at j (λ e. row-was p (λ long. not))

  -- ---- what is quiet

  pub loc : (j p : ℕ) → (i ≡ j → me ≡ p → is_given v ≡ true) → Loc w.lives ls' j p
  loc j p h = (
    changed-at (λ o. row_of_life o p) Quiet quiet-refl i (λ (l : Life). now) w.lives old at j (λ e. row-quiet laws old.node life.legal v fresh f ok p (h e) old.rows w.clock),
    changed-at (λ o. end_of_life o p) Hushed hush-refl i (λ (l : Life). now) w.lives old at j (λ e. end-hushed laws old.node life.legal v fresh f ok p (h e)),
  )

  -- a row of another connection
  pub own-row : (j p : ℕ) (x : EndRow) → i ≡ j → me ≡ p → row_in w.lives j p ≡ Some x → slice_get old.rows me ≡ Some x
  own-row j p x e q h = ap (slice_get old.rows) q ∙ sym (ap (λ o. row_of_life o p) at) ∙ ap (λ k. row_in w.lives k p) e ∙ h

  pub other-wire : (d : ℕ) (k h : Conn) → slice_get w.conns d ≡ Some k → Alike w.lives k h → ((y : ℕ) → h.accepted ≡ Some y → (k.accepted ≡ Some y) ⊎ (is_given v ≡ true)) → ((x : EndRow) → slice_get old.rows me ≡ Some x → x.conn ≡ Some d → is_given v ≡ true) → WireAt ls' h
  other-wire d k h ak a far-was free = wire-alike w.lives ls' w.conns notify-voices wired.0 wired.1 d k h ak a
      (let r = wired.0.dialled d k ak in loc k.life k.dialler (λ e q. free r.row (own-row k.life k.dialler r.row e q r.there) r.conn)) (λ y e. accepted y (far-was y e))
    where
      accepted : (y : ℕ) → (k.accepted ≡ Some y) ⊎ (is_given v ≡ true) → Loc w.lives ls' k.target y
      accepted y (inl s) = let r = wired.0.accepted d y k ak s in loc k.target y (λ e q. free r.row (own-row k.target y r.row e q r.there) r.conn)
      accepted y (inr g) = loc k.target y (λ e q. g)

  -- ---- nothing is sent on a connection

  abbrev pub Kept : List Conn → Type 0
  Kept cs' = AreWired ls' cs'

  pub silent : ((link : ℕ) → v ≡ event.Incoming link → conn_behind link ≡ None) → ((c : ℕ) (x : EndRow) → slice_get old.rows me ≡ Some x → x.conn ≡ Some c → is_given v ≡ true) → Kept w.conns
  silent not free = (
    linked-same w.lives ls' w.conns w.conns all-stay (all-were not) notify-voices (conns-same w.conns) wired.0,
    λ c k ak. other-wire c k k ak (alike-refl w.lives k) (λ y e. inl e) (free c),
  )

  -- the numbers of each row are past
  below-at : (j p : ℕ) → IsPast w.clock (marks_of (row_in w.lives j p))
  below-at j p = by (row_in w.lives j p) refl
    where
      by : (o : Option EndRow) → row_in w.lives j p ≡ o → IsPast w.clock (marks_of o)
      by None e = (refl, refl, refl)
      by (Some x) e = let g = life-there w.lives j p x e in let l = lives j g.0 g.1 in let b = l.below p x g.2 in (b.named, b.replied, b.rose)

  pub past-marks : (side : Side) (k : Conn) → IsPast w.clock (marks_of (row_of w.lives side k))
  past-marks Dialler k = below-at k.life k.dialler
  past-marks Acceptor k = by k.accepted
    where
      by : (o : Option ℕ) → IsPast w.clock (marks_of (far (row_in w.lives k.target) o))
      by None = (refl, refl, refl)
      by (Some y) = below-at k.target y
