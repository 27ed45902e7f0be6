-- An event that a node gets while a connection changes too: what is said and what changes there do not meet.
use Rattle.dist_core.specs.declared.event.Event.TheVariants as event
use Rattle.dist_world_model.specs.Happenings.{accept, take_frame}
use Rattle.dist_world_model.proofs.Conditions.{there, holds, succeeds}
use Rattle.dist_world_model.proofs.Words.{is_some, is_none, w16, first_body, Event, Reply, not, Side, Acceptor, Dialler, ◌≡◌, ℕ, zero, suc, Bool, true, false}
use Rattle.dist_world_model.proofs.Words.{cond, List, [], ◌∷◌, slice_get, Some, None, Ok, Option, option_map, sym, refl, ap, ◌∙◌, EndId, NodeState, step}
use Rattle.dist_world_model.proofs.Words.{body_taken, change_to, conns_after_saying, says, text_to, accepted_by, life_after, next_end, notify, without_closing}
use Rattle.dist_world_model.proofs.Words.{at_place, EndRow, rows_after, Conn, Life, World, row_of_life, running, runs}
use Rattle.dist_world_lives.specs.{Notifying.event_wire, Notifying.HasNotified, Stepping.wire_of, Stepping.conns_after, Wires.unaccepted_target, Wires.front_at}
use Rattle.dist_world_lives.specs.declared.stepping.LifeStep.{LifeStep}
use Rattle.dist_world_lives.proofs.Wired.{AreOwn, as_wired}

notified_is : (w : World) (i : ℕ) (v : Event) (fresh : ℕ) (l : Life) (r : Reply) (n : NodeState) → slice_get w.lives i ≡ Some l → runs l ≡ true → step l.node v fresh ≡ Ok (r, n)
    → notify w i v fresh ≡ Some (record w { lives = at_place i (λ old. life_after w.clock v r n l) w.lives; conns = conns_after_saying w.conns (slice_get (rows_after w.clock v r l.rows) r.end_.0) r.say; last_closed = option_map (λ y. (l.who, y)) r.closed })
notified_is w i v fresh l r n at run stepped = there (slice_get w.lives i) l _ at ∙ (holds (runs l) _ run ∙ succeeds (step l.node v fresh) (r, n) _ stepped)

swap : (f g : Conn → Conn) → ((x : Conn) → f (g x) ≡ g (f x)) → (cs : List Conn) (i : ℕ) → at_place i f (at_place i g cs) ≡ at_place i g (at_place i f cs)
swap f g h [] i = refl
swap f g h (x ∷ cs) zero = ap (λ y. y ∷ cs) (h x)
swap f g h (x ∷ cs) (suc i) = ap (λ ys. x ∷ ys) (swap f g h cs i)

module _ (are : AreOwn) (w : World) (c i fresh : ℕ) (side : Side) (v : Event) (who : ℕ) (h : LifeStep) (new : List Life) (said : List Conn) (k : HasNotified who h i w.clock v fresh w.lives new w.conns said) (wired : event_wire k.life.rows v ≡ Some (side, c)) where
  said_there : said ≡ at_place c (says side k.reply.say) w.conns
  said_there = k.spoken_ ∙ (as_wired w.clock k.reply k.life.rows w.conns are k.life.node v fresh k.node k.stepped ∙ ap (λ o. conns_after w.conns o k.reply.say) wired)

  pub notified_marked : (g : Conn → Conn) → ((s : List ℕ) (x : Conn) → says side s (g x) ≡ g (says side s x)) → notify (record (without_closing w) { conns = at_place c g w.conns }) i v fresh ≡ Some (record { setups = w.setups; lives = new; conns = at_place c g said; clock = w.clock; last_closed = option_map (λ y. (who, y)) h.closed })
  notified_marked g apart =
      let r = k.reply in
      let there : conns_after_saying (at_place c g w.conns) (slice_get (rows_after w.clock v r k.life.rows) r.end_.0) r.say ≡ at_place c g said =
      as_wired w.clock r k.life.rows (at_place c g w.conns) are k.life.node v fresh k.node k.stepped
      ∙ (ap (λ o. conns_after (at_place c g w.conns) o r.say) wired
      ∙ (swap (says side r.say) g (apart r.say) w.conns c ∙ ap (at_place c g) (sym said_there))) in
      let shut : option_map (λ y. (let l = k.life in l.who, y)) r.closed ≡ option_map (λ y. (who, y)) h.closed = λ j. option_map (λ y. (sym k.whose j, y)) (let x : LifeStep = sym k.made j in x.closed) in
      notified_is (record (without_closing w) { conns = at_place c g w.conns }) i v fresh k.life r k.node k.there k.running k.stepped
      ∙ (λ j. Some (record { setups = w.setups; lives = sym k.lived_ j; conns = there j; clock = w.clock; last_closed = shut j }))

-- ---- a connection that is accepted

-- where a connection leads to that was not accepted yet
record LeadsTo (o : Option Conn) (target : ℕ) : Type 0 where
  conn : Conn
  there_ : o ≡ Some conn
  free : is_none conn.accepted ≡ true
  leads : conn.target ≡ target

leads_to : (o : Option Conn) (target : ℕ) → unaccepted_target o ≡ Some target → LeadsTo o target
leads_to None target e = absurd cc
leads_to (Some x) target e = by (is_some x.accepted) refl e
  where
    by : (b : Bool) → is_some x.accepted ≡ b → cond b None (Some x.target) ≡ Some target → LeadsTo (Some x) target
    by true is e = absurd cc
    by false is e = record { conn = x; there_ = refl; free = ap not is; leads = cc }

accepting : (w : World) (c target : ℕ) → unaccepted_target (slice_get w.conns c) ≡ Some target
    → accept (without_closing w) c ≡ notify (record (without_closing w) { conns = at_place c (accepted_by (next_end (slice_get w.lives target))) w.conns }) target (event.Incoming c) 0
accepting w c target e =
    let k = leads_to (slice_get w.conns c) target e in
    let x = k.conn in
    there (slice_get w.conns c) x _ k.there_
    ∙ (holds (is_none x.accepted) _ k.free
    ∙ ap (λ j. notify (record (without_closing w) { conns = at_place c (accepted_by (next_end (slice_get w.lives j))) w.conns }) j (event.Incoming c) 0) k.leads)

accepts_apart : (y : ℕ) (s : List ℕ) (x : Conn) → says Acceptor s (accepted_by y x) ≡ accepted_by y (says Acceptor s x)
accepts_apart y s x = refl

pub accepted_is : AreOwn → (w : World) (c target who : ℕ) (h : LifeStep) (new : List Life) (said : List Conn) → unaccepted_target (slice_get w.conns c) ≡ Some target → HasNotified who h target w.clock (event.Incoming c) 0 w.lives new w.conns said
    → accept (without_closing w) c ≡ Some (record { setups = w.setups; lives = new; conns = at_place c (accepted_by h.end_.0) said; clock = w.clock; last_closed = option_map (λ y. (who, y)) h.closed })
accepted_is are w c target who h new said free k =
    let given = are k.life.node (event.Incoming c) 0 k.reply k.node k.stepped in
    let next : next_end (slice_get w.lives target) ≡ h.end_.0 = ap next_end k.there ∙ (ap (λ (x : EndId). x.0) (sym given.0) ∙ ap (λ (x : LifeStep). x.end_.0) (sym k.made)) in
    accepting w c target free
    ∙ (ap (λ y. notify (record (without_closing w) { conns = at_place c (accepted_by y) w.conns }) target (event.Incoming c) 0) next
    ∙ notified_marked are w c target 0 Acceptor (event.Incoming c) who h new said k refl (accepted_by h.end_.0) (accepts_apart h.end_.0))

-- ---- a body that is taken

-- a row whose end is this side of this connection
record IsWired (o : Option EndRow) (side : Side) (c : ℕ) : Type 0 where
  row : EndRow
  there_ : o ≡ Some row
  on : row.conn ≡ Some c
  by_side : row.side ≡ side

is_wired : (o : Option EndRow) (side : Side) (c : ℕ) → wire_of o ≡ Some (side, c) → IsWired o side c
is_wired None side c e = absurd cc
is_wired (Some row) side c e = by row.conn refl e
  where
    by : (o : Option ℕ) → row.conn ≡ o → option_map {U = Side × ℕ} (λ n. (row.side, n)) o ≡ Some (side, c) → IsWired (Some row) side c
    by None is e = absurd cc
    by (Some n) is e =
        let p : ◌≡◌ {A = Side × ℕ} (row.side, n) (side, c) = cc in
        record { row = row; there_ = refl; on = is ∙ ap (λ (x : Side × ℕ). Some x.1) p; by_side = ap (λ (x : Side × ℕ). x.0) p }

-- a connection at the front of whose text this body stands
record HasFront (o : Option Conn) (side : Side) (body : List ℕ) : Type 0 where
  conn : Conn
  there_ : o ≡ Some conn
  first : first_body w16 (let t = text_to side conn in t.come) ≡ Some body

has_front : (o : Option Conn) (side : Side) (body : List ℕ) → front_at o side ≡ Some body → HasFront o side body
has_front None side body e = absurd cc
has_front (Some x) side body e = record { conn = x; there_ = refl; first = e }

taking : (w : World) (node place c fresh : ℕ) (id : EndId) (side : Side) (body : List ℕ) → running w node ≡ Some place → wire_of (row_of_life (slice_get w.lives place) id.0) ≡ Some (side, c) → front_at (slice_get w.conns c) side ≡ Some body
    → take_frame (without_closing w) node id fresh ≡ notify (record (without_closing w) { conns = at_place c (change_to side body_taken) w.conns }) place (event.Frame id body) fresh
taking w node place c fresh id side body run placed first =
    let r = is_wired (row_of_life (slice_get w.lives place) id.0) side c placed in
    let row = r.row in
    let k = has_front (slice_get w.conns c) side body first in
    let x = k.conn in
    there (running w node) place _ run
    ∙ (there (row_of_life (slice_get w.lives place) id.0) row _ r.there_
    ∙ (there row.conn c _ r.on
    ∙ (there (slice_get w.conns c) x _ k.there_
    ∙ (there (let t = text_to row.side x in first_body w16 t.come) body _ (ap (λ s. (let t = text_to s x in first_body w16 t.come)) r.by_side ∙ k.first)
    ∙ ap (λ s. notify (record (without_closing w) { conns = at_place c (change_to s body_taken) w.conns }) place (event.Frame id body) fresh) r.by_side))))

takes_apart : (side : Side) (s : List ℕ) (x : Conn) → says side s (change_to side body_taken x) ≡ change_to side body_taken (says side s x)
takes_apart Dialler s x = refl
takes_apart Acceptor s x = refl

module _ (are : AreOwn) (w : World) (node place c fresh : ℕ) (id : EndId) (side : Side) (body : List ℕ) (who : ℕ) (h : LifeStep) (new : List Life) (said : List Conn) (run : running w node ≡ Some place) (placed : wire_of (row_of_life (slice_get w.lives place) id.0) ≡ Some (side, c)) (first : front_at (slice_get w.conns c) side ≡ Some body) (k : HasNotified who h place w.clock (event.Frame id body) fresh w.lives new w.conns said) where
  wired : event_wire k.life.rows (event.Frame id body) ≡ Some (side, c)
  wired = sym (ap (λ o. wire_of (row_of_life o id.0)) k.there) ∙ placed

  pub taken_is : take_frame (without_closing w) node id fresh ≡ Some (record { setups = w.setups; lives = new; conns = at_place c (change_to side body_taken) said; clock = w.clock; last_closed = option_map (λ y. (who, y)) h.closed })
  taken_is = taking w node place c fresh id side body run placed first ∙ notified_marked are w c place fresh side (event.Frame id body) who h new said k wired (change_to side body_taken) (takes_apart side)
