-- Two running nodes that fit can connect.
use Rattle.dist_world_model.specs.declared.happening.Happening.{Happening}
use Rattle.dist_world_model.proofs.Words.{◌≡◌, ℕ, ◌+◌, ◌<◌, ◌≤◌, ◌≢◌, Bool, true, false, List, [], ◌∷◌, ◌++◌, length, slice_get, Some, None, sym, refl, ap, ◌∙◌, same_Some, length-append}
use Rattle.dist_world_model.proofs.Words.{subst, arith, inl, inr, ◌^◌, Setup, NodeState, NodeLaws, Dialler, Name, Entry, Option, entry_in, fresh_attempt, AreSetups, AllFit, AllByRecursion}
use Rattle.dist_world_model.proofs.Words.{happens, run, empty, says, accepted_by, new_conn, Conn, Life, World, IsUp, most_applied, most_connections, running}
use Rattle.dist_world_model.proofs.Lookups.{placed}
use Rattle.dist_world_model.proofs.{HappeningEffects.fit-append, HappeningEffects.is-running, HappeningEffects.run-append, WorldFacts.IsKept, WorldFacts.kept}
use Rattle.dist_world_model.specs.declared.happening.Happening.TheVariants as happening
use Rattle.dist_names.specs.Order.{same_name}
use Rattle.dist_core_ends.specs.Ends.{end_id}
use Rattle.dist_core_ends.specs.declared.known.End.TheVariants as ends
use Rattle.dist_core_setup.specs.Saying.{name_text}
use Rattle.dist_core.specs.Effects.{form_of}
use Rattle.dist_world_progress.specs.Connecting.{CanConnect, Fit, IsLossBetween, IsLossOf, IsTalkBetween, NodesCanConnect, NodesCanReturn, yields_to}
use Rattle.dist_world_progress.proofs.Exchange.{Front, Risen, Starts, begun, ended, ending, ending-fits, ending-talks, front, reach-most, reach_in, up-x, up-y}
use Rattle.dist_world_progress.proofs.Fitting.{Handshake, fitting}
use Rattle.dist_core_laws.specs.Laws.{IsWithinLimits}
use Rattle.dist_world_progress.proofs.Bounds.{bounded}
use Rattle.dist_world_progress.proofs.Losing.{all-append, all-map, freed, kept-on}
use Rattle.dist_world_progress.proofs.Losses.{IsRoomy}
use Rattle.dist_world_progress.proofs.Meeting.{IsFor, IsOpenTo, accepted, dialled, named, next_seat, reached}
use Rattle.dist_world_progress.proofs.Stands.{Any, Seat, stand-kept}
use Rattle.dist_world_progress.proofs.Talks.{Link}

-- different nodes have different names
pub names-apart : (laws : NodeLaws) (w : World) → IsKept w → (x y : ℕ) (ox oy : Setup) → x ≢ y → slice_get w.setups x ≡ Some ox → slice_get w.setups y ≡ Some oy → same_name oy.name ox.name ≡ false
names-apart laws w kept x y ox oy differ ax ay = by (same_name oy.name ox.name) refl
  where
    by : (b : Bool) → same_name oy.name ox.name ≡ b → same_name oy.name ox.name ≡ false
    by false e = e
    by true e = absurd (differ (sym (let k = kept.setups in k.distinct y x oy ox ay ax (laws.names.one_name oy.name ox.name e))))

-- the setup with which a running node's name agrees
pub own-setup : (w : World) → IsKept w → (x p : ℕ) (l : Life) → running w x ≡ Some p → slice_get w.lives p ≡ Some l → (s : Setup) × (slice_get w.setups x ≡ Some s) × (l.node.setup.name ≡ s.name)
own-setup w kept x p l r at = let o = kept.owns p l at in (o.setup, ap (slice_get w.setups) (sym (is-running w x p l r at).0) ∙ o.there, o.name)

-- the node answers p without a loss; this is the entry that it has
pub record Answers (p : Name) (o : Option Entry) (n : NodeState) : Type 0 where
  pub open_ : IsOpenTo n
  pub entry : IsFor p o n
  pub yields : yields_to n.setup.name p o ≡ true

-- ---- where x is idle for y

module _ (laws : NodeLaws) (w : World) (kept : IsKept w) (x y p q : ℕ) (l m : Life) (rx : running w x ≡ Some p) (ry : running w y ≡ Some q) (al : slice_get w.lives p ≡ Some l) (am : slice_get w.lives q ≡ Some m) (apart : p ≢ q) (differ : x ≢ y)
    (room : IsRoomy l.node) (idle : entry_in l.node.ends m.node.setup.name ≡ None) (o : Option Entry) (answers : Answers l.node.setup.name o m.node) (fit : Fit l.node.setup m.node.setup) (conns : length w.conns < most_connections) (few : w.clock + (reach_in o + 9) ≤ most_applied) (cx cy : ℕ) (small-x : cx < 2 ^ 32) (small-y : cy < 2 ^ 32) where
  abbrev sx : Setup
  sx = l.node.setup

  abbrev sy : Setup
  sy = m.node.setup

  other-name : same_name sy.name sx.name ≡ false
  other-name =
      let a = own-setup w kept x p l rx al in
      let b = own-setup w kept y q m ry am in
      (λ i. same_name (b.2 i) (a.2 i)) ∙ names-apart laws w kept x y a.0 b.0 differ a.1 b.1

  hs : Handshake sx sy
  hs = fitting laws sx sy (kept.fits p l al) (kept.fits q m am) other-name fit.allowed fit

  abbrev i : ℕ
  i = length l.node.ends

  abbrev j : ℕ
  j = length m.node.ends

  abbrev link : ℕ → Link
  link c = record { x = x; y = y; p = p; q = q; i = i; j = j; c = c; sx = sx; sy = sy; setups = w.setups; apart = apart }

  -- connected, and the name is on its way
  record Met : Type 0 where
    begin : List Happening
    few_begin : length begin ≤ 4
    fit_begin : AllFit begin
    c : ℕ
    talk_begin : AllByRecursion (IsTalkBetween x y sy.name c) begin
    starts : Starts laws (link c) cx cy small-x small-y fit.cookie hs (run begin w) o (reach_in o)

  met : Met
  met =
      let h1 : Happening = happening.Dial x sy.name hs.opens in
      let h2 : Happening = happening.Reach x (end_id i) y in
      let h3 : Happening = happening.Opened x (end_id i) in
      let w1 : World = happens w h1 in
      let w2 : World = happens w1 h2 in
      let w3 : World = happens w2 h3 in
      let c : ℕ = length w1.conns in
      let h4 : Happening = happening.Accept c in
      let w4 : World = happens w3 h4 in
      let a = dialled laws w kept x p l rx al (omega (arith, few)) sy.name hs.opens idle room in
      let a-went = a.went in
      let a-clock = a-went.clock in
      let a-conns = a.long in
      let seat : Seat = next_seat x p Dialler l in
      let b = reached w1 seat y q (ends.Attempt (fresh_attempt sy.name hs.opens)) 4 a.stand refl (a-went.runs y ∙ ry) (omega (arith, few, a-clock)) (omega (arith, conns, a-conns)) in
      let b-went = b.went in
      let b-clock = b-went.clock in
      let n = named laws w2 seat c sy.name hs.opens b.stand (omega (arith, few, a-clock, b-clock)) in
      let n-went = n.went in
      let n-clock = n-went.clock in
      let k : Conn = says Dialler (name_text sx (form_of hs.opens)) (new_conn p i q) in
      let ak = n.conn (new_conn p i q) b.conn in
      let kept3 = kept-on laws (h1 ∷ h2 ∷ h3 ∷ []) w (tt, (tt, (tt, tt))) kept in
      let e = accepted laws w3 kept3 y q c m (n-went.runs y ∙ b-went.runs y ∙ a-went.runs y ∙ ry) (n-went.others q apart ∙ b-went.others q apart ∙ a-went.others q apart ∙ am) (omega (arith, few, a-clock, b-clock, n-clock)) sx.name o answers.entry answers.open_ k ak refl refl in
      let e-went = e.went in
      let e-clock = e-went.clock in
      record {
        begin = h1 ∷ h2 ∷ h3 ∷ h4 ∷ [];
        few_begin = omega arith;
        fit_begin = (tt, (tt, (tt, (tt, tt))));
        c = c;
        talk_begin = ((refl, refl), ((refl, refl), (refl, (refl, tt))));
        starts = record {
          dialled = stand-kept w3 w4 seat (e-went.runs x) (e-went.others p (λ z. apart (sym z))) (Some c) (begun laws (link c) cx cy small-x small-y fit.cookie hs) 3 Any n.stand;
          accepted = e.stand;
          conn = e.conn c refl (accepted_by j k) (placed c (accepted_by j) w3.conns k ak);
          few = omega (arith, few, a-clock, b-clock, n-clock, e-clock);
          setups = e-went.setups ∙ n-went.setups ∙ b-went.setups ∙ a-went.setups;
        };
      }

  abbrev t : Link
  t = link met.c

  told : Front laws t cx cy small-x small-y fit.cookie hs (run met.begin w) (reach_in o)
  told = front laws t cx cy small-x small-y fit.cookie hs o answers.yields (run met.begin w) met.starts

  abbrev last : List Happening
  last = ending laws t cx cy small-x small-y fit.cookie hs

  risen : Risen (run (met.begin ++ (told.begin ++ last)) w) t (up-x laws sx sy cx cy fit.cookie hs) (up-y laws sx sy cx cy fit.cookie hs) told.left
  risen = subst (λ z. Risen z t (up-x laws sx sy cx cy fit.cookie hs) (up-y laws sx sy cx cy fit.cookie hs) told.left) (sym (run-append met.begin (told.begin ++ last) w ∙ run-append told.begin last (run met.begin w)))
      (ended laws t cx cy small-x small-y fit.cookie hs (run told.begin (run met.begin w)) told.left told.leads)

  -- after these both are up
  pub record Up : Type 0 where
    pub talk : List Happening
    pub few_talk : length talk ≤ reach_in o + 9
    pub talk_fit : AllFit talk
    pub c : ℕ
    pub talks : AllByRecursion (IsTalkBetween x y sy.name c) talk
    pub at_x : IsUp (run talk w) x y c
    pub at_y : IsUp (run talk w) y x c
    pub drawn_x : at_x.kept.challenge ≡ cx
    pub drawn_y : at_y.kept.challenge ≡ cy

  pub meet : Up
  meet =
      let g = risen in
      let d = g.dialled in
      let e = g.accepted in
      let a = own-setup w kept x p l rx al in
      let b = own-setup w kept y q m ry am in
      let f = met.few_begin in
      let k = told.few_begin in
      record {
        talk = met.begin ++ (told.begin ++ last);
        few_talk = omega (arith, f, k, length-append met.begin (told.begin ++ last), length-append told.begin last);
        talk_fit = fit-append met.begin (told.begin ++ last) met.fit_begin (fit-append told.begin last told.fit_begin (ending-fits laws t cx cy small-x small-y fit.cookie hs));
        c = met.c;
        talks = all-append (IsTalkBetween x y sy.name met.c) met.begin (told.begin ++ last) met.talk_begin (all-append (IsTalkBetween x y sy.name met.c) told.begin last told.talk_begin (ending-talks laws t cx cy small-x small-y fit.cookie hs));
        at_x = record { place = p; life = d.life; id = i; kept = up-x laws sx sy cx cy fit.cookie hs; row = d.row; other = b.0; runs = d.runs; lives = d.lives; is_up = d.is; beside = d.beside; on = d.on; named = ap (λ ss. slice_get ss y) g.setups ∙ b.1; peer = b.2 };
        at_y = record { place = q; life = e.life; id = j; kept = up-y laws sx sy cx cy fit.cookie hs; row = e.row; other = a.0; runs = e.runs; lives = e.lives; is_up = e.is; beside = e.beside; on = e.on; named = ap (λ ss. slice_get ss x) g.setups ∙ a.1; peer = a.2 };
        drawn_x = refl;
        drawn_y = refl;
      }

-- ---- from every world that can be

-- both are up after some losses, and what then brings them up
after-losses : (w v : World) (x y : ℕ) (p : Name) (cx cy : ℕ) (IsLoss : Happening → Type 0) (a b : ℕ) (hs : List Happening) → v ≡ run hs w → length hs ≤ a → AllFit hs → AllByRecursion IsLoss hs → (gs : List Happening) → length gs ≤ b → AllFit gs → (c : ℕ) → AllByRecursion (IsTalkBetween x y p c) gs
    → (u : IsUp (run gs v) x y c) (r : IsUp (run gs v) y x c) → u.kept.challenge ≡ cx → r.kept.challenge ≡ cy → CanConnect w x y p cx cy IsLoss a b
after-losses w v x y p cx cy IsLoss a b hs e few-hs fit-hs lost gs few-gs fit-gs c talks u r dx dy =
    let P : World → ℕ → ℕ → ℕ → Type 0 = λ z x y k. (u : IsUp z x y c) × (u.kept.challenge ≡ k) in
    let whole : run gs v ≡ run (hs ++ gs) w = ap (run gs) e ∙ sym (run-append hs gs w) in
    let at-x = subst (λ z. P z x y cx) whole (u, dx) in
    let at-y = subst (λ z. P z y x cy) whole (r, dy) in
    record { losses = hs; talk = gs; few_losses = few-hs; few = few-gs; fit = fit-append hs gs fit-hs fit-gs; c = c; lost = lost; talks = talks; at_x = at-x.0; at_y = at-y.0; drawn_x = at-x.1; drawn_y = at-y.1 }

-- two incarnations of different nodes stand at different places
places-apart : (w : World) (x y p q : ℕ) (l m : Life) → x ≢ y → running w x ≡ Some p → running w y ≡ Some q → slice_get w.lives p ≡ Some l → slice_get w.lives q ≡ Some m → p ≢ q
places-apart w x y p q l m differ rx ry al am e = differ (sym (is-running w x p l rx al).0 ∙ ap (λ (z : Life). z.who) (same_Some l m (sym al ∙ ap (slice_get w.lives) e ∙ am)) ∙ (is-running w y q m ry am).0)

module _ (laws : NodeLaws) (w : World) (kept : IsKept w) (within : (i : ℕ) (l : Life) → slice_get w.lives i ≡ Some l → IsWithinLimits l.node) where
  connect : NodesCanConnect w
  connect x y l m cx cy ready room-x room-y =
      let hx = ready.runs_x in
      let hy = ready.runs_y in
      let p : ℕ = hx.place in
      let q : ℕ = hy.place in
      let few = ready.clock in
      let conns = ready.conns in
      let apart = places-apart w x y p q l m ready.apart hx.runs hy.runs hx.lives hy.lives in
      let one = freed laws w kept x p l hx.runs hx.lives (within p l hx.lives) m.node.setup.name room-x (omega (arith, few)) in
      let a = one.losses in
      let a-went = a.went in
      let a-clock = a-went.clock in
      let w1 : World = run a.hs w in
      let kept1 = kept-on laws a.hs w a.fit kept in
      let two = freed laws w1 kept1 y q m (a-went.runs y ∙ hy.runs) (a-went.others q apart ∙ hy.lives) (within q m hy.lives) l.node.setup.name room-y (omega (arith, few, a-clock)) in
      let b = two.losses in
      let b-went = b.went in
      let b-clock = b-went.clock in
      let w2 : World = run b.hs w1 in
      let a-conns = a.conns in
      let b-conns = b.conns in
      let a-few = a.few in
      let b-few = b.few in
      let room-b = two.room in
      let names : (s : Setup) → s ≡ l.node.setup → entry_in b.life.node.ends s.name ≡ None = λ s e. ap (λ (s : Setup). entry_in b.life.node.ends s.name) e ∙ two.idle in
      let up = meet laws w2 (kept-on laws b.hs w1 b.fit kept1) x y p q a.life b.life (b-went.runs x ∙ a-went.runs x ∙ hx.runs) (b-went.runs y ∙ a-went.runs y ∙ hy.runs) (b-went.others p (λ e. apart (sym e)) ∙ a-went.own) b-went.own apart ready.apart one.room
      (ap (λ (s : Setup). entry_in a.life.node.ends s.name) b.setup ∙ one.idle) None (record { open_ = record { steps = room-b.steps; numbers = room-b.numbers; open_ends = room-b.open_ends }; entry = (names a.life.node.setup a.setup, room-b.entries); yields = refl })
      (subst (λ s. Fit s b.life.node.setup) (sym a.setup) (subst (λ s. Fit l.node.setup s) (sym b.setup) ready.fit)) (omega (arith, conns, a-conns, b-conns)) (omega (arith, few, a-clock, b-clock)) cx cy ready.drawn_x ready.drawn_y in
      after-losses w w2 x y m.node.setup.name cx cy (IsLossBetween x l.node y m.node) 4 13 (a.hs ++ b.hs) (sym (run-append a.hs b.hs w)) (omega (arith, a-few, b-few, length-append a.hs b.hs)) (fit-append a.hs b.hs a.fit b.fit)
      (all-append (IsLossBetween x l.node y m.node) a.hs b.hs (all-map (IsLossOf x m.node.setup.name l.node) (IsLossBetween x l.node y m.node) (λ h k. inl k) a.hs a.lost) (all-map (IsLossOf y l.node.setup.name m.node) (IsLossBetween x l.node y m.node) (λ h k. inr k) b.hs b.lost))
      up.talk up.few_talk up.talk_fit up.c (subst (λ (s : Setup). AllByRecursion (IsTalkBetween x y s.name up.c) up.talk) b.setup up.talks) up.at_x up.at_y up.drawn_x up.drawn_y

  return_ : NodesCanReturn w
  return_ x y l m cx cy ready room-x receives =
      let hx = ready.runs_x in
      let hy = ready.runs_y in
      let p : ℕ = hx.place in
      let q : ℕ = hy.place in
      let few = ready.clock in
      let conns = ready.conns in
      let apart = places-apart w x y p q l m ready.apart hx.runs hy.runs hx.lives hy.lives in
      let one = freed laws w kept x p l hx.runs hx.lives (within p l hx.lives) m.node.setup.name room-x (omega (arith, few)) in
      let a = one.losses in
      let went = a.went in
      let clock = went.clock in
      let w1 : World = run a.hs w in
      let a-conns = a.conns in
      let o : Option Entry = entry_in m.node.ends l.node.setup.name in
      let most = reach-most o in
      let names = ap (λ (s : Setup). entry_in m.node.ends s.name) a.setup in
      let up = meet laws w1 (kept-on laws a.hs w a.fit kept) x y p q a.life m (went.runs x ∙ hx.runs) (went.runs y ∙ hy.runs) went.own (went.others q apart ∙ hy.lives) apart ready.apart one.room one.idle o
      (record { open_ = record { steps = receives.steps; numbers = receives.numbers; open_ends = receives.open_ends }; entry = (names, receives.entries); yields = ap (λ (s : Setup). yields_to m.node.setup.name s.name o) a.setup ∙ receives.yields })
      (subst (λ s. Fit s m.node.setup) (sym a.setup) ready.fit) (omega (arith, conns, a-conns)) (omega (arith, few, clock, most)) cx cy ready.drawn_x ready.drawn_y in
      let few-talk = up.few_talk in
      after-losses w w1 x y m.node.setup.name cx cy (IsLossOf x m.node.setup.name l.node) 2 16 a.hs refl a.few a.fit a.lost up.talk (omega (arith, few-talk, most)) up.talk_fit up.c up.talks up.at_x up.at_y up.drawn_x up.drawn_y

pub can_connect : NodeLaws → (ss : List Setup) (hs : List Happening) → AreSetups ss → AllFit hs → NodesCanConnect (run hs (empty ss))
can_connect laws ss hs good fit = connect laws (run hs (empty ss)) (kept laws ss hs good fit) (λ i l at. (let b = bounded laws ss hs i l at in b.within))

pub can_return : NodeLaws → (ss : List Setup) (hs : List Happening) → AreSetups ss → AllFit hs → NodesCanReturn (run hs (empty ss))
can_return laws ss hs good fit = return_ laws (run hs (empty ss)) (kept laws ss hs good fit) (λ i l at. (let b = bounded laws ss hs i l at in b.within))
