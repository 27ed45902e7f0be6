-- What a happening at one incarnation leaves of a world.
use Rattle.dist_world_model.specs.declared.happening.Happening.{Happening}
use Rattle.dist_world_model.proofs.Words.{◌≡◌, ℕ, ◌+◌, ◌<◌, ◌≤◌, not, ◌&&◌, cond, eqb, is_some, List, slice_get, Some, None, Ok, sym, refl, ap, ◌∙◌, true, ◌≢◌, arith}
use Rattle.dist_world_model.proofs.Words.{lt-ltb, same_Some, after, effect_of, step, step_result, Effect, Event}
use Rattle.dist_world_model.proofs.Words.{conns_after_saying, happens, life_after, most_applied, notify, ticked_on, without_closing, world_after, at_place, first_where}
use Rattle.dist_world_model.proofs.Words.{Conn, Life, World, running, runs, runs_for, option_map}
use Rattle.dist_world_model.proofs.{Conditions.holds, Conditions.succeeds, Conditions.there, Lookups.placed, Lookups.unplaced}
use Rattle.dist_world_progress.proofs.Deciding.{first-same}

-- ---- one incarnation has changed, and no node began or ended

-- x is the world w but for incarnation i, which is l now, and for its connections; at most t happenings applied
pub record Went (w x : World) (i : ℕ) (l : Life) (t : ℕ) : Type 0 where
  pub own : slice_get x.lives i ≡ Some l
  pub others : (j : ℕ) → i ≢ j → slice_get x.lives j ≡ slice_get w.lives j
  pub runs : (node : ℕ) → running x node ≡ running w node
  pub setups : x.setups ≡ w.setups
  pub clock : x.clock ≤ w.clock + t

pub went-none : (w : World) (i : ℕ) (l : Life) → slice_get w.lives i ≡ Some l → Went w w i l 0
went-none w i l at = record { own = at; others = λ j n. refl; runs = λ node. refl; setups = refl; clock = omega arith }

pub went-then : (w x z : World) (i : ℕ) (l m : Life) (s t : ℕ) → Went w x i l s → Went x z i m t → Went w z i m (s + t)
went-then w x z i l m s t a b = record {
  own = b.own;
  others = λ j n. b.others j n ∙ a.others j n;
  runs = λ node. b.runs node ∙ a.runs node;
  setups = b.setups ∙ a.setups;
  clock = (let p = a.clock in let q = b.clock in omega (arith, p, q));
}

-- incarnation i, which was l, is changed by g
pub went-by : (w x : World) (i : ℕ) (l : Life) (g : Life → Life) → slice_get w.lives i ≡ Some l → x.lives ≡ at_place i g w.lives → (g l).who ≡ l.who → (g l).over ≡ l.over → x.setups ≡ w.setups → x.clock ≡ w.clock + 1 → Went w x i (g l) 1
went-by w x i l g at is who over setups clock = record {
  own = ap (λ ls. slice_get ls i) is ∙ placed i g w.lives l at;
  others = λ j n. ap (λ ls. slice_get ls j) is ∙ unplaced i g w.lives j n;
  runs = λ node. ap (first_where (runs_for node)) is ∙ first-same (runs_for node) i g w.lives (λ z e. let same : z ≡ l = same_Some z l (sym e ∙ at) in
      ap (λ (z : Life). runs_for node (g z)) same ∙ (λ k. eqb (who k) node && not (is_some (over k))) ∙ ap (runs_for node) (sym same));
  setups = setups;
  clock = omega (arith, clock);
}

-- ---- an event

module _ (w : World) (i : ℕ) (l : Life) (v : Event) (fresh : ℕ) (f : Effect) (at : slice_get w.lives i ≡ Some l) (live : runs l ≡ true) (ok : effect_of l.node v fresh ≡ Ok f) where
  -- the incarnation after it
  abbrev pub now : Life
  now = life_after w.clock v f.reply (after l.node v f) l

  abbrev pub spoken : List Conn → List Conn
  spoken ds = conns_after_saying ds (slice_get now.rows f.reply.end_.0) f.reply.say

  abbrev next : List Conn → World
  next ds = record w { lives = at_place i (λ old. now) w.lives; conns = spoken ds; last_closed = option_map (λ closed. (l.who, closed)) f.reply.closed }

  notified : (ds : List Conn) → notify (record (without_closing w) { conns = ds }) i v fresh ≡ Some (next ds)
  notified ds = there (slice_get w.lives i) l _ at ∙ holds (runs l) _ live ∙ succeeds (step l.node v fresh) (f.reply, after l.node v f) _ (ap (step_result l.node v) ok)

  pub record Spoke (h : Happening) (ds : List Conn) : Type 0 where
    pub went : Went w (happens w h) i now 1
    pub conns : (happens w h).conns ≡ spoken ds

  pub spoke : (h : Happening) (ds : List Conn) → w.clock < most_applied → world_after (without_closing w) h ≡ notify (record (without_closing w) { conns = ds }) i v fresh → Spoke h ds
  spoke h ds few is =
      let e : happens w h ≡ record (next ds) { clock = w.clock + 1 } = ap (ticked_on w) (ap (λ b. cond b (world_after (without_closing w) h) None) (lt-ltb w.clock most_applied few) ∙ is ∙ notified ds) in
      record {
        went = went-by w (happens w h) i l (λ old. now) at (ap (λ (x : World). x.lives) e) refl refl (ap (λ (x : World). x.setups) e) (ap (λ (x : World). x.clock) e);
        conns = ap (λ (x : World). x.conns) e;
      }
