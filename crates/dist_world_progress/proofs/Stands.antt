-- An end of a running node, and what the node's own events and those of other nodes make of it.
use Rattle.dist_world_model.specs.declared.happening.Happening.{Happening}
use Rattle.dist_world_model.proofs.Words.{◌≡◌, ℕ, suc, ◌+◌, ◌<◌, ◌≤◌, List, slice_get, Some, Ok, Option, Result, sym, ap, ◌∙◌, subst, true, arith}
use Rattle.dist_world_model.proofs.Words.{after, effect_of, step_result, node_after, Effect, Event, Setup, NodeState, AreLegal, ends_after, End, EndId, Side, NodeLaws}
use Rattle.dist_world_model.proofs.Words.{conns_after_saying, happens, most_applied, notify, without_closing, world_after, says, spoken_on}
use Rattle.dist_world_model.proofs.Words.{Conn, Life, World, EndRow, mark, rows_after, running, runs}
use Rattle.dist_world_model.proofs.{HappeningEffects.is-running, Lookups.placed, OtherRows.own-after, UnchangedRows.row-then}
use Rattle.dist_core.specs.{Node.limits_of, Step.cost_of}
use Rattle.dist_core_ends.specs.Ends.{end_id}
use Rattle.dist_world_progress.proofs.Events.{Went, spoke}

-- whose end it is: of which node, at which place its running incarnation is, the end's number and side, and the node's setup
pub record Seat : Type 0 where
  pub node : ℕ
  pub place : ℕ
  pub id : ℕ
  pub side : Side
  pub setup : Setup

-- THE END OF THIS SEAT is e, its row has connection o, so many steps are left, and P holds of its node
pub record Stand (w : World) (a : Seat) (o : Option ℕ) (e : End) (left : ℕ) (P : NodeState → Type 0) : Type 0 where
  pub life : Life
  pub runs : running w a.node ≡ Some a.place
  pub lives : slice_get w.lives a.place ≡ Some life
  pub row : EndRow
  pub beside : slice_get life.rows a.id ≡ Some row
  pub side_is : row.side ≡ a.side
  pub on : row.conn ≡ o
  pub setup : life.node.setup ≡ a.setup
  pub legal : AreLegal life.node.ends
  pub is : slice_get life.node.ends a.id ≡ Some e
  pub enough : life.node.steps + left ≤ (let l = limits_of life.node in l.steps)
  pub known : P life.node

-- nothing is asked of the node
abbrev pub Any : NodeState → Type 0
Any n = Unit {0}

-- its incarnation stays
pub stand-kept : (w x : World) (a : Seat) → running x a.node ≡ running w a.node → slice_get x.lives a.place ≡ slice_get w.lives a.place → (o : Option ℕ) (e : End) (left : ℕ) (P : NodeState → Type 0) → Stand w a o e left P → Stand x a o e left P
stand-kept w x a runs lives o e left P h = record { life = h.life; runs = runs ∙ h.runs; lives = lives ∙ h.lives; row = h.row; beside = h.beside; side_is = h.side_is; on = h.on; setup = h.setup; legal = h.legal; is = h.is; enough = h.enough; known = h.known }

-- ends stay legal
pub legal-after : (laws : NodeLaws) (n : NodeState) (v : Event) (fresh : ℕ) (f : Effect) → effect_of n v fresh ≡ Ok f → AreLegal n.ends → AreLegal (ends_after n.ends f)
legal-after laws n v fresh f ok legal = subst (λ (o : Result Effect _). AreLegal (node_after n (step_result n v o)).ends) ok (laws.step_legal n v fresh legal)

-- what an event of the end leaves: it is d, and has sent this on connection c
pub record Now (w x : World) (a : Seat) (c : ℕ) (d : End) (left : ℕ) (Q : NodeState → Type 0) (say : List ℕ) (ds : List Conn) : Type 0 where
  pub stand : Stand x a (Some c) d left Q
  pub life : Life
  pub went : Went w x a.place life 1
  pub conn : (k : Conn) → slice_get ds c ≡ Some k → slice_get x.conns c ≡ Some (says a.side say k)

-- a happening by which the end gets an event, once the connections are ds
pub now : (laws : NodeLaws) (w : World) (a : Seat) (c : ℕ) (e : End) (left : ℕ) (P : NodeState → Type 0) (h : Stand w a (Some c) e (suc left) P) → w.clock < most_applied → (v : Event) (fresh : ℕ) (f : Effect) → effect_of h.life.node v fresh ≡ Ok f → f.reply.end_ ≡ end_id a.id → cost_of v ≤ 1
    → (d : End) → f.this ≡ d → (say : List ℕ) → f.reply.say ≡ say → (Q : NodeState → Type 0) → Q (after h.life.node v f) → (hap : Happening) (ds : List Conn) → world_after (without_closing w) hap ≡ notify (record (without_closing w) { conns = ds }) a.place v fresh → Now w (happens w hap) a c d left Q say ds
now laws w a c e left P h few v fresh f ok own cost d this say said Q known hap ds is =
    let live : runs h.life ≡ true = (is-running w a.node a.place h.life h.runs h.lives).1 in
    let g = spoke w a.place h.life v fresh f h.lives live ok hap ds few is in
    let went = g.went in
    let enough = h.enough in
    let row : slice_get (rows_after w.clock v f.reply h.life.rows) a.id ≡ Some (mark w.clock f.reply a.id h.row) = row-then w.clock v f.reply h.life.rows a.id h.row h.beside in
    record {
      stand = record {
        life = _;
        runs = went.runs a.node ∙ h.runs;
        lives = went.own;
        row = _;
        beside = row;
        side_is = h.side_is;
        on = h.on;
        setup = h.setup;
        legal = legal-after laws h.life.node v fresh f ok h.legal;
        is = ap (λ (x : EndId). slice_get (ends_after h.life.node.ends f) x.0) (sym own) ∙ own-after laws h.life.node h.legal v fresh f ok ∙ ap (λ (x : End). Some x) this;
        enough = omega (arith, enough, cost);
        known = known;
      };
      life = _;
      went = went;
      conn = λ k at.
          ap (λ cs. slice_get cs c) (g.conns
          ∙ ap (λ (x : EndId). conns_after_saying ds (slice_get (rows_after w.clock v f.reply h.life.rows) x.0) f.reply.say) own
          ∙ (λ i. conns_after_saying ds (row i) (said i))
          ∙ (λ i. spoken_on ds (h.on i) (h.side_is i) say))
          ∙ placed c (says a.side say) ds k at;
    }
