-- Each end of a running incarnation that is up has a connection, or came up by what somebody outside did.
use Rattle.dist_world_model.proofs.Words.{◌≡◌, ℕ, true, false, cond, eqb, List, IfSome, slice_get, Some, None, Ok, Option}
use Rattle.dist_world_model.proofs.Words.{option_map, sym, refl, ap, ◌∙◌, subst, inl, inr, ◌⊎◌, [], ◌∷◌, eqb-true, false≢true, EndId, other_view, End, UpRecord}
use Rattle.dist_world_model.proofs.Words.{Name, Setup, NodeState, StepRow, after, after_change, ends_after, effect_of}
use Rattle.dist_world_model.proofs.Words.{step_result, Effect, Event, conn_of, reached_life, with_node, AllLives, UpsAreLinked, NodeLaws}
use Rattle.dist_world_model.proofs.Words.{EndRow, rows_after, run, Life, World, empty, row_of_life, running, runs, Happening, applied_at}
use Rattle.dist_world_model.proofs.Words.{happens, ticked_on, without_closing, Counts, NoImpostors}
use Rattle.dist_world_model.proofs.{EndStates.Beside, IncarnationFacts.IsLife, LastingFacts.life_keeps, OtherRows.end-after, Places.at-more, Places.at-one}
use Rattle.dist_world_model.proofs.EventEnds.{named-end, other-not-up, up-own}
use Rattle.dist_world_model.proofs.HappeningEffects.{Accepts, Act, Acted, Begins, Comes, Ends, IsPlain, Plain, Reaches, Ready, Reports, Resets, Strange, Takes, acts}
use Rattle.dist_world_model.proofs.HappeningEffects.{is-running, where-applied}
use Rattle.dist_world_model.proofs.IncarnationEffects.{alike, always, one-step}
use Rattle.dist_world_model.proofs.{StepEffects.deed_of, StepEffects.own_id, UnchangedRows.row-then}
use Rattle.dist_world_model.proofs.OwnSetups.{run-setups}
use Rattle.dist_world_model.proofs.WithoutEvent.{get-reached, reach, reach-any}
use Rattle.dist_world_model.specs.Strangers.{BringUp, BringsUp, AreHonest, AreInside, IsInside, IsNoNode}
use Rattle.dist_core.specs.Rows as core
use Rattle.dist_core.specs.declared.event.Event.TheVariants as event
use Rattle.dist_core_ends.specs.declared.known.End.TheVariants as ends
use Rattle.dist_world_model.specs.declared.happening.Happening.TheVariants as happening

-- ---- who comes up

-- an end comes up by a frame
heard-frame : (n : NodeState) (v : Event) (fresh : ℕ) (f : Effect) (kept : UpRecord) → StepRow n v fresh f → f.reply.up ≡ Some kept → (id : EndId) × (body : List ℕ) × (v ≡ event.Frame id body)
heard-frame n v fresh f kept (core.Dials p o is idle sp full cr k) u = absurd (let z : None ≡ Some kept = ap (λ (g : Effect). g.reply.up) (sym k) ∙ u in cc)
heard-frame n v fresh f kept (core.Comes_in link is sp cr k) u = absurd (let z : None ≡ Some kept = ap (λ (g : Effect). g.reply.up) (sym k) ∙ u in cc)
heard-frame n v fresh f kept (core.Begins id link b is at ph sp k) u = absurd (let z : None ≡ Some kept = ap (λ (g : Effect). g.reply.up) (sym k) ∙ u in cc)
heard-frame n v fresh f kept (core.Ceases id link b is at ph sp k) u = absurd (let z : None ≡ Some kept = ap (λ (g : Effect). g.reply.up) (sym k) ∙ u in cc)
heard-frame n v fresh f kept (core.Loses id y e is at op k) u = absurd (let z : None ≡ Some kept = ap (λ (g : Effect). g.reply.up) (sym k) ∙ u in cc)
heard-frame n v fresh f kept (core.Ticks id r is at sp k) u = absurd (let z : None ≡ Some kept = ap (λ (g : Effect). g.reply.up) (sym k) ∙ u in cc)
heard-frame n v fresh f kept (core.Fails id body e side x is at to sp says k) u = (id, body, is)
heard-frame n v fresh f kept (core.Hears id body e side m is at to sp says k) u = (id, body, is)

-- ---- the ends that are up without a connection have peers of which P holds

module _ (P : Name → Type 0) where
  abbrev Known : List End → List EndRow → Type 0
  Known es rows = (p : ℕ) (kept : UpRecord) → slice_get es p ≡ Some (ends.Up kept) → conn_of (slice_get rows p) ≡ None → P kept.peer

  abbrev KnownLife : Life → Type 0
  KnownLife l = runs l ≡ true → Known l.node.ends l.rows

  module _ (laws : NodeLaws) (t : ℕ) (l : Life) (v : Event) (fresh : ℕ) (f : Effect) (ok : effect_of l.node v fresh ≡ Ok f) (h : IsLife t l) (known : Known l.node.ends l.rows)
      (brings : (kept : UpRecord) → f.reply.up ≡ Some kept → conn_of (slice_get l.rows f.reply.end_.0) ≡ None → P kept.peer) where
    abbrev rows' : List EndRow
    rows' = rows_after t v f.reply l.rows

    -- rows keep their connections
    conn-was : (p : ℕ) → conn_of (slice_get rows' p) ≡ None → conn_of (slice_get l.rows p) ≡ None
    conn-was p e = by (slice_get l.rows p) refl
      where
        by : (o : Option EndRow) → slice_get l.rows p ≡ o → conn_of o ≡ None
        by None a = refl
        by (Some x) a = ap conn_of (sym (row-then t v f.reply l.rows p x a)) ∙ e

    from-own : (kept : UpRecord) → f.this ≡ ends.Up kept → conn_of (slice_get l.rows f.reply.end_.0) ≡ None → P kept.peer
    from-own kept e none = by (up-own l.node v f (deed_of laws l.node v fresh f ok) kept e)
      where
        by : ((r : UpRecord) × (slice_get l.node.ends f.reply.end_.0 ≡ Some (ends.Up r)) × (r.peer ≡ kept.peer)) ⊎ (f.reply.up ≡ Some kept) → P kept.peer
        by (inl (r, at, same)) = subst P same (known f.reply.end_.0 r at none)
        by (inr u) = brings kept u none

    notified-known : Known (ends_after l.node.ends f) rows'
    notified-known p kept e none = by f.other refl (sym (end-after laws l.node h.legal v fresh f ok p) ∙ e)
      where
        own : cond (eqb f.reply.end_.0 p) (Some f.this) (slice_get l.node.ends p) ≡ Some (ends.Up kept) → P kept.peer
        own = elim (eqb f.reply.end_.0 p) as (λ b. eqb f.reply.end_.0 p ≡ b → cond b (Some f.this) (slice_get l.node.ends p) ≡ Some (ends.Up kept) → P kept.peer) [
          | true ↦ λ b q. from-own kept (let z : f.this ≡ ends.Up kept = cc in z) (ap (λ i. conn_of (slice_get l.rows i)) (eqb-true f.reply.end_.0 p b) ∙ conn-was p none)
          | false ↦ λ b q. known p kept q (conn-was p none)
        ] refl

        by : (o : Option (EndId × End)) → f.other ≡ o → other_view o (λ i. cond (eqb f.reply.end_.0 i) (Some f.this) (slice_get l.node.ends i)) p ≡ Some (ends.Up kept) → P kept.peer
        by None q g = own g
        by (Some x) q g = elim (eqb (let y = x.0 in y.0) p) as (λ b. cond b (Some x.1) (cond (eqb f.reply.end_.0 p) (Some f.this) (slice_get l.node.ends p)) ≡ Some (ends.Up kept) → P kept.peer) [
          | true ↦ λ k. absurd (other-not-up l.node v f (deed_of laws l.node v fresh f ok) x.0 x.1 q kept (let z : x.1 ≡ ends.Up kept = cc in z))
          | false ↦ λ k. own k
        ] g

  -- ---- every happening

  record IsKnown (w : World) : Type 0 where
    lives : AllLives (IsLife w.clock) w
    known : AllLives KnownLife w

  reach-known : (id c : ℕ) (l : Life) → KnownLife l → KnownLife (reached_life id c l)
  reach-known id c l h live p kept e none = h live p kept e (by (slice_get l.rows p) (ap conn_of (sym (get-reached id c l.rows p)) ∙ none))
    where
      by : (o : Option EndRow) → conn_of (option_map (reach id c p) o) ≡ None → conn_of o ≡ None
      by None q = refl
      by (Some x) q = reach-any (λ r. r.conn ≡ None → x.conn ≡ None) x (λ n. n) (λ k n. absurd cc) id c p q

  module _ (laws : NodeLaws) where
    module _ (hap : Happening) (w x : World) (asks : BringsUp P w hap) (h : IsKnown w) where
      by-act : Act hap w x.lives x.conns → AllLives KnownLife x
      by-act (Begins who s base c fc at nm keep none is k) i l al = at-more (λ i l. KnownLife l) w.lives _ (λ live p kept e. absurd cc) h.known i l (ap (λ ls. slice_get ls i) (sym is) ∙ al)
      by-act (Ends j old at live is k) i l al = at-one (λ i l. KnownLife l) j _ w.lives (λ y ay live. absurd (false≢true live)) h.known i l (ap (λ ls. slice_get ls i) (sym is) ∙ al)
      by-act (Reaches j id k old away at live ata livea d n few is ks) i l al = at-one (λ i l. KnownLife l) j _ w.lives (λ y ay. reach-known id _ y (h.known j y ay)) h.known i l (ap (λ ls. slice_get ls i) (sym is) ∙ al)
      by-act (Comes side c n is k) i l al = h.known i l (ap (λ ls. slice_get ls i) (sym is) ∙ al)
      by-act (Reports j old v fresh f ds fits at live ok ready is k) i l al =
          at-one (λ i l. KnownLife l) j _ w.lives (λ y ay run-it. notified-known laws w.clock old v fresh f ok (h.lives j old at) (h.known j old at live) brings) h.known i l (ap (λ ls. slice_get ls i) (sym is) ∙ al)
        where
          brings : (kept : UpRecord) → f.reply.up ≡ Some kept → conn_of (slice_get old.rows f.reply.end_.0) ≡ None → P kept.peer
          brings kept u none = by ready
            where
              framed : (id : EndId) × (body : List ℕ) × (v ≡ event.Frame id body)
              framed = heard-frame old.node v fresh f kept (laws.row old.node v fresh f ok) u

              by : Ready hap w j v fresh ds → P kept.peer
              by (Plain plain e) = absurd (let Q : Event → Type 0 = λ u. IsPlain u in subst Q framed.2 plain)
              by (Accepts c k iv ak free target e) = absurd (let z : event.Incoming c ≡ event.Frame framed.0 framed.1 = sym iv ∙ framed.2 in cc)
              by (Takes id row c k body iv ar on ak first e) =
                  let me = named-end old.node v f id (deed_of laws old.node v fresh f ok) (ap own_id iv) in
                  let z : None ≡ Some c = sym none ∙ ap (λ (y : EndId). conn_of (slice_get old.rows y.0)) me ∙ ap (λ o. conn_of (row_of_life o id.0)) (sym at) ∙ ap conn_of ar ∙ on in
                  absurd cc
              by (Strange a ih runs-it strange e) =
                  let asked = subst (BringsUp P w) ih asks in
                  asked j old f.reply (after old.node v f) kept runs-it at strange (ap (step_result old.node v) ok) u
      by-act (Resets a j old v r at live ok is k) i l al = at-one (λ i l. KnownLife l) j _ w.lives (λ y ay. subst (λ (m : Life). KnownLife (with_node (after_change old.node v) m)) (alike w.lives j old y at ay) (h.known j old at)) h.known i l (ap (λ ls. slice_get ls i) (sym is) ∙ al)

    known-after : (hs : List Happening) (w : World) → BringUp P hs w → IsKnown w → IsKnown (run hs w)
    known-after [] w b k = k
    known-after (h ∷ hs) w b k = known-after hs (happens w h) b.1 (one (applied_at w h) (where-applied (Acted h (without_closing w)) w h (acts (without_closing w) h)))
      where
        v : World
        v = without_closing w

        one : (o : Option World) → IfSome o (Acted h (without_closing w)) → IsKnown (ticked_on w o)
        one None g = k
        one (Some x) g = record {
          lives = one-step IsLife (life_keeps laws) (without_closing w) x g k.lives;
          known = by-act h (without_closing w) x (asked h b.0) (record { lives = k.lives; known = k.known }) g.act;
        }
          where
            asked : (h : Happening) → BringsUp P w h → BringsUp P (without_closing w) h
            asked (happening.Outside a v fresh) q = q
            asked h q = tt

    -- WHO IS UP WITHOUT A CONNECTION has a peer of which P holds
    pub known-lives : (ss : List Setup) (hs : List Happening) → BringUp P hs (empty ss) → AllLives KnownLife (run hs (empty ss))
    known-lives ss hs b = let k = known-after hs (empty ss) b (record { lives = λ i l at. absurd cc; known = λ i l at. absurd cc }) in k.known

-- ---- where nothing comes from outside, and where nobody outside is up under a node's name

all-inside : (P : Name → Type 0) (hs : List Happening) (w : World) → AreInside hs → BringUp P hs w
all-inside P [] w a = tt
all-inside P (h ∷ hs) w a = (by h a.0, all-inside P hs (happens w h) a.1)
  where
    by : (h : Happening) → IsInside h → BringsUp P w h
    by (happening.Outside a v fresh) n = absurd n
    by h n = tt

module _ (laws : NodeLaws) where
  row-there : (ss : List Setup) (hs : List Happening) (i : ℕ) (l : Life) → (let w = run hs (empty ss) in slice_get w.lives i ≡ Some l) → runs l ≡ true → (p : ℕ) (r : UpRecord) → slice_get l.node.ends p ≡ Some (ends.Up r) → (row : EndRow) × (slice_get l.rows p ≡ Some row)
  row-there ss hs i l at live p r up = by (slice_get l.rows p) refl (subst (λ o. Beside o (slice_get l.rows p)) up (let k : IsLife _ l = always IsLife (life_keeps laws) ss hs i l at in k.beside live p))
    where
      by : (o : Option EndRow) → slice_get l.rows p ≡ o → Beside (Some (ends.Up r)) o → (row : EndRow) × (slice_get l.rows p ≡ Some row)
      by None e b = absurd b
      by (Some row) e b = (row, e)

  -- an end that is up has a row with a connection
  pub linked_lives : (ss : List Setup) (hs : List Happening) → AreInside hs → AllLives UpsAreLinked (run hs (empty ss))
  linked_lives ss hs inside i l at live p r up =
      let g = row-there ss hs i l at live p r up in
      by g.0 g.1 (conn_of (slice_get l.rows p)) refl
    where
      by : (row : EndRow) → slice_get l.rows p ≡ Some row → (o : Option ℕ) → conn_of (slice_get l.rows p) ≡ o → (row : EndRow) × (c : ℕ) × (slice_get l.rows p ≡ Some row) × (row.conn ≡ Some c)
      by row e (Some c) q = (row, c, e, sym (ap conn_of e) ∙ q)
      by row e None q = absurd ((known-lives (λ n. ⊥)) laws ss hs (all-inside (λ n. ⊥) hs (empty ss) inside) i l at live p r up q)

  pub no-impostors : (ss : List Setup) (hs : List Happening) → AreHonest ss hs (empty ss) → NoImpostors (run hs (empty ss))
  no-impostors ss hs honest a b fooled =
      let w : World = run hs (empty ss) in
      let u : Counts w a b = fooled.0 in
      let live = is-running w a u.place u.life u.runs u.lives in
      let g : IsNoNode ss u.kept.peer = (known-lives (IsNoNode ss)) laws ss hs honest u.place u.life u.lives live.1 u.id u.kept u.is_up fooled.1 in
      g b u.other (ap (λ xs. slice_get xs b) (sym (run-setups hs (empty ss))) ∙ u.named) u.peer
