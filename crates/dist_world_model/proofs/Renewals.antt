-- A node that is renewed is one that ended and began again.
use Rattle.dist_world_model.proofs.Words.{◌≡◌, ℕ, zero, suc, ◌+◌, ◌<◌, ◌≤◌, Bool, true, false, cond, ◌&&◌, eqb, ltb, ◌≢◌, List, [], ◌∷◌, ◌++◌, length, is_none}
use Rattle.dist_world_model.proofs.Words.{slice_get, Some, None, Ok, Err, Option, option_map, sym, refl, ap, ◌∙◌, subst, arith, lt-ltb, eqb-true, and_right}
use Rattle.dist_world_model.proofs.Words.{false≢true, nil_from_length, list_any, names, table_of, Setup, after_change, change, finds_no_room}
use Rattle.dist_world_model.proofs.Words.{has_usual, is_in_use, setup_after, NodeState, opening, Change, applied_at, happens, life_after_end, most_applied}
use Rattle.dist_world_model.proofs.Words.{most_begins, new_life, ticked_on, with_node, without_closing, world_after, at_place, first_where, OnlyLastRuns, run}
use Rattle.dist_world_model.proofs.Words.{Life, World, empty, running, runs, runs_for, Happening}
use Rattle.dist_world_model.proofs.{Conditions.holds, Conditions.succeeds, Conditions.there, HappeningEffects.is-running, Lookups.at-other, Lookups.placed}
use Rattle.dist_world_model.proofs.{Places.eqb-self, Places.get-more, Words.inl, Words.inr}
use Rattle.dist_world_model.proofs.OwnSetups.{AllFindRoom, began-with, begun-by, begun-name, name-by, run-setups}
use Rattle.std.specs.FinMap as finite
use Rattle.dist_names.proofs.Orders.{itself_lem}
use Rattle.dist_names.specs.Order.{same_name}
use Rattle.dist_core.specs.declared.changing.Change.TheVariants as changes
use Rattle.dist_core.specs.declared.changing.ChangeError.TheVariants as change_error
use Rattle.dist_core_laws.proofs.Limits.{no-entries}
use Rattle.dist_world_model.specs.{OwnSetups.BeginsWith, OwnSetups.applied_as, OwnSetups.changes_at, OwnSetups.setup_by}
use Rattle.dist_world_model.specs.Renewals.{resets, HasOpened, HasRoom, renewal}
use Rattle.dist_world_model.specs.declared.happening.Happening.TheVariants as happening

-- ---- the first that passes

first-none : {A : Type 0} (test : A → Bool) (xs : List A) → ((j : ℕ) (x : A) → slice_get xs j ≡ Some x → test x ≡ false) → first_where test xs ≡ None
first-none test [] h = refl
first-none test (x ∷ xs) h = ap (λ b. cond b (Some 0) (option_map suc (first_where test xs))) (h 0 x refl) ∙ ap (option_map suc) (first-none test xs (λ j y at. h (suc j) y at))

-- one that passes behind those of which none does
first-last : {A : Type 0} (test : A → Bool) (xs : List A) (x : A) → ((j : ℕ) (y : A) → slice_get xs j ≡ Some y → test y ≡ false) → test x ≡ true → first_where test (xs ++ x ∷ []) ≡ Some (length xs)
first-last test [] x h is = ap (λ b. cond b (Some 0) None) is
first-last test (y ∷ xs) x h is =
    ap (λ b. cond b (Some 0) (option_map suc (first_where test (xs ++ x ∷ [])))) (h 0 y refl) ∙ ap (option_map suc) (first-last test xs x (λ j z at. h (suc j) z at) is)

-- a change that the test does not see
first-same : {A : Type 0} (test : A → Bool) (i : ℕ) (f : A → A) (xs : List A) → ((x : A) → test (f x) ≡ test x) → first_where test (at_place i f xs) ≡ first_where test xs
first-same test i f [] h = refl
first-same test zero f (x ∷ xs) h = ap (λ b. cond b (Some 0) (option_map suc (first_where test xs))) (h x)
first-same test (suc i) f (x ∷ xs) h = ap (λ o. cond (test x) (Some 0) (option_map suc o)) (first-same test i f xs h)

-- the length stays
same-count : {A : Type 0} (i : ℕ) (f : A → A) (xs : List A) → length (at_place i f xs) ≡ length xs
same-count i f [] = refl
same-count zero f (x ∷ xs) = refl
same-count (suc i) f (x ∷ xs) = ap suc (same-count i f xs)

-- ---- a happening for which there is room

applies : (w : World) (h : Happening) (x : World) → w.clock < most_applied → world_after (without_closing w) h ≡ Some x → happens w h ≡ record x { clock = w.clock + 1 }
applies w h x few is = ap (ticked_on w) (ap (λ b. cond b (world_after (without_closing w) h) None) (lt-ltb w.clock most_applied few) ∙ is)

-- ---- the changes, one after another

-- no end stands in the way of a change
none-in-use : (s : Setup) (v : Change) → is_in_use (opening s) v ≡ false
none-in-use s (changes.Cookie p own) = refl
none-in-use s (changes.UsualCookie cookie) = ap (list_any (has_usual s)) (nil_from_length (finite.entries (table_of [])) (sym (finite.len-entries (table_of [])) ∙ no-entries))
none-in-use s (changes.Allow names) = refl

change-made : (s : Setup) (v : Change) → finds_no_room (opening s) v ≡ false → change (opening s) v ≡ Ok (opening (setup_after s v))
change-made s v room =
    ap (λ b. cond b (Err change_error.InUse) (cond (finds_no_room (opening s) v) (Err change_error.Full) (Ok (after_change (opening s) v)))) (none-in-use s v)
    ∙ ap (λ b. cond b (Err change_error.Full) (Ok (after_change (opening s) v))) room

module _ (node : ℕ) where
  reset-once : (w : World) (s : Setup) (v : Change) → w.clock < most_applied → finds_no_room (opening s) v ≡ false → HasOpened w node s → HasOpened (happens w (happening.Reset node v)) node (setup_after s v)
  reset-once w s v few room h =
      let old = h.life in
      let next : NodeState = opening (setup_after s v) in
      let ok : change old.node v ≡ Ok next = ap (λ (n : NodeState). change n v) h.opened ∙ change-made s v room in
      let done : happens w (happening.Reset node v) ≡ record w { lives = at_place h.place (with_node next) w.lives; last_closed = None; clock = w.clock + 1 } =
      applies w (happening.Reset node v) _ few (there (running w node) h.place _ h.runs ∙ there (slice_get w.lives h.place) old _ h.lives ∙ succeeds (change old.node v) next _ ok) in
      subst (λ x. HasOpened x node (setup_after s v)) (sym done) (record {
        place = h.place;
        life = with_node next old;
        runs = first-same (runs_for node) h.place (with_node next) w.lives (λ l. refl) ∙ h.runs;
        lives = placed h.place (with_node next) w.lives old h.lives;
        opened = refl;
        rows = h.rows;
      })

  clock-once : (w : World) (h : Happening) → (happens w h).clock ≤ w.clock + 1
  clock-once w h = by (applied_at w h)
    where
      by : (o : Option World) → (ticked_on w o).clock ≤ w.clock + 1
      by None = omega arith
      by (Some x) = omega arith

  reset-all : (vs : List Change) (w : World) (s : Setup) → w.clock + length vs ≤ most_applied → AllFindRoom vs s → HasOpened w node s → HasOpened (run (resets node vs) w) node (setup_by vs s)
  reset-all [] w s few room h = h
  reset-all (v ∷ vs) w s few room h =
      let later = clock-once w (happening.Reset node v) in
      reset-all vs (happens w (happening.Reset node v)) (setup_after s v) (omega (arith, few, later)) room.1 (reset-once w s v (omega (arith, few)) room.0 h)

  -- ---- the end and the beginning

  module _ (w : World) (place : ℕ) (l : Life) (runs-at : running w node ≡ Some place) (at : slice_get w.lives place ≡ Some l) (last : OnlyLastRuns w) (few : length w.lives < most_begins) (room : w.clock + 2 ≤ most_applied) where
    live : (l.who ≡ node) × (runs l ≡ true)
    live = is-running w node place l runs-at at

    abbrev ended : World
    ended = record w { lives = at_place place (life_after_end w.clock) w.lives; last_closed = None; clock = w.clock + 1 }

    ends : happens w (happening.Halt node) ≡ ended
    ends = applies w (happening.Halt node) _ (omega (arith, room)) (there (running w node) place _ runs-at)

    -- another one of this node is over
    other-over : (j : ℕ) (x : Life) → place ≢ j → slice_get w.lives j ≡ Some x → x.who ≡ node → runs x ≡ false
    other-over j x n ax who = by (ltb j place) refl
      where
        by : (b : Bool) → ltb j place ≡ b → runs x ≡ false
        by true e = let lt : j < place = Rattle.std.proofs.lemmas.Bool.ltb-true j place e in last j place x l lt ax at (who ∙ sym live.0)
        by false e =
            let le : place < j = (let m = Rattle.std.proofs.lemmas.Bool.ltb-false j place e in omega (arith, m, n)) in
            absurd (false≢true (sym (last place j l x le at ax (live.0 ∙ sym who)) ∙ live.1))

    none-after : (j : ℕ) (x : Life) → slice_get ended.lives j ≡ Some x → runs_for node x ≡ false
    none-after = at-other (λ j x. runs_for node x ≡ false) place (life_after_end w.clock) w.lives
        (λ x ax. and_right (eqb x.who node) false refl)
        (λ j x n ax. by j x n ax (eqb x.who node) refl)
      where
        by : (j : ℕ) (x : Life) → place ≢ j → slice_get w.lives j ≡ Some x → (b : Bool) → eqb x.who node ≡ b → runs_for node x ≡ false
        by j x n ax true e = and_right (eqb x.who node) (runs x) (other-over j x n ax (eqb-true x.who node e))
        by j x n ax false e = ap (λ b. b && runs x) e

    abbrev begun : Setup → World
    begun s = record ended { lives = ended.lives ++ new_life node (w.clock + 1) s s.creation ∷ []; clock = w.clock + 1 + 1 }

    free : is_none (running ended node) ≡ true
    free = ap is_none (first-none (runs_for node) ended.lives none-after)

    fewer : ltb (length ended.lives) most_begins ≡ true
    fewer = lt-ltb (length ended.lives) most_begins (let k = same-count place (life_after_end w.clock) w.lives in omega (arith, k, few))

    begins : (h : Happening) (s : Setup) → BeginsWith w.setups (Some h) node s → happens ended h ≡ begun s
    begins h s (own, its, inl how) =
        let c = how.0 in
        let is : Some h ≡ Some (happening.Begin node c) = how.1 in
        let this : h ≡ happening.Begin node c = cc in
        let made : happens ended (happening.Begin node c) ≡ begun (record own { creation = c }) =
        applies ended (happening.Begin node c) _ (omega (arith, room))
        (there (slice_get w.setups node) own _ its ∙ holds (is_none (running ended node)) _ free ∙ holds (ltb (length ended.lives) most_begins) _ fewer) in
        ap (happens ended) this ∙ made ∙ ap begun (sym how.2)
    begins h s (own, its, inr how) =
        let is : Some h ≡ Some (happening.BeginAs node s) = how.0 in
        let this : h ≡ happening.BeginAs node s = cc in
        let made : happens ended (happening.BeginAs node s) ≡ begun s =
        applies ended (happening.BeginAs node s) _ (omega (arith, room))
        (there (slice_get w.setups node) own _ its
        ∙ holds (is_none (running ended node)) _ free
        ∙ holds (ltb (length ended.lives) most_begins) _ fewer
        ∙ holds (same_name s.name own.name) _ (ap (same_name s.name) (sym how.1) ∙ itself_lem s.name)) in
        ap (happens ended) this ∙ made

    opened : (s : Setup) → HasOpened (begun s) node s
    opened s = let new = new_life node (w.clock + 1) s s.creation in record {
      place = length ended.lives;
      life = new;
      runs = first-last (runs_for node) ended.lives new none-after (ap (λ b. b && true) (eqb-self node));
      lives = get-more ended.lives new (length ended.lives) ∙ ap (λ b. cond b (Some new) (slice_get ended.lives (length ended.lives))) (eqb-self (length ended.lives));
      opened = refl;
      rows = refl;
    }

    pub renewed : (h : Happening) (s : Setup) → BeginsWith w.setups (Some h) node s → (vs : List Change) → w.clock + 2 + length vs ≤ most_applied → AllFindRoom vs s
        → HasOpened (run (renewal node h vs) w) node (setup_by vs s)
    renewed h s begin vs all rooms =
        let again : happens (happens w (happening.Halt node)) h ≡ begun s = ap (λ x. happens x h) ends ∙ begins h s begin in
        let two = ap (λ (x : World). x.clock) again in
        reset-all vs (happens (happens w (happening.Halt node)) h) s (omega (arith, all, two)) rooms (subst (λ x. HasOpened x node s) (sym again) (opened s))

-- A NODE THAT IS RENEWED
module _ (last : (ss : List Setup) (hs : List Happening) → OnlyLastRuns (run hs (empty ss))) (ss : List Setup) (hs : List Happening) (node place : ℕ) (l : Life)
    (runs-at : running (run hs (empty ss)) node ≡ Some place) (at : slice_get (let w = run hs (empty ss) in w.lives) place ≡ Some l) where
  abbrev now : World
  now = run hs (empty ss)

  abbrev its-changes : List Change
  its-changes = changes_at hs (empty ss) place

  its-node : l.who ≡ node
  its-node = let g = is-running now node place l runs-at at in g.0

  own-setups : ss ≡ (let w = run hs (empty ss) in w.setups)
  own-setups = sym (run-setups hs (empty ss))

  -- with the setup that it had
  pub renews-anew : HasRoom now [] → HasOpened (run (renewal node (happening.BeginAs node l.node.setup) []) now) node l.node.setup
  renews-anew room =
      let g = began-with ss hs place l at in
      let began = g.1 in
      let made = g.2 in
      let few = room.applied in
      let own : Setup = l.node.setup in
      let name : own.name ≡ began.0.name = ap (λ (r : Setup). r.name) made.0 ∙ name-by its-changes g.0 ∙ begun-name ss (applied_as hs (empty ss) l.begun) l.who g.0 began in
      let its = ap (slice_get now.setups) (sym its-node) ∙ ap (λ xs. slice_get xs l.who) (sym own-setups) ∙ began.1 in
      renewed node now place l runs-at at (last ss hs) room.begins (omega (arith, few)) (happening.BeginAs node own) own (began.0, its, inr (refl, name)) [] few tt

  -- as it began, and with the changes that it made
  pub renews-again : HasRoom now its-changes
      → (h : Happening) × (applied_as hs (empty ss) l.begun ≡ Some h) × HasOpened (run (renewal node h its-changes) now) node l.node.setup
  renews-again room =
      let g = began-with ss hs place l at in
      let made = g.2 in
      let few = room.applied in
      let by = begun-by ss (applied_as hs (empty ss) l.begun) l.who g.0 g.1 in
      let begin : BeginsWith now.setups (Some by.0) node g.0 =
      subst (λ n. BeginsWith now.setups (Some by.0) n g.0) its-node
      (subst (λ o. BeginsWith now.setups o l.who g.0) by.1 (subst (λ xs. BeginsWith xs (applied_as hs (empty ss) l.begun) l.who g.0) own-setups g.1)) in (
        by.0,
        by.1,
        subst (HasOpened (run (renewal node by.0 its-changes) now) node) (sym made.0)
            (renewed node now place l runs-at at (last ss hs) room.begins (omega (arith, few)) by.0 g.0 begin its-changes few made.1),
      )
