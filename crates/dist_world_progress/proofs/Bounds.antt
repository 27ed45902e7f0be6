-- Each incarnation of a world stays within its limits; and with the usual ones it has room as long as few ends are open.
use Rattle.dist_world_model.proofs.Words.{◌≡◌, ℕ, ◌+◌, ◌<◌, ◌≤◌, not, Bool, true, false, cond, ltb, List, [], ◌∷◌, length, Some, None, Ok, Option, Result, sym, refl, ap, ◌∙◌, subst, arith, lt-ltb}
use Rattle.dist_world_model.proofs.Words.{Name, End, Entry, Claim, claim_of, entry_in, table_of, Setup, NodeState, NodeLaws, AreLegal, AllLives, empty, run, Effect, Event, Change, effect_of, after, step_result, node_after, setup_after}
use Rattle.dist_world_model.specs.declared.happening.Happening.{Happening}
use Rattle.dist_world_model.proofs.IncarnationEffects.{Keeps, always}
use Rattle.dist_core.specs.Changing.{after_change}
use Rattle.dist_core.specs.declared.changing.Change.TheVariants as change
use Rattle.dist_core.specs.{Node.limits_of}
use Rattle.dist_core.proofs.Numbers.{counted}
use Rattle.dist_core_ends.specs.Ends.{is_open, row_in}
use Rattle.dist_core_ends.specs.declared.known.End.TheVariants as ends
use Rattle.dist_core_ends.proofs.{Opens.count-cons, Words.order}
use Rattle.dist_core_setup.specs.{Limits.usual_limits, declared.limits.Limits.Limits}
use Rattle.dist_core_laws.specs.Laws.{IsWithinLimits}
use Rattle.dist_core_laws.proofs.Limits.{within_first, within_step}
use Rattle.dist_names.specs.Order.{name_cmp}
use Rattle.std.specs.FinMap as map
use Rattle.std.specs.FinMap.{len-empty, len-insert}
use Rattle.std.specs.Prelude.{count_by, option_map}
use Rattle.std.specs.List.{cons_option, filter_map}
use Rattle.dist_world_progress.specs.Connecting.{HasRoomFor, UsualNodesHaveRoom}

-- ---- within limits

-- the node is within its limits, and each of its ends took a step
pub record IsBounded (n : NodeState) : Type 0 where
  pub legal : AreLegal n.ends
  pub within : IsWithinLimits n
  pub few : length n.ends ≤ n.steps

module _ (laws : NodeLaws) where
  bounded-after : (n : NodeState) (v : Event) (fresh : ℕ) (f : Effect) → effect_of n v fresh ≡ Ok f → IsBounded n → IsBounded (after n v f)
  bounded-after n v fresh f ok h =
      let w = h.within in
      let few = h.few in
      let c = counted n v fresh f ok w.steps w.given_out in
      let more = c.1 in
      record {
        legal = subst (λ (o : Result Effect _). AreLegal (node_after n (step_result n v o)).ends) ok (laws.step_legal n v fresh h.legal);
        within = subst (λ (o : Result Effect _). IsWithinLimits (node_after n (step_result n v o))) ok (within_step n v fresh h.legal h.within);
        few = omega (arith, few, more);
      }

  changed-limits : (s : Setup) (v : Change) → (let r = setup_after s v in r.limits) ≡ s.limits
  changed-limits s (change.Cookie p c) = refl
  changed-limits s (change.UsualCookie c) = refl
  changed-limits s (change.Allow ps) = refl

  bounded-changed : (n : NodeState) (v : Change) → IsBounded n → IsBounded (after_change n v)
  bounded-changed n v h =
      let w = h.within in
      let e = sym (changed-limits n.setup v) in
      record {
        legal = h.legal;
        within = record {
          steps = subst (λ (l : Limits). n.steps ≤ l.steps) e w.steps;
          given_out = subst (λ (l : Limits). length n.ends ≤ l.ends) e w.given_out;
          open_ends = subst (λ (l : Limits). count_by is_open n.ends ≤ l.open_ends) e w.open_ends;
          entries = subst (λ (l : Limits). map.len (table_of n.ends) ≤ l.entries) e w.entries;
        };
        few = h.few;
      }

  bounded_keeps : Keeps (λ t l. IsBounded l.node)
  bounded_keeps = record {
    stays = λ t l h. h;
    begins = λ t who s c. record { legal = laws.opening_legal (record s { creation = c }); within = within_first (record s { creation = c }); few = omega arith };
    ends = λ t l live h. h;
    reaches = λ t l id c live h. h;
    lives = λ t l v fresh f live ok h. bounded-after l.node v fresh f ok h;
    resets = λ t l v live ok h. bounded-changed l.node v h;
  }

  -- every incarnation of every world
  pub bounded : (ss : List Setup) (hs : List Happening) → AllLives (λ l. IsBounded l.node) (run hs (empty ss))
  bounded ss hs i l at = always (λ t l. IsBounded l.node) bounded_keeps ss hs i l at

-- ---- the usual limits

one-more : (b : Bool) (n : ℕ) → cond b n (n + 1) ≤ n + 1
one-more true n = omega arith
one-more false n = omega arith

-- a table made of a list has no more entries than that
few-entries : (rows : List (Name × Entry)) → map.len (map.from_entries {R = name_cmp} rows) ≤ length rows
few-entries [] = omega (arith, len-empty name_cmp Entry)
few-entries (r ∷ rows) =
    let rest : map.FinMap name_cmp Entry = map.from_entries rows in
    let few = few-entries rows in
    omega (arith, few, len-insert order rest r.0 r.1, one-more (map.contains_key rest r.0) (map.len rest))

-- an end that holds a peer is open
few-rows : (es xs : List End) → length (filter_map (λ e. row_in es (claim_of e)) xs) ≤ count_by is_open xs
few-rows es [] = omega arith
few-rows es (e ∷ xs) = by e (few-rows es xs)
  where
    R : List (Name × Entry)
    R = filter_map (λ e. row_in es (claim_of e)) xs

    one : (o : Option Entry) (p : Name) → length R ≤ count_by is_open xs → length (cons_option (option_map (λ x. (p, x)) o) R) ≤ count_by is_open xs + 1
    one None p h = omega (arith, h)
    one (Some x) p h = omega (arith, h)

    claimed : (c : Option Claim) → length R ≤ count_by is_open xs → length (cons_option (row_in es c) R) ≤ count_by is_open xs + 1
    claimed None h = omega (arith, h)
    claimed (Some c) h = one (entry_in es c.peer) c.peer h

    by : (e : End) → length R ≤ count_by is_open xs → length (cons_option (row_in es (claim_of e)) R) ≤ count_by is_open (e ∷ xs)
    by (ends.Closed w) h = omega (arith, h, count-cons (ends.Closed w) xs)
    by ends.Unnamed h = let c : count_by is_open (ends.Unnamed ∷ xs) ≡ count_by is_open xs + 1 = count-cons ends.Unnamed xs in omega (arith, h, c)
    by (ends.Attempt a) h = let c : count_by is_open (ends.Attempt a ∷ xs) ≡ count_by is_open xs + 1 = count-cons (ends.Attempt a) xs in let k = claimed (claim_of (ends.Attempt a)) h in omega (arith, k, c)
    by (ends.Up r) h = let c : count_by is_open (ends.Up r ∷ xs) ≡ count_by is_open xs + 1 = count-cons (ends.Up r) xs in let k = claimed (claim_of (ends.Up r)) h in omega (arith, k, c)

pub entries-few : (es : List End) → map.len (table_of es) ≤ count_by is_open es
entries-few es = let a = few-entries (filter_map (λ e. row_in es (claim_of e)) es) in let b = few-rows es es in omega (arith, a, b)

usual-room : (n : NodeState) (p : Name) → IsBounded n → limits_of n ≡ usual_limits → n.steps + 5 ≤ 1048576 → count_by is_open n.ends < 1024 → HasRoomFor p n
usual-room n p h usual steps few =
    let numbers = h.few in
    let entries = entries-few n.ends in
    record {
      steps = subst (λ (l : Limits). n.steps + 5 ≤ l.steps) (sym usual) steps;
      numbers = (λ i. not (ltb (length n.ends) (let l = usual i in l.ends))) ∙ ap not (lt-ltb (length n.ends) 1048576 (omega (arith, numbers, steps)));
      idle = λ none. (
        (λ i. not (ltb (count_by is_open n.ends) (let l = usual i in l.open_ends))) ∙ ap not (lt-ltb (count_by is_open n.ends) 4096 (omega (arith, few))),
        (λ i. cond (ltb (map.len (table_of n.ends)) (let l = usual i in l.entries)) false true) ∙ ap (λ b. cond b false true) (lt-ltb (map.len (table_of n.ends)) 1024 (omega (arith, few, entries))),
      );
    }

pub usual_nodes : NodeLaws → (ss : List Setup) (hs : List Happening) → UsualNodesHaveRoom (run hs (empty ss))
usual_nodes laws ss hs node l p r usual steps few = usual-room l.node p (bounded laws ss hs r.place l r.lives) usual steps few
