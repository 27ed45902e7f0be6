-- The loss of an end that holds a peer: what it leaves of the node, and of its room.
use Rattle.dist_world_model.proofs.Words.{◌≡◌, ℕ, zero, suc, ◌+◌, ◌≤◌, not, is_some, true, false, cond, eqb, ltb, List, length, slice_get, Some, None, Ok, Option, sym, refl, ap, ◌∙◌}
use Rattle.dist_world_model.proofs.Words.{arith, nat_tests, false≢true, slice_get_within, Name, NodeState, NodeLaws, AreLegal}
use Rattle.dist_world_model.proofs.Words.{End, Entry, Kind, Claim, claim_of, entry_in, holds_at, is_held, is_claim, table_of, Effect, Event, closes, ends_after}
use Rattle.dist_world_model.proofs.{OtherRows.end-after}
use Rattle.dist_names.specs.Order.{name_cmp, same_name}
use Rattle.dist_peers.specs.Table.{Table, left_by, with_entry}
use Rattle.dist_core_ends.specs.Ends.{end_id, is_open, same_kind}
use Rattle.dist_core_ends.specs.Change.{claim_at, table_after_shift}
use Rattle.dist_core_ends.specs.declared.known.End.TheVariants as ends
use Rattle.dist_core_ends.specs.declared.why.Why.TheVariants as why
use Rattle.dist_core_ends.proofs.{Legal.table-legal, Tables.get-table, Tables.table-agreed, Words.order}
use Rattle.dist_core.specs.declared.event.Event.TheVariants as event
use Rattle.dist_core.specs.{Fitting.table_after_effect, Node.is_crowded, Node.is_full_for, Node.is_given_out, Node.limits_of, Step.effect_of, Step.at_end}
use Rattle.dist_core.proofs.{Counts.length-within, Steps.fits}
use Rattle.dist_core_laws.proofs.{EntryCounts.entries_after, OpenCounts.loss_change}
use Rattle.std.proofs.lemmas.Bool.{and_parts}
use Rattle.std.specs.FinMap as map
use Rattle.std.specs.FinMap.{empty_of_len, get-empty, get-insert, len-remove}
use Rattle.std.specs.Prelude.{count_by, ◌-◌}

-- ---- room

-- steps are left, a number, a place for one more open end, and an entry
pub record IsRoomy (n : NodeState) : Type 0 where
  pub steps : (let l = limits_of n in n.steps + 5 ≤ l.steps)
  pub numbers : is_given_out n ≡ false
  pub open_ends : is_crowded n ≡ false
  pub entries : is_full_for n None ≡ false

pub roomier : (a b n : ℕ) → b ≤ a → not (ltb a n) ≡ false → not (ltb b n) ≡ false
roomier a b n le h = grind (arith, nat_tests)

pub emptier : (a b n : ℕ) → b ≤ a → cond (ltb a n) false true ≡ false → cond (ltb b n) false true ≡ false
emptier a b n le h = grind (arith, nat_tests)

-- the node, with as many entries as it has now for its limit
abbrev pub filled : NodeState → NodeState
filled n = let s = n.setup in let l = s.limits in record n { setup = record s { limits = record l { entries = map.len (table_of n.ends) } } }

-- an event that a node takes even if it is full leaves no more entries
fewer-entries : (n : NodeState) (v : Event) (fresh : ℕ) (f : Effect) → AreLegal n.ends → effect_of (filled n) v fresh ≡ Ok f → map.len (table_of (ends_after n.ends f)) ≤ map.len (table_of n.ends)
fewer-entries n v fresh f legal ok = entries_after (filled n) v fresh f legal (omega arith) ok

pub entries-stay : (n : NodeState) (v : Event) (fresh : ℕ) (f : Effect) → AreLegal n.ends → effect_of (filled n) v fresh ≡ Ok f → is_full_for n None ≡ false → (let l = limits_of n in cond (ltb (map.len (table_of (ends_after n.ends f))) l.entries) false true) ≡ false
entries-stay n v fresh f legal ok full = let l = limits_of n in emptier (map.len (table_of n.ends)) (map.len (table_of (ends_after n.ends f))) l.entries (fewer-entries n v fresh f legal ok) full

-- ---- the loss of an end

abbrev pub lost : ℕ → Event
lost x = event.Lost (end_id x) why.Ended

abbrev pub closing : ℕ → Effect
closing x = closes (end_id x) why.Ended

pub loss-ok : (n : NodeState) (x : ℕ) (e : End) → slice_get n.ends x ≡ Some e → is_open e ≡ true → effect_of n (lost x) 0 ≡ Ok (closing x)
unfolding effect_of
loss-ok n x e at open_ = ap (λ o. at_end o (λ e. Ok (closing x))) at ∙ by e open_
  where
    by : (e : End) → is_open e ≡ true → at_end (Some e) (λ e. Ok (closing x)) ≡ Ok (closing x)
    by ends.Unnamed o = refl
    by (ends.Attempt a) o = refl
    by (ends.Up r) o = refl
    by (ends.Closed w) o = absurd (false≢true o)

-- an end that holds a peer is there, and open
pub held-open : (p : Name) (k : Kind) (o : Option End) → is_held p k o ≡ true → (e : End) × (o ≡ Some e) × (is_open e ≡ true)
held-open p k None h = absurd (false≢true h)
held-open p k (Some ends.Unnamed) h = absurd (false≢true h)
held-open p k (Some (ends.Attempt a)) h = (ends.Attempt a, refl, refl)
held-open p k (Some (ends.Up r)) h = (ends.Up r, refl, refl)
held-open p k (Some (ends.Closed w)) h = absurd (false≢true h)

some-len : (t : Table) (p : Name) (d : Entry) → map.get t p ≡ Some d → 1 ≤ map.len t
some-len t p d h = by (map.len t) refl
  where
    by : (n : ℕ) → map.len t ≡ n → 1 ≤ n
    by zero e = absurd (let z : ◌≡◌ {A = Option Entry} None (Some d) = sym (ap (λ (t : Table). map.get t p) (empty_of_len t e) ∙ get-empty name_cmp p) ∙ h in cc)
    by (suc n) e = omega arith

module _ (laws : NodeLaws) (n : NodeState) (legal : AreLegal n.ends) (x : ℕ) (e : End) (at : slice_get n.ends x ≡ Some e) (open_ : is_open e ≡ true) where
  abbrev pub es : List End
  es = ends_after n.ends (closing x)

  -- the lost end holds nobody, and every other end what it held
  pub held-then : (p : Name) (k : Kind) (i : ℕ) → holds_at es p k i ≡ cond (eqb x i) false (holds_at n.ends p k i)
  held-then p k i = ap (is_held p k) (end-after laws n legal (lost x) 0 (closing x) (loss-ok n x e at open_) i) ∙ elim (eqb x i) as (λ b. is_held p k (cond b (Some (ends.Closed why.Ended)) (slice_get n.ends i)) ≡ cond b false (holds_at n.ends p k i)) [ true ↦ refl | false ↦ refl ]

  pub long-then : length es ≡ length n.ends
  long-then = length-within n.ends x (ends.Closed why.Ended) (slice_get_within n.ends x e at)

  pub open-then : count_by is_open es + 1 ≡ count_by is_open n.ends
  open-then = (loss_change n (end_id x) why.Ended 0 (closing x) (loss-ok n x e at open_)).1

  pub few-then : map.len (table_of es) ≤ map.len (table_of n.ends)
  few-then = fewer-entries n (lost x) 0 (closing x) legal (loss-ok (filled n) x e at open_)

  -- the peer that it held has no entry any more: then there is one less
  pub less-then : (p : Name) (k : Kind) → is_claim p k (claim_of e) ≡ true → entry_in es p ≡ None → (d : Entry) → entry_in n.ends p ≡ Some d → map.len (table_of es) + 1 ≤ map.len (table_of n.ends)
  less-then p k held gone d was = by (claim_of e) refl held
    where
      t : Table
      t = table_of n.ends

      there_ : map.get t p ≡ Some d
      there_ = get-table n.ends p ∙ was

      same : table_after_effect n t (closing x) ≡ table_of es
      same = let g = fits n t (table-legal n.ends legal) (lost x) 0 (closing x) (loss-ok n x e at open_) in table-agreed (table_after_effect n t (closing x)) es g.agree

      left : (o : Option Entry) → with_entry t p o ≡ table_of es → map.len (table_of es) + 1 ≤ map.len t
      left None q =
          let less : map.len (table_of es) ≡ map.len t - 1 = ap map.len (sym q) ∙ len-remove order t p ∙ ap (λ (o : Option Entry). cond (is_some o) (map.len t - 1) (map.len t)) there_ in
          omega (arith, less, some-len t p d there_)
      left (Some a) q = absurd (let z : ◌≡◌ {A = Option Entry} None (Some a) = sym (get-table es p ∙ gone) ∙ ap (λ (t : Table). map.get t p) (sym q) ∙ get-insert order t p a p ∙ ap (λ b. cond b (Some a) (map.get t p)) (laws.names.itself p) in cc)

      by : (o : Option Claim) → claim_of e ≡ o → is_claim p k o ≡ true → map.len (table_of es) + 1 ≤ map.len t
      by None q h = absurd (false≢true h)
      by (Some c) q h =
          let z : p ≡ c.peer = laws.names.one_name p c.peer (and_parts (same_kind k c.kind) (same_name p c.peer) h).1 in
          let me = n.setup in
          let shift : table_after_effect n t (closing x) ≡ with_entry t c.peer (left_by (end_id x) (map.get t c.peer)) = ap (λ o. table_after_shift t me.name (end_id x) (claim_at o) None) at ∙ ap (λ o. table_after_shift t me.name (end_id x) o None) q in
          left (left_by (end_id x) (map.get t p)) (ap (λ p. with_entry t p (left_by (end_id x) (map.get t p))) z ∙ sym shift ∙ same)
