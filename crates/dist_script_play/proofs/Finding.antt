-- Who can be up with a node stands in its table.
use Rattle.dist_script_play.proofs.Words.{◌≡◌, ℕ, zero, suc, ◌<◌, Bool, true, false, cond, List, [], ◌∷◌, length, IfOk, slice_get, Some, None, Ok, Err, Option}
use Rattle.dist_script_play.proofs.Words.{Result, option_map, option_and_then, nat_cmp, is_eq, BTreeMap, BTreeSet, sym, refl, ap, ◌∙◌, arith, lt-ltb}
use Rattle.dist_script_play.proofs.Words.{slice_get_within, get, contains, find, list_any, AllocError, Name, name_cmp, same_name, itself_lem, one_lem, Entry}
use Rattle.dist_script_play.proofs.Words.{end_id, entry_from, entry_in, first_of, holds, table_of, End, UpRecord, get-table, NodeState, Counts, Life, World}
use Rattle.dist_script_play.proofs.Words.{node_of, AreLater, ArePlaces, HasAllFrom, later_at, place_behind, place_of}
use Rattle.std.specs.FinMap as map
use Rattle.dist_peers.specs.declared.entry.Entry.TheVariants as entry
use Rattle.dist_core_ends.specs.declared.known.End.TheVariants as ends
use Rattle.dist_core.proofs.Words.{get-entries, len-entries, In, Out, Up}

-- ---- the end that is up makes an entry

first_some : (test : End → Bool) (es : List End) (i : ℕ) (e : End) → slice_get es i ≡ Some e → test e ≡ true → (x : ℕ) × (first_of test es ≡ Some x)
first_some test [] i e at holding = absurd cc
first_some test (f ∷ es) zero e at holding =
    let same : f ≡ e = cc in
    (0, ap (λ b. cond b (Some 0) (option_map suc (first_of test es))) (ap test same ∙ holding))
first_some test (f ∷ es) (suc i) e at holding =
    let later = first_some test es i e at holding in
    elim (test f) as (λ v. (x : ℕ) × (cond v (Some 0) (option_map suc (first_of test es)) ≡ Some x)) [
      | true ↦ (0, refl)
      | false ↦ (suc later.0, ap (option_map suc) later.1)
    ]

entry_some : (x : ℕ) (q o : Option ℕ) → (e : Entry) × (entry_from (Some x) q o ≡ Some e)
entry_some x None o = (entry.Up (end_id x), refl)
entry_some x (Some y) o = (entry.Challenged (end_id x) (end_id y), refl)

pub entry_there : (es : List End) (p : Name) (i : ℕ) (kept : UpRecord) → slice_get es i ≡ Some (ends.Up kept) → kept.peer ≡ p → (e : Entry) × (entry_in es p ≡ Some e)
entry_there es p i kept at named =
    let held : holds p Up (ends.Up kept) ≡ true = ap (λ q. same_name p q) named ∙ itself_lem p in
    let f = first_some (holds p Up) es i (ends.Up kept) at held in
    let h = entry_some f.0 (first_of (holds p In) es) (first_of (holds p Out) es) in
    (h.0, ap (λ x. entry_from x (first_of (holds p In) es) (first_of (holds p Out) es)) f.1 ∙ h.1)

-- ---- a row of the table

pub found_at : (p : Name) (e : Entry) (rows : List (Name × Entry)) → find name_cmp p rows ≡ Some e → (k : ℕ) × (q : Name) × (slice_get rows k ≡ Some (q, e)) × (same_name p q ≡ true)
found_at p e [] is = absurd cc
found_at p e (r ∷ rows) is =
    elim (same_name p r.0) as (λ v. same_name p r.0 ≡ v → cond v (Some r.1) (find name_cmp p rows) ≡ Some e → (k : ℕ) × (q : Name) × (slice_get (r ∷ rows) k ≡ Some (q, e)) × (same_name p q ≡ true)) [
      | true ↦ λ s h. let same : r.1 ≡ e = cc in (0, r.0, ap (λ x. Some (r.0, x)) same, s)
      | false ↦ λ s h. let f = found_at p e rows h in (suc f.0, f.1, f.2, f.3)
    ] refl is

-- ---- whom a node counts as up is looked up

behind_there : (a b : ℕ) → a < b → place_behind a (Some b) ≡ Some b
behind_there a b l = ap (λ v. cond v (Some b) None) (lt-ltb a b l)

-- the node of whoever counts another as up runs
pub counting : (w : World) (a b : ℕ) (u : Counts w a b) → node_of w a ≡ Some u.life.node
counting w a b u = ap (λ o. option_map (λ (l : Life). l.node) (option_and_then (slice_get w.lives) o)) u.runs ∙ ap (option_map (λ (l : Life). l.node)) u.lives

module _ (w : World) (a : ℕ) (n : NodeState) (places : BTreeMap Name ℕ) (there : node_of w a ≡ Some n) (are : ArePlaces places w.setups (length w.setups)) where
  same_node : (b : ℕ) (u : Counts w a b) → u.life.node ≡ n
  same_node b u = let both : Some u.life.node ≡ Some n = sym (counting w a b u) ∙ there in cc

  counted_row : (b : ℕ) → a < b → Counts w a b → (row : ℕ) × (row < map.len (table_of n.ends)) × (later_at places a n row ≡ Some b)
  counted_row b l u =
      let rows = map.entries (table_of n.ends) in
      let p = u.other.name in
      let up : slice_get n.ends u.id ≡ Some (ends.Up u.kept) = ap (λ (m : NodeState). slice_get m.ends u.id) (sym (same_node b u)) ∙ u.is_up in
      let e = entry_there n.ends p u.id u.kept up u.peer in
      let found : find name_cmp p rows ≡ Some e.0 = sym (get-entries (table_of n.ends) p) ∙ get-table n.ends p ∙ e.1 in
      let r = found_at p e.0 rows found in
      let few : r.0 < length rows = slice_get_within rows r.0 (r.1, e.0) r.2 in
      let place : get name_cmp places r.1 ≡ Some b = ap (get name_cmp places) (sym (one_lem p r.1 r.3)) ∙ are.known b u.other (slice_get_within w.setups b u.other u.named) u.named in
      (r.0, omega (arith, few, len-entries (table_of n.ends)), ap (λ o. place_behind a (place_of places o)) r.2 ∙ ap (place_behind a) place ∙ behind_there a b l)

  pub has_all : (later : BTreeSet ℕ) → AreLater later places a n (map.len (table_of n.ends)) → HasAllFrom later w a (suc a)
  has_all later h = record {
    all = λ b l u. let k = counted_row b (omega arith) u in h.all k.0 b k.1 k.2;
    within = λ b here. let k = h.only b here in (omega arith, are.within k.1.0 b k.1.1);
  }

  pub ok_all : (r : Result (BTreeSet ℕ) AllocError) → IfOk r (λ later. AreLater later places a n (map.len (table_of n.ends))) → IfOk r (λ later. HasAllFrom later w a (suc a))
  ok_all (Ok later) h = has_all later h
  ok_all (Err e) h = h

-- nobody is in an empty set
pub none_in : (later : BTreeSet ℕ) (b : ℕ) → later.keys ≡ [] → contains nat_cmp later b ≡ false
none_in later b empty = ap (λ ks. list_any (λ k. is_eq (nat_cmp b k)) ks) empty
