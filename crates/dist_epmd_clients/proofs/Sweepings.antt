-- Clients that have not asked leave, and no registration does.
use Rattle.std.proofs.Common.{◌≡◌, ℕ, suc, Bool, true, false, not, ◌&&◌, cond, List, [], ◌∷◌, Option, Some, None, is_some, refl, sym, ap, ◌∙◌}
use Rattle.std.proofs.lemmas.Map.Entries.{lookup-filter-values, option_filter, btree_map_get_place}
use Rattle.std.proofs.lemmas.{Cmp.nat_cmp_total, Cmp.eq_by_cmp_equiv, Map.Keys.IsDistinct-from_sorted, Option.same_Some}
use Rattle.std.specs.{Prelude.filter, Prelude.◌-◌, Prelude.nat_le, Prelude.slice_get, Prelude.IfSome, Map.lookup, Map.keys_of}
use Rattle.dist_epmd_clients.proofs.Words.{filter_map, nat_cmp, eq_by_cmp, BTreeMap, get, IsOrdered, Client, Talk, Asking, Registered}
use Rattle.dist_epmd.specs.Registrations.{Registrations}
use Rattle.dist_epmd_clients.specs.Standing.{Stand, NumbersBelow, is_registered, is_registered_talk, talk_name, client_name, asking_since}
use Rattle.dist_epmd_clients.specs.Sweeping.{is_late}

module _ {S : Type 0} where
  -- the client of a connection where it is not late
  unless_late : (now seconds : ℕ) (m n : BTreeMap ℕ (Client S)) → IsOrdered nat_cmp m → n.entries ≡ filter (λ e. not (is_late now seconds e.1)) m.entries
      → (q : ℕ) → get nat_cmp n q ≡ option_filter (λ (c : Client S). not (is_late now seconds c)) (get nat_cmp m q)
  unless_late now seconds m n ordered e q =
      ap (λ es. lookup (eq_by_cmp nat_cmp q) es) e
      ∙ lookup-filter-values (eq_by_cmp_equiv nat_cmp_total) (λ c. not (is_late now seconds c)) q m.entries (IsDistinct-from_sorted nat_cmp (keys_of m.entries) ordered)

  by_talk : (t : Talk) (l : Bool) (c : Client S) → c.talk ≡ t → client_name (cond (not (not (is_registered_talk t) && l)) (Some c) None) ≡ talk_name t
  by_talk (Registered name) l c e = ap talk_name e
  by_talk (Asking said) true c e = refl
  by_talk (Asking said) false c e = ap talk_name e

  registered_stays : (now seconds : ℕ) (o : Option (Client S)) → client_name (option_filter (λ (c : Client S). not (is_late now seconds c)) o) ≡ client_name o
  registered_stays now seconds None = refl
  registered_stays now seconds (Some c) = by_talk c.talk (nat_le seconds (now - c.since)) c refl

  there_before : (now seconds : ℕ) (o : Option (Client S)) → is_some (option_filter (λ (c : Client S). not (is_late now seconds c)) o) ≡ true → is_some o ≡ true
  there_before now seconds None s = s
  there_before now seconds (Some c) s = refl

  pub stand_swept : (now seconds : ℕ) (registrations : Registrations) (m n : BTreeMap ℕ (Client S)) → IsOrdered nat_cmp m → n.entries ≡ filter (λ e. not (is_late now seconds e.1)) m.entries → Stand registrations m → Stand registrations n
  stand_swept now seconds registrations m n ordered e stand q =
      stand q ∙ sym (registered_stays now seconds (get nat_cmp m q)) ∙ ap (λ (o : Option (Client S)). client_name o) (sym (unless_late now seconds m n ordered e q))

  pub numbered_swept : (now seconds next : ℕ) (m n : BTreeMap ℕ (Client S)) → IsOrdered nat_cmp m → n.entries ≡ filter (λ e. not (is_late now seconds e.1)) m.entries → NumbersBelow next m → NumbersBelow next n
  numbered_swept now seconds next m n ordered e numbered q s =
      numbered q (there_before now seconds (get nat_cmp m q) (ap (λ (o : Option (Client S)). is_some o) (sym (unless_late now seconds m n ordered e q)) ∙ s))

  -- a connection is here, at some place, and its client is not registered
  record Stands (es : List (ℕ × Client S)) (conn : ℕ) : Type 0 where
    place : ℕ
    client : Client S
    at : slice_get es place ≡ Some (conn, client)
    asking : is_registered (Some client) ≡ false

  in_rest : (x : ℕ × Client S) (xs : List (ℕ × Client S)) (conn : ℕ) → Stands xs conn → Stands (x ∷ xs) conn
  in_rest x xs conn s = record { place = suc s.place; client = s.client; at = s.at; asking = s.asking }

  at_head : (x : ℕ × Client S) (xs : List (ℕ × Client S)) (r : ℕ × ℕ) → Some (x.0, x.1.since) ≡ Some r → is_registered (Some x.1) ≡ false → Stands (x ∷ xs) r.0
  at_head x xs r e asking = record { place = 0; client = x.1; at = ap (λ (p : ℕ × ℕ). Some (p.0, x.1)) (same_Some (x.0, x.1.since) r e); asking = asking }

  -- what the first of the others is, and the entry before them by its talk
  abbrev chosen : Talk → ℕ × Client S → List (ℕ × ℕ) → Option (ℕ × ℕ)
  chosen (Asking said) x rest = Some (x.0, x.1.since)
  chosen (Registered name) x rest = slice_get rest 0

  by_first : (t : Talk) (x : ℕ × Client S) (xs : List (ℕ × Client S)) → x.1.talk ≡ t → slice_get (filter_map asking_since (x ∷ xs)) 0 ≡ chosen t x (filter_map asking_since xs)
  by_first (Asking said) x xs e = cc
  by_first (Registered name) x xs e = cc

  by_head : (t : Talk) (x : ℕ × Client S) (xs : List (ℕ × Client S)) (r : ℕ × ℕ) → x.1.talk ≡ t → (slice_get (filter_map asking_since xs) 0 ≡ Some r → Stands xs r.0) → chosen t x (filter_map asking_since xs) ≡ Some r → Stands (x ∷ xs) r.0
  by_head (Asking said) x xs r e rest h = at_head x xs r h (ap is_registered_talk e)
  by_head (Registered name) x xs r e rest h = in_rest x xs r.0 (rest h)

  first_place : (es : List (ℕ × Client S)) (r : ℕ × ℕ) → slice_get (filter_map asking_since es) 0 ≡ Some r → Stands es r.0
  first_place [] r h = absurd cc
  first_place (x ∷ xs) r h = by_head x.1.talk x xs r refl (first_place xs r) (sym (by_first x.1.talk x xs refl) ∙ h)

  pub first_is_asking : (m : BTreeMap ℕ (Client S)) (o : Option (ℕ × ℕ)) → IsOrdered nat_cmp m → o ≡ slice_get (filter_map asking_since m.entries) 0 → IfSome o (λ r. is_registered (get nat_cmp m r.0) ≡ false)
  first_is_asking m None ordered h = tt
  first_is_asking m (Some r) ordered h =
      let found : Stands m.entries r.0 = first_place m.entries r (sym h) in
      ap (λ (o : Option (Client S)). is_registered o) (btree_map_get_place nat_cmp_total m found.place r.0 found.client ordered found.at)
      ∙ found.asking
