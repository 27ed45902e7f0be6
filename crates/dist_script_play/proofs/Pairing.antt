-- What is printed of pairs, one behind the other.
use Rattle.dist_script_play.proofs.Words.{◌≡◌, ℕ, zero, suc, ◌+◌, ◌-◌, ◌<◌, true, false, cond, ◌≢◌, ◌↔◌, List, [], ◌∷◌, ◌++◌, length, IsSome, Some, None}
use Rattle.dist_script_play.proofs.Words.{Option, nat_cmp, is_eq, is_gt, BTreeSet, sym, refl, ap, ◌∙◌, subst, append_assoc, append-nil, arith, Appends-nil}
use Rattle.dist_script_play.proofs.Words.{Appends-trans, nat_tests, nil_from_length, IsLowerBound, Updates, contains, Appends, Counts, IsFooled, World, Agreement}
use Rattle.dist_script_play.proofs.Words.{HasAllFrom, IsRowFrom, AreLinesOf, IsReported, PutsAgreements, pairs, places_from, reported_line, with_each}
use Rattle.dist_script_play.proofs.Finding.{none_in}
use Rattle.dist_world.specs.Ups as Ups

lines_behind : (w : World) (ps qs : List (ℕ × ℕ)) (s t : List ℕ) → AreLinesOf w ps s → AreLinesOf w qs t → AreLinesOf w (ps ++ qs) (s ++ t)
lines_behind w [] qs s t e k = subst (λ x. AreLinesOf w qs (x ++ t)) (sym e) k
lines_behind w (p ∷ ps) qs s t h k = (h.0, h.1 ++ t, h.2, lines_behind w ps qs h.1 t h.3 k, ap (λ x. x ++ t) h.4 ∙ append_assoc (reported_line w p.0 p.1 h.0) h.1 t)

-- where nothing is found of two, they do not both count each other as up
pub none_both : (w : World) (a b : ℕ) → a < b → ((x : Counts w a b) (y : Counts w b a) → a ≢ b → (IsFooled w a b → ⊥) → (IsFooled w b a → ⊥) → Ups.IsReported None x.kept y.kept) → IsReported w a b None
none_both w a b l counted x y wise other_wise = let noted = counted x y (λ e. (let same : a ≡ b = e in absurd (omega arith))) wise other_wise in let is = noted.1 in cc

pub none_left : (r : Option ℕ) (n : ℕ) → r ≡ None → (IsSome r ↔ (0 < n)) → n ≡ 0
none_left None zero e h = refl
none_left None (suc n) e h = let some = h.1 (omega arith) in absurd cc
none_left (Some x) n e h = absurd cc

-- ---- a node with each one behind it

module _ (w : World) (a : ℕ) where
  report_one : (k : ℕ) (t : List ℕ) (noted : Option Agreement) → IsReported w a k noted → IsRowFrom w a (suc k) t → IsRowFrom w a k (reported_line w a k noted ++ t)
  report_one k t noted is r = let count = r.0 in let sum = r.1 in (suc count, omega arith, (noted, t, is, r.2, refl))

  skip : (d k to : ℕ) (t : List ℕ) → k + d ≡ to → ((b : ℕ) → k < suc b → b < to → Counts w a b → ⊥) → IsRowFrom w a to t → IsRowFrom w a k t
  skip zero k to t e none r = let same : to ≡ k = omega arith in subst (λ x. IsRowFrom w a x t) same r
  skip (suc d) k to t e none r =
      let rest = skip d (suc k) to t (omega arith) (λ b l m. none b (omega arith) m) r in
      report_one k t None (λ x y wise other_wise. none k (omega arith) (omega arith) x) rest

  -- those before the next one are printed
  pub record RowSoFar (later : BTreeSet ℕ) (old new : Option (List ℕ)) : Type 0 where
    pub next : ℕ
    pub done : List ℕ
    pub after : a < next
    pub few : next < suc (length w.setups)
    pub left : HasAllFrom later w a next
    pub put : Appends old new done
    pub rest : (t : List ℕ) → IsRowFrom w a next t → IsRowFrom w a (suc a) (done ++ t)

  pub row_begins : (later : BTreeSet ℕ) (o : Option (List ℕ)) → a < length w.setups → HasAllFrom later w a (suc a) → RowSoFar later o o
  row_begins later o few has = record { next = suc a; done = []; after = omega arith; few = omega arith; left = has; put = Appends-nil o; rest = λ t r. r }

  apart : (b c : ℕ) → b < c → is_eq (nat_cmp b c) ≡ false
  apart b c l = grind (arith, nat_tests)

  not_above : (b c : ℕ) → is_gt (nat_cmp b c) ≡ false → b < suc c
  not_above b c e = grind (arith, nat_tests)

  above : (b c : ℕ) → is_gt (nat_cmp b c) ≡ false → is_eq (nat_cmp b c) ≡ false → b < c
  above b c e f = grind (arith, nat_tests)

  pub row_goes_on : (later left : BTreeSet ℕ) (o m n : Option (List ℕ)) (b : ℕ) (noted : Option Agreement) → RowSoFar later o m → contains nat_cmp later b ≡ true → IsLowerBound nat_cmp later b → Updates nat_cmp later left b false → IsReported w a b noted → Appends m n (reported_line w a b noted) → RowSoFar left o n
  row_goes_on later left o m n b noted so here least less is put =
      let line = reported_line w a b noted in
      let in_place = so.left.within b here in
      let from_next : so.next < suc b = in_place.0 in
      let few : b < length w.setups = in_place.1 in
      let after = so.after in
      let distance : so.next + (b - so.next) ≡ b = omega arith in
      record {
        next = suc b;
        done = so.done ++ line;
        after = omega (arith, so.after);
        few = omega arith;
        left = record {
          all = λ c l u. less.2 c (apart b c (omega arith)) ∙ so.left.all c (omega arith) u;
          within = λ c has. elim (is_eq (nat_cmp b c)) as (λ v. is_eq (nat_cmp b c) ≡ v → contains nat_cmp left c ≡ cond v false (contains nat_cmp later c) → (suc b < suc c) × (c < length w.setups)) [
            | true ↦ λ e h. absurd cc
            | false ↦ λ e h. let was : contains nat_cmp later c ≡ true = sym h ∙ has in (omega (arith, above b c (least c was) e), (so.left.within c was).1)
          ] refl (less.0 c);
        };
        put = Appends-trans o m n so.done line so.put put;
        rest = λ t r. subst (λ x. IsRowFrom w a (suc a) x) (sym (append_assoc so.done line t)) (so.rest (line ++ t) (skip (b - so.next) so.next b (line ++ t) distance (λ c l k u. let low = not_above b c (least c (so.left.all c l u)) in absurd (omega arith)) (report_one b t noted is r)));
      }

  pub row_ends : (later : BTreeSet ℕ) (o n : Option (List ℕ)) → RowSoFar later o n → length later.keys ≡ 0 → (text : List ℕ) × IsRowFrom w a (suc a) text × Appends o n text
  row_ends later o n so none =
      let all = length w.setups in
      let few = so.few in
      let empty = nil_from_length later.keys none in
      let distance : so.next + (all - so.next) ≡ all = omega arith in
      let end : IsRowFrom w a all [] = (0, omega arith, refl) in
      let nobody : (c : ℕ) → so.next < suc c → c < all → Counts w a c → ⊥ = λ c l k u. (let there = so.left.all c l u in let nobody = none_in later c empty in cc) in
      (so.done ++ [], so.rest [] (skip (all - so.next) so.next all [] distance nobody end), subst (λ x. Appends o n x) (sym (append-nil so.done)) so.put)

-- ---- each node with each one behind it

-- the lines of the pairs of the nodes from place k on
abbrev ArePairsFrom : World → ℕ → List ℕ → Type 0
ArePairsFrom w k text = (count : ℕ) × (k + count ≡ length w.setups) × AreLinesOf w (pairs (places_from k count)) text

-- the pairs of those before place k are printed
pub record PairsSoFar (w : World) (k : ℕ) (old new : Option (List ℕ)) : Type 0 where
  pub done : List ℕ
  pub put : Appends old new done
  pub rest : (t : List ℕ) → ArePairsFrom w k t → ArePairsFrom w 0 (done ++ t)

pub pairs_go_on : (w : World) (k : ℕ) (o m n : Option (List ℕ)) (row : List ℕ) → PairsSoFar w k o m → IsRowFrom w k (suc k) row → Appends m n row → PairsSoFar w (k + 1) o n
pairs_go_on w k o m n row so r put =
    let next : suc k ≡ k + 1 = omega arith in
    subst (λ x. PairsSoFar w x o n) next (record {
      done = so.done ++ row;
      put = Appends-trans o m n so.done row so.put put;
      rest = λ t p.
          let count = p.0 in
          let sum = p.1 in
          let others = r.1 in
          let same : r.0 ≡ count = omega arith in
          let here : AreLinesOf w (with_each k (places_from (suc k) count)) row = subst (λ c. AreLinesOf w (with_each k (places_from (suc k) c)) row) same r.2 in
          subst (λ x. ArePairsFrom w 0 x) (sym (append_assoc so.done row t)) (so.rest (row ++ t) (suc count, omega arith, lines_behind w (with_each k (places_from (suc k) count)) (pairs (places_from (suc k) count)) row t here p.2));
    })

pub pairs_end : (w : World) (k : ℕ) (o n : Option (List ℕ)) → length w.setups ≡ k → PairsSoFar w k o n → PutsAgreements w o n
pairs_end w k o n all so =
    let none : ArePairsFrom w k [] = (0, omega arith, refl) in
    let whole = so.rest [] none in
    let sum = whole.1 in
    let same : whole.0 ≡ length w.setups = omega arith in
    (so.done ++ [], subst (λ c. AreLinesOf w (pairs (places_from 0 c)) (so.done ++ [])) same whole.2, subst (λ x. Appends o n x) (sym (append-nil so.done)) so.put)
