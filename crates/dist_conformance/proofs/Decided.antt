-- When the judgement is decided.
use Rattle.std.proofs.Common.{◌≡◌, ℕ, suc, ◌-◌, ◌≤◌, Bool, true, false, List, [], ◌∷◌, drop, length, Option, Some, None, refl, ap, ◌∙◌, arith}
use Rattle.std.specs.Prelude.{◌||◌, ◌&&◌, nat_lt, is_some, if◌then◌else◌, Contains}
use Rattle.std.specs.{Int.w32, List.list_any, List.list_all}
use Rattle.dist_names.specs.Fields.{number_at}
use Rattle.dist_conformance.specs.Judging.{Observation, passes, passes_if, part_outcome, open_for, check_passes, passage_of, by_message, by_body, by_state}
use Rattle.dist_conformance.specs.Judging.{are_lines, names_pass, by_names, outcome_of, joined, behind_match, sequence_of}
use Rattle.dist_conformance.specs.Judging.{no_passage, outcomes_of, first_passage, is_open, first_failure, may_match, by_loose, by_wanted, judgement_of}
use Rattle.dist_conformance.specs.{Bodies.begins_with, Bodies.value_in, Bodies.whole, Packets.packets_of}
use Rattle.dist_conformance.specs.declared.patterns.{Check.Check, PacketCheck.PacketCheck, NamesCheck.NamesCheck, Pattern.Pattern}
use Rattle.dist_conformance.specs.declared.outcomes.{Passage.Passage, Deviation.Deviation, PatternOutcome.PatternOutcome}
use Rattle.dist_conformance.specs.declared.{shapes.Shape.Shape, shapes.Framing.Framing, packets.PacketState.PacketState, steps.Demand.Demand, say.Learned.Learned}
use Rattle.dist_conformance.specs.declared.patterns.Pattern.TheVariants as pattern
use Rattle.dist_conformance.specs.declared.outcomes.Deviation.TheVariants as deviation
use Rattle.dist_conformance.specs.declared.outcomes.PatternOutcome.TheVariants as outcome
use Rattle.dist_conformance.specs.declared.judging.Judgement.TheVariants as judgement

-- ---- a pattern is decided once the connection has ended

abbrev Decided : PatternOutcome → Type 0
Decided x = is_open x ≡ false

either : (b : Bool) (x y : PatternOutcome) → Decided x → Decided y → Decided (if b then x else y)
either true x y p q = p
either false x y p q = q

ended_part : (e : Bool) → e ≡ true → Decided (part_outcome e)
ended_part true h = refl
ended_part false h = absurd cc

at_end : (e : Bool) (x : PatternOutcome) → e ≡ true → Decided x → Decided (if e then x else outcome.Open)
at_end true x h d = d
at_end false x h d = absurd cc

of_open : (ms count : ℕ) (o : Observation) → o.ended ≡ true → Decided (open_for ms count o)
of_open ms count o h = rw h refl

of_if : (b : Bool) (n : ℕ) → Decided (passes_if b n)
of_if true n = refl
of_if false n = refl

of_message : (shape : Shape) (checks : List Check) (learned : List Learned) (cookie body : List ℕ) (count : ℕ) → Decided (by_message shape checks learned cookie body count)
of_message shape checks learned cookie body count =
    either (is_some (value_in shape.fields.now 0 body)) _ (outcome.Fails deviation.Other)
    (either (list_all (check_passes shape body learned cookie) checks) (outcome.Matches (passage_of shape body count)) (outcome.Fails deviation.Field) refl refl) refl

of_state : (check : PacketCheck) (o : Observation) (n : ℕ) (s : PacketState) → o.ended ≡ true → Decided (by_state check o n s)
of_state check o n s h = rw h (either (s.is_bad || nat_lt check.most s.ticks) (outcome.Fails deviation.Field) (outcome.Fails deviation.Closed) refl refl)

of_names : (which : NamesCheck) (count : ℕ) (a : Option (ℕ × List ℕ)) → Decided (by_names which count a)
of_names which count None = refl
of_names which count (Some a) = either (are_lines a.1 && names_pass which a.0 a.1) (passes count) (outcome.Fails deviation.Field) refl refl

of_front : (f : Framing) (front : List ℕ) (o : Observation) (n : ℕ) (t : Option (List ℕ × List ℕ)) → o.ended ≡ true → Decided (by_body (pattern.Body f front) o n t)
of_front f front o n None h = ended_part o.ended h
of_front f front o n (Some t) h = of_if (begins_with front t.0) (n - length t.1)

of_shape : (shape : Shape) (checks : List Check) (o : Observation) (n : ℕ) (t : Option (List ℕ × List ℕ)) → o.ended ≡ true → Decided (by_body (pattern.Message shape checks) o n t)
of_shape shape checks o n None h = ended_part o.ended h
of_shape shape checks o n (Some t) h = of_message shape checks o.learned o.cookie t.0 (n - length t.1)

decided : (p : Pattern) (o : Observation) (came : List ℕ) → o.ended ≡ true → Decided (outcome_of p o came)
decided pattern.End o [] h = at_end o.ended (passes 0) h refl
decided pattern.End o (c ∷ cs) h = refl
decided (pattern.Silence ms) o [] h = of_open ms 0 o h
decided (pattern.Silence ms) o (c ∷ cs) h = refl
decided (pattern.Open ms) o came h = of_open ms (length came) o h
decided (pattern.Bytes wanted) o came h =
    either (begins_with wanted came) (passes (length wanted)) (if begins_with came wanted then part_outcome o.ended else outcome.Fails deviation.Other) refl
    (either (begins_with came wanted) (part_outcome o.ended) (outcome.Fails deviation.Other) (ended_part o.ended h) refl)
decided (pattern.Packets check) o came h = of_state check o (length came) (packets_of came) h
decided (pattern.Body f front) o came h = of_front f front o (length came) (whole f came) h
decided (pattern.Message shape checks) o came h = of_shape shape checks o (length came) (whole shape.framing came) h
decided (pattern.Names which) o came h = at_end o.ended (by_names which (length came) (number_at w32 came)) h (of_names which (length came) (number_at w32 came))

behind_decided : (x : PatternOutcome) (behind : Passage → PatternOutcome) → Decided x → ((p : Passage) → Decided (behind p)) → Decided (behind_match x behind)
behind_decided (outcome.Matches p) behind d k = k p
behind_decided (outcome.Fails why) behind d k = refl
behind_decided outcome.Open behind d k = d

sequence_decided : (ps : List Pattern) (o : Observation) (p : Passage) → o.ended ≡ true → Decided (sequence_of o p ps)
sequence_decided [] o p h = refl
sequence_decided (f ∷ fs) o p h =
    behind_decided (outcome_of f o (drop p.count o.came)) (λ q. sequence_of o (joined p q) fs) (decided f o (drop p.count o.came) h) (λ q. sequence_decided fs o (joined p q) h)

none_of : (b c : Bool) → b ≡ false → c ≡ false → (b || c) ≡ false
none_of true c h k = absurd cc
none_of false c h k = k

none_open : (alternatives : List (List Pattern)) (o : Observation) → o.ended ≡ true → list_any is_open (outcomes_of o alternatives) ≡ false
none_open [] o h = refl
none_open (ps ∷ others) o h =
    none_of (is_open (sequence_of o no_passage ps)) (list_any is_open (outcomes_of o others)) (sequence_decided ps o no_passage h) (none_open others o h)

not_both : (b c : Bool) → c ≡ false → (b && c) ≡ false
not_both true c h = h
not_both false c h = refl

-- ---- a judgement is decided where nothing may match any more

loose_decided : (o : Observation) (why : Deviation) (loose : List PatternOutcome) (p : Option Passage) → may_match o loose ≡ false → by_loose o why loose p ≡ judgement.More → ⊥
loose_decided o why loose (Some p) h e = absurd cc
loose_decided o why loose None h e = let more : judgement.Deviates why ≡ judgement.More = rw h at e in absurd cc

all_decided : (o : Observation) (wanted loose : List PatternOutcome) (p : Option Passage) → may_match o wanted ≡ false → may_match o loose ≡ false → by_wanted o wanted loose p ≡ judgement.More → ⊥
all_decided o wanted loose (Some p) h k e = absurd cc
all_decided o wanted loose None h k e =
    loose_decided o (first_failure wanted) loose (first_passage loose) k (rw h at e)

pub once_ended : (demand : Demand) (o : Observation) → o.ended ≡ true → judgement_of demand o ≡ judgement.More → ⊥
once_ended demand o h e =
    let none : (alternatives : List (List Pattern)) → may_match o (outcomes_of o alternatives) ≡ false = λ alternatives. not_both (nat_lt o.elapsed o.limit) _ (none_open alternatives o h) in
    all_decided o (outcomes_of o demand.wanted) (outcomes_of o demand.loose) (first_passage (outcomes_of o demand.wanted)) (none demand.wanted) (none demand.loose) e

too_late : (o : Observation) (outcomes : List PatternOutcome) → o.limit ≤ o.elapsed → may_match o outcomes ≡ false
too_late o outcomes h = let late : nat_lt o.elapsed o.limit ≡ false = grind (arith, h) in rw late refl

pub once_late : (demand : Demand) (o : Observation) → o.limit ≤ o.elapsed → judgement_of demand o ≡ judgement.More → ⊥
once_late demand o h e =
    all_decided o (outcomes_of o demand.wanted) (outcomes_of o demand.loose) (first_passage (outcomes_of o demand.wanted)) (too_late o (outcomes_of o demand.wanted) h) (too_late o (outcomes_of o demand.loose) h) e

-- ---- what is kept is kept by a match

pub record Found (o : Observation) (alternatives : List (List Pattern)) (p : Passage) : Type 0 where
  pub patterns : List Pattern
  pub among : Contains alternatives patterns
  pub is : sequence_of o no_passage patterns ≡ outcome.Matches p

behind_one : (o : Observation) (ps : List Pattern) (others : List (List Pattern)) (p : Passage) → Found o others p → Found o (ps ∷ others) p
behind_one o ps others p f = record { patterns = f.patterns; among = (suc f.among.0, omega arith, f.among.2); is = f.is }

found : (alternatives : List (List Pattern)) (o : Observation) (p : Passage) → first_passage (outcomes_of o alternatives) ≡ Some p → Found o alternatives p
found [] o p = λ e. absurd cc
found (ps ∷ others) o p =
    elim (sequence_of o no_passage ps) as (λ x. sequence_of o no_passage ps ≡ x → first_passage (x ∷ outcomes_of o others) ≡ Some p → Found o (ps ∷ others) p) [
      | outcome.Matches q ↦ λ is e. let same : q ≡ p = cc in record { patterns = ps; among = (0, omega arith, refl); is = is ∙ ap (λ x. outcome.Matches x) same }
      | outcome.Fails why ↦ λ is e. behind_one o ps others p (found others o p e)
      | outcome.Open ↦ λ is e. behind_one o ps others p (found others o p e)
    ] refl

never_kept_loose : (o : Observation) (why : Deviation) (loose : List PatternOutcome) (x : Option Passage) (p : Passage) → by_loose o why loose x ≡ judgement.Kept p → ⊥
never_kept_loose o why loose (Some q) p = λ e. absurd cc
never_kept_loose o why loose None p =
    elim (may_match o loose) as (λ b. (if b then judgement.More else judgement.Deviates why) ≡ judgement.Kept p → ⊥) [ true ↦ λ e. absurd cc | false ↦ λ e. absurd cc ]

kept_from : (o : Observation) (wanted loose : List PatternOutcome) (x : Option Passage) (p : Passage) → by_wanted o wanted loose x ≡ judgement.Kept p → x ≡ Some p
kept_from o wanted loose (Some q) p = λ e. let same : q ≡ p = cc in ap (λ y. Some y) same
kept_from o wanted loose None p =
    elim (may_match o wanted) as (λ b. (if b then judgement.More else by_loose o (first_failure wanted) loose (first_passage loose)) ≡ judgement.Kept p → None ≡ Some p) [
      | true ↦ λ e. absurd cc
      | false ↦ λ e. absurd (never_kept_loose o (first_failure wanted) loose (first_passage loose) p e)
    ]

pub kept : (demand : Demand) (o : Observation) (p : Passage) → judgement_of demand o ≡ judgement.Kept p → Found o demand.wanted p
kept demand o p e = found demand.wanted o p (kept_from o (outcomes_of o demand.wanted) (outcomes_of o demand.loose) (first_passage (outcomes_of o demand.wanted)) p e)
