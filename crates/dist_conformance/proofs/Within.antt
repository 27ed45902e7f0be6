-- No more bytes match than came.
use Rattle.std.proofs.Common.{◌≡◌, ℕ, ◌-◌, ◌≤◌, Bool, true, false, List, [], ◌∷◌, length, Option, Some, None, refl, arith}
use Rattle.std.specs.{Prelude.◌&&◌, Prelude.◌||◌, Prelude.nat_lt, Prelude.nat_le, Prelude.is_some, Prelude.if◌then◌else◌, Int.w32, List.list_all}
use Rattle.dist_names.specs.Fields.{number_at}
use Rattle.dist_conformance.specs.Judging.{Observation, passes, passes_if, part_outcome, open_for, check_passes, by_message, body_outcome, by_body}
use Rattle.dist_conformance.specs.Judging.{is_over, is_stalled, by_state, are_lines, names_pass, by_names, outcome_of}
use Rattle.dist_conformance.specs.{Bodies.begins_with, Bodies.value_in, Bodies.whole, Packets.packets_of, Outcomes.IsWithin}
use Rattle.dist_conformance.specs.declared.patterns.{Check.Check, PacketCheck.PacketCheck, NamesCheck.NamesCheck, Pattern.Pattern}
use Rattle.dist_conformance.specs.declared.{shapes.Shape.Shape, say.Learned.Learned, packets.PacketState.PacketState, outcomes.PatternOutcome.PatternOutcome}
use Rattle.dist_conformance.specs.declared.patterns.Pattern.TheVariants as pattern
use Rattle.dist_conformance.specs.declared.outcomes.Deviation.TheVariants as deviation
use Rattle.dist_conformance.specs.declared.outcomes.PatternOutcome.TheVariants as outcome
use Rattle.dist_conformance.proofs.Fronts.{begins_within}

either : (b : Bool) (n : ℕ) (x y : PatternOutcome) → (b ≡ true → IsWithin n x) → IsWithin n y → IsWithin n (if b then x else y)
either true n x y p q = p refl
either false n x y p q = q

waits : (e : Bool) (n : ℕ) → IsWithin n (part_outcome e)
waits true n = tt
waits false n = tt

of_if : (b : Bool) (n m : ℕ) → n ≤ m → IsWithin m (passes_if b n)
of_if true n m h = h
of_if false n m h = tt

of_open : (ms count : ℕ) (o : Observation) (n : ℕ) → count ≤ n → IsWithin n (open_for ms count o)
of_open ms count o n h = either o.ended n _ _ (λ _. tt) (either (nat_le ms o.elapsed) n _ _ (λ _. h) tt)

of_message : (shape : Shape) (checks : List Check) (learned : List Learned) (cookie body : List ℕ) (count n : ℕ) → count ≤ n → IsWithin n (by_message shape checks learned cookie body count)
of_message shape checks learned cookie body count n h =
    either (is_some (value_in shape.fields.now 0 body)) n _ _ (λ _. either (list_all (check_passes shape body learned cookie) checks) n _ _ (λ _. h) tt) tt

of_outcome : (p : Pattern) (o : Observation) (body : List ℕ) (count n : ℕ) → count ≤ n → IsWithin n (body_outcome p o body count)
of_outcome (pattern.Body f front) o body count n h = of_if (begins_with front body) count n h
of_outcome (pattern.Message shape checks) o body count n h = of_message shape checks o.learned o.cookie body count n h
of_outcome other o body count n h = tt

of_body : (p : Pattern) (o : Observation) (n : ℕ) (t : Option (List ℕ × List ℕ)) → IsWithin n (by_body p o n t)
of_body p o n None = waits o.ended n
of_body p o n (Some t) = of_outcome p o t.0 (n - length t.1) n (omega arith)

of_state : (check : PacketCheck) (o : Observation) (n : ℕ) (s : PacketState) → IsWithin n (by_state check o n s)
of_state check o n s =
    either (s.is_bad || nat_lt check.most s.ticks) n (outcome.Fails deviation.Field) _ (λ _. tt)
    (either o.ended n (outcome.Fails deviation.Closed) _ (λ _. tt)
    (either (is_stalled check o s || (is_over check o && nat_lt s.ticks check.least)) n (outcome.Fails deviation.Field) _ (λ _. tt)
    (either (is_over check o) n (passes n) outcome.Open (λ _. omega arith) tt)))

of_names : (which : NamesCheck) (count : ℕ) (a : Option (ℕ × List ℕ)) → IsWithin count (by_names which count a)
of_names which count None = tt
of_names which count (Some a) = either (are_lines a.1 && names_pass which a.0 a.1) count (passes count) (outcome.Fails deviation.Field) (λ _. omega arith) tt

pub within : (p : Pattern) (o : Observation) (came : List ℕ) → IsWithin (length came) (outcome_of p o came)
within pattern.End o [] = either o.ended 0 (passes 0) outcome.Open (λ _. omega arith) tt
within pattern.End o (c ∷ cs) = tt
within (pattern.Silence ms) o [] = of_open ms 0 o 0 (omega arith)
within (pattern.Silence ms) o (c ∷ cs) = tt
within (pattern.Open ms) o came = of_open ms (length came) o (length came) (omega arith)
within (pattern.Packets check) o came = of_state check o (length came) (packets_of came)
within (pattern.Bytes wanted) o came =
    either (begins_with wanted came) (length came) _ _ (λ e. begins_within wanted came e) (either (begins_with came wanted) (length came) _ _ (λ _. waits o.ended (length came)) tt)
within (pattern.Body f front) o came = of_body (pattern.Body f front) o (length came) (whole f came)
within (pattern.Message shape checks) o came = of_body (pattern.Message shape checks) o (length came) (whole shape.framing came)
within (pattern.Names which) o came = either o.ended (length came) _ _ (λ _. of_names which (length came) (number_at w32 came)) tt
