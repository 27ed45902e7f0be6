-- What is decided stays so as more comes.
use Rattle.std.proofs.Common.{◌≡◌, ℕ, ◌-◌, ◌≤◌, ◌<◌, Bool, true, false, List, [], ◌∷◌, ◌++◌, length, drop, max, Option, Some, None, refl, sym, ap, subst, ◌∙◌, arith, length-drop}
use Rattle.std.proofs.lemmas.Bool.{and_parts}
use Rattle.std.proofs.lemmas.List.{drop-append-le, drop-drop, drop_all}
use Rattle.std.specs.Prelude.{◌||◌, ◌&&◌, nat_lt, nat_le, if◌then◌else◌}
use Rattle.std.specs.{List.list_any, List.list_all}
use lib.Seq.{drop-nil}
use Rattle.dist_conformance.specs.Judging.{Observation, passes, part_outcome, open_for, by_bytes, by_body, by_whole}
use Rattle.dist_conformance.specs.Judging.{body_outcome, outcome_of, joined, behind_match, sequence_of, no_passage, outcomes_of, first_passage, is_open}
use Rattle.dist_conformance.specs.Judging.{first_failure, may_match, by_loose, by_wanted, judgement_of}
use Rattle.dist_conformance.specs.{Bodies.begins_with, Bodies.whole, Outcomes.IsWithin}
use Rattle.dist_conformance.specs.Later.{IsLater, looks_at_bytes, never_stalls, WithoutPackets}
use Rattle.dist_conformance.specs.declared.outcomes.{Passage.Passage, Deviation.Deviation, PatternOutcome.PatternOutcome}
use Rattle.dist_conformance.specs.declared.{patterns.Pattern.Pattern, shapes.Framing.Framing, steps.Demand.Demand}
use Rattle.dist_conformance.specs.declared.patterns.Pattern.TheVariants as pattern
use Rattle.dist_conformance.specs.declared.shapes.Framing.TheVariants as framing
use Rattle.dist_conformance.specs.declared.outcomes.Deviation.TheVariants as deviation
use Rattle.dist_conformance.specs.declared.outcomes.PatternOutcome.TheVariants as outcome
use Rattle.dist_conformance.specs.declared.judging.Judgement.TheVariants as judgement
use Rattle.dist_conformance.proofs.{Fronts.begins_more, Fronts.begins_never, Fronts.begins_longer, Fronts.whole_more, Fronts.same_count, Within.within}

-- what is not open at first is the same later on
abbrev Stays : PatternOutcome → PatternOutcome → Type 0
Stays first later = is_open first ≡ false → later ≡ first

of_bytes : (wanted came more : List ℕ) (e : Bool) → Stays (by_bytes wanted came false) (by_bytes wanted (came ++ more) e)
of_bytes wanted came more e =
    elim (begins_with wanted came) as (λ b. begins_with wanted came ≡ b → Stays (if b then passes (length wanted) else (if begins_with came wanted then part_outcome false else outcome.Fails deviation.Other)) (by_bytes wanted (came ++ more) e)) [
      | true ↦ λ is _. rw (begins_more wanted came more is) refl
      | false ↦ λ is. (elim (begins_with came wanted) as (λ b. begins_with came wanted ≡ b → Stays (if b then part_outcome false else outcome.Fails deviation.Other) (by_bytes wanted (came ++ more) e)) [
        | true ↦ λ _ h. absurd cc
        | false ↦ λ other h. rw (begins_never wanted came more is other, begins_longer came more wanted other) refl
      ] refl)
    ] refl

module _ (o later : Observation) (l : IsLater o later) where
  -- a body means the same
  same_body : (p : Pattern) (body : List ℕ) (count : ℕ) → body_outcome p later body count ≡ body_outcome p o body count
  same_body (pattern.Body f front) body count = refl
  same_body (pattern.Message shape checks) body count = rw (l.learned, l.cookie) refl
  same_body other body count = refl

  of_whole : (p : Pattern) (f : Framing) (came more : List ℕ) (x : Option (List ℕ × List ℕ)) → whole f came ≡ x → Stays (by_body p o (length came) x) (by_whole p f later (came ++ more))
  of_whole p f came more None is h = let waits : true ≡ false = rw l.was_open at h in absurd cc
  of_whole p f came more (Some t) is h =
      rw (whole_more f came more t is, same_count came more t.1) (same_body p t.0 (length came - length t.1))

  settled : (p : Pattern) (came more : List ℕ) → looks_at_bytes p ≡ true → Stays (outcome_of p o came) (outcome_of p later (came ++ more))
  settled pattern.End came more b = absurd cc
  settled (pattern.Silence ms) came more b = absurd cc
  settled (pattern.Open ms) came more b = absurd cc
  settled (pattern.Packets which) came more b = absurd cc
  settled (pattern.Names which) came more b = absurd cc
  settled (pattern.Bytes wanted) came more b =
      subst (λ v. Stays (by_bytes wanted came v) (by_bytes wanted (came ++ more) later.ended)) (sym l.was_open) (of_bytes wanted came more later.ended)
  settled (pattern.Body f front) came more b = of_whole (pattern.Body f front) f came more (whole f came) refl
  settled (pattern.Message shape checks) came more b = of_whole (pattern.Message shape checks) shape.framing came more (whole shape.framing came) refl

-- ---- patterns that look at the end or at the time

-- where the connection is open, it has not failed for so long
open_never_fails : (ms count : ℕ) (o : Observation) (why : Deviation) → o.ended ≡ false → open_for ms count o ≡ outcome.Fails why → ⊥
open_never_fails ms count o why h e =
    let f : (if nat_le ms o.elapsed then passes count else outcome.Open) ≡ outcome.Fails why = rw h at e in
    (elim (nat_le ms o.elapsed) as (λ b. (if b then passes count else outcome.Open) ≡ outcome.Fails why → ⊥) [ true ↦ λ g. absurd cc | false ↦ λ g. absurd cc ]) f

none_whole : (f : Framing) → whole f [] ≡ None
none_whole framing.Frame = refl
none_whole framing.Packet = refl
none_whole (framing.Bare n) = let short : nat_lt 0 (max n 1) ≡ true = grind arith in rw short refl

body_never_fails : (p : Pattern) (f : Framing) (o : Observation) (why : Deviation) → o.ended ≡ false → by_whole p f o [] ≡ outcome.Fails why → ⊥
body_never_fails p f o why h e = let g : outcome.Open ≡ outcome.Fails why = rw (none_whole f, h) at e in absurd cc

nothing_fails : (p : Pattern) (o : Observation) (why : Deviation) → o.ended ≡ false → never_stalls p ≡ true → outcome_of p o [] ≡ outcome.Fails why → ⊥
nothing_fails pattern.End o why h s e = let f : outcome.Open ≡ outcome.Fails why = rw h at e in absurd cc
nothing_fails (pattern.Silence ms) o why h s e = open_never_fails ms 0 o why h e
nothing_fails (pattern.Open ms) o why h s e = open_never_fails ms 0 o why h e
nothing_fails (pattern.Packets which) o why h s e = absurd cc
nothing_fails (pattern.Bytes []) o why h s e = absurd cc
nothing_fails (pattern.Bytes (c ∷ cs)) o why h s e = let f : outcome.Open ≡ outcome.Fails why = rw h at e in absurd cc
nothing_fails (pattern.Body f front) o why h s e = body_never_fails (pattern.Body f front) f o why h e
nothing_fails (pattern.Message shape checks) o why h s e = body_never_fails (pattern.Message shape checks) shape.framing o why h e
nothing_fails (pattern.Names which) o why h s e = let f : outcome.Open ≡ outcome.Fails why = rw h at e in absurd cc

-- a pattern that does not look at bytes alone matches before the end only where nothing is left behind it
open_eats : (ms : ℕ) (came : List ℕ) (o : Observation) (q : Passage) → o.ended ≡ false → open_for ms (length came) o ≡ outcome.Matches q → drop q.count came ≡ []
open_eats ms came o q h e =
    let f : (if nat_le ms o.elapsed then passes (length came) else outcome.Open) ≡ outcome.Matches q = rw h at e in
    (elim (nat_le ms o.elapsed) as (λ b. (if b then passes (length came) else outcome.Open) ≡ outcome.Matches q → drop q.count came ≡ []) [
      | true ↦ λ g. let n : length came ≡ q.count = cc in ap (λ k. drop k came) (sym n) ∙ drop_all (length came) came (omega arith)
      | false ↦ λ g. absurd cc
    ]) f

eats : (p : Pattern) (o : Observation) (came : List ℕ) (q : Passage) → o.ended ≡ false → never_stalls p ≡ true → looks_at_bytes p ≡ false → outcome_of p o came ≡ outcome.Matches q → drop q.count came ≡ []
eats pattern.End o [] q h s b e = let f : outcome.Open ≡ outcome.Matches q = rw h at e in absurd cc
eats pattern.End o (c ∷ cs) q h s b e = absurd cc
eats (pattern.Silence ms) o [] q h s b e = open_eats ms [] o q h e
eats (pattern.Silence ms) o (c ∷ cs) q h s b e = absurd cc
eats (pattern.Open ms) o came q h s b e = open_eats ms came o q h e
eats (pattern.Packets which) o came q h s b e = absurd cc
eats (pattern.Names which) o came q h s b e = let f : outcome.Open ≡ outcome.Matches q = rw h at e in absurd cc
eats other o came q h s b e = absurd cc

-- ---- single patterns that fail

module _ (o later : Observation) (l : IsLater o later) where
  by_settled : (p : Pattern) (came more : List ℕ) (x : PatternOutcome) → looks_at_bytes p ≡ true → is_open x ≡ false → outcome_of p o came ≡ x → outcome_of p later (came ++ more) ≡ x
  by_settled p came more x b d e = settled o later l p came more b (ap is_open e ∙ d) ∙ e

  fails : (p : Pattern) (came more : List ℕ) (why : Deviation) → never_stalls p ≡ true → outcome_of p o came ≡ outcome.Fails why → outcome_of p later (came ++ more) ≡ outcome.Fails why
  fails pattern.End [] more why s e = absurd (nothing_fails pattern.End o why l.was_open s e)
  fails pattern.End (c ∷ cs) more why s e = e
  fails (pattern.Silence ms) [] more why s e = absurd (nothing_fails (pattern.Silence ms) o why l.was_open s e)
  fails (pattern.Silence ms) (c ∷ cs) more why s e = e
  fails (pattern.Open ms) came more why s e = absurd (open_never_fails ms (length came) o why l.was_open e)
  fails (pattern.Packets which) came more why s e = absurd cc
  fails (pattern.Names which) came more why s e = let f : outcome.Open ≡ outcome.Fails why = rw l.was_open at e in absurd cc
  fails other came more why s e = by_settled other came more _ refl refl e

-- ---- sequences

-- where nothing is left, nothing fails
nothing_behind : (ps : List Pattern) (o : Observation) (p : Passage) (why : Deviation) → o.ended ≡ false → list_all never_stalls ps ≡ true → drop p.count o.came ≡ [] → sequence_of o p ps ≡ outcome.Fails why → ⊥
nothing_behind [] o p why h s none e = absurd cc
nothing_behind (f ∷ fs) o p why h s none e =
    let both = and_parts (never_stalls f) (list_all never_stalls fs) s in
    (elim (outcome_of f o []) as (λ x. outcome_of f o [] ≡ x → behind_match x (λ q. sequence_of o (joined p q) fs) ≡ outcome.Fails why → ⊥) [
      | outcome.Matches q ↦ λ is g. nothing_behind fs o (joined p q) why h both.1 (sym (drop-drop q.count p.count o.came) ∙ ap (drop q.count) none ∙ drop-nil q.count) g
      | outcome.Fails w ↦ λ is g. nothing_fails f o w h both.0 is
      | outcome.Open ↦ λ is g. absurd cc
    ] refl) (rw none at e)

module _ (o later : Observation) (l : IsLater o later) where
  -- what is left behind a passage, later on
  left_later : (p : Passage) → p.count ≤ length o.came → drop p.count later.came ≡ drop p.count o.came ++ l.more
  left_later p h = ap (drop p.count) l.came ∙ drop-append-le p.count o.came l.more h

  next_within : (p q : Passage) → p.count ≤ length o.came → q.count ≤ length (drop p.count o.came) → (joined p q).count ≤ length o.came
  next_within p q h k = omega (arith, length-drop p.count o.came, h, k)

  within_of : (f : Pattern) (p q : Passage) → outcome_of f o (drop p.count o.came) ≡ outcome.Matches q → q.count ≤ length (drop p.count o.came)
  within_of f p q is = subst (IsWithin (length (drop p.count o.came))) is (within f o (drop p.count o.came))

  sequence_fails : (ps : List Pattern) (p : Passage) (why : Deviation) → list_all never_stalls ps ≡ true → p.count ≤ length o.came → sequence_of o p ps ≡ outcome.Fails why → sequence_of later p ps ≡ outcome.Fails why
  sequence_fails [] p why s h = λ e. absurd cc
  sequence_fails (f ∷ fs) p why s h =
      let came = drop p.count o.came in
      let both = and_parts (never_stalls f) (list_all never_stalls fs) s in
      elim (outcome_of f o came) as (λ x. outcome_of f o came ≡ x → behind_match x (λ q. sequence_of o (joined p q) fs) ≡ outcome.Fails why → sequence_of later p (f ∷ fs) ≡ outcome.Fails why) [
        | outcome.Matches q ↦ λ is e.
            let more : sequence_of later (joined p q) fs ≡ outcome.Fails why = sequence_fails fs (joined p q) why both.1 (next_within p q h (within_of f p q is)) e in
            (elim (looks_at_bytes f) as (λ b. looks_at_bytes f ≡ b → sequence_of later p (f ∷ fs) ≡ outcome.Fails why) [
              | true ↦ λ b. rw (left_later p h, by_settled o later l f came l.more (outcome.Matches q) b refl is) more
              | false ↦ λ b. absurd (nothing_behind fs o (joined p q) why l.was_open both.1 (sym (drop-drop q.count p.count o.came) ∙ eats f o came q l.was_open both.0 b is) e)
            ] refl)
        | outcome.Fails w ↦ λ is e. rw (left_later p h, fails o later l f came l.more w both.0 is) e
        | outcome.Open ↦ λ is e. absurd cc
      ] refl

  pub sequence_matches : (ps : List Pattern) (p q : Passage) → p.count ≤ length o.came → list_all looks_at_bytes ps ≡ true → sequence_of o p ps ≡ outcome.Matches q → sequence_of later p ps ≡ outcome.Matches q
  sequence_matches [] p q h b = λ e. e
  sequence_matches (f ∷ fs) p q h b =
      let came = drop p.count o.came in
      let both = and_parts (looks_at_bytes f) (list_all looks_at_bytes fs) b in
      elim (outcome_of f o came) as (λ x. outcome_of f o came ≡ x → behind_match x (λ r. sequence_of o (joined p r) fs) ≡ outcome.Matches q → sequence_of later p (f ∷ fs) ≡ outcome.Matches q) [
        | outcome.Matches r ↦ λ is e.
            rw (left_later p h, by_settled o later l f came l.more (outcome.Matches r) both.0 refl is) (sequence_matches fs (joined p r) q (next_within p r h (within_of f p r is)) both.1 e)
        | outcome.Fails w ↦ λ is e. absurd cc
        | outcome.Open ↦ λ is e. absurd cc
      ] refl

  -- ---- alternatives that all fail do so later on

  none_matches : (ps : List Pattern) (others : List (List Pattern)) → list_all never_stalls ps ≡ true → first_passage (outcomes_of o (ps ∷ others)) ≡ None → list_any is_open (outcomes_of o (ps ∷ others)) ≡ false
      → (sequence_of later no_passage ps ≡ sequence_of o no_passage ps) × (first_passage (outcomes_of o others) ≡ None) × (list_any is_open (outcomes_of o others) ≡ false)
  none_matches ps others s =
      elim (sequence_of o no_passage ps) as (λ x. sequence_of o no_passage ps ≡ x → first_passage (x ∷ outcomes_of o others) ≡ None → (is_open x || list_any is_open (outcomes_of o others)) ≡ false
      → (sequence_of later no_passage ps ≡ x) × (first_passage (outcomes_of o others) ≡ None) × (list_any is_open (outcomes_of o others) ≡ false)) [
        | outcome.Matches q ↦ λ is e f. absurd cc
        | outcome.Fails w ↦ λ is e f. (sequence_fails ps no_passage w s (omega arith) is, e, f)
        | outcome.Open ↦ λ is e f. absurd cc
      ] refl

  same_outcomes : (alternatives : List (List Pattern)) → list_all (list_all never_stalls) alternatives ≡ true → first_passage (outcomes_of o alternatives) ≡ None → list_any is_open (outcomes_of o alternatives) ≡ false → outcomes_of later alternatives ≡ outcomes_of o alternatives
  same_outcomes [] s e f = refl
  same_outcomes (ps ∷ others) s e f =
      let both = and_parts (list_all never_stalls ps) (list_all (list_all never_stalls) others) s in
      let n = none_matches ps others both.0 e f in
      let rest = same_outcomes others both.1 n.1 n.2 in
      ap (λ x. x ∷ outcomes_of later others) n.0 ∙ ap (λ xs. sequence_of o no_passage ps ∷ xs) rest

-- ---- the judgement

-- no alternative matches, and none is open
abbrev Over : List PatternOutcome → Type 0
Over outcomes = (first_passage outcomes ≡ None) × (list_any is_open outcomes ≡ false)

in_time : (o : Observation) (outcomes : List PatternOutcome) → o.elapsed < o.limit → may_match o outcomes ≡ list_any is_open outcomes
in_time o outcomes h = let there : nat_lt o.elapsed o.limit ≡ true = grind (arith, h) in rw there refl

loose_open : (o : Observation) (why w : Deviation) (loose : List PatternOutcome) → o.elapsed < o.limit → by_loose o why loose None ≡ judgement.Deviates w → (list_any is_open loose ≡ false) × (why ≡ w)
loose_open o why w loose h e =
    (elim (list_any is_open loose) as (λ b. (if b then judgement.More else judgement.Deviates why) ≡ judgement.Deviates w → (b ≡ false) × (why ≡ w)) [
      | true ↦ λ f. absurd cc
      | false ↦ λ f. (refl, cc)
    ]) (rw (in_time o loose h) at e)

loose_over : (o : Observation) (why w : Deviation) (loose : List PatternOutcome) (x : Option Passage) → o.elapsed < o.limit → by_loose o why loose x ≡ judgement.Deviates w → (x ≡ None) × (list_any is_open loose ≡ false) × (why ≡ w)
loose_over o why w loose (Some p) h e = absurd cc
loose_over o why w loose None h e = let f = loose_open o why w loose h e in (refl, f.0, f.1)

wanted_open : (o : Observation) (w : Deviation) (wanted loose : List PatternOutcome) → o.elapsed < o.limit → by_wanted o wanted loose None ≡ judgement.Deviates w
    → (list_any is_open wanted ≡ false) × (by_loose o (first_failure wanted) loose (first_passage loose) ≡ judgement.Deviates w)
wanted_open o w wanted loose h e =
    (elim (list_any is_open wanted) as (λ b. (if b then judgement.More else by_loose o (first_failure wanted) loose (first_passage loose)) ≡ judgement.Deviates w → (b ≡ false) × (by_loose o (first_failure wanted) loose (first_passage loose) ≡ judgement.Deviates w)) [
      | true ↦ λ f. absurd cc
      | false ↦ λ f. (refl, f)
    ]) (rw (in_time o wanted h) at e)

wanted_over : (o : Observation) (w : Deviation) (wanted loose : List PatternOutcome) (x : Option Passage) → o.elapsed < o.limit → by_wanted o wanted loose x ≡ judgement.Deviates w
    → (x ≡ None) × (list_any is_open wanted ≡ false) × (by_loose o (first_failure wanted) loose (first_passage loose) ≡ judgement.Deviates w)
wanted_over o w wanted loose (Some p) h e = absurd cc
wanted_over o w wanted loose None h e = let f = wanted_open o w wanted loose h e in (refl, f.0, f.1)

none_left : (o : Observation) (outcomes : List PatternOutcome) → list_any is_open outcomes ≡ false → may_match o outcomes ≡ false
none_left o outcomes e = (elim (nat_lt o.elapsed o.limit) as (λ b. (b && list_any is_open outcomes) ≡ false) [ true ↦ e | false ↦ refl ])

all_over : (o : Observation) (wanted loose : List PatternOutcome) → Over wanted → Over loose → by_wanted o wanted loose (first_passage wanted) ≡ judgement.Deviates (first_failure wanted)
all_over o wanted loose w l = rw (w.0, none_left o wanted w.1, l.0, none_left o loose l.1) refl

pub deviates : (demand : Demand) (o later : Observation) (why : Deviation) → WithoutPackets demand → IsLater o later → o.elapsed < o.limit → judgement_of demand o ≡ judgement.Deviates why → judgement_of demand later ≡ judgement.Deviates why
deviates demand o later why s l h e =
    let wanted = outcomes_of o demand.wanted in
    let loose = outcomes_of o demand.loose in
    let w = wanted_over o why wanted loose (first_passage wanted) h e in
    let v = loose_over o (first_failure wanted) why loose (first_passage loose) h w.2 in
    let same_wanted = same_outcomes o later l demand.wanted s.0 w.0 w.1 in
    let same_loose = same_outcomes o later l demand.loose s.1 v.0 v.1 in
    rw (same_wanted, same_loose) (all_over later wanted loose (w.0, w.1) (v.0, v.1) ∙ ap (λ x. judgement.Deviates x) v.2)
