-- A challenge that matches is one.
use Rattle.std.proofs.Common.{◌≡◌, ◌∙◌, ℕ, ◌-◌, ◌≤◌, Bool, true, false, List, [], ◌∷◌, ◌++◌, length, take, drop, get_or, Option, Some, None, refl, sym, ap, subst, arith}
use Rattle.std.proofs.Common.{append_assoc, take-append-drop, drop_at, length-take}
use Rattle.std.proofs.lemmas.{List.take_all, Bool.Decides.Decides-eqb}
use Rattle.std.specs.{Prelude.◌==◌, Prelude.nat_lt, Prelude.is_some, Prelude.if◌then◌else◌, Prelude.option_map, Prelude.option_and_then, Int.w16, Int.w32, Int.from_be_bytes, List.list_all}
use Rattle.dist_names.specs.Fields.{bytes_at}
use Rattle.dist_conformance.specs.Bodies.{sized_at, taken, values_in, value_in, number_of_32}
use Rattle.dist_conformance.specs.Judging.{Observation, check_passes, passage_of, by_message, by_body, part_outcome, outcome_of}
use Rattle.dist_conformance.specs.Later.{IsOfChallenges, IsChallenge}
use Rattle.dist_conformance.specs.declared.{shapes.Shape.Shape, shapes.FieldForm.FieldForm, patterns.Check.Check, say.Learned.Learned, outcomes.Passage.Passage}
use Rattle.dist_conformance.specs.declared.shapes.FieldForm.TheVariants as form
use Rattle.dist_conformance.specs.declared.patterns.Pattern.TheVariants as pattern
use Rattle.dist_conformance.specs.declared.outcomes.Deviation.TheVariants as deviation
use Rattle.dist_conformance.specs.declared.outcomes.PatternOutcome.TheVariants as outcome

-- ---- what was taken stood in front

pub record Front (n : ℕ) (s v r : List ℕ) : Type 0 where
  pub parts : s ≡ v ++ r
  pub size : length v ≡ n

by_length : (n : ℕ) (s : List ℕ) (t : List ℕ × List ℕ) (b : Bool) → nat_lt (length s) n ≡ b → (if b then None else Some (take n s, drop n s)) ≡ Some t → Front n s t.0 t.1
by_length n s t true is e = absurd cc
by_length n s t false is e =
    let long : n ≤ length s = grind (arith, is) in
    let same : (take n s, drop n s) ≡ t = cc in
    subst (λ (x : List ℕ × List ℕ). Front n s x.0 x.1) same (record { parts = sym (take-append-drop n s); size = omega (arith, length-take n s, long) })

pub front : (n : ℕ) (s : List ℕ) (t : List ℕ × List ℕ) → bytes_at n s ≡ Some t → Front n s t.0 t.1
front n s t e = by_length n s t (nat_lt (length s) n) refl e

-- bytes behind their number
pub record Sized (s v r : List ℕ) : Type 0 where
  pub size : List ℕ
  pub parts : s ≡ size ++ v ++ r
  pub size_bytes : length size ≡ 2
  pub counted : from_be_bytes w16 size ≡ length v

by_size : (s : List ℕ) (t : List ℕ × List ℕ) (b : Bool) → nat_lt (length s) 2 ≡ b
    → option_and_then (λ (n : ℕ × List ℕ). bytes_at n.0 n.1) (if b then None else Some (from_be_bytes w16 (take 2 s), drop 2 s)) ≡ Some t → Sized s t.0 t.1
by_size s t true is e = absurd cc
by_size s t false is e =
    let long : 2 ≤ length s = grind (arith, is) in
    let f = front (from_be_bytes w16 (take 2 s)) (drop 2 s) t e in
    record {
      size = take 2 s;
      parts = sym (take-append-drop 2 s) ∙ ap (λ (x : List ℕ). take 2 s ++ x) f.parts ∙ sym (append_assoc (take 2 s) t.0 t.1);
      size_bytes = omega (arith, length-take 2 s, long);
      counted = sym f.size;
    }

pub sized : (s : List ℕ) (t : List ℕ × List ℕ) → sized_at w16 s ≡ Some t → Sized s t.0 t.1
sized s t e = by_size s t (nat_lt (length s) 2) refl e

-- the tag in front
by_tag : (tag c : ℕ) (cs : List ℕ) (t : List ℕ × List ℕ) (b : Bool) → (c == tag) ≡ b → (if b then bytes_at 1 (c ∷ cs) else None) ≡ Some t → c ∷ cs ≡ tag ∷ t.1
by_tag tag c cs t true is e =
    let f = front 1 (c ∷ cs) t e in
    let same : c ≡ tag = (Decides-eqb c tag).0 is in
    let rest : drop 1 (c ∷ cs) ≡ t.1 = ap (drop 1) f.parts ∙ drop_at t.0 t.1 1 f.size in
    ap (λ x. x ∷ cs) same ∙ ap (λ x. tag ∷ x) rest
by_tag tag c cs t false is e = absurd cc

tagged : (tag : ℕ) (s : List ℕ) (t : List ℕ × List ℕ) → taken (form.Tag tag) s ≡ Some t → s ≡ tag ∷ t.1
tagged tag [] t e = absurd cc
tagged tag (c ∷ cs) t e = by_tag tag c cs t (c == tag) refl e

-- ---- the fields of a body, one after the other

record Step (f : FieldForm) (fs : List FieldForm) (s : List ℕ) (vs : List (List ℕ)) : Type 0 where
  v : List ℕ
  rest : List ℕ
  others : List (List ℕ)
  here : taken f s ≡ Some (v, rest)
  there : values_in fs rest ≡ Some others
  are : vs ≡ v ∷ others

by_rest : (f : FieldForm) (fs : List FieldForm) (s : List ℕ) (vs : List (List ℕ)) (t : List ℕ × List ℕ) (y : Option (List (List ℕ))) → taken f s ≡ Some t → values_in fs t.1 ≡ y
    → option_map (λ (others : List (List ℕ)). t.0 ∷ others) y ≡ Some vs → Step f fs s vs
by_rest f fs s vs t None is there e = absurd cc
by_rest f fs s vs t (Some others) is there e = record { v = t.0; rest = t.1; others = others; here = is; there = there; are = cc }

by_first : (f : FieldForm) (fs : List FieldForm) (s : List ℕ) (vs : List (List ℕ)) (x : Option (List ℕ × List ℕ)) → taken f s ≡ x
    → option_and_then (λ (t : List ℕ × List ℕ). option_map (λ (others : List (List ℕ)). t.0 ∷ others) (values_in fs t.1)) x ≡ Some vs → Step f fs s vs
by_first f fs s vs None is e = absurd cc
by_first f fs s vs (Some t) is e = by_rest f fs s vs t (values_in fs t.1) is refl e

step : (f : FieldForm) (fs : List FieldForm) (s : List ℕ) (vs : List (List ℕ)) → values_in (f ∷ fs) s ≡ Some vs → Step f fs s vs
step f fs s vs e = by_first f fs s vs (taken f s) refl e

-- ---- a message that matches

two_ifs : (a b : Bool) (x p : Passage) → (if a then (if b then outcome.Matches x else outcome.Fails deviation.Field) else outcome.Fails deviation.Other) ≡ outcome.Matches p → (a ≡ true) × (x ≡ p)
two_ifs true true x p e = (refl, cc)
two_ifs true false x p e = absurd cc
two_ifs false b x p e = absurd cc

some_values : (x : Option (List (List ℕ))) → is_some (option_map (λ (vs : List (List ℕ)). get_or vs 0 []) x) ≡ true → (vs : List (List ℕ)) × (x ≡ Some vs)
some_values None e = absurd cc
some_values (Some vs) e = (vs, refl)

regroup : (x : ℕ) (a b c d e f : List ℕ) → x ∷ (a ++ (b ++ (c ++ ((d ++ e) ++ f)))) ≡ x ∷ a ++ b ++ c ++ d ++ e ++ f
regroup x a b c d e f = simp append_assoc

four : (v : List ℕ) → length v ≡ 4 → number_of_32 v ≡ Some (from_be_bytes w32 v)
four v e =
    let long : nat_lt (length v) 4 ≡ false = grind (arith, e) in
    let all : take 4 v ≡ v = take_all 4 v (omega (arith, e)) in rw (long, all) refl

third : (shape : Shape) (body : List ℕ) (count : ℕ) (a b c : List ℕ) (others : List (List ℕ)) → shape.number ≡ Some 2 → values_in shape.fields.now body ≡ Some (a ∷ b ∷ c ∷ others) → length c ≡ 4
    → (passage_of shape body count).number ≡ Some (from_be_bytes w32 c)
third shape body count a b c others n is e = rw (n, is) (four c e)

by_fields : (shape : Shape) (came size body rest : List ℕ) (count : ℕ) (p : Passage) (vs : List (List ℕ)) → IsOfChallenges shape → values_in shape.fields.now body ≡ Some vs → passage_of shape body count ≡ p
    → came ≡ size ++ body ++ rest → length size ≡ 2 → from_be_bytes w16 size ≡ length body → IsChallenge came p
by_fields shape came size body rest count p vs is values passage frame size_bytes counted =
    let all : values_in (form.Tag 0x4e ∷ form.Fixed 8 ∷ form.Fixed 4 ∷ form.Fixed 4 ∷ form.Sized ∷ form.Rest ∷ []) body ≡ Some vs = ap (λ (fs : List FieldForm). values_in fs body) (sym is.fields) ∙ values in
    let s0 = step (form.Tag 0x4e) (form.Fixed 8 ∷ form.Fixed 4 ∷ form.Fixed 4 ∷ form.Sized ∷ form.Rest ∷ []) body vs all in
    let s1 = step (form.Fixed 8) (form.Fixed 4 ∷ form.Fixed 4 ∷ form.Sized ∷ form.Rest ∷ []) s0.rest s0.others s0.there in
    let s2 = step (form.Fixed 4) (form.Fixed 4 ∷ form.Sized ∷ form.Rest ∷ []) s1.rest s1.others s1.there in
    let s3 = step (form.Fixed 4) (form.Sized ∷ form.Rest ∷ []) s2.rest s2.others s2.there in
    let s4 = step form.Sized (form.Rest ∷ []) s3.rest s3.others s3.there in
    let tag = tagged 0x4e body (s0.v, s0.rest) s0.here in
    let f1 = front 8 s0.rest (s1.v, s1.rest) s1.here in
    let f2 = front 4 s1.rest (s2.v, s2.rest) s2.here in
    let f3 = front 4 s2.rest (s3.v, s3.rest) s3.here in
    let f4 = sized s3.rest (s4.v, s4.rest) s4.here in
    let found : vs ≡ s0.v ∷ s1.v ∷ s2.v ∷ s2.others = s0.are ∙ ap (λ x. s0.v ∷ x) (s1.are ∙ ap (λ x. s1.v ∷ x) s2.are) in
    let whole_body : body ≡ 0x4e ∷ (s1.v ++ (s2.v ++ (s3.v ++ ((f4.size ++ s4.v) ++ s4.rest)))) =
    tag ∙ ap (λ (x : List ℕ). 0x4e ∷ x) (f1.parts ∙ ap (λ (x : List ℕ). s1.v ++ x) (f2.parts ∙ ap (λ (x : List ℕ). s2.v ++ x) (f3.parts ∙ ap (λ (x : List ℕ). s3.v ++ x) f4.parts))) in
    record {
      size = size;
      body = body;
      rest = rest;
      frame = frame;
      size_bytes = size_bytes;
      counted = counted;
      flags = s1.v;
      challenge = s2.v;
      creation = s3.v;
      name_size = f4.size;
      name = s4.v;
      behind = s4.rest;
      spelled = whole_body ∙ regroup 0x4e s1.v s2.v s3.v f4.size s4.v s4.rest;
      flags_bytes = f1.size;
      challenge_bytes = f2.size;
      creation_bytes = f3.size;
      name_bytes = f4.size_bytes;
      name_counted = f4.counted;
      learned = ap (λ (q : Passage). q.number) (sym passage) ∙ third shape body count s0.v s1.v s2.v s2.others is.number (values ∙ ap (λ x. Some x) found) f2.size;
    }

by_match : (shape : Shape) (checks : List Check) (learned : List Learned) (cookie came body rest : List ℕ) (count : ℕ) (p : Passage) → IsOfChallenges shape → Sized came body rest
    → by_message shape checks learned cookie body count ≡ outcome.Matches p → IsChallenge came p
by_match shape checks learned cookie came body rest count p is s e =
    let m = two_ifs (is_some (value_in shape.fields.now 0 body)) (list_all (check_passes shape body learned cookie) checks) (passage_of shape body count) p e in
    let v = some_values (values_in shape.fields.now body) m.0 in
    by_fields shape came s.size body rest count p v.0 is v.1 m.1 s.parts s.size_bytes s.counted

-- what is unfinished does not match
unmatched : (e : Bool) (p : Passage) → part_outcome e ≡ outcome.Matches p → ⊥
unmatched true p h = absurd cc
unmatched false p h = absurd cc

by_frame : (shape : Shape) (checks : List Check) (o : Observation) (came : List ℕ) (p : Passage) (n : ℕ) (x : Option (List ℕ × List ℕ)) → IsOfChallenges shape → sized_at w16 came ≡ x
    → by_body (pattern.Message shape checks) o n x ≡ outcome.Matches p → IsChallenge came p
by_frame shape checks o came p n None is f e = absurd (unmatched o.ended p e)
by_frame shape checks o came p n (Some t) is f e = by_match shape checks o.learned o.cookie came t.0 t.1 (n - length t.1) p is (sized came t f) e

pub spelled : (shape : Shape) (checks : List Check) (o : Observation) (came : List ℕ) (p : Passage) → IsOfChallenges shape → outcome_of (pattern.Message shape checks) o came ≡ outcome.Matches p → IsChallenge came p
spelled shape checks o came p is e = by_frame shape checks o came p (length came) (sized_at w16 came) is refl (rw is.framed at e)
