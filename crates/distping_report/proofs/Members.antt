-- Members that come one behind the other, and the line of the object that they make.
use Rattle.std.proofs.Common.{◌≡◌, ◌+◌, ◌<◌, ℕ, List, [], ◌∷◌, ◌++◌, Bool, cond, Result, Ok, Err, OnOk, filter, get_or, length, map, take, refl, sym, ap, ◌∙◌, append_assoc, append-nil}
use Rattle.std.proofs.lemmas.List.{map-append}
use Rattle.std.proofs.lemmas.List.Elements.{filter_more}
use Rattle.std.specs.Borrow.{Bor}
use Rattle.dist_flags.specs.{Names.flag_of, Names.name_of, declared.dflag.Dflag.Dflag}
use Rattle.dist_names.specs.Flags.{has_all}
use Rattle.json.specs.{Token.Token, Tree.json_tokens, Tree.items_tokens, Tree.members_tokens, Written.Written, Written.Writes}
use Rattle.distping_report.specs.Objects.{Shape, texts, object, objects, Layout, no_member, member, Layouts, no_object, one_object, texts_in, json_of, members_in, objects_in, names_among, shape_of, layout_of, front, object_tokens, PutsValue, PutsMembers, PutsObjects}
use Rattle.distping_report.specs.declared.objects.member.Value.{Value}

-- ---- one behind the other

-- these members, and then those
abbrev pub and_then : Layout → Layout → Layout
and_then no_member more = more
and_then (member name s l) more = member name s (and_then l more)

front-and_then : (l more : Layout) → front (and_then l more) ≡ front l ++ front more
front-and_then no_member more = refl
front-and_then (member name s l) more =
    ap (λ ts. Token.key name ∷ (json_tokens (json_of s) ++ ts)) (front-and_then l more) ∙ ap (λ ts. Token.key name ∷ ts) (sym (append_assoc (json_tokens (json_of s)) (front l) (front more)))

pub puts_nothing : (w : Written) → PutsMembers no_member w w
puts_nothing w = record { tokens = sym (append-nil w.tokens); before = refl }

pub puts_both : {l more : Layout} {a b c : Written} → PutsMembers l a b → PutsMembers more b c → PutsMembers (and_then l more) a c
puts_both {l} {more} {a} {b} {c} p q = record {
  tokens = q.tokens ∙ ap (λ ts. ts ++ front more) p.tokens ∙ append_assoc a.tokens (front l) (front more) ∙ ap (λ ts. a.tokens ++ ts) (sym (front-and_then l more));
  before = q.before ∙ p.before;
}

-- a name and then its value
pub puts_one : {s : Shape} {a b c : Written} (name : List ℕ) → b.tokens ≡ a.tokens ++ Token.key name ∷ [] → b.before ≡ a.before → PutsValue s b c → PutsMembers (member name s no_member) a c
puts_one {s} {a} {b} {c} name named before p = record {
  tokens = p.tokens ∙ ap (λ ts. ts ++ json_tokens (json_of s)) named ∙ append_assoc a.tokens (Token.key name ∷ []) (json_tokens (json_of s))
      ∙ ap (λ ts. a.tokens ++ Token.key name ∷ ts) (sym (append-nil (json_tokens (json_of s))));
  before = p.before ∙ before;
}

pub layout_of-push : (ms : List (Bor (List ℕ) × Value)) (m : Bor (List ℕ) × Value) → layout_of (ms ++ m ∷ []) ≡ and_then (layout_of ms) (member m.0.now (shape_of m.1) no_member)
layout_of-push [] m = refl
layout_of-push (n ∷ ms) m = ap (member n.0.now (shape_of n.1)) (layout_of-push ms m)

-- ---- lists and objects

abbrev pub text_tokens : List (List ℕ) → List Token
text_tokens ss = map Token.string ss

-- one text more
pub texts_more : (start now then : Written) (ss : List (List ℕ)) (s : List ℕ) → now.tokens ≡ start.tokens ++ text_tokens ss → then.tokens ≡ now.tokens ++ Token.string s ∷ []
    → then.tokens ≡ start.tokens ++ text_tokens (ss ++ s ∷ [])
texts_more start now then ss s before is = is ∙ ap (λ ts. ts ++ Token.string s ∷ []) before ∙ append_assoc start.tokens (text_tokens ss) (Token.string s ∷ []) ∙ ap (λ ts. start.tokens ++ ts) (sym (map-append Token.string ss (s ∷ [])))

-- one flag more
pub names_more : (flags : ℕ) (fs : List Dflag) (i : ℕ) (d : Dflag) (b : Bool) → i < length fs → b ≡ has_all flags (flag_of (get_or fs i d))
    → names_among flags (take (i + 1) fs) ≡ names_among flags (take i fs) ++ map name_of (cond b (get_or fs i d ∷ []) [])
names_more flags fs i d b lt is =
    let p : Dflag → Bool = λ f. has_all flags (flag_of f) in
    ap (map name_of) (filter_more p fs i d lt ∙ ap (λ c. filter p (take i fs) ++ cond c (get_or fs i d ∷ []) []) (sym is))
    ∙ map-append name_of (filter p (take i fs)) (cond b (get_or fs i d ∷ []) [])

pub members_tokens-front : (l : Layout) → members_tokens (members_in l) ≡ front l ++ Token.end_object ∷ []
members_tokens-front no_member = refl
members_tokens-front (member name s l) =
    ap (λ ts. Token.key name ∷ (json_tokens (json_of s) ++ ts)) (members_tokens-front l) ∙ ap (λ ts. Token.key name ∷ ts) (sym (append_assoc (json_tokens (json_of s)) (front l) (Token.end_object ∷ [])))

items_tokens-texts : (ss : List (List ℕ)) → items_tokens (texts_in ss) ≡ text_tokens ss ++ Token.end_array ∷ []
items_tokens-texts [] = refl
items_tokens-texts (s ∷ ss) = ap (λ ts. Token.string s ∷ ts) (items_tokens-texts ss)

items_tokens-objects : (ls : Layouts) → items_tokens (objects_in ls) ≡ object_tokens ls ++ Token.end_array ∷ []
items_tokens-objects no_object = refl
items_tokens-objects (one_object l ls) =
    ap (λ ts. json_tokens (json_of (object l)) ++ ts) (items_tokens-objects ls) ∙ sym (append_assoc (json_tokens (json_of (object l))) (object_tokens ls) (Token.end_array ∷ []))

-- one token is a whole value
pub writes_value : {E : Type 0} (s : Shape) {t : Token} {old new : Written} (r : Result (Unit {0}) E) → Writes r old new t → json_tokens (json_of s) ≡ t ∷ [] → OnOk r (PutsValue s old new)
writes_value s {t} {old} {new} (Ok x) w is = record { tokens = w.ok ∙ ap (λ ts. old.tokens ++ ts) (sym is); before = w.room.0 }
writes_value s (Err e) w is = tt

-- what stands between two brackets makes a value
bracketed : (s : Shape) (old opened last new : Written) (left right : Token) (inside : List Token) → opened.tokens ≡ old.tokens ++ left ∷ [] → last.tokens ≡ opened.tokens ++ inside
    → new.tokens ≡ last.tokens ++ right ∷ [] → json_tokens (json_of s) ≡ left ∷ (inside ++ right ∷ []) → new.tokens ≡ old.tokens ++ json_tokens (json_of s)
bracketed s old opened last new left right inside begun put ended is =
    ended ∙ ap (λ ts. ts ++ right ∷ []) (put ∙ ap (λ ts. ts ++ inside) begun ∙ append_assoc old.tokens (left ∷ []) inside)
    ∙ append_assoc old.tokens (left ∷ inside) (right ∷ []) ∙ ap (λ ts. old.tokens ++ ts) (sym is)

-- a list of texts, from bracket to bracket
pub writes_texts : {E : Type 0} (old opened last new : Written) (ss : List (List ℕ)) (r : Result (Unit {0}) E) → opened.tokens ≡ old.tokens ++ Token.begin_array ∷ [] → opened.before ≡ old.before
    → last.tokens ≡ opened.tokens ++ text_tokens ss → last.before ≡ opened.before → Writes r last new Token.end_array → OnOk r (PutsValue (texts ss) old new)
writes_texts old opened last new ss (Ok x) begun before inside kept w = record {
  tokens = bracketed (texts ss) old opened last new Token.begin_array Token.end_array (text_tokens ss) begun inside w.ok (ap (λ ts. Token.begin_array ∷ ts) (items_tokens-texts ss));
  before = w.room.0 ∙ kept ∙ before;
}
writes_texts old opened last new ss (Err e) begun before inside kept w = tt

-- an object of these members, from brace to brace
pub writes_object : {E : Type 0} {l : Layout} (old opened last new : Written) (r : Result (Unit {0}) E) → opened.tokens ≡ old.tokens ++ Token.begin_object ∷ [] → opened.before ≡ old.before
    → PutsMembers l opened last → Writes r last new Token.end_object → OnOk r (PutsValue (object l) old new)
writes_object {E} {l} old opened last new (Ok x) begun kept p w = record {
  tokens = bracketed (object l) old opened last new Token.begin_object Token.end_object (front l) begun p.tokens w.ok (ap (λ ts. Token.begin_object ∷ ts) (members_tokens-front l));
  before = w.room.0 ∙ p.before ∙ kept;
}
writes_object old opened last new (Err e) begun kept p w = tt

-- a name and then its value, where that is the last call
pub writes_one : {E : Type 0} (s : Shape) (old named new : Written) (name : List ℕ) (r : Result (Unit {0}) E) → named.tokens ≡ old.tokens ++ Token.key name ∷ [] → named.before ≡ old.before
    → OnOk r (PutsValue s named new) → OnOk r (PutsMembers (member name s no_member) old new)
writes_one s old named new name (Ok x) is before v = puts_one name is before v
writes_one s old named new name (Err e) is before v = tt

-- ---- lists of objects

-- a list of objects, from bracket to bracket
pub writes_objects : {E : Type 0} {ls : Layouts} (old opened last new : Written) (r : Result (Unit {0}) E) → opened.tokens ≡ old.tokens ++ Token.begin_array ∷ [] → opened.before ≡ old.before
    → PutsObjects ls opened last → Writes r last new Token.end_array → OnOk r (PutsValue (objects ls) old new)
writes_objects {E} {ls} old opened last new (Ok x) begun kept p w = record {
  tokens = bracketed (objects ls) old opened last new Token.begin_array Token.end_array (object_tokens ls) begun p.tokens w.ok (ap (λ ts. Token.begin_array ∷ ts) (items_tokens-objects ls));
  before = w.room.0 ∙ p.before ∙ kept;
}
writes_objects old opened last new (Err e) begun kept p w = tt

pub puts_no_object : (w : Written) → PutsObjects no_object w w
puts_no_object w = record { tokens = sym (append-nil w.tokens); before = refl }

-- one object, and then the others
pub puts_first_object : {l : Layout} {ls : Layouts} {a b c : Written} → PutsValue (object l) a b → PutsObjects ls b c → PutsObjects (one_object l ls) a c
puts_first_object {l} {ls} {a} {b} {c} p q = record {
  tokens = q.tokens ∙ ap (λ ts. ts ++ object_tokens ls) p.tokens ∙ append_assoc a.tokens (json_tokens (json_of (object l))) (object_tokens ls);
  before = q.before ∙ p.before;
}
