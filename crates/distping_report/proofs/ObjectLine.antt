-- The line of an object: how deep it nests, that it reads back, and that it is one line.
use Rattle.std.proofs.Common.{◌≡◌, ◌≤◌, ◌<◌, ◌/◌, ◌%◌, ◌+◌, ◌==◌, ◌&&◌, ℕ, zero, suc, Bool, true, false, cond, nat_lt, List, [], ◌∷◌, ◌++◌, ⊎_elim, Some, All, option_and_then, decimal, refl, sym, ap, ◌∙◌, subst, arith, append-nil}
use Rattle.std.proofs.lemmas.Bool.{and_parts, cases_eq, cases_lt, ltb-true}
use Rattle.std.proofs.lemmas.List.Concat.{flat_map-cons}
use Rattle.std.proofs.lemmas.List.Elements.{All-nil, All-cons}
use Rattle.std.specs.{Bool.⊤, Fmt.digit_glyph, Fmt.digits, Fmt.digits_onto}
use Rattle.json.specs.Print.{print, print_from, separator, begins, ends, token_text, escape, escape_byte, quoted}
use Rattle.json.specs.{Json.Json, Json.document, Json.value, Json.if_last, Json.max_depth, Lex.tokens, Token.Token, Tree.json_tokens, Tree.items_tokens}
use Rattle.json.specs.{Tree.depth, Tree.items_depth, Tree.members_depth, Written.Written}
use Rattle.json.proofs.Printed.{Strings.escape_byte_plain, Trees.value-json_tokens}
use Rattle.distping_report.specs.Objects.{Shape, nothing, truth, number, text, texts, object, objects, Layout, no_member, member, Layouts, no_object, one_object, texts_in, json_of, members_in, objects_in, IsObjectLine, front, PutsMembers, BeginsLine, levels, layout_levels, object_levels}
use Rattle.distping_report.proofs.Members.{members_tokens-front}

-- ---- how deep it nests

texts_flat : (ss : List (List ℕ)) → items_depth (texts_in ss) ≡ 0
texts_flat [] = refl
texts_flat (s ∷ ss) = omega (arith, texts_flat ss)

mutual
  depth-levels : (s : Shape) → depth (json_of s) ≤ levels s
  depth-levels (texts ss) = omega (arith, texts_flat ss)
  depth-levels (object l) = omega (arith, depth-layout_levels l)
  depth-levels (objects ls) = omega (arith, depth-object_levels ls)
  depth-levels s = omega arith

  depth-layout_levels : (l : Layout) → members_depth (members_in l) ≤ layout_levels l
  depth-layout_levels no_member = omega arith
  depth-layout_levels (member name s l) = omega (arith, depth-levels s, depth-layout_levels l)

  depth-object_levels : (ls : Layouts) → items_depth (objects_in ls) ≤ object_levels ls
  depth-object_levels no_object = omega arith
  depth-object_levels (one_object l ls) = omega (arith, depth-layout_levels l, depth-object_levels ls)

-- ---- no byte below a space

abbrev AreVisible : List ℕ → Type 0
AreVisible [] = ⊤
AreVisible (b ∷ bs) = (0x20 ≤ b) × AreVisible bs

AreVisible-append : (xs ys : List ℕ) → AreVisible xs → AreVisible ys → AreVisible (xs ++ ys)
AreVisible-append [] ys h k = k
AreVisible-append (x ∷ xs) ys h k = (h.0, AreVisible-append xs ys h.1 k)

All-visible : (xs : List ℕ) → AreVisible xs → All (λ b. 0x20 ≤ b) xs
All-visible [] h = All-nil (λ b. 0x20 ≤ b)
All-visible (x ∷ xs) h = All-cons (λ b. 0x20 ≤ b) x xs h.0 (All-visible xs h.1)

-- of two texts the one or the other
visible_either : (b : Bool) (xs ys : List ℕ) → AreVisible xs → AreVisible ys → AreVisible (cond b xs ys)
visible_either true xs ys h k = h
visible_either false xs ys h k = k

glyph_visible : (d : ℕ) → 0x20 ≤ digit_glyph false d
glyph_visible d = elim (nat_lt d 10) as (λ b. 0x20 ≤ cond b (48 + d) (87 + d)) [
  | true ↦ omega arith
  | false ↦ omega arith
]

visible_onto : (k n : ℕ) (digits : List ℕ) → AreVisible digits → AreVisible (digits_onto k 10 false n digits)
visible_onto zero n digits h = h
visible_onto (suc k) n digits h =
    let more : AreVisible (digit_glyph false (n % 10) ∷ digits) = (glyph_visible (n % 10), h) in
    visible_either (n / 10 == 0) (digit_glyph false (n % 10) ∷ digits) (digits_onto k 10 false (n / 10) (digit_glyph false (n % 10) ∷ digits)) more
    (visible_onto k (n / 10) (digit_glyph false (n % 10) ∷ digits) more)

AreVisible-decimal : (n : ℕ) → AreVisible (decimal n)
unfolding digits
AreVisible-decimal n = visible_onto 64 n [] tt

-- the same as a test
abbrev are_visible : List ℕ → Bool
are_visible [] = true
are_visible (b ∷ bs) = nat_lt 31 b && are_visible bs

visible_by_test : (xs : List ℕ) → are_visible xs ≡ true → AreVisible xs
visible_by_test [] e = tt
visible_by_test (x ∷ xs) e =
    let parts = and_parts (nat_lt 31 x) (are_visible xs) e in
    (omega (arith, ltb-true 31 x parts.0), visible_by_test xs parts.1)

-- the escapes of the bytes below n
abbrev escapes_visible : ℕ → Bool
escapes_visible zero = true
escapes_visible (suc n) = are_visible (escape_byte n) && escapes_visible n

escape_visible_below : (n : ℕ) → escapes_visible n ≡ true → (x : ℕ) → x < n → AreVisible (escape_byte x)
escape_visible_below zero e x lt = absurd (omega arith)
escape_visible_below (suc n) e x lt =
    let parts = and_parts (are_visible (escape_byte n)) (escapes_visible n) e in
    ⊎_elim (λ is. subst (λ y. AreVisible (escape_byte y)) (sym is) (visible_by_test (escape_byte n) parts.0))
    (λ other. escape_visible_below n parts.1 x (omega (arith, other))) (cases_eq x n)

table_visible : escapes_visible 93 ≡ true
unfolding escape_byte
table_visible = refl

-- behind the backslash each byte stands for itself
escape_visible : (x : ℕ) → AreVisible (escape_byte x)
escape_visible x =
    ⊎_elim (λ low. escape_visible_below 93 table_visible x low)
    (λ high. subst AreVisible (sym (escape_byte_plain x (λ is. omega (arith, high, is)) (λ is. omega (arith, high, is)) (omega (arith, high)))) (omega (arith, high), tt)) (cases_lt x 93)

AreVisible-escape : (s : List ℕ) → AreVisible (escape s)
AreVisible-escape [] = tt
AreVisible-escape (x ∷ xs) = subst AreVisible (sym (flat_map-cons escape_byte x xs)) (AreVisible-append (escape_byte x) (escape xs) (escape_visible x) (AreVisible-escape xs))

AreVisible-quoted : (s : List ℕ) → AreVisible (quoted s)
AreVisible-quoted s = (omega arith, AreVisible-append (escape s) (34 ∷ []) (AreVisible-escape s) (omega arith, tt))

-- the text of a token has no byte below a space
abbrev IsPlain : Token → Type 0
IsPlain (Token.number s) = AreVisible s
IsPlain t = ⊤

abbrev ArePlain : List Token → Type 0
ArePlain [] = ⊤
ArePlain (t ∷ ts) = IsPlain t × ArePlain ts

ArePlain-append : (ts us : List Token) → ArePlain ts → ArePlain us → ArePlain (ts ++ us)
ArePlain-append [] us h k = k
ArePlain-append (t ∷ ts) us h k = (h.0, ArePlain-append ts us h.1 k)

AreVisible-token_text : (t : Token) → IsPlain t → AreVisible (token_text t)
AreVisible-token_text (Token.key s) h = AreVisible-append (quoted s) (58 ∷ []) (AreVisible-quoted s) (omega arith, tt)
AreVisible-token_text (Token.string s) h = AreVisible-quoted s
AreVisible-token_text (Token.number s) h = h
AreVisible-token_text (Token.boolean true) h = (omega arith, (omega arith, (omega arith, (omega arith, tt))))
AreVisible-token_text (Token.boolean false) h = (omega arith, (omega arith, (omega arith, (omega arith, (omega arith, tt)))))
AreVisible-token_text Token.null h = (omega arith, (omega arith, (omega arith, (omega arith, tt))))
AreVisible-token_text Token.bad h = tt
AreVisible-token_text t h = (omega arith, tt)

comma_visible : (b : Bool) → AreVisible (cond b (44 ∷ []) [])
comma_visible true = (omega arith, tt)
comma_visible false = tt

AreVisible-print_from : (b : Bool) (ts : List Token) → ArePlain ts → AreVisible (print_from b ts)
unfolding print_from
AreVisible-print_from b [] h = tt
AreVisible-print_from b (t ∷ ts) h =
    AreVisible-append (separator b t) _ (comma_visible (b && begins t)) (AreVisible-append (token_text t) _ (AreVisible-token_text t h.0) (AreVisible-print_from (ends t) ts h.1))

texts_plain : (ss : List (List ℕ)) → ArePlain (items_tokens (texts_in ss))
texts_plain [] = (tt, tt)
texts_plain (s ∷ ss) = (tt, texts_plain ss)

object_plain : (l : Layout) → ArePlain (front l) → ArePlain (json_tokens (json_of (object l)))
object_plain l h = (tt, subst ArePlain (sym (members_tokens-front l)) (ArePlain-append (front l) (Token.end_object ∷ []) h (tt, tt)))

-- the tokens of a value of this shape
mutual
  shape_plain : (s : Shape) → ArePlain (json_tokens (json_of s))
  shape_plain nothing = (tt, tt)
  shape_plain (truth b) = (tt, tt)
  shape_plain (number n) = (AreVisible-decimal n, tt)
  shape_plain (text s) = (tt, tt)
  shape_plain (texts ss) = (tt, texts_plain ss)
  shape_plain (object l) = object_plain l (layout_plain l)
  shape_plain (objects ls) = (tt, objects_plain ls)

  layout_plain : (l : Layout) → ArePlain (front l)
  layout_plain no_member = tt
  layout_plain (member name s l) = (tt, ArePlain-append (json_tokens (json_of s)) (front l) (shape_plain s) (layout_plain l))

  objects_plain : (ls : Layouts) → ArePlain (items_tokens (objects_in ls))
  objects_plain no_object = (tt, tt)
  objects_plain (one_object l ls) = ArePlain-append (json_tokens (json_of (object l))) (items_tokens (objects_in ls)) (object_plain l (layout_plain l)) (objects_plain ls)

-- ---- the whole line

-- the text of a value that does not nest too deep is read back as that value
reads_back : (j : Json) (ts : List Token) → ts ≡ json_tokens j → depth j ≤ max_depth → tokens (print ts) ≡ ts → document (print (json_tokens j)) ≡ Some j
reads_back j ts is shallow read =
    ap document (ap print (sym is))
    ∙ ap (option_and_then (λ p. if_last p.0 p.1)) (ap (value max_depth) (read ∙ is ∙ sym (append-nil (json_tokens j))) ∙ value-json_tokens j max_depth [] shallow)

pub ends_line : (begun last out : Written) (l : Layout) (bytes line : List ℕ) → BeginsLine begun → layout_levels l < max_depth → PutsMembers l begun last
    → out.tokens ≡ last.tokens ++ Token.end_object ∷ [] → out.before ≡ last.before → bytes ≡ out.before ++ print out.tokens → tokens (print out.tokens) ≡ out.tokens → line ≡ bytes ++ 10 ∷ []
    → IsObjectLine l line
ends_line begun last out l bytes line begins shallow p ended before is read fed =
    let whole : out.tokens ≡ json_tokens (json_of (object l)) =
    ended ∙ ap (λ ts. ts ++ Token.end_object ∷ []) (p.tokens ∙ ap (λ ts. ts ++ front l) begins.tokens) ∙ ap (λ ts. Token.begin_object ∷ ts) (sym (members_tokens-front l)) in
    let printed : bytes ≡ print (json_tokens (json_of (object l))) = is ∙ ap (λ bs. bs ++ print out.tokens) (before ∙ p.before ∙ begins.before) ∙ ap print whole in
    record {
      is = fed ∙ ap (λ bs. bs ++ 10 ∷ []) printed;
      reads = reads_back (json_of (object l)) out.tokens whole (omega (arith, depth-layout_levels l)) read;
      one_line = All-visible _ (AreVisible-print_from false _ (object_plain l (layout_plain l)));
    }
