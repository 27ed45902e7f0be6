-- Lists that begin alike, and the one pid at the front of bytes.
use Rattle.std.proofs.Common.{Some, slice_get, suc, subst, ◌≡◌, ℕ, ◌+◌, ◌-◌, List, [], ◌∷◌, ◌++◌, length, take, drop, get_or, sym, ap, ◌∙◌, arith, length-append, take-append-drop, length-drop, append_assoc}
use Rattle.std.proofs.{Math.Seq.take-append_seam, Math.Seq.drop-append_seam}
use Rattle.std.proofs.lemmas.List.{append_cancel_left, append_cancel_right}
use Rattle.std.proofs.lemmas.Grind.{common_steps}
use Rattle.joining.specs.Ping.{gen_call, is_auth, asked_after_pid, IsPid}

pub append_parts : (a b c d : List ℕ) → length a ≡ length c → a ++ b ≡ c ++ d → (a ≡ c) × (b ≡ d)
append_parts a b c d len e = (
  sym (take-append_seam a b) ∙ ap (λ l. take (length a) l) e ∙ ap (λ n. take n (c ++ d)) len ∙ take-append_seam c d,
  sym (drop-append_seam a b) ∙ ap (λ l. drop (length a) l) e ∙ ap (λ n. drop n (c ++ d)) len ∙ drop-append_seam c d,
)

spelled : (pid node : List ℕ) (h : IsPid pid node) → pid ≡ 88 ∷ ((119 ∷ length h.name ∷ h.name) ++ h.numbers)
spelled pid node h = h.pid_is ∙ ap (λ n. 88 ∷ (n ++ h.numbers)) h.node_is

third : (pid node rest : List ℕ) (h : IsPid pid node) → get_or (pid ++ rest) 2 0 ≡ length h.name
third pid node rest h = ap (λ l. get_or (l ++ rest) 2 0) (spelled pid node h)

pid_len : (pid node : List ℕ) (h : IsPid pid node) → length pid ≡ 15 + length h.name
pid_len pid node h = omega (arith, ap length (spelled pid node h), length-append h.name h.numbers, h.numbers_len)

node_len : (pid node : List ℕ) (h : IsPid pid node) → length node ≡ 2 + length h.name
node_len pid node h = omega (arith, ap length h.node_is)

-- bytes have one pid at their front
pub pids_agree : (p n r q m s : List ℕ) → IsPid p n → IsPid q m → p ++ r ≡ q ++ s → (p ≡ q) × (n ≡ m) × (r ≡ s)
pids_agree p n r q m s g h e =
    let names : length g.name ≡ length h.name = sym (third p n r g) ∙ ap (λ l. get_or l 2 0) e ∙ third q m s h in
    let parts : (p ≡ q) × (r ≡ s) = append_parts p r q s (pid_len p n g ∙ ap (λ k. 15 + k) names ∙ sym (pid_len q m h)) e in
    let tails : n ++ g.numbers ≡ m ++ h.numbers = ap (drop 1) (sym g.pid_is ∙ parts.0 ∙ h.pid_is) in
    let nodes : (n ≡ m) × (g.numbers ≡ h.numbers) =
    append_parts n g.numbers m h.numbers (node_len p n g ∙ ap (λ k. 2 + k) names ∙ sym (node_len q m h)) tails in
    (parts.0, nodes.0, parts.1)

-- a pid of which the bytes are known
pub pid_of : (count : ℕ) (tail : List ℕ) → length tail ≡ 12 + count → IsPid (88 ∷ 119 ∷ count ∷ tail) (119 ∷ count ∷ take count tail)
pid_of count tail len = record {
  name = take count tail;
  numbers = drop count tail;
  node_is = ap (λ n. 119 ∷ n ∷ take count tail) (grind (arith, common_steps));
  pid_is = ap (λ l. 88 ∷ 119 ∷ count ∷ l) (sym (take-append-drop count tail));
  numbers_len = omega (arith, length-drop count tail);
}

-- what follows the second pid of a question
pub after_second_pid : (bytes rest pid last tag node : List ℕ) → bytes ≡ gen_call ++ rest → rest ≡ pid ++ last → bytes ≡ asked_after_pid pid tag node
    → last ≡ tag ++ (is_auth ++ node)
after_second_pid bytes rest pid last tag node b r e =
    append_cancel_left pid last (tag ++ (is_auth ++ node))
    (sym r ∙ append_cancel_left gen_call rest (pid ++ (tag ++ (is_auth ++ node))) (sym b ∙ e))

-- what stands before the node at the end of a question
pub before_node : (bytes rest pid last front tag node : List ℕ) → bytes ≡ gen_call ++ rest → rest ≡ pid ++ last → last ≡ front ++ node
    → bytes ≡ asked_after_pid pid tag node → front ≡ tag ++ is_auth
before_node bytes rest pid last front tag node b r l e =
    append_cancel_right front (tag ++ is_auth) node
    (sym l ∙ after_second_pid bytes rest pid last tag node b r e ∙ sym (append_assoc tag is_auth node))

-- a question from its parts
pub question_of_parts : (bytes rest pid last front tag node : List ℕ) → bytes ≡ gen_call ++ rest → rest ≡ pid ++ last → last ≡ front ++ node
    → front ≡ tag ++ is_auth → bytes ≡ asked_after_pid pid tag node
question_of_parts bytes rest pid last front tag node b r l f =
    b ∙ ap (λ x. gen_call ++ x) (r ∙ ap (λ x. pid ++ x) (l ∙ ap (λ x. x ++ node) f ∙ append_assoc tag is_auth node))

-- the pid at the front of bytes that begin as one
pub pid_at_front : (bytes front pid last : List ℕ) (count : ℕ) → bytes ≡ 88 ∷ 119 ∷ front → slice_get front 0 ≡ Some count
    → length pid ≡ 15 + count → bytes ≡ pid ++ last → IsPid pid (take (3 + count - 1) (drop 1 pid))
pid_at_front bytes [] pid last count b g l s = absurd (grind (arith, g))
pid_at_front bytes (x ∷ more) [] last count b g l s = absurd (omega (arith, l))
pid_at_front bytes (x ∷ more) (p ∷ []) last count b g l s = absurd (omega (arith, l))
pid_at_front bytes (x ∷ more) (p ∷ q ∷ []) last count b g l s = absurd (omega (arith, l))
pid_at_front bytes (x ∷ more) (p ∷ q ∷ r ∷ tail) last count b g l s =
    let same : x ≡ count = grind (arith, g) in
    let whole : p ∷ q ∷ r ∷ (tail ++ last) ≡ 88 ∷ 119 ∷ x ∷ more = sym s ∙ b in
    let front : p ∷ q ∷ r ∷ tail ≡ 88 ∷ 119 ∷ count ∷ tail =
    ap (λ a. a ∷ q ∷ r ∷ tail) (ap (λ l. get_or l 0 0) whole)
    ∙ ap (λ a. 88 ∷ a ∷ r ∷ tail) (ap (λ l. get_or l 1 0) whole)
    ∙ ap (λ a. 88 ∷ 119 ∷ a ∷ tail) (ap (λ l. get_or l 2 0) whole ∙ same) in
    let node : 119 ∷ count ∷ take count tail ≡ take (3 + count - 1) (119 ∷ count ∷ tail) =
    let e : suc (suc count) ≡ 3 + count - 1 = omega arith in ap (λ n. take n (119 ∷ count ∷ tail)) e in
    subst (λ l. IsPid l (take (3 + count - 1) (drop 1 l))) (sym front)
    (subst (λ n. IsPid (88 ∷ 119 ∷ count ∷ tail) n) node (pid_of count tail (omega (arith, l))))
