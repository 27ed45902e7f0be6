-- Tickets that stand twice.
use Rattle.dist_audit.proofs.Words.{or-false, or-true, ◌≡◌, ℕ, zero, suc, ◌-◌, ◌<◌, ◌≤◌, Bool, true, false, ◌||◌, List, [], ◌∷◌, length, get_or, drop, nat_cmp}
use Rattle.dist_audit.proofs.Words.{BTreeSet, sym, ap, ◌∙◌, arith, drop-cons, contains, list_any, Closed, Line, has_ticket, has_ticket_in, twice}
use Rattle.dist_audit.proofs.Either.{any-same}

-- what is true of a part of the nodes is true of all
twice-drop : (i : ℕ) (cs : List Closed) → twice (drop i cs) ≡ true → twice cs ≡ true
twice-drop zero cs e = e
twice-drop (suc i) [] e = e
twice-drop (suc i) (c ∷ cs) e = ap (λ b. list_any (λ (l : Line). has_ticket_in l.ticket cs) (let h = c.history in h.items) || b) (twice-drop i cs e) ∙ or-true (list_any (λ (l : Line). has_ticket_in l.ticket cs) (let h = c.history in h.items))

-- the tickets of the nodes from number j on are known, and none of them stands twice
module _ (cs : List Closed) (j : ℕ) (c : Closed) (s : BTreeSet ℕ) (pos : 0 < j) (few : j ≤ length cs) (known : (n : ℕ) → contains nat_cmp s n ≡ has_ticket_in n (drop j cs)) (once : twice (drop j cs) ≡ false) where
  split : drop (j - 1) cs ≡ get_or cs (j - 1) c ∷ drop j cs
  split =
      let few_too : j - 1 < length cs = omega arith in
      let next : suc (j - 1) ≡ j = omega arith in
      drop-cons cs (j - 1) c few_too ∙ ap (λ n. get_or cs (j - 1) c ∷ drop n cs) next

  module _ (h : List Line) (whose : h ≡ (let d = get_or cs (j - 1) c in let v = d.history in v.items)) where
    pub twice_part : (b : Bool) → b ≡ list_any (λ (l : Line). contains nat_cmp s l.ticket) h → twice (drop (j - 1) cs) ≡ b
    twice_part b e =
        let same : b ≡ list_any (λ (l : Line). has_ticket_in l.ticket (drop j cs)) h = e ∙ any-same (λ (l : Line). contains nat_cmp s l.ticket) (λ (l : Line). has_ticket_in l.ticket (drop j cs)) (λ l. known l.ticket) h in
        let theirs : list_any (λ (l : Line). has_ticket_in l.ticket (drop j cs)) (let d = get_or cs (j - 1) c in let v = d.history in v.items) ≡ b = ap (λ (ls : List Line). list_any (λ (l : Line). has_ticket_in l.ticket (drop j cs)) ls) (sym whose) ∙ sym same in
        ap (λ (ds : List Closed). twice ds) split ∙ ((λ i. theirs i || once i) ∙ or-false b)

    pub twice_found : (b : Bool) → b ≡ list_any (λ (l : Line). contains nat_cmp s l.ticket) h → b ≡ true → twice cs ≡ true
    twice_found b e t = twice-drop (j - 1) cs (twice_part b e ∙ t)

    -- the tickets of one node more are known
    pub known_more : (new : BTreeSet ℕ) → ((n : ℕ) → contains nat_cmp new n ≡ (has_ticket n h || contains nat_cmp s n)) → (n : ℕ) → contains nat_cmp new n ≡ has_ticket_in n (drop (j - 1) cs)
    known_more new more n = more n ∙ ((λ i. has_ticket n (whose i) || known n i) ∙ sym (ap (λ (ds : List Closed). has_ticket_in n ds) split))
