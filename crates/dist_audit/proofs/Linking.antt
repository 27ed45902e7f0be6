-- What lines say of links.
use Rattle.dist_audit.proofs.Words.{◌≡◌, ℕ, suc, ◌-◌, ◌<◌, ◌≤◌, Bool, true, false, cond, not, ◌&&◌, ◌||◌, eqb, List, [], ◌∷◌, length, get_or}
use Rattle.dist_audit.proofs.Words.{drop, is_some, Some, None, Option, nat_cmp, BTreeMap, BTreeSet, contains, sym, refl, ap, ◌∙◌, subst, arith, drop-cons, get, list_any, EndId}
use Rattle.dist_audit.proofs.Words.{Event, comes_unopened, is_unopened, links_repeat, repeats, Knows, is_again, is_unknown, NodeLine, acceptor_of, comes_in}
use Rattle.dist_audit.proofs.Words.{dialled_end, dialled_in, dialler_of, mentions, opens, opens_in, or_else}
use Rattle.dist_audit.proofs.Either.{any-same}
use Rattle.dist_core.specs.declared.event.Event.TheVariants as event

-- a line that opens names a dialler
opened-is : (k : ℕ) (e : Event) → is_some (dialled_end k e) ≡ opens k e
opened-is k (event.Dial p o) = refl
opened-is k (event.Opened id j) = elim (eqb j k) as (λ b. is_some (cond b (Some id) None) ≡ b) [ true ↦ refl | false ↦ refl ]
opened-is k (event.Incoming j) = refl
opened-is k (event.Frame id b) = refl
opened-is k (event.Lost id y) = refl
opened-is k (event.Tick id) = refl

some-or : (n : ℕ) (x : Option EndId) (o : Option (ℕ × EndId)) → is_some (or_else n x o) ≡ (is_some x || is_some o)
some-or n None o = refl
some-or n (Some id) o = refl

some-cond : (b : Bool) (n : ℕ) (o : Option ℕ) → is_some (cond b (Some n) o) ≡ (b || is_some o)
some-cond true n o = refl
some-cond false n o = refl

has-dialler : (k : ℕ) (ts : List NodeLine) → is_some (dialler_of k ts) ≡ list_any (opens_in k) ts
has-dialler k [] = refl
has-dialler k (t ∷ ts) = some-or t.node (dialled_in k t) (dialler_of k ts) ∙ (λ i. opened-is k (let l = t.line in l.event) i || has-dialler k ts i)

has-acceptor : (k : ℕ) (ts : List NodeLine) → is_some (acceptor_of k ts) ≡ list_any (comes_in k) ts
has-acceptor k [] = refl
has-acceptor k (t ∷ ts) = some-cond (comes_in k t) t.node (acceptor_of k ts) ∙ ap (λ b. comes_in k t || b) (has-acceptor k ts)

module _ (d : BTreeMap ℕ (ℕ × EndId)) (a : BTreeMap ℕ ℕ) (s : BTreeSet ℕ) (ts : List NodeLine) (h : Knows d a s ts) where
  pub again-is : (e : Event) → is_again d a e ≡ repeats e ts
  again-is (event.Dial p o) = refl
  again-is (event.Opened id j) = ap (λ (o : Option (ℕ × EndId)). is_some o) (h.dialled j) ∙ has-dialler j ts
  again-is (event.Incoming j) = ap (λ (o : Option ℕ). is_some o) (h.came j) ∙ has-acceptor j ts
  again-is (event.Frame id b) = refl
  again-is (event.Lost id y) = refl
  again-is (event.Tick id) = refl

  pub unknown-is : (e : Event) → is_unknown d e ≡ is_unopened ts e
  unknown-is (event.Dial p o) = refl
  unknown-is (event.Opened id j) = refl
  unknown-is (event.Incoming j) = ap (λ (o : Option (ℕ × EndId)). not (is_some o)) (h.dialled j) ∙ ap not (has-dialler j ts)
  unknown-is (event.Frame id b) = refl
  unknown-is (event.Lost id y) = refl
  unknown-is (event.Tick id) = refl

-- what no dialler is known of is what was not opened
pub all_unknown : (d : BTreeMap ℕ (ℕ × EndId)) (a : BTreeMap ℕ ℕ) (s : BTreeSet ℕ) (ts : List NodeLine) → Knows d a s ts → list_any (λ (t : NodeLine). is_unknown d (let l = t.line in l.event)) ts ≡ comes_unopened ts
all_unknown d a s ts h = any-same (λ (t : NodeLine). is_unknown d (let l = t.line in l.event)) (λ (t : NodeLine). is_unopened ts (let l = t.line in l.event)) (λ t. unknown-is d a s ts h (let l = t.line in l.event)) ts

-- what the lines from number j on say is known
module _ (all : List NodeLine) (j : ℕ) (t : NodeLine) (d : BTreeMap ℕ (ℕ × EndId)) (a : BTreeMap ℕ ℕ) (s : BTreeSet ℕ) (pos : 0 < j) (few : j ≤ length all) (is : t ≡ get_or all (j - 1) t) (h : Knows d a s (drop j all)) where
  split : drop (j - 1) all ≡ t ∷ drop j all
  split =
      let few_too : j - 1 < length all = omega arith in
      let next : suc (j - 1) ≡ j = omega arith in
      drop-cons all (j - 1) t few_too ∙ (λ i. sym is i ∷ drop (next i) all)

  again : is_again d a (let l = t.line in l.event) ≡ repeats (let l = t.line in l.event) (drop j all)
  again = again-is d a s (drop j all) h (let l = t.line in l.event)

  pub knows_more : (e : BTreeMap ℕ (ℕ × EndId)) (b : BTreeMap ℕ ℕ) (r : BTreeSet ℕ) → ((k : ℕ) → get nat_cmp e k ≡ or_else t.node (dialled_in k t) (get nat_cmp d k)) → ((k : ℕ) → get nat_cmp b k ≡ cond (comes_in k t) (Some t.node) (get nat_cmp a k))
      → ((k : ℕ) → contains nat_cmp r k ≡ ((is_again d a (let l = t.line in l.event) && mentions k (let l = t.line in l.event)) || contains nat_cmp s k)) → Knows e b r (drop (j - 1) all)
  knows_more e b r dialled_end came doubled =
      let at : Knows e b r (t ∷ drop j all) = record {
        dialled = λ k. dialled_end k ∙ ap (λ (o : Option (ℕ × EndId)). or_else t.node (dialled_in k t) o) (h.dialled k);
        came = λ k. came k ∙ ap (λ (o : Option ℕ). cond (comes_in k t) (Some t.node) o) (h.came k);
        twice = λ k. doubled k ∙ (λ i. (again i && mentions k (let l = t.line in l.event)) || h.twice k i);
      } in
      subst (λ (ts : List NodeLine). Knows e b r ts) (sym split) at

  pub repeats_more : (b c : Bool) → b ≡ (is_again d a (let l = t.line in l.event) || c) → c ≡ links_repeat (drop j all) → b ≡ links_repeat (drop (j - 1) all)
  repeats_more b c here later = here ∙ ((λ i. again i || later i) ∙ ap (λ (ts : List NodeLine). links_repeat ts) (sym split))
