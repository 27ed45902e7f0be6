-- Links that are in pairs, in whatever order the lines stand.
use Rattle.dist_audit.proofs.Words.{◌≡◌, Bool, true, false, not, ◌||◌, List, [], ◌∷◌, IsPermutation, sym, refl, ap, ◌∙◌, or_parts, AllByRecursion, IsDistinct}
use Rattle.dist_audit.proofs.Words.{list_any, Event, comes_unopened, is_unopened, links_repeat, links_unpaired, repeats, NodeLine, comes, opens, opens_in}
use Rattle.dist_audit.proofs.{Either.any-same, Either.distinct-none, Sorting.flips}
use Rattle.std.proofs.lemmas.List.Sorted.{IsPermutation-sym, list_any-IsPermutation}
use Rattle.std.proofs.lemmas.Map.Keys.{IsDistinct-head, IsDistinct-tail, IsDistinct-cons, IsDistinct-IsPermutation}
use Rattle.dist_core.specs.declared.event.Event.TheVariants as event

abbrev event_of : NodeLine → Event
event_of t = let l = t.line in l.event

-- the second speaks of the link of the first, as the first does
abbrev same-link : Event → Event → Bool
same-link (event.Opened id k) e = opens k e
same-link (event.Incoming k) e = comes k e
same-link _ e = false

same-link-flips : (d e : Event) → same-link d e ≡ same-link e d
same-link-flips (event.Dial p o) (event.Dial q r) = refl
same-link-flips (event.Dial p o) (event.Opened ie j) = refl
same-link-flips (event.Dial p o) (event.Incoming j) = refl
same-link-flips (event.Dial p o) (event.Frame ie c) = refl
same-link-flips (event.Dial p o) (event.Lost ie z) = refl
same-link-flips (event.Dial p o) (event.Tick ie) = refl
same-link-flips (event.Opened id k) (event.Dial q r) = refl
same-link-flips (event.Opened id k) (event.Opened ie j) = flips j k
same-link-flips (event.Opened id k) (event.Incoming j) = refl
same-link-flips (event.Opened id k) (event.Frame ie c) = refl
same-link-flips (event.Opened id k) (event.Lost ie z) = refl
same-link-flips (event.Opened id k) (event.Tick ie) = refl
same-link-flips (event.Incoming k) (event.Dial q r) = refl
same-link-flips (event.Incoming k) (event.Opened ie j) = refl
same-link-flips (event.Incoming k) (event.Incoming j) = flips j k
same-link-flips (event.Incoming k) (event.Frame ie c) = refl
same-link-flips (event.Incoming k) (event.Lost ie z) = refl
same-link-flips (event.Incoming k) (event.Tick ie) = refl
same-link-flips (event.Frame id b) (event.Dial q r) = refl
same-link-flips (event.Frame id b) (event.Opened ie j) = refl
same-link-flips (event.Frame id b) (event.Incoming j) = refl
same-link-flips (event.Frame id b) (event.Frame ie c) = refl
same-link-flips (event.Frame id b) (event.Lost ie z) = refl
same-link-flips (event.Frame id b) (event.Tick ie) = refl
same-link-flips (event.Lost id y) (event.Dial q r) = refl
same-link-flips (event.Lost id y) (event.Opened ie j) = refl
same-link-flips (event.Lost id y) (event.Incoming j) = refl
same-link-flips (event.Lost id y) (event.Frame ie c) = refl
same-link-flips (event.Lost id y) (event.Lost ie z) = refl
same-link-flips (event.Lost id y) (event.Tick ie) = refl
same-link-flips (event.Tick id) (event.Dial q r) = refl
same-link-flips (event.Tick id) (event.Opened ie j) = refl
same-link-flips (event.Tick id) (event.Incoming j) = refl
same-link-flips (event.Tick id) (event.Frame ie c) = refl
same-link-flips (event.Tick id) (event.Lost ie z) = refl
same-link-flips (event.Tick id) (event.Tick ie) = refl

abbrev again : NodeLine → NodeLine → Bool
again t u = same-link (event_of t) (event_of u)

-- ---- one test of all

none-is : (p : NodeLine → Bool) → ((u : NodeLine) → p u ≡ false) → (ts : List NodeLine) → list_any p ts ≡ false
none-is p h [] = refl
none-is p h (t ∷ ts) = (λ i. h t i || none-is p h ts i)

all-false : (p : NodeLine → Bool) (ts : List NodeLine) → list_any p ts ≡ false → AllByRecursion (λ u. p u ≡ false) ts
all-false p [] e = tt
all-false p (t ∷ ts) e = ((or_parts (p t) (list_any p ts) e).0, all-false p ts (or_parts (p t) (list_any p ts) e).1)

any-false : (p : NodeLine → Bool) (ts : List NodeLine) → AllByRecursion (λ u. p u ≡ false) ts → list_any p ts ≡ false
any-false p [] h = refl
any-false p (t ∷ ts) h = (λ i. h.0 i || any-false p ts h.1 i)

repeats-any : (e : Event) (ts : List NodeLine) → repeats e ts ≡ list_any (λ u. same-link e (event_of u)) ts
repeats-any (event.Dial p o) ts = sym (none-is (λ u. false) (λ u. refl) ts)
repeats-any (event.Opened id k) ts = refl
repeats-any (event.Incoming k) ts = refl
repeats-any (event.Frame id b) ts = sym (none-is (λ u. false) (λ u. refl) ts)
repeats-any (event.Lost id y) ts = sym (none-is (λ u. false) (λ u. refl) ts)
repeats-any (event.Tick id) ts = sym (none-is (λ u. false) (λ u. refl) ts)

-- ---- no link stands twice

links-differ : (ts : List NodeLine) → links_repeat ts ≡ false → IsDistinct again ts
links-differ [] e = distinct-none again
links-differ (t ∷ ts) e =
    IsDistinct-cons again t ts
    (all-false (again t) ts (sym (repeats-any (event_of t) ts) ∙ (or_parts (repeats (event_of t) ts) (links_repeat ts) e).0))
    (links-differ ts (or_parts (repeats (event_of t) ts) (links_repeat ts) e).1)

none-repeats : (ts : List NodeLine) → IsDistinct again ts → links_repeat ts ≡ false
none-repeats [] d = refl
none-repeats (t ∷ ts) d =
    let here : repeats (event_of t) ts ≡ false = repeats-any (event_of t) ts ∙ any-false (again t) ts (IsDistinct-head again t ts d) in
    (λ i. here i || none-repeats ts (IsDistinct-tail again t ts d) i)

not-repeat : (xs ys : List NodeLine) → IsPermutation xs ys → links_repeat xs ≡ false → links_repeat ys ≡ false
not-repeat xs ys p e = none-repeats ys (IsDistinct-IsPermutation again (λ t u. same-link-flips (event_of t) (event_of u)) xs ys p (links-differ xs e))

both-or-none : (a b : Bool) → (a ≡ false → b ≡ false) → (b ≡ false → a ≡ false) → a ≡ b
both-or-none true true f g = refl
both-or-none true false f g = absurd (let e : true ≡ false = g refl in cc)
both-or-none false true f g = absurd (let e : true ≡ false = f refl in cc)
both-or-none false false f g = refl

-- ---- in whatever order

unopened-alike : (xs ys : List NodeLine) → IsPermutation xs ys → (e : Event) → is_unopened xs e ≡ is_unopened ys e
unopened-alike xs ys p (event.Dial q o) = refl
unopened-alike xs ys p (event.Opened id k) = refl
unopened-alike xs ys p (event.Incoming k) = ap not (list_any-IsPermutation (opens_in k) xs ys p)
unopened-alike xs ys p (event.Frame id b) = refl
unopened-alike xs ys p (event.Lost id y) = refl
unopened-alike xs ys p (event.Tick id) = refl

comes-alike : (xs ys : List NodeLine) → IsPermutation xs ys → comes_unopened xs ≡ comes_unopened ys
comes-alike xs ys p =
    list_any-IsPermutation (λ t. is_unopened xs (event_of t)) xs ys p
    ∙ any-same (λ t. is_unopened xs (event_of t)) (λ t. is_unopened ys (event_of t)) (λ t. unopened-alike xs ys p (event_of t)) ys

-- lines in another order have links in pairs or not all the same
pub unpaired-alike : (xs ys : List NodeLine) → IsPermutation xs ys → links_unpaired xs ≡ links_unpaired ys
unpaired-alike xs ys p =
    let repeat : links_repeat xs ≡ links_repeat ys = both-or-none (links_repeat xs) (links_repeat ys) (not-repeat xs ys p) (not-repeat ys xs (IsPermutation-sym xs ys p)) in
    (λ i. repeat i || comes-alike xs ys p i)
