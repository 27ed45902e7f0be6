-- Each kind of change fits ends with which the table agrees.
use Rattle.dist_core_ends.proofs.Words.{and-false, and-true, ◌≡◌, ℕ, zero, suc, ◌<◌, ◌≤◌, Bool, true, false, cond, ◌&&◌, eqb, List, [], ◌∷◌, length, slice_get}
use Rattle.dist_core_ends.proofs.Words.{Some, None, Option, option_map, sym, refl, ap, ◌∙◌, subst, arith, eq-eqb, and_parts, false≢true, nat_tests, get-insert}
use Rattle.dist_core_ends.proofs.Words.{Name, same_name, itself_lem, one_lem, Table, left_by, is_greater, ruling, EndId, Entry, get-with, order, Fits}
use Rattle.dist_core_ends.proofs.Words.{AsksRaise, AsksShift, IsThere, OtherStaysClosed, StaysClosed, claim_at, put_end, table_after_rise, table_after_shift}
use Rattle.dist_core_ends.proofs.Words.{view_after, Agree, Claim, claim_of, holds_at, is_claim, is_held, is_open, is_pending, is_unnamed, kind_in, names}
use Rattle.dist_core_ends.proofs.Words.{same_kind, End, Kind, In, Out, Up, Phase, Why}
use Rattle.dist_core_ends.proofs.Changes.{Agrees, get-put, get-after, changes-one, changes-two, stays, claimless}
use Rattle.std.specs.FinMap as map
use Rattle.dist_peers.specs.declared.entry.Entry.TheVariants as entry
use Rattle.dist_core_ends.specs.declared.known.End.TheVariants as ends
use Rattle.dist_core_ends.specs.declared.phase.Phase.TheVariants as phase

-- an end that holds a peer exists
pub there : (es : List End) (p : Name) (k : Kind) (i : ℕ) → holds_at es p k i ≡ true → i < length es
there [] p k i h = cc
there (e ∷ es) p k zero h = omega arith
there (e ∷ es) p k (suc i) h = omega (arith, there es p k i h)

-- a claim, where there is one, is on p
abbrev pub IsOn : Name → Option Claim → Type 0
IsOn p None = Unit {0}
IsOn p (Some c) = c.peer ≡ p

pub only : (p : Name) (c : Option Claim) → IsOn p c → (q : Name) (k : Kind) → same_name q p ≡ false → is_claim q k c ≡ false
only p None h q k s = refl
only p (Some c) h q k s = ap (λ b. same_kind k c.kind && b) (ap (same_name q) h ∙ s) ∙ and-false (same_kind k c.kind)

pub at-claim : (q : Name) (k : Kind) (o : Option End) → is_held q k o ≡ is_claim q k (claim_at o)
at-claim q k None = refl
at-claim q k (Some e) = refl

-- an end that holds p holds no other peer
pub held-only : (p q : Name) (k l : Kind) (c : Option Claim) → is_claim p l c ≡ true → same_name q p ≡ false → is_claim q k c ≡ false
held-only p q k l None h s = refl
held-only p q k l (Some c) h s = only p (Some c) (sym (one_lem p c.peer (and_parts (same_kind l c.kind) _ h).1)) q k s

-- ---- an end that is closed stays closed, and one that is up is never pending again

-- an end of the first form may become one of the second
abbrev pub may_be : End → End → Bool
may_be ends.Unnamed s = true
may_be (ends.Attempt b) s = cond (is_unnamed s) false true
may_be (ends.Up r) s = cond (is_pending s) false true
may_be (ends.Closed w) s = false

denied : (b : Bool) → cond b false true ≡ true → b ≡ false
denied true h = absurd (false≢true h)
denied false h = refl

stays-by : (d s : End) → may_be d s ≡ true → StaysClosed (Some d) s
stays-by ends.Unnamed s h = tt
stays-by (ends.Attempt b) s h = denied (is_unnamed s) h
stays-by (ends.Up r) s h = denied (is_pending s) h
stays-by (ends.Closed w) s h = absurd (false≢true h)

pub stays-open : (o : Option End) (d s : End) → o ≡ Some d → may_be d s ≡ true → StaysClosed o s
stays-open o d s e h = let P : Option End → Type 0 = λ x. StaysClosed x s in subst P (sym e) (stays-by d s h)

-- an end that holds its peer and is not up
stays-held : (p : Name) (k : Kind) (o : Option End) (s : End) → is_unnamed s ≡ false → is_held p k o ≡ true → same_kind k Up ≡ false → StaysClosed o s
stays-held p k None s g h u = tt
stays-held p k (Some ends.Unnamed) s g h u = tt
stays-held p k (Some (ends.Attempt b)) s g h u = g
stays-held p k (Some (ends.Up r)) s g h u = absurd (false≢true (sym (ap (λ b. b && same_name p r.peer) u) ∙ h))
stays-held p k (Some (ends.Closed w)) s g h u = absurd (false≢true h)

pub named-settled : (s : End) → is_pending s ≡ false → is_unnamed s ≡ false
named-settled ends.Unnamed h = absurd (false≢true (sym h))
named-settled s h = refl

stays-claimed : (o : Option End) (c : Claim) (s : End) → claim_at o ≡ Some c → is_pending s ≡ false → StaysClosed o s
stays-claimed None c s h u = tt
stays-claimed (Some ends.Unnamed) c s h u = tt
stays-claimed (Some (ends.Attempt b)) c s h u = named-settled s u
stays-claimed (Some (ends.Up r)) c s h u = u
stays-claimed (Some (ends.Closed w)) c s h u = absurd cc

pub stays-past : (o : Option End) (s : End) → o ≡ None → StaysClosed o s
stays-past o s e = let P : Option End → Type 0 = λ x. StaysClosed x s in subst P (sym e) tt

shut-settled : (s : End) → is_open s ≡ false → is_pending s ≡ false
shut-settled ends.Unnamed h = absurd (false≢true (sym h))
shut-settled (ends.Attempt b) h = absurd (false≢true (sym h))
shut-settled s h = refl

-- an open end may be closed
pub stays-closing : (o : Option End) (d : End) (w : Why) → o ≡ Some d → is_open d ≡ true → StaysClosed o (ends.Closed w)
stays-closing o d w e h = let P : Option End → Type 0 = λ x. StaysClosed x (ends.Closed w) in subst P (sym e) (by d h)
  where
    by : (d : End) → is_open d ≡ true → StaysClosed (Some d) (ends.Closed w)
    by ends.Unnamed h = tt
    by (ends.Attempt b) h = refl
    by (ends.Up r) h = refl
    by (ends.Closed v) h = absurd (false≢true h)

-- an end that holds its peer may be closed
stays-shut : (p : Name) (k : Kind) (o : Option End) (s : End) → is_held p k o ≡ true → is_open s ≡ false → StaysClosed o s
stays-shut p k None s h u = tt
stays-shut p k (Some ends.Unnamed) s h u = tt
stays-shut p k (Some (ends.Attempt b)) s h u = named-settled s (shut-settled s u)
stays-shut p k (Some (ends.Up r)) s h u = shut-settled s u
stays-shut p k (Some (ends.Closed w)) s h u = absurd (false≢true h)

shut-claim : (s : End) → is_open s ≡ false → claim_of s ≡ None
shut-claim ends.Unnamed h = refl
shut-claim (ends.Closed w) h = refl
shut-claim s h = absurd (false≢true (sym h))

-- ---- how an end holds its peer shows whether it is up

abbrev is_up : Option Claim → Bool
is_up None = false
is_up (Some c) = same_kind c.kind Up

attempt-not-up : (p : Name) (h : Phase) → is_up (option_map (λ k. record { peer = p; kind = k }) (kind_in h)) ≡ false
attempt-not-up p phase.Dialing = refl
attempt-not-up p h = refl

up-settled : (e : End) → is_up (claim_of e) ≡ true → is_pending e ≡ false
up-settled ends.Unnamed h = absurd (false≢true h)
up-settled (ends.Attempt b) h = absurd (false≢true (sym (attempt-not-up b.peer b.phase) ∙ h))
up-settled (ends.Up r) h = refl
up-settled (ends.Closed w) h = refl

-- an end that holds a peer and is not up may become any other that is not nameless
free-by : (e s : End) (c : Claim) → is_unnamed s ≡ false → claim_of e ≡ Some c → same_kind c.kind Up ≡ false → StaysClosed (Some e) s
free-by ends.Unnamed s c g h u = tt
free-by (ends.Attempt b) s c g h u = g
free-by (ends.Up r) s c g h u = absurd (false≢true (sym u ∙ sym (ap is_up h)))
free-by (ends.Closed w) s c g h u = absurd cc

-- what the other end is once end id is e
other-stays : (es : List End) (i : ℕ) (e : End) (x : ℕ) (s : End) → i ≤ length es → StaysClosed (Some e) s → StaysClosed (slice_get es x) s → StaysClosed (slice_get (put_end es i e) x) s
other-stays es i e x s place this other =
    let P : Option End → Type 0 = λ o. StaysClosed o s in
    subst P (sym (get-put es i e x place)) (elim (eqb i x) as (λ b. StaysClosed (cond b (Some e) (slice_get es x)) s) [ true ↦ this | false ↦ other ])

module _ (me : Name) (es : List End) (t : Table) (a : Agree (map.get t) es) where
  -- what has to be shown of a change
  pub fit : (id : EndId) (this : End) (o : Option (EndId × End)) (c d : Option Claim) → StaysClosed (slice_get es id.0) this → OtherStaysClosed (put_end es id.0 this) o → claim_at (slice_get es id.0) ≡ c → claim_of this ≡ d → id.0 ≤ length es → IsThere es o
      → AsksShift t me id c d → (v : Name → Option Entry) → ((q : Name) → map.get (table_after_shift t me id c d) q ≡ v q) → Agrees v (view_after es id this o) → Fits me es t id this o
  fit id this o c d stays other_stays was is place other asks v gets agrees =
      let P : Option Claim → Type 0 = λ x. AsksShift t me id x d in
      let Q : Option Claim → Type 0 = λ x. AsksShift t me id (claim_at (slice_get es id.0)) x in
      record {
        place = place;
        other_there = other;
        stays = stays;
        other_stays = other_stays;
        asks = subst Q (sym is) (subst P (sym was) asks);
        agree = λ p k i. ap (is_held p k) (get-after es id this o i place other) ∙ agrees p k i
            ∙ ap (names k i) (sym (ap (λ x. map.get (table_after_shift t me id (claim_at (slice_get es id.0)) x) p) is ∙ ap (λ x. map.get (table_after_shift t me id x d) p) was ∙ gets p));
      }

  -- one end changes, and the entry of p
  pub fit-one : (id : EndId) (e : End) (p : Name) (o : Option Entry) (c d : Option Claim) → StaysClosed (slice_get es id.0) e → claim_at (slice_get es id.0) ≡ c → claim_of e ≡ d → id.0 ≤ length es
      → AsksShift t me id c d → ((q : Name) → map.get (table_after_shift t me id c d) q ≡ cond (same_name q p) o (map.get t q)) → IsOn p c → IsOn p d
      → ((k : Kind) (i : ℕ) → cond (eqb id.0 i) (is_claim p k d) (names k i (map.get t p)) ≡ names k i o) → Fits me es t id e None
  fit-one id e p o c d stays was is place asks gets on_c on_d here =
      fit id e None c d stays tt was is place tt asks (λ q. cond (same_name q p) o (map.get t q)) gets
      (changes-one (map.get t) (slice_get es) p id.0 e o a
      (λ q k s. ap (is_claim q k) is ∙ only p d on_d q k s)
      (λ q k s. at-claim q k (slice_get es id.0) ∙ ap (is_claim q k) was ∙ only p c on_c q k s)
      (λ k i. ap (λ b. cond (eqb id.0 i) b (names k i (map.get t p))) (ap (is_claim p k) is) ∙ here k i))

  -- two ends change, and the entry of p
  pub fit-two : (id : EndId) (e : End) (x : EndId) (s : End) (p : Name) (l : Kind) (o : Option Entry) (c d : Option Claim) → StaysClosed (Some e) s → StaysClosed (slice_get es x.0) s → StaysClosed (slice_get es id.0) e → claim_at (slice_get es id.0) ≡ c → claim_of e ≡ d → id.0 ≤ length es
      → claim_of s ≡ None → x.0 < length es → names l x.0 (map.get t p) ≡ true
      → AsksShift t me id c d → ((q : Name) → map.get (table_after_shift t me id c d) q ≡ cond (same_name q p) o (map.get t q)) → IsOn p c → IsOn p d
      → ((k : Kind) (i : ℕ) → cond (eqb x.0 i) false (cond (eqb id.0 i) (is_claim p k d) (names k i (map.get t p))) ≡ names k i o) → Fits me es t id e (Some (x, s))
  fit-two id e x s p l o c d this other stays was is place gone there named asks gets on_c on_d here =
      fit id e (Some (x, s)) c d stays (other-stays es id.0 e x.0 s place this other) was is place there asks (λ q. cond (same_name q p) o (map.get t q)) gets
      (changes-two (map.get t) (slice_get es) p x.0 s id.0 e o a
      (λ q k. claimless s gone q k)
      (λ q k b. ap (is_claim q k) is ∙ only p d on_d q k b)
      (λ q k b. at-claim q k (slice_get es x.0) ∙ held-only p q k l (claim_at (slice_get es x.0)) (sym (at-claim p l (slice_get es x.0)) ∙ a p l x.0 ∙ named) b)
      (λ q k b. at-claim q k (slice_get es id.0) ∙ ap (is_claim q k) was ∙ only p c on_c q k b)
      (λ k i. ap (λ b. cond (eqb x.0 i) false (cond (eqb id.0 i) b (names k i (map.get t p)))) (ap (is_claim p k) is) ∙ here k i))

pub same-shift : (t : Table) (me : Name) (id : EndId) (c : Option Claim) → table_after_shift t me id c c ≡ t
same-shift t me id None = refl
same-shift t me id (Some c) = by c.kind
  where
    by : (k : Kind) → table_after_rise t id c.peer k k ≡ t
    by Out = refl
    by In = refl
    by Up = refl

same-asks : (t : Table) (me : Name) (id : EndId) (c : Option Claim) → AsksShift t me id c c
same-asks t me id None = tt
same-asks t me id (Some c) = by c.kind
  where
    by : (k : Kind) → AsksRaise t id c.peer k k
    by Out = tt
    by In = tt
    by Up = tt

pub off : (x y i : ℕ) → eqb y x ≡ true → cond (eqb x i) false (eqb y i) ≡ false
off x y i h = grind (arith, nat_tests)

pub kept : (x y i : ℕ) → eqb y x ≡ false → cond (eqb x i) false (eqb y i) ≡ eqb y i
kept x y i h = grind (arith, nat_tests)

pub same_false : (b : Bool) → cond b false false ≡ false
same_false true = refl
same_false false = refl

pub off2 : (x y z i : ℕ) → eqb y z ≡ true → cond (eqb x i) false (cond (eqb z i) false (eqb y i)) ≡ false
off2 x y z i h = grind (arith, nat_tests)

pub new2 : (x id i : ℕ) → eqb x id ≡ false → cond (eqb x i) false (cond (eqb id i) true (eqb x i)) ≡ eqb id i
new2 x id i h = grind (arith, nat_tests)

pub gone2 : (x id i : ℕ) → cond (eqb x i) false (cond (eqb id i) false (eqb x i)) ≡ false
gone2 x id i = grind (arith, nat_tests)

pub new3 : (x id i : ℕ) → eqb x id ≡ false → cond (eqb x i) false (cond (eqb id i) true false) ≡ eqb id i
new3 x id i h = grind (arith, nat_tests)

pub kept2 : (z x id i : ℕ) → eqb x z ≡ false → eqb x id ≡ false → cond (eqb z i) false (cond (eqb id i) false (eqb x i)) ≡ eqb x i
kept2 z x id i h g = grind (arith, nat_tests)

pub plain : (b : Bool) → cond b true false ≡ b
plain true = refl
plain false = refl

pub false2 : (a b : Bool) → cond a false (cond b false false) ≡ false
false2 a b = ap (cond a false) (same_false b) ∙ same_false a

pub no : {P : Type 0} → false ≡ true → P
no h = absurd (false≢true h)

-- what an entry is once an end is removed from it
left-here : (id : EndId) (k0 : Kind) (o : Option Entry) → ((k : Kind) → names k id.0 o ≡ same_kind k k0) → (k : Kind) (i : ℕ) → cond (eqb id.0 i) false (names k i o) ≡ names k i (left_by id o)
left-here id Out (Some (entry.Out x)) h Out i = off id.0 x.0 i (h Out) ∙ sym (ap (names Out i) (ap (λ b. cond b None (Some (entry.Out x))) (h Out)))
left-here id Out (Some (entry.Out x)) h k i = same_false (eqb id.0 i) ∙ sym (ap (names k i) (ap (λ b. cond b None (Some (entry.Out x))) (h Out)))
left-here id In (Some (entry.In x)) h In i = off id.0 x.0 i (h In) ∙ sym (ap (names In i) (ap (λ b. cond b None (Some (entry.In x))) (h In)))
left-here id In (Some (entry.In x)) h k i = same_false (eqb id.0 i) ∙ sym (ap (names k i) (ap (λ b. cond b None (Some (entry.In x))) (h In)))
left-here id Up (Some (entry.Up x)) h Up i = off id.0 x.0 i (h Up) ∙ sym (ap (names Up i) (ap (λ b. cond b None (Some (entry.Up x))) (h Up)))
left-here id Up (Some (entry.Up x)) h k i = same_false (eqb id.0 i) ∙ sym (ap (names k i) (ap (λ b. cond b None (Some (entry.Up x))) (h Up)))
left-here id Up (Some (entry.Challenged up x)) h Out i = same_false (eqb id.0 i) ∙ sym (ap (names Out i) (ap (λ b. cond b (Some (entry.In x)) (cond (eqb x.0 id.0) (Some (entry.Up up)) (Some (entry.Challenged up x)))) (h Up)))
left-here id Up (Some (entry.Challenged up x)) h In i = kept id.0 x.0 i (h In) ∙ sym (ap (names In i) (ap (λ b. cond b (Some (entry.In x)) (cond (eqb x.0 id.0) (Some (entry.Up up)) (Some (entry.Challenged up x)))) (h Up)))
left-here id Up (Some (entry.Challenged up x)) h Up i = off id.0 up.0 i (h Up) ∙ sym (ap (names Up i) (ap (λ b. cond b (Some (entry.In x)) (cond (eqb x.0 id.0) (Some (entry.Up up)) (Some (entry.Challenged up x)))) (h Up)))
left-here id In (Some (entry.Challenged up x)) h Out i = same_false (eqb id.0 i) ∙ sym (ap (names Out i) (ap (λ b. cond b (Some (entry.In x)) (cond (eqb x.0 id.0) (Some (entry.Up up)) (Some (entry.Challenged up x)))) (h Up) ∙ ap (λ b. cond b (Some (entry.Up up)) (Some (entry.Challenged up x))) (h In)))
left-here id In (Some (entry.Challenged up x)) h In i = off id.0 x.0 i (h In) ∙ sym (ap (names In i) (ap (λ b. cond b (Some (entry.In x)) (cond (eqb x.0 id.0) (Some (entry.Up up)) (Some (entry.Challenged up x)))) (h Up) ∙ ap (λ b. cond b (Some (entry.Up up)) (Some (entry.Challenged up x))) (h In)))
left-here id In (Some (entry.Challenged up x)) h Up i = kept id.0 up.0 i (h Up) ∙ sym (ap (names Up i) (ap (λ b. cond b (Some (entry.In x)) (cond (eqb x.0 id.0) (Some (entry.Up up)) (Some (entry.Challenged up x)))) (h Up) ∙ ap (λ b. cond b (Some (entry.Up up)) (Some (entry.Challenged up x))) (h In)))
left-here id k0 o h k i = no (h k0)

-- a claim on p is read as one on p
pub own-claim : (p : Name) (k l : Kind) → is_claim p k (Some (record { peer = p; kind = l })) ≡ same_kind k l
own-claim p k l = ap (λ b. same_kind k l && b) (itself_lem p) ∙ and-true (same_kind k l)

abbrev pub claims : Name → Kind → Option Claim
claims p k = Some (record { peer = p; kind = k })

-- an end that is put aside for a name that comes wasn't up
not-held-up : (id x : EndId) (l : Kind) (o : Option Entry) (g : Bool) → names l x.0 o ≡ true
    → ((k : Kind) (i : ℕ) → cond (eqb x.0 i) false (cond (eqb id.0 i) (same_kind k In) (names k i o)) ≡ names k i (Some (let x = ruling g id o in x.entry))) → same_kind l Up ≡ false
not-held-up id x Up (Some (entry.Up y)) g named here = no (sym (ap (λ b. cond b false (cond (eqb id.0 x.0) false (eqb y.0 x.0))) (eq-eqb x.0 x.0 refl)) ∙ here Up x.0 ∙ named)
not-held-up id x Up (Some (entry.Challenged y z)) g named here = no (sym (ap (λ b. cond b false (cond (eqb id.0 x.0) false (eqb y.0 x.0))) (eq-eqb x.0 x.0 refl)) ∙ here Up x.0 ∙ named)
not-held-up id x Up o g named here = no named
not-held-up id x l o g named here = refl

module _ (me : Name) (es : List End) (t : Table) (a : Agree (map.get t) es) where
  -- what the entry of p says of an end whose claim is known
  pub named-at : (p : Name) (o : Option Entry) → map.get t p ≡ o → (x : EndId) (c : Option Claim) → claim_at (slice_get es x.0) ≡ c → (k : Kind) → names k x.0 o ≡ is_claim p k c
  named-at p o e x c was k = ap (names k x.0) (sym e) ∙ sym (a p k x.0) ∙ at-claim p k (slice_get es x.0) ∙ ap (is_claim p k) was

  pub fit-keeps : (id : EndId) (e : End) (c : Option Claim) → StaysClosed (slice_get es id.0) e → claim_at (slice_get es id.0) ≡ c → claim_of e ≡ c → id.0 ≤ length es → Fits me es t id e None
  fit-keeps id e c shut was is place =
      fit me es t a id e None c c shut tt was is place tt (same-asks t me id c) (map.get t) (λ q. ap (λ m. map.get m q) (same-shift t me id c))
      (stays (map.get t) (slice_get es) id.0 e a (λ q k. ap (is_claim q k) (is ∙ sym was) ∙ sym (at-claim q k (slice_get es id.0))))

  fit-leaves : (id : EndId) (w : Why) (c : Claim) → StaysClosed (slice_get es id.0) (ends.Closed w) → claim_at (slice_get es id.0) ≡ Some c → id.0 ≤ length es → Fits me es t id (ends.Closed w) None
  fit-leaves id w c stays was place =
      fit-one me es t a id (ends.Closed w) c.peer (left_by id (map.get t c.peer)) (Some c) None stays was refl place tt (get-with t c.peer (left_by id (map.get t c.peer))) refl tt
      (left-here id c.kind (map.get t c.peer) (λ k. named-at c.peer (map.get t c.peer) refl id (Some c) was k ∙ own-claim c.peer k c.kind))

  pub fit-closes : (id : EndId) (w : Why) (c : Option Claim) → StaysClosed (slice_get es id.0) (ends.Closed w) → claim_at (slice_get es id.0) ≡ c → id.0 ≤ length es → Fits me es t id (ends.Closed w) None
  fit-closes id w None stays was place = fit-keeps id (ends.Closed w) None stays was refl place
  fit-closes id w (Some c) stays was place = fit-leaves id w c stays was place

  dial-here : (id : EndId) (p : Name) (k : Kind) (i : ℕ) → cond (eqb id.0 i) (same_kind k Out) (names k i None) ≡ names k i (Some (entry.Out id))
  dial-here id p Out i = plain (eqb id.0 i)
  dial-here id p In i = same_false (eqb id.0 i)
  dial-here id p Up i = same_false (eqb id.0 i)

  pub fit-dial : (id : EndId) (e : End) (p : Name) → StaysClosed (slice_get es id.0) e → claim_at (slice_get es id.0) ≡ None → claim_of e ≡ claims p Out → id.0 ≤ length es → map.get t p ≡ None → Fits me es t id e None
  fit-dial id e p stays was is place idle =
      fit-one me es t a id e p (Some (entry.Out id)) None (claims p Out) stays was is place idle (get-insert order t p (entry.Out id)) tt refl
      (λ k i. (λ j. cond (eqb id.0 i) (own-claim p k Out j) (names k i (idle j))) ∙ dial-here id p k i)

  -- an accepted end takes a name: the entry before, and after
  pub fit-name : (id : EndId) (e : End) (p : Name) (o : Option Entry) (g : Bool) → StaysClosed (slice_get es id.0) e → claim_at (slice_get es id.0) ≡ None → claim_of e ≡ claims p In → id.0 ≤ length es → map.get t p ≡ o → is_greater me p ≡ g → same_name me p ≡ false
      → ((k : Kind) (i : ℕ) → cond (eqb id.0 i) (same_kind k In) (names k i o) ≡ names k i (Some (let x = ruling g id o in x.entry))) → Fits me es t id e None
  fit-name id e p o g stays was is place before greater apart here =
      fit-one me es t a id e p (Some (let x = ruling g id o in x.entry)) None (claims p In) stays was is place apart
      (λ q. get-insert order t p _ q ∙ (λ j. cond (same_name q p) (Some (let x = ruling (greater j) id (before j) in x.entry)) (map.get t q))) tt refl
      (λ k i. (λ j. cond (eqb id.0 i) (own-claim p k In j) (names k i (before j))) ∙ here k i)

  pub fit-name2 : (id : EndId) (e : End) (x : EndId) (s : End) (p : Name) (l : Kind) (o : Option Entry) (g : Bool) → StaysClosed (slice_get es id.0) e → claim_at (slice_get es id.0) ≡ None → claim_of e ≡ claims p In → id.0 ≤ length es → map.get t p ≡ o → is_greater me p ≡ g → same_name me p ≡ false
      → claim_of s ≡ None → is_unnamed s ≡ false → names l x.0 o ≡ true
      → ((k : Kind) (i : ℕ) → cond (eqb x.0 i) false (cond (eqb id.0 i) (same_kind k In) (names k i o)) ≡ names k i (Some (let x = ruling g id o in x.entry))) → Fits me es t id e (Some (x, s))
  fit-name2 id e x s p l o g stays was is place before greater apart gone known named here =
      fit-two me es t a id e x s p l (Some (let x = ruling g id o in x.entry)) None (claims p In) (free-by e s _ known is refl) (stays-held p l (slice_get es x.0) s known (a p l x.0 ∙ ap (names l x.0) before ∙ named) (not-held-up id x l o g named here)) stays was is place gone (there es p l x.0 (a p l x.0 ∙ ap (names l x.0) before ∙ named)) (ap (names l x.0) before ∙ named) apart
      (λ q. get-insert order t p _ q ∙ (λ j. cond (same_name q p) (Some (let x = ruling (greater j) id (before j) in x.entry)) (map.get t q))) tt refl
      (λ k i. (λ j. cond (eqb x.0 i) false (cond (eqb id.0 i) (own-claim p k In j) (names k i (before j)))) ∙ here k i)

  pub fit-rises : (id : EndId) (e : End) (p : Name) (l : Kind) (o : Option Entry) → claim_at (slice_get es id.0) ≡ claims p l → claim_of e ≡ claims p Up → id.0 ≤ length es → map.get t p ≡ o
      → AsksRaise t id p l Up → table_after_rise t id p l Up ≡ map.insert t p (entry.Up id)
      → ((k : Kind) (i : ℕ) → cond (eqb id.0 i) (same_kind k Up) (names k i o) ≡ names k i (Some (entry.Up id))) → Fits me es t id e None
  fit-rises id e p l o was is place before asks raise here =
      fit-one me es t a id e p (Some (entry.Up id)) (claims p l) (claims p Up) (stays-claimed (slice_get es id.0) _ e was (up-settled e (ap is_up is))) was is place asks (λ q. ap (λ m. map.get m q) raise ∙ get-insert order t p (entry.Up id) q) refl refl
      (λ k i. (λ j. cond (eqb id.0 i) (own-claim p k Up j) (names k i (before j))) ∙ here k i)

  pub fit-rises2 : (id : EndId) (e : End) (x : EndId) (s : End) (p : Name) (l : Kind) (o : Option Entry) → claim_at (slice_get es id.0) ≡ claims p l → claim_of e ≡ claims p Up → id.0 ≤ length es → map.get t p ≡ o
      → AsksRaise t id p l Up → table_after_rise t id p l Up ≡ map.insert t p (entry.Up id) → is_open s ≡ false → names Up x.0 o ≡ true
      → ((k : Kind) (i : ℕ) → cond (eqb x.0 i) false (cond (eqb id.0 i) (same_kind k Up) (names k i o)) ≡ names k i (Some (entry.Up id))) → Fits me es t id e (Some (x, s))
  fit-rises2 id e x s p l o was is place before asks raise shut named here =
      fit-two me es t a id e x s p Up (Some (entry.Up id)) (claims p l) (claims p Up) (stays-claimed (Some e) _ s is (shut-settled s shut)) (stays-shut p Up (slice_get es x.0) s (a p Up x.0 ∙ ap (names Up x.0) before ∙ named) shut) (stays-claimed (slice_get es id.0) _ e was (up-settled e (ap is_up is))) was is place (shut-claim s shut) (there es p Up x.0 (a p Up x.0 ∙ ap (names Up x.0) before ∙ named)) (ap (names Up x.0) before ∙ named) asks (λ q. ap (λ m. map.get m q) raise ∙ get-insert order t p (entry.Up id) q) refl refl
      (λ k i. (λ j. cond (eqb x.0 i) false (cond (eqb id.0 i) (own-claim p k Up j) (names k i (before j)))) ∙ here k i)
