-- No history changes a setup.
use Rattle.dist_audit.proofs.Words.{◌≡◌, ℕ, suc, Bool, true, false, cond, List, [], ◌∷◌, ◌++◌, length, Some, None, Option, option_to_list, sym, subst}
use Rattle.dist_audit.proofs.Words.{AllByRecursion, EndId, Setup, Event, AllLives, run, World, empty, Happening, Closed, world_of, ahead, before, begins}
use Rattle.dist_audit.proofs.Words.{happenings, itself, of_lines, own, reach, reach_first, setups_of, with_mentions, NodeLine, dialler_of, is_among}
use Rattle.dist_core.specs.declared.event.Event.TheVariants as event
use Rattle.dist_world_model.specs.OwnSetups.{AreNoResets, HasSetDigests, IsNoReset, IsSetUp}

-- what is known of runs in which no setup is changed
pub record KeepsSetups : Type 0 where
  pub unchanged : (ss : List Setup) (hs : List Happening) → AreNoResets hs → AllLives (IsSetUp ss) (run hs (empty ss))
  pub digests : (ss : List Setup) (hs : List Happening) → AreNoResets hs → AllLives (HasSetDigests ss) (run hs (empty ss))

both : (xs ys : List Happening) → AllByRecursion IsNoReset xs → AllByRecursion IsNoReset ys → AllByRecursion IsNoReset (xs ++ ys)
both [] ys p q = q
both (x ∷ xs) ys p q = (p.0, both xs ys p.1 q)

all-begin : (i : ℕ) (ss : List Setup) → AllByRecursion IsNoReset (begins i ss)
all-begin i [] = tt
all-begin i (s ∷ ss) = (tt, all-begin (suc i) ss)

abbrev IsPlain : Option Happening → Type 0
IsPlain o = AllByRecursion IsNoReset (option_to_list o)

reaches : (all : List NodeLine) (count k : ℕ) (o : Option (ℕ × EndId)) → IsPlain (reach all count k o)
reaches all count k None = tt
reaches all count k (Some x) = (tt, tt)

reaches-first : (all : List NodeLine) (count : ℕ) (ks : List ℕ) (k : ℕ) → IsPlain (reach_first all count ks k)
reaches-first all count ks k = by (is_among k ks)
  where
    by : (b : Bool) → IsPlain (cond b None (reach all count k (dialler_of k all)))
    by true = tt
    by false = reaches all count k (dialler_of k all)

before-plain : (all : List NodeLine) (count : ℕ) (ks : List ℕ) (b : Bool) (i : ℕ) (v : Event) → IsPlain (before all count ks b i v)
before-plain all count ks b i (event.Dial p o) = tt
before-plain all count ks true i (event.Opened id k) = tt
before-plain all count ks false i (event.Opened id k) = reaches-first all count ks k
before-plain all count ks true i (event.Incoming k) = tt
before-plain all count ks false i (event.Incoming k) = reaches-first all count ks k
before-plain all count ks true i (event.Frame id body) = tt
before-plain all count ks false i (event.Frame id body) = (tt, tt)
before-plain all count ks b i (event.Lost id w) = tt
before-plain all count ks b i (event.Tick id) = tt

own-plain : (ks : List ℕ) (b : Bool) (i : ℕ) (v : Event) (fresh : ℕ) → IsNoReset (own ks b i v fresh)
own-plain ks b i (event.Dial p o) fresh = tt
own-plain ks true i (event.Opened id k) fresh = tt
own-plain ks false i (event.Opened id k) fresh = tt
own-plain ks true i (event.Incoming k) fresh = tt
own-plain ks false i (event.Incoming k) fresh = tt
own-plain ks true i (event.Frame id body) fresh = tt
own-plain ks false i (event.Frame id body) fresh = tt
own-plain ks b i (event.Lost id w) fresh = tt
own-plain ks b i (event.Tick id) fresh = tt

lines-plain : (all : List NodeLine) (count : ℕ) (ks : List ℕ) (ts : List NodeLine) → AllByRecursion IsNoReset (of_lines all count ks ts)
lines-plain all count ks [] = tt
lines-plain all count ks (t ∷ ts) =
    let l = t.line in
    both (option_to_list (ahead all count ks t)) (itself ks t ∷ of_lines all count (with_mentions ks t) ts)
    (before-plain all count ks t.outside t.node l.event) (own-plain _ t.outside t.node l.event l.fresh, lines-plain all count (with_mentions ks t) ts)

plain : (cs : List Closed) (ts : List NodeLine) → AreNoResets (happenings cs ts)
plain cs ts = both (begins 0 (setups_of cs)) (of_lines ts (length cs) [] ts) (all-begin 0 (setups_of cs)) (lines-plain ts (length cs) [] ts)

-- each incarnation has its closed node's setup
pub own-setups : KeepsSetups → (cs : List Closed) (ts : List NodeLine) (w : World) → w ≡ world_of cs ts → AllLives (IsSetUp (setups_of cs)) w
own-setups keeps cs ts w is = subst (AllLives (IsSetUp (setups_of cs))) (sym is) (keeps.unchanged (setups_of cs) (happenings cs ts) (plain cs ts))

pub own-digests : KeepsSetups → (cs : List Closed) (ts : List NodeLine) (w : World) → w ≡ world_of cs ts → AllLives (HasSetDigests (setups_of cs)) w
own-digests keeps cs ts w is = subst (AllLives (HasSetDigests (setups_of cs))) (sym is) (keeps.digests (setups_of cs) (happenings cs ts) (plain cs ts))
