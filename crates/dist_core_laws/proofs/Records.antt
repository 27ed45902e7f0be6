-- The records of ends that are up stay right, over steps and changes.
use Rattle.std.specs.Cmp.Lexicographic.{same_text}
use Rattle.std.specs.FinMap as map
use Rattle.dist_peers.specs.declared.entry.Entry.TheVariants as entry
use Rattle.dist_core_ends.specs.declared.known.End.TheVariants as ends
use Rattle.dist_core_ends.specs.declared.phase.Phase.TheVariants as phase
use Rattle.dist_core_ends.proofs.{Forgotten.agree-forgotten, Words.is_some, Words.◌==◌, Words.find, Words.itself_lem, Words.one_lem}
use Rattle.dist_core_setup.specs.Changing.{DigestsStay, has_own_cookie, with_own_cookie}
use Rattle.dist_core_setup.proofs.Keys.{others-stay, same-stays, owners-stay, all-stay}
use Rattle.dist_core.specs.declared.changing.{Change.Change, Change.TheVariants.Allow, Change.TheVariants.Cookie, Change.TheVariants.UsualCookie}
use Rattle.dist_core.specs.declared.{effect.Effect.Effect, event.Event.Event}
use Rattle.dist_core.specs.declared.changing.ChangeError.TheVariants as error
use Rattle.dist_core.proofs.Rows.{row-in}
use Rattle.dist_core.proofs.Words.{not, cond_both, get-entries, list_any, Message, rekeys, up_id, Attempt, End, UpRecord, Phase, Up, legal, table-legal}
use Rattle.dist_core.proofs.Words.{get-table, ◌≡◌, ℕ, Bool, true, false, cond, ◌&&◌, ◌||◌, List, [], ◌∷◌, slice_get, Some, None, Ok, Err, count_by, Option}
use Rattle.dist_core.proofs.Words.{option_map, sym, refl, ap, ◌∙◌, subst, arith, false≢true, Name, name_cmp, same_name, replaced_by, EndId, Entry, AreLegal}
use Rattle.dist_core.proofs.Words.{entry_in, is_held, is_open, names, table_of, without_cause, without_causes_below, own_digest, same_bytes, ack_text, Setup}
use Rattle.dist_core.proofs.Words.{named_attempt, Act, Changes, Forgets, Renews, Steps, act, changed_or, run_acts, after_change, change, finds_no_room}
use Rattle.dist_core.proofs.Words.{has_usual, is_in_use, is_up, comes_up, record_of, superseded_end, superseded_in, supersedes, NodeState, limits_of}
use Rattle.dist_core.proofs.Words.{node_after, opening, Accepts, Acknowledged, Asks_again, Asks_alive, Begins, Ceases, Challenges, Closes, Comes_again}
use Rattle.dist_core.proofs.Words.{Comes_in, Complements, Crosses, Declines, Dials, Fails, Goes_on, Heard, Hears, Insists, Loses, Names, Replied, Replies}
use Rattle.dist_core.proofs.Words.{StepRow, Taken, Ticks, after, effect_of, step}
use Rattle.dist_core_laws.specs.{Laws.IsWithinLimits, Records.AreRight}
use Rattle.dist_core_laws.proofs.{Causes.forgotten-alike, Causes.table-alike, Causes.opens-alike, Causes.length-alike, Causes.end-alike, Succeeding.stands-as}
use Rattle.dist_core_laws.proofs.{Constant.after-step, Constant.setup_step, Legal.legal_opening, Legal.legal_step, Limits.within_first, Limits.within_step}

-- an end is up only with a right record
abbrev RightEnd : Setup → End → Type 0
RightEnd s ends.Unnamed = Unit {0}
RightEnd s (ends.Attempt a) = Unit {0}
RightEnd s (ends.Up r) = r.digest_received ≡ own_digest s r.peer r.challenge
RightEnd s (ends.Closed w) = Unit {0}

abbrev RightOther : Setup → Option (EndId × End) → Type 0
RightOther s None = Unit {0}
RightOther s (Some x) = RightEnd s x.1

abbrev RightEffect : Setup → Effect → Type 0
RightEffect s f = RightEnd s f.this × RightOther s f.other

-- ---- steps

module _ (n : NodeState) (rights : AreRight n) where
  each-end : (i : ℕ) (e : End) → slice_get n.ends i ≡ Some e → RightEnd n.setup e
  each-end i (ends.Up r) at = rights i r at
  each-end i e at = tt

  over : (id : EndId) (say : List ℕ) (a : Attempt) (x : EndId) (d : End) → RightEnd n.setup d → RightEffect n.setup (supersedes id say a x d)
  over id say a x (ends.Up r) h = (tt, h)
  over id say a x d h = (tt, tt)

  superseded-right : (o : Option End) → RightEnd n.setup (superseded_end o)
  superseded-right (Some (ends.Attempt a)) = by a.phase
    where
      by : (q : Phase) → RightEnd n.setup (superseded_in a q)
      by phase.Dialing = tt
      by q = tt
  superseded-right o = tt

  taken : (id : EndId) (a : Attempt) (f : Effect) → Taken n id a f → RightEffect n.setup f
  taken id a f (Accepts e k) = subst (RightEffect n.setup) (sym k) (tt, tt)
  taken id a f (Crosses x e g k) = subst (RightEffect n.setup) (sym k) (over id _ a x (superseded_end (slice_get n.ends x.0)) (superseded-right (slice_get n.ends x.0)))
  taken id a f (Declines x e g k) = subst (RightEffect n.setup) (sym k) (tt, tt)
  taken id a f (Comes_again x e k) = subst (RightEffect n.setup) (sym k) (tt, tt)
  taken id a f (Asks_alive x e k) = subst (RightEffect n.setup) (sym k) (tt, tt)
  taken id a f (Asks_again x z e k) = subst (RightEffect n.setup) (sym k) (tt, tt)

  risen : (id : EndId) (say : List ℕ) (b : Attempt) (digest : List ℕ) (o : Option EndId) → same_bytes digest (own_digest n.setup b.peer b.challenge) ≡ true → RightEffect n.setup (comes_up id say (record_of n.setup b digest) o)
  risen id say b digest None h = (same_text _ _ (sym h), tt)
  risen id say b digest (Some x) h = (same_text _ _ (sym h), tt)

  heard : (id : EndId) (fresh : ℕ) (e : End) (m : Message) (f : Effect) → Heard n id fresh e m f → RightEffect n.setup f
  heard id fresh e m f (Closes say w cause k) = subst (RightEffect n.setup) (sym k) (tt, tt)
  heard id fresh e m f (Names o flags c p un mm ok t) = taken id (named_attempt o flags c p fresh) f t
  heard id fresh e m f (Goes_on s b un ph mm go k) = subst (RightEffect n.setup) (sym k) (tt, tt)
  heard id fresh e m f (Insists b un ph mm k) = subst (RightEffect n.setup) (sym k) (tt, tt)
  heard id fresh e m f (Replies o r flags challenge c p b un ph mm sn fl k) = subst (RightEffect n.setup) (sym k) (tt, tt)
  heard id fresh e m f (Challenges b un ph mm k) = subst (RightEffect n.setup) (sym k) (tt, tt)
  heard id fresh e m f (Complements high c b un ph mm fl k) = subst (RightEffect n.setup) (sym k) (tt, tt)
  heard id fresh e m f (Acknowledged digest b un ph mm right k) = subst (RightEffect n.setup) (sym k) (risen id [] b digest (replaced_by (entry_in n.ends b.peer)) right)
  heard id fresh e m f (Replied challenge digest b un ph mm right k) = subst (RightEffect n.setup) (sym k) (risen id (ack_text n.setup b.peer challenge) b digest (replaced_by (entry_in n.ends b.peer)) right)

  row : (v : Event) (fresh : ℕ) (f : Effect) → StepRow n v fresh f → RightEffect n.setup f
  row v fresh f (Dials p o is idle sp full cr k) = subst (RightEffect n.setup) (sym k) (tt, tt)
  row v fresh f (Comes_in link is sp cr k) = subst (RightEffect n.setup) (sym k) (tt, tt)
  row v fresh f (Begins id link b is at ph sp k) = subst (RightEffect n.setup) (sym k) (tt, tt)
  row v fresh f (Ceases id link b is at ph sp k) = subst (RightEffect n.setup) (sym k) (tt, tt)
  row v fresh f (Loses id w e is at op k) = subst (RightEffect n.setup) (sym k) (tt, tt)
  row v fresh f (Ticks id r is at sp k) = subst (RightEffect n.setup) (sym k) (rights id.0 r at, tt)
  row v fresh f (Fails id body e side x is at to sp says k) = subst (RightEffect n.setup) (sym k) (tt, tt)
  row v fresh f (Hears id body e side m is at to sp says h) = heard id fresh e m f h

  module _ (legal : AreLegal n.ends) (v : Event) (fresh : ℕ) (f : Effect) (is : effect_of n v fresh ≡ Ok f) where
    effect-right : RightEffect n.setup f
    effect-right = row v fresh f (row-in n v fresh f is)

    right-after : AreRight (after n v f)
    right-after i r at = stands-as n v fresh f i legal is (λ o. (e : End) → o ≡ Some e → RightEnd n.setup e)
        (λ _ e q. let z : f.this ≡ e = cc in subst (RightEnd n.setup) z effect-right.0)
        (λ x s o _ e q. let z : s ≡ e = cc in subst (RightEnd n.setup) z (subst (RightOther n.setup) o effect-right.1)) (each-end i) (ends.Up r) at

pub right_step : (n : NodeState) (v : Event) (fresh : ℕ) → AreLegal n.ends → AreRight n → AreRight (node_after n (step n v fresh))
right_step n v fresh legal h = after-step AreRight n v fresh h (right-after n h legal v fresh)

-- ---- changes

-- what holds of a node, and of what a change would make of it, holds after the change, refused or not
either : (P : NodeState → Type 0) (n : NodeState) (v : Change) → P n → (is_in_use n v ≡ false → P (after_change n v)) → P (changed_or n (change n v))
either P n v before after = by (is_in_use n v) (finds_no_room n v) refl
  where
    by : (b full : Bool) → is_in_use n v ≡ b → P (changed_or n (cond b (Err error.InUse) (cond full (Err error.Full) (Ok (after_change n v)))))
    by true full e = before
    by false true e = before
    by false false e = after e

module _ (s : Setup) (q : Name) (x : Entry) (known : is_some (up_id x) ≡ true) where
  own-at : (e : Name × Entry) (es : List (Name × Entry)) (b up own : Bool) → same_name q e.0 ≡ b → is_some (up_id e.1) ≡ up → has_own_cookie s e.0 ≡ own → (find name_cmp q es ≡ Some x → list_any (has_usual s) es ≡ false → has_own_cookie s q ≡ true)
      → cond b (Some e.1) (find name_cmp q es) ≡ Some x → ((up && not own) || list_any (has_usual s) es) ≡ false → has_own_cookie s q ≡ true
  own-at e es true true true same is own more at none = ap (has_own_cookie s) (one_lem q e.0 same) ∙ own
  own-at e es true true false same is own more at none = absurd (false≢true (sym none))
  own-at e es true false o same is own more at none = let z : e.1 ≡ x = cc in absurd (false≢true (sym is ∙ ap (λ (y : Entry). is_some (up_id y)) z ∙ known))
  own-at e es false true true same is own more at none = more at none
  own-at e es false true false same is own more at none = absurd (false≢true (sym none))
  own-at e es false false o same is own more at none = more at none

  -- among rows of which none is up under the usual cookie, each that is up has a cookie of its own
  own-in : (rows : List (Name × Entry)) → find name_cmp q rows ≡ Some x → list_any (has_usual s) rows ≡ false → has_own_cookie s q ≡ true
  own-in [] at none = absurd cc
  own-in (e ∷ es) at none = own-at e es (same_name q e.0) (is_some (up_id e.1)) (has_own_cookie s e.0) refl refl refl (own-in es) at none

module _ (n : NodeState) (p : Name) (known : is_up (entry_in n.ends p) ≡ true) where
  -- a peer that is up is not one that is not up
  apart : (q : Name) → is_up (entry_in n.ends q) ≡ false → (b : Bool) → same_name q p ≡ b → same_name q p ≡ false
  apart q idle false is = is
  apart q idle true is = absurd (false≢true (sym idle ∙ ap (λ (x : Name). is_up (entry_in n.ends x)) (one_lem q p is) ∙ known))

  has-own : list_any (has_usual n.setup) (map.entries (table_of n.ends)) ≡ false → (o : Option Entry) → entry_in n.ends p ≡ o → is_up o ≡ true → has_own_cookie n.setup p ≡ true
  has-own none (Some x) is up = own-in n.setup p x up (map.entries (table_of n.ends)) (sym (get-entries (table_of n.ends) p) ∙ get-table n.ends p ∙ is) none
  has-own none None is up = absurd (false≢true up)

  own-stays : (q : Name) (own : Option (List ℕ)) (up other same : Bool) → is_up (entry_in n.ends q) ≡ up → rekeys n.setup.cookies q own ≡ other → same_name q p ≡ same
      → (up && other) ≡ false → DigestsStay n.setup (with_own_cookie n.setup q own) p
  own-stays q own up other false u r same h = others-stay n.setup q p own same
  own-stays q own false other true u r same h = others-stay n.setup q p own (apart q u (same_name q p) refl)
  own-stays q own true true true u r same h = absurd (false≢true (sym h))
  own-stays q own true false true u r same h = subst (λ (x : Name). DigestsStay n.setup (with_own_cookie n.setup q own) x) (one_lem q p same) (same-stays n.setup q own r)

  stays-after : (v : Change) → is_in_use n v ≡ false → DigestsStay n.setup (after_change n v).setup p
  stays-after (Cookie q own) idle = own-stays q own (is_up (entry_in n.ends q)) (rekeys n.setup.cookies q own) (same_name q p) refl refl refl idle
  stays-after (UsualCookie cookie) idle = owners-stay n.setup p cookie (has-own idle (entry_in n.ends p) refl known)
  stays-after (Allow allowed) idle = all-stay n.setup allowed p

  stays : (v : Change) → DigestsStay n.setup (changed_or n (change n v)).setup p
  stays v = either (λ m. DigestsStay n.setup m.setup p) n v (λ challenge. refl) (stays-after v)

pub in-use-stays : (n : NodeState) (v : Change) (p : Name) → is_up (entry_in n.ends p) ≡ true → DigestsStay n.setup (changed_or n (change n v)).setup p
in-use-stays n v p known = stays n p known v

-- a change leaves the ends, and the count of steps
pub ends_stay : (n : NodeState) (v : Change) → (changed_or n (change n v)).ends ≡ n.ends
ends_stay n v = either (λ m. m.ends ≡ n.ends) n v refl (λ _. refl)

pub steps_stay : (n : NodeState) (v : Change) → (changed_or n (change n v)).steps ≡ n.steps
steps_stay n v = either (λ m. m.steps ≡ n.steps) n v refl (λ _. refl)

module _ (n : NodeState) (legal : AreLegal n.ends) (i : ℕ) (r : UpRecord) (up : slice_get n.ends i ≡ Some (ends.Up r)) where
  -- the entry of an up end's peer has that end up
  has-up : (o : Option Entry) → names Up i o ≡ true → is_up o ≡ true
  has-up (Some (entry.Up x)) h = refl
  has-up (Some (entry.Challenged x y)) h = refl
  has-up o h = absurd (false≢true h)

  peer-up : is_up (entry_in n.ends r.peer) ≡ true
  peer-up = has-up (entry_in n.ends r.peer) (sym (legal r.peer Up i) ∙ ap (is_held r.peer Up) up ∙ itself_lem r.peer)

pub right_change : (n : NodeState) (v : Change) → AreLegal n.ends → AreRight n → AreRight (changed_or n (change n v))
right_change n v legal rights i r at =
    let up : slice_get n.ends i ≡ Some (ends.Up r) = sym (ap (λ (es : List End). slice_get es i) (ends_stay n v)) ∙ at in
    rights i r up ∙ sym (in-use-stays n v r.peer (peer-up n legal i r up) r.challenge)

-- ... and the limits
within_after : (n : NodeState) (v : Change) → IsWithinLimits n → IsWithinLimits (after_change n v)
within_after n (Cookie p cookie) h = record { steps = h.steps; given_out = h.given_out; open_ends = h.open_ends; entries = h.entries }
within_after n v h = record { steps = h.steps; given_out = h.given_out; open_ends = h.open_ends; entries = h.entries }

within_change : (n : NodeState) (v : Change) → IsWithinLimits n → IsWithinLimits (changed_or n (change n v))
within_change n v h = either IsWithinLimits n v h (λ _. within_after n v h)

limits_change : (n : NodeState) (v : Change) → limits_of (changed_or n (change n v)) ≡ limits_of n
limits_change n v = either (λ m. limits_of m ≡ limits_of n) n v refl (λ _. same v)
  where
    same : (v : Change) → limits_of (after_change n v) ≡ limits_of n
    same (Cookie p cookie) = refl
    same v = refl

-- ---- forgetting

abbrev forgets : NodeState → ℕ → NodeState
forgets n below = record n { ends = without_causes_below below n.ends }

-- an end that is up now was up before
was-up : (o : Option End) (r : UpRecord) → option_map without_cause o ≡ Some (ends.Up r) → o ≡ Some (ends.Up r)
was-up (Some (ends.Up x)) r e = e
was-up o r e = absurd cc

legal_forgets : (n : NodeState) (below : ℕ) → AreLegal n.ends → AreLegal (forgets n below).ends
legal_forgets n below h = legal (map.get (table_of n.ends)) (without_causes_below below n.ends) (agree-forgotten (table_of n.ends) below n.ends (table-legal n.ends h))

right_forgets : (n : NodeState) (below : ℕ) → AreRight n → AreRight (forgets n below)
right_forgets n below h i r at =
    let alike = forgotten-alike below n.ends in
    h i r (was-up (slice_get n.ends i) r (end-alike n.ends (without_causes_below below n.ends) alike i ∙ ap (option_map without_cause) at))

within_forgets : (n : NodeState) (below : ℕ) → IsWithinLimits n → IsWithinLimits (forgets n below)
within_forgets n below h =
    let alike = forgotten-alike below n.ends in
    let opened = opens-alike n.ends (without_causes_below below n.ends) alike in
    let given = length-alike n.ends (without_causes_below below n.ends) alike in
    let rows = ap map.len (table-alike n.ends (without_causes_below below n.ends) alike) in
    record { steps = h.steps; given_out = omega (arith, given, h.given_out); open_ends = omega (arith, opened, h.open_ends); entries = omega (arith, rows, h.entries) }

-- ---- runs of all these

pub right_first : (s : Setup) → AreRight (opening s)
right_first s i r at = absurd cc

renewed : (P : NodeState → Type 0) (n : NodeState) → P (opening n.setup) → P n → P (act n Renews)
renewed P n new old = cond_both (count_by is_open n.ends == 0) _ _ P (λ _. new) (λ _. old)

legal_act : (n : NodeState) (x : Act) → AreLegal n.ends → AreLegal (act n x).ends
legal_act n (Steps v fresh) h = legal_step n v fresh h
legal_act n (Changes v) h = subst AreLegal (sym (ends_stay n v)) h
legal_act n (Forgets below) h = legal_forgets n below h
legal_act n Renews h = renewed (λ m. AreLegal m.ends) n (legal_opening n.setup) h

pub right_act : (n : NodeState) (x : Act) → AreLegal n.ends → AreRight n → AreRight (act n x)
right_act n (Steps v fresh) legal h = right_step n v fresh legal h
right_act n (Changes v) legal h = right_change n v legal h
right_act n (Forgets below) legal h = right_forgets n below h
right_act n Renews legal h = renewed AreRight n (right_first n.setup) h

within_act : (n : NodeState) (x : Act) → AreLegal n.ends → IsWithinLimits n → IsWithinLimits (act n x)
within_act n (Steps v fresh) legal h = within_step n v fresh legal h
within_act n (Changes v) legal h = within_change n v h
within_act n (Forgets below) legal h = within_forgets n below h
within_act n Renews legal h = renewed IsWithinLimits n (within_first n.setup) h

limits_act : (n : NodeState) (x : Act) → limits_of (act n x) ≡ limits_of n
limits_act n (Steps v fresh) = ap (λ (s : Setup). s.limits) (setup_step n v fresh)
limits_act n (Changes v) = limits_change n v
limits_act n (Forgets below) = refl
limits_act n Renews = renewed (λ m. limits_of m ≡ limits_of n) n refl refl

-- what each act keeps holds after any of them
after-acts : (P : NodeState → Type 0) → ((n : NodeState) (x : Act) → AreLegal n.ends → P n → P (act n x)) → (xs : List Act) (n : NodeState) → AreLegal n.ends → P n
    → P (run_acts xs n)
after-acts P each [] n legal h = h
after-acts P each (x ∷ xs) n legal h = after-acts P each xs (act n x) (legal_act n x legal) (each n x legal h)

pub right_runs : (s : Setup) (xs : List Act) → AreRight (run_acts xs (opening s))
right_runs s xs = after-acts AreRight right_act xs (opening s) (legal_opening s) (right_first s)

pub legal_runs : (s : Setup) (xs : List Act) → AreLegal (run_acts xs (opening s)).ends
legal_runs s xs = after-acts (λ n. AreLegal n.ends) (λ n x legal _. legal_act n x legal) xs (opening s) (legal_opening s) (legal_opening s)

pub within_runs : (s : Setup) (xs : List Act) → IsWithinLimits (run_acts xs (opening s))
within_runs s xs = after-acts IsWithinLimits within_act xs (opening s) (legal_opening s) (within_first s)

pub limits_runs : (n : NodeState) (xs : List Act) → limits_of (run_acts xs n) ≡ limits_of n
limits_runs n [] = refl
limits_runs n (x ∷ xs) = limits_runs (act n x) xs ∙ limits_act n x
