-- Nodes that show each other agree.
use Rattle.dist_c_guest.proofs.Common.{◌≡◌, ℕ, ◌≢◌, List, slice_get, Some, sym, ap, ◌∙◌, subst, AreLegal, UpRecord, Setup, Act, run_acts, NodeState, opening, Agreement}
use Rattle.dist_c_guest.proofs.Common.{AreSetups, Counts, IsFooled, IsReached, IsUp, run, Life, World, empty, Happening}
use Rattle.dist_c_guest.proofs.{GuestWorlds.fit-of, GuestWorlds.fits-all-read, Shown.one-of-a-peer, Shown.run-is-run}
use Rattle.dist_core_ends.specs.declared.known.End.TheVariants as ends
use Rattle.dist_c_guest.specs.ShownPeers.{Agree, AgreeBy, GuardShows, LeadsTo}
use Rattle.dist_c_guest.specs.Guard.{AreUp, Told, acts_run, first_guard, run_guard}
use Rattle.dist_c_guest.specs.Worlds.{AllFitGuests, AreWhole, Guests, all_read, run_guests, setups_in}

-- ---- who shows whom

counts : (w : World) (a b id : ℕ) (l : LeadsTo w a b id) (r : UpRecord) → slice_get l.life.node.ends id ≡ Some (ends.Up r) → Counts w a b
counts w a b id l r up = record { place = l.place; life = l.life; id = id; kept = r; other = l.other; runs = l.runs_now; lives = l.lives; is_up = up; named = l.named; peer = l.peer r up }

-- by its guard
abbrev Ups : Type 0
Ups = (s : Setup) (ts : List Told) → AreUp (run_guard ts (first_guard s))

shown-at : Ups → (w : World) (a b : ℕ) (s : GuardShows w a b) → (r : UpRecord) × (slice_get s.leads.life.node.ends s.id ≡ Some (ends.Up r))
shown-at ups w a b s = subst (λ (n : NodeState). (r : UpRecord) × (slice_get n.ends s.id ≡ Some (ends.Up r))) s.same (ups s.setup s.told s.id s.shown)

-- it is the one end that is up with the peer
abbrev Legals : Type 0
Legals = (s : Setup) (xs : List Act) → AreLegal (run_acts xs (opening s)).ends

same-end : Legals → Ups → (w : World) (a b : ℕ) (s : GuardShows w a b) (c : ℕ) (x : IsUp w a b c) → x.id ≡ s.id
same-end legals ups w a b s c x =
    let l = s.leads in
    let place : Some x.place ≡ Some l.place = sym x.runs ∙ l.runs_now in
    let at : x.place ≡ l.place = cc in
    let life : Some x.life ≡ Some l.life = sym x.lives ∙ ap (slice_get w.lives) at ∙ l.lives in
    let lives : x.life ≡ l.life = cc in
    let other : Some x.other ≡ Some l.other = sym x.named ∙ l.named in
    let named : x.other ≡ l.other = cc in
    let u = shown-at ups w a b s in
    let is : slice_get l.life.node.ends x.id ≡ Some (ends.Up x.kept) = ap (λ (k : Life). slice_get k.node.ends x.id) (sym lives) ∙ x.is_up in
    let legal : AreLegal l.life.node.ends =
    subst (λ (n : NodeState). AreLegal n.ends) (sym (run-is-run s.told (first_guard s.setup)) ∙ s.same) (legals s.setup (acts_run s.told (first_guard s.setup))) in
    one-of-a-peer l.life.node legal x.id s.id x.kept u.0 is u.1 (x.peer ∙ ap (λ (o : Setup). o.name) named ∙ sym (l.peer u.0 u.1))

-- ---- the agreement

abbrev Nodes : Type 0
Nodes = (guests : Guests) (hs : List Happening) → AreSetups (setups_in guests) → AllFitGuests guests hs → AreWhole guests → run_guests guests hs ≡ run (all_read guests hs) (empty (setups_in guests))

abbrev Linked : Type 0
Linked = (w : World) (a b : ℕ) → (IsFooled w a b → ⊥) → (u : Counts w a b) → (c : ℕ) × (x : IsUp w a b c) × (x.kept ≡ u.kept)

agree-on : ((w : World) → IsReached w → Agreement w) → Linked → (w : World) → IsReached w → (a b : ℕ) → a ≢ b → (IsFooled w a b → ⊥) → (IsFooled w b a → ⊥) → Counts w a b → Counts w b a → Agree w a b
agree-on agree linked w r a b apart wise other_wise s t =
    let u = linked w a b wise s in
    let v = linked w b a other_wise t in
    record { c = u.0; d = v.0; x = u.1; y = v.1; agreed = agree w r a b u.0 v.0 apart u.1 v.1 }

pub guards-agree : Legals → Ups → Nodes → ((w : World) → IsReached w → Agreement w) → Linked
    → (guests : Guests) (hs : List Happening) → AreSetups (setups_in guests) → AllFitGuests guests hs → AreWhole guests → (a b : ℕ) → a ≢ b
    → (IsFooled (run_guests guests hs) a b → ⊥) → (IsFooled (run_guests guests hs) b a → ⊥) → (s : GuardShows (run_guests guests hs) a b) (t : GuardShows (run_guests guests hs) b a) → AgreeBy (run_guests guests hs) a b s.id t.id
guards-agree legals ups nodes agree linked guests hs good fit whole a b apart wise other_wise s t =
    let w = run_guests guests hs in
    let r : IsReached w = record { setups = setups_in guests; happenings = all_read guests hs; good = good; fit = fit-of guests (all_read guests hs) (fits-all-read guests hs fit); is = nodes guests hs good fit whole } in
    let u = shown-at ups w a b s in
    let v = shown-at ups w b a t in
    let k = agree-on agree linked w r a b apart wise other_wise (counts w a b s.id s.leads u.0 u.1) (counts w b a t.id t.leads v.0 v.1) in
    record { agree = k; at_a = same-end legals ups w a b s k.c k.x; at_b = same-end legals ups w b a t k.d k.y }
