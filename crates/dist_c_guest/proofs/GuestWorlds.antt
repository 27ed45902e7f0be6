-- A world of whole guests is a world of nodes.
use Rattle.dist_c_guest.proofs.Common.{◌≡◌, ℕ, zero, suc, true, cond, ltb, List, [], ◌∷◌, ◌++◌, slice_get, Some, None, Option, sym, refl, ap, ◌∙◌, subst, w16}
use Rattle.dist_c_guest.proofs.Common.{◌==◌, ◌||◌, ◌&&◌, inl, inr, first_body, Side, EndId, Setup, Agreement, AllFit, AreSetups, body_taken}
use Rattle.dist_c_guest.proofs.Common.{change_to, text_to, AreCanonical, at_place, run, Conn, World, empty, row_at, running, Happening, run-append, expansion}
use Rattle.dist_c_guest.proofs.Common.{Hold, are_whole, is_whole, mandatory_25}
use Rattle.dist_c_guest.proofs.WholeBodies.{holds-nothing, read-as-it-came, whole-pair}
use Rattle.dist_core.specs.declared.event.Event.TheVariants as event
use Rattle.dist_core_setup.specs.Rules.{announced_by}
use Rattle.dist_names.specs.declared.creation.Creation.{Creation}
use Rattle.dist_world_model.specs.{Agreement.Fits, OwnSetups.BeginsWith, OwnSetups.applied_as}
use Rattle.dist_world_model.specs.Happenings.{take_frame, take_read, happens, most_applied, notify, ticked_on, without_closing, world_after, ◌>>=◌}
use Rattle.dist_world_model.specs.declared.happening.Happening.TheVariants as happening
use Rattle.dist_world_model.proofs.OwnSetups.{applied-kind}
use Rattle.dist_c_guest.specs.Worlds.{AllFitGuests, AreWhole, FitsGuests, Guests, guests_happen, mandatory_of, run_guests, run_guests_from, setups_in}
use Rattle.dist_c_guest.specs.Worlds.{all_read, read_by, world_after_guests}

-- ---- lists

-- whose setup that is
guest-of : (guests : Guests) (b : ℕ) (s : Setup) → slice_get (setups_in guests) b ≡ Some s → (own : ℕ) × (slice_get guests b ≡ Some (s, own))
guest-of [] b s at = absurd cc
guest-of (g ∷ gs) zero s at = let same : g.0 ≡ s = cc in (g.1, ap (λ t. Some (t, g.1)) same)
guest-of (g ∷ gs) (suc b) s at = guest-of gs b s at

-- what follows a thing that is there is the same, where it is the same of that thing
same-bind : {A B : Type 0} (o : Option A) (f g : A → Option B) → ((x : A) → o ≡ Some x → f x ≡ g x) → (o >>= f) ≡ (o >>= g)
same-bind None f g h = refl
same-bind (Some x) f g h = h x refl

-- ---- what is asked of happenings

one-fit : (guests : Guests) (h : Happening) → FitsGuests guests h → Fits h
one-fit guests (happening.BeginAs i s) f = f.0
one-fit guests h f = f

pub fit-of : (guests : Guests) (hs : List Happening) → AllFitGuests guests hs → AllFit hs
fit-of guests [] f = tt
fit-of guests (h ∷ hs) f = (one-fit guests h f.0, fit-of guests hs f.1)

-- how a guest reads a body changes nothing of what is asked
pub fits-read : (guests : Guests) (h : Happening) → FitsGuests guests h → FitsGuests guests (read_by guests h)
fits-read guests (happening.Outside i (event.Frame id body) fresh) f = f
fits-read guests h f = f

pub fits-all-read : (guests : Guests) (hs : List Happening) → AllFitGuests guests hs → AllFitGuests guests (all_read guests hs)
fits-all-read guests [] f = tt
fits-all-read guests (h ∷ hs) f = (fits-read guests h f.0, fits-all-read guests hs f.1)

pub fits-append : (guests : Guests) (xs ys : List Happening) → AllFitGuests guests xs → AllFitGuests guests ys → AllFitGuests guests (xs ++ ys)
fits-append guests [] ys a b = b
fits-append guests (x ∷ xs) ys a b = (a.0, fits-append guests xs ys a.1 b)

-- whether a guest is whole does not depend on its creation
announces-same : (s : Setup) (c : Creation) → announced_by (record s { creation = c }) ≡ announced_by s
unfolding announced_by
announces-same s c = refl

whole-same : (s : Setup) (c : Creation) (mask : ℕ) → is_whole s mask ≡ true → is_whole (record s { creation = c }) mask ≡ true
whole-same s c mask is = ap (λ flags. ((mask == 0) || (mask == mandatory_25)) && are_whole flags) (announces-same s c) ∙ is

-- ---- one frame

module _ (guests : Guests) (whole : AreWhole guests) (did : List Happening) (fit : AllFitGuests guests did) where
  -- a guest is whole with the setup with which it began
  sends-whole : (w : World) (b t : ℕ) (s : Setup) → BeginsWith (setups_in guests) (applied_as did w t) b s → is_whole s (mandatory_of (slice_get guests b)) ≡ true
  sends-whole w b t s (own, at, inl how) =
      let q = guest-of guests b own at in
      let is : is_whole own (mandatory_of (slice_get guests b)) ≡ true = ap (λ o. is_whole own (mandatory_of o)) q.1 ∙ whole b (own, q.0) q.1 in
      subst (λ r. is_whole r (mandatory_of (slice_get guests b)) ≡ true) (sym how.2) (whole-same own how.0 (mandatory_of (slice_get guests b)) is)
  sends-whole w b t s (own, at, inr how) =
      let f : FitsGuests guests (happening.BeginAs b s) = applied-kind (FitsGuests guests) did w t (happening.BeginAs b s) fit how.0 in
      f.1

  -- to whoever reads, whoever sends is whole
  reads-whole : (o : Option (Setup × ℕ)) → ((g : Setup × ℕ) → o ≡ Some g → is_whole g.0 g.1 ≡ true) → (b t : ℕ) (s : Setup) → BeginsWith (setups_in guests) (applied_as did (empty (setups_in guests)) t) b s → Hold (mandatory_of o) (announced_by s)
  reads-whole None is b t s at = holds-nothing s
  reads-whole (Some g) is b t s at = whole-pair g.0 s g.1 (mandatory_of (slice_get guests b)) (is g refl) (sends-whole (empty (setups_in guests)) b t s at)

  module _ (w : World) (canonical : AreCanonical (setups_in guests) did w) where
    module _ (i : ℕ) (id : EndId) (fresh : ℕ) where
      abbrev reading : List ℕ → List ℕ
      reading = expansion (mandatory_of (slice_get guests i))

      as-it-came : (c : ℕ) (k : Conn) → slice_get w.conns c ≡ Some k → (side : Side) (body : List ℕ) → (let t = text_to side k in first_body w16 t.come) ≡ Some body → reading body ≡ body
      as-it-came c k at side body first =
          let g = canonical c k side body at first in
          read-as-it-came (mandatory_of (slice_get guests i)) g.1 body (reads-whole (slice_get guests i) (whole i) g.0 g.2 g.1 g.3) g.4

      takes-same : take_read reading w i id fresh ≡ take_frame w i id fresh
      takes-same =
          same-bind (running w i) _ _ (λ j runs.
          same-bind (row_at w j id.0) _ _ (λ row at.
          same-bind row.conn _ _ (λ c on.
          same-bind (slice_get w.conns c) _ _ (λ k there.
          same-bind (let t = text_to row.side k in first_body w16 t.come) _ _ (λ body first.
          ap (λ b. notify (record w { conns = at_place c (change_to row.side body_taken) w.conns }) j (event.Frame id b) fresh) (as-it-came c k there row.side body first))))))

    after-same : (h : Happening) → world_after_guests guests w h ≡ world_after w (read_by guests h)
    after-same (happening.Take i id fresh) = takes-same i id fresh
    after-same h = refl

  happen-same : (w : World) → AreCanonical (setups_in guests) did w → (h : Happening) → guests_happen guests w h ≡ happens w (read_by guests h)
  happen-same w canonical h = ap (λ o. ticked_on w (cond (ltb w.clock most_applied) o None)) (after-same (without_closing w) canonical h)

-- ---- all happenings

module _ (guests : Guests) (whole : AreWhole guests) (canonical : (hs : List Happening) → AllFit hs → AreCanonical (setups_in guests) hs (run hs (empty (setups_in guests)))) where
  runs-from : (did hs : List Happening) → AllFitGuests guests did → AllFitGuests guests hs → run_guests_from guests hs (run did (empty (setups_in guests))) ≡ run (all_read guests hs) (run did (empty (setups_in guests)))
  runs-from did [] a b = refl
  runs-from did (h ∷ hs) a b =
      let w : World = run did (empty (setups_in guests)) in
      let r : Happening = read_by guests h in
      let more : run (did ++ r ∷ []) (empty (setups_in guests)) ≡ happens w r = run-append did (r ∷ []) (empty (setups_in guests)) in
      ap (run_guests_from guests hs) (happen-same guests whole did a w (canonical did (fit-of guests did a)) h ∙ sym more)
      ∙ runs-from (did ++ r ∷ []) hs (fits-append guests did (r ∷ []) a (fits-read guests h b.0, tt)) b.1
      ∙ ap (run (all_read guests hs)) more

abbrev Canonical : Type 0
Canonical = (ss : List Setup) (hs : List Happening) → AreSetups ss → AllFit hs → AreCanonical ss hs (run hs (empty ss))

pub guests-run : Canonical → (guests : Guests) (hs : List Happening) → AreSetups (setups_in guests) → AllFitGuests guests hs → AreWhole guests → run_guests guests hs ≡ run (all_read guests hs) (empty (setups_in guests))
guests-run canonical guests hs good fit whole = runs-from guests whole (λ did a. canonical (setups_in guests) did good a) [] hs tt fit

pub guests-agree : Canonical → ((ss : List Setup) (hs : List Happening) → AreSetups ss → AllFit hs → Agreement (run hs (empty ss)))
    → (guests : Guests) (hs : List Happening) → AreSetups (setups_in guests) → AllFitGuests guests hs → AreWhole guests → Agreement (run_guests guests hs)
guests-agree canonical agree guests hs good fit whole = subst Agreement (sym (guests-run canonical guests hs good fit whole)) (agree (setups_in guests) (all_read guests hs) good (fit-of guests (all_read guests hs) (fits-all-read guests hs fit)))
