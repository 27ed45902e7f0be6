-- How the number of open ends changes with a step.
use Rattle.dist_messages.specs.declared.message.Status.TheVariants as status
use Rattle.dist_core_ends.specs.declared.known.End.TheVariants as ends
use Rattle.dist_core_ends.specs.declared.why.Why.TheVariants as why
use Rattle.dist_core_ends.proofs.Opens.{count-set, count-push}
use Rattle.dist_core.specs.declared.{effect.Effect.Effect, event.Event.Event, reply.Note.Note}
use Rattle.dist_core.specs.declared.event.Event.TheVariants as event
use Rattle.dist_core.specs.declared.reply.Note.TheVariants as note
use Rattle.dist_core.proofs.{Closings.heard-end, Rows.loses, Rows.row-in}
use Rattle.dist_core.proofs.Words.{ne_eqb, cond_both, Message, Side, Attempt, End, UpRecord, Why, get-put, ◌≡◌, ℕ, ◌+◌, ◌<◌, true, false, cond, eqb, ltb, ◌≢◌}
use Rattle.dist_core.proofs.Words.{List, [], length, set, slice_get, Some, None, Ok, count_by, Option, sym, refl, ap, ◌∙◌, subst, arith, nat_tests}
use Rattle.dist_core.proofs.Words.{slice_get_within, replaced_by, EndId, one_if, put_end, AreLegal, entry_in, is_open, greeting_text, named_attempt, comes_up}
use Rattle.dist_core.proofs.Words.{goes_on, shuts, shuts_other, superseded_end, supersedes, NodeState, ends_after, new_id, Accepts, Acknowledged, Asks_again}
use Rattle.dist_core.proofs.Words.{Asks_alive, Begins, Ceases, Challenges, Closes, Comes_again, Comes_in, Complements, Crosses, Declines, Dials, Fails, Goes_on}
use Rattle.dist_core.proofs.Words.{Heard, Hears, Insists, Loses, Names, Replied, Replies, StepRow, Taken, Ticks, effect_of, sender_to}
use Rattle.dist_core_laws.specs.Laws.{IsOther, closed_by, given_by}
use Rattle.dist_core_laws.proofs.Others.{other-row}

-- an end is put in the place of another
put-at : (es : List End) (i : ℕ) (e d : End) → slice_get es i ≡ Some d → count_by is_open (put_end es i e) + one_if (is_open d) ≡ count_by is_open es + one_if (is_open e)
put-at es i e d h =
    let within : i < length es = slice_get_within es i d h in
    cond_both (ltb i (length es)) _ _ (λ (ds : List End). count_by is_open ds + one_if (is_open d) ≡ count_by is_open es + one_if (is_open e)) (λ b. count-set es i e d h) (λ b. absurd (grind (arith, nat_tests)))

put-last : (es : List End) (e : End) → count_by is_open (put_end es (length es) e) ≡ count_by is_open es + one_if (is_open e)
put-last es e = cond_both (ltb (length es) (length es)) _ _ (λ (ds : List End). count_by is_open ds ≡ count_by is_open es + one_if (is_open e)) (λ b. absurd (grind (arith, nat_tests))) (λ b. count-push es e)

not-equal : (id x : EndId) → x ≢ id → eqb id.0 x.0 ≡ false
not-equal id x h = ne_eqb id.0 x.0 (λ at. h (λ i. record { 0 = sym at i }))

-- that end and another are put in their places
put-two : (n : NodeState) (id x : EndId) (e d s : End) → slice_get n.ends id.0 ≡ Some d → (o : IsOther n id x) → count_by is_open (set (put_end n.ends id.0 e) x.0 s) + 1 + one_if (is_open d) ≡ count_by is_open n.ends + one_if (is_open e) + one_if (is_open s)
put-two n id x e d s at o =
    let within : id.0 < length n.ends = slice_get_within n.ends id.0 d at in
    let here : slice_get (put_end n.ends id.0 e) x.0 ≡ Some o.kept = get-put n.ends id.0 e x.0 (omega (arith, within)) ∙ ap (λ b. cond b (Some e) (slice_get n.ends x.0)) (not-equal id x o.apart) ∙ o.there in
    let one : one_if (is_open o.kept) ≡ 1 = ap one_if o.opened in
    omega (arith, one, put-at n.ends id.0 e d at, count-set (put_end n.ends id.0 e) x.0 s o.kept here)

module _ (n : NodeState) where
  -- what an effect does to the number of open ends, where it gives out this many
  abbrev pub Change : ℕ → Effect → Type 0
  Change given f = count_by is_open (ends_after n.ends f) + closed_by f.reply ≡ count_by is_open n.ends + given

  keeps : (id : EndId) (say : List ℕ) (e d : End) (noted : Note) → slice_get n.ends id.0 ≡ Some d → is_open d ≡ true → is_open e ≡ true → Change 0 (goes_on id say e noted)
  keeps id say e d noted at was is = omega (arith, put-at n.ends id.0 e d at, ap one_if was, ap one_if is)

  shut : (id : EndId) (say : List ℕ) (w : Why) (d : End) (noted : Note) → slice_get n.ends id.0 ≡ Some d → is_open d ≡ true → Change 0 (shuts id say w noted)
  shut id say w d noted at was = omega (arith, put-at n.ends id.0 (ends.Closed w) d at, ap one_if was)

  begins : (say : List ℕ) (e : End) (noted : Note) → is_open e ≡ true → Change 1 (goes_on (new_id n) say e noted)
  begins say e noted is = omega (arith, put-last n.ends e, ap one_if is)

  shut-other : (id x : EndId) (say : List ℕ) (e d : End) (w : Why) (noted : Note) → slice_get n.ends id.0 ≡ Some d → is_open d ≡ true → is_open e ≡ true → IsOther n id x → Change 0 (shuts_other id say e x w noted)
  shut-other id x say e d w noted at was is o = omega (arith, put-two n id x e d (ends.Closed w) at o, ap one_if was, ap one_if is)

  supersede : (id x : EndId) (say : List ℕ) (b : Attempt) (d s : End) → slice_get n.ends id.0 ≡ Some d → is_open d ≡ true → IsOther n id x → Change 0 (supersedes id say b x s)
  supersede id x say b d (ends.Closed w) at was o = shut-other id x say (ends.Attempt b) d w (note.NameTaken b.peer None) at was refl o
  supersede id x say b d s at was o = omega (arith, put-two n id x (ends.Attempt b) d s at o, ap one_if was)

  -- the same for an effect that is given as one of these
  kept-open : {f : Effect} {id : EndId} {say : List ℕ} {e : End} {noted : Note} (d : End) → f ≡ goes_on id say e noted → slice_get n.ends id.0 ≡ Some d → is_open d ≡ true → is_open e ≡ true → Change 0 f
  kept-open {f} {id} {say} {e} {noted} d k at was is = subst (Change 0) (sym k) (keeps id say e d noted at was is)

  shut-down : {f : Effect} {id : EndId} {say : List ℕ} {w : Why} {noted : Note} (d : End) → f ≡ shuts id say w noted → slice_get n.ends id.0 ≡ Some d → is_open d ≡ true → Change 0 f
  shut-down {f} {id} {say} {w} {noted} d k at was = subst (Change 0) (sym k) (shut id say w d noted at was)

  shut-two : {f : Effect} {id x : EndId} {say : List ℕ} {e : End} {w : Why} {noted : Note} (d : End) → f ≡ shuts_other id say e x w noted → slice_get n.ends id.0 ≡ Some d → is_open d ≡ true → is_open e ≡ true → IsOther n id x → Change 0 f
  shut-two {f} {id} {x} {say} {e} {w} {noted} d k at was is o = subst (Change 0) (sym k) (shut-other id x say e d w noted at was is o)

  superseded-one : {f : Effect} (id x : EndId) (say : List ℕ) (b : Attempt) (s d : End) → f ≡ supersedes id say b x s → slice_get n.ends id.0 ≡ Some d → is_open d ≡ true → ((y : EndId) (q : End) → f.other ≡ Some (y, q) → IsOther n id y) → Change 0 f
  superseded-one {f} id x say b s d k at was o = subst (Change 0) (sym k) (supersede id x say b d s at was (by s k))
    where
      by : (s : End) → f ≡ supersedes id say b x s → IsOther n id x
      by (ends.Closed w) k = o x (ends.Closed w) (ap (λ (f : Effect). f.other) k)
      by s k = o x s (ap (λ (f : Effect). f.other) k)

  rise : (id : EndId) (say : List ℕ) (r : UpRecord) (d : End) (u : Option EndId) → slice_get n.ends id.0 ≡ Some d → is_open d ≡ true → ((x : EndId) (s : End) → (let f = comes_up id say r u in f.other) ≡ Some (x, s) → IsOther n id x) → Change 0 (comes_up id say r u)
  rise id say r d None at was o = omega (arith, put-at n.ends id.0 (ends.Up r) d at, ap one_if was)
  rise id say r d (Some x) at was o = omega (arith, put-two n id x (ends.Up r) d (ends.Closed why.Replaced) at (o x (ends.Closed why.Replaced) refl), ap one_if was)

  risen : {f : Effect} {id : EndId} {say : List ℕ} {r : UpRecord} (u : Option EndId) (d : End) → f ≡ comes_up id say r u → slice_get n.ends id.0 ≡ Some d → is_open d ≡ true → ((x : EndId) (s : End) → f.other ≡ Some (x, s) → IsOther n id x) → Change 0 f
  risen {f} {id} {say} {r} u d k at was o = subst (Change 0) (sym k) (rise id say r d u at was (λ x s e. o x s (ap (λ (f : Effect). f.other) k ∙ e)))

  by-taken : (id : EndId) (b : Attempt) (f : Effect) → slice_get n.ends id.0 ≡ Some ends.Unnamed → Taken n id b f → ((x : EndId) (s : End) → f.other ≡ Some (x, s) → IsOther n id x) → Change 0 f
  by-taken id b f at (Accepts is k) o = kept-open ends.Unnamed k at refl refl
  by-taken id b f at (Crosses y is g k) o = superseded-one id y (greeting_text n.setup status.OkSimultaneous b.form b.challenge) b (superseded_end (slice_get n.ends y.0)) ends.Unnamed k at refl o
  by-taken id b f at (Declines y is g k) o = shut-down ends.Unnamed k at refl
  by-taken id b f at (Comes_again y is k) o = shut-two ends.Unnamed k at refl refl (o y _ (ap (λ (f : Effect). f.other) k))
  by-taken id b f at (Asks_alive y is k) o = kept-open ends.Unnamed k at refl refl
  by-taken id b f at (Asks_again y z is k) o = shut-two ends.Unnamed k at refl refl (o z _ (ap (λ (f : Effect). f.other) k))

  -- an end that awaits a message is open
  listens : (e : End) (side : Side) → sender_to e ≡ Some side → is_open e ≡ true
  listens (ends.Closed w) side h = let bad : ◌≡◌ {A = Option Side} None (Some side) = h in absurd cc
  listens e side h = refl

  by-heard : (id : EndId) (fresh : ℕ) (d : End) (m : Message) (f : Effect) → slice_get n.ends id.0 ≡ Some d → is_open d ≡ true → Heard n id fresh d m f → ((x : EndId) (s : End) → f.other ≡ Some (x, s) → IsOther n id x) → Change 0 f
  by-heard id fresh d m f at was (Closes say w cause k) o = shut-down d k at was
  by-heard id fresh d m f at was (Names nm flags c p un mm ok t) o = by-taken id (named_attempt nm flags c p fresh) f (at ∙ ap Some un) t o
  by-heard id fresh d m f at was (Goes_on st b un ph mm go k) o = kept-open d k at was refl
  by-heard id fresh d m f at was (Insists b un ph mm k) o = kept-open d k at was refl
  by-heard id fresh d m f at was (Replies o0 r0 flags challenge c p b un ph mm sn fl k) o = kept-open d k at was refl
  by-heard id fresh d m f at was (Challenges b un ph mm k) o = kept-open d k at was refl
  by-heard id fresh d m f at was (Complements high c b un ph mm fl k) o = kept-open d k at was refl
  by-heard id fresh d m f at was (Acknowledged digest b un ph mm right k) o = risen (replaced_by (entry_in n.ends b.peer)) d k at was o
  by-heard id fresh d m f at was (Replied challenge digest b un ph mm right k) o = risen (replaced_by (entry_in n.ends b.peer)) d k at was o

  by-row : (v : Event) (fresh : ℕ) (f : Effect) → ((x : EndId) (s : End) → f.other ≡ Some (x, s) → IsOther n f.reply.end_ x) → StepRow n v fresh f → Change (given_by v) f
  by-row v fresh f o (Dials p nm is idle sp full cr k) = subst (λ (u : Event). Change (given_by u) f) (sym is) (subst (Change 1) (sym k) (begins [] _ note.Nothing refl))
  by-row v fresh f o (Comes_in link is sp cr k) = subst (λ (u : Event). Change (given_by u) f) (sym is) (subst (Change 1) (sym k) (begins [] _ note.Nothing refl))
  by-row v fresh f o (Begins id link b is at ph sp k) = subst (λ (u : Event). Change (given_by u) f) (sym is) (kept-open (ends.Attempt b) k at refl refl)
  by-row v fresh f o (Ceases id link b is at ph sp k) = subst (λ (u : Event). Change (given_by u) f) (sym is) (shut-down (ends.Attempt b) k at refl)
  by-row v fresh f o (Loses id w e is at opened k) = subst (λ (u : Event). Change (given_by u) f) (sym is) (shut-down e k at opened)
  by-row v fresh f o (Ticks id r is at sp k) = subst (λ (u : Event). Change (given_by u) f) (sym is) (kept-open (ends.Up r) k at refl refl)
  by-row v fresh f o (Fails id body e side y is at to sp says k) = subst (λ (u : Event). Change (given_by u) f) (sym is) (shut-down e k at (listens e side to))
  by-row v fresh f o (Hears id body e side m is at to sp says h) =
      subst (λ (u : Event). Change (given_by u) f) (sym is) (by-heard id fresh e m f at (listens e side to) h (λ x s other. subst (λ (y : EndId). IsOther n y x) (heard-end n id fresh e m f h) (o x s other)))

  pub open_change : AreLegal n.ends → (v : Event) (fresh : ℕ) (f : Effect) → effect_of n v fresh ≡ Ok f → Change (given_by v) f
  open_change legal v fresh f is =
      let r = row-in n v fresh f is in
      by-row v fresh f (λ x s o. other-row n legal x s v fresh f r o) r

  -- a loss closes its end, and no other
  pub loss_change : (x : EndId) (w : Why) (fresh : ℕ) (f : Effect) → effect_of n (event.Lost x w) fresh ≡ Ok f → (ends_after n.ends f ≡ put_end n.ends x.0 (ends.Closed w)) × (count_by is_open (ends_after n.ends f) + 1 ≡ count_by is_open n.ends)
  loss_change x w fresh f is =
      let P : Effect → Type 0 = λ f. (ends_after n.ends f ≡ put_end n.ends x.0 (ends.Closed w)) × (count_by is_open (ends_after n.ends f) + 1 ≡ count_by is_open n.ends) in
      let h = loses n x w fresh f is in
      let count = shut x [] w h.1.0 note.Nothing h.1.1 h.1.2 in
      subst P (sym h.0) (refl, omega (arith, count))
