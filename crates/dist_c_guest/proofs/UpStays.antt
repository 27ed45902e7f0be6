-- An end that is up stays as it is, unless the step's reply reports it as closed.
use Rattle.dist_c_guest.proofs.Common.{◌≡◌, ℕ, Bool, true, false, eqb, length, if◌then◌else◌, ◌==◌, slice_get, Some, None, Ok, Option, option_map, sym, refl}
use Rattle.dist_c_guest.proofs.Common.{ap, ◌∙◌, arith, eq-eqb, eqb-true, false≢true, Name, Message, EndId, AreLegal, end_id, entry_in, is_held, names, End}
use Rattle.dist_c_guest.proofs.Common.{UpRecord, Why, NodeState, ends_after, effect_of, sender_to, Effect, Event, heard-end, of_ok, other-of, row_of}
use Rattle.dist_core_ends.specs.declared.known.End.TheVariants as ends
use Rattle.dist_core_ends.specs.declared.why.Why.TheVariants as why
use Rattle.dist_core.proofs.Words.{some_pair_parts, Attempt, Kind, In, Out, slice_get_past, replaced_by, Entry, other_view, named_attempt, superseded_end}
use Rattle.dist_core.proofs.Words.{Accepts, Acknowledged, Asks_again, Asks_alive, Begins, Ceases, Challenges, Closes, Comes_again, Comes_in, Complements}
use Rattle.dist_core.proofs.Words.{Crosses, Declines, Dials, Fails, Goes_on, Heard, Hears, Insists, Loses, Names, Replied, Replies, StepRow, Taken, Ticks}
use Rattle.dist_core_laws.proofs.Succeeding.{stands-after}

-- the reply reports end x as closed
abbrev pub Shuts : Option (EndId × Why) → EndId → Type 0
Shuts o x = (w : Why) × (o ≡ Some (x, w))

abbrev closed_in : Effect → Option (EndId × Why)
closed_in f = f.reply.closed

abbrev other_in : Effect → Option (EndId × End)
other_in f = f.other

first : (y x : EndId) (d s : End) → ◌≡◌ {A = Option (EndId × End)} (Some (y, d)) (Some (x, s)) → y ≡ x
first y x d s e = (some_pair_parts y x d s e).0

nothing : (f : Effect) (x : EndId) (s : End) → f.other ≡ None → f.other ≡ Some (x, s) → ⊥
nothing f x s is e = let bad : ◌≡◌ {A = Option (EndId × End)} None (Some (x, s)) = sym is ∙ e in absurd cc

abbrev changed_to : EndId → EndId × End
changed_to y = (y, ends.Closed why.Replaced)

abbrev reported : EndId → EndId × Why
reported y = (y, why.Replaced)

-- the one that is replaced is the one that is reported
replaced-is : (o : Option EndId) (x : EndId) (s : End) → option_map changed_to o ≡ Some (x, s) → Shuts (option_map reported o) x
replaced-is None x s e = absurd cc
replaced-is (Some y) x s e = let at : y ≡ x = first y x _ s e in (why.Replaced, ap (λ (z : EndId). Some (z, why.Replaced)) at)

module _ (n : NodeState) (legal : AreLegal n.ends) (x : EndId) (kept : UpRecord) (up : slice_get n.ends x.0 ≡ Some (ends.Up kept)) where
  -- an entry that names it so says how it is held
  held-so : (p : Name) (k : Kind) (o : Option Entry) → entry_in n.ends p ≡ o → names k x.0 o ≡ true → is_held p k (Some (ends.Up kept)) ≡ true
  held-so p k o e h = sym (ap (is_held p k) up) ∙ legal p k x.0 ∙ ap (names k x.0) e ∙ h

  names-it : (y : EndId) → y ≡ x → eqb y.0 x.0 ≡ true
  names-it y at = ap (λ (z : EndId). eqb y.0 z.0) (sym at) ∙ eq-eqb y.0 y.0 refl

  -- ---- the other end

  module _ (s : End) where
    by-taken : (id : EndId) (b : Attempt) (f : Effect) → Taken n id b f → f.other ≡ Some (x, s) → ⊥
    by-taken id b f (Accepts is k) o = nothing f x s (ap other_in k) o
    by-taken id b f (Crosses y is g k) o =
        let at : y ≡ x = other-of id _ b y (superseded_end (slice_get n.ends y.0)) x s (ap other_in (sym k) ∙ o) in
        absurd (false≢true (held-so b.peer Out _ is (names-it y at)))
    by-taken id b f (Declines y is g k) o = nothing f x s (ap other_in k) o
    by-taken id b f (Comes_again y is k) o =
        let at : y ≡ x = first y x _ s (ap other_in (sym k) ∙ o) in
        absurd (false≢true (held-so b.peer In _ is (names-it y at)))
    by-taken id b f (Asks_alive y is k) o = nothing f x s (ap other_in k) o
    by-taken id b f (Asks_again y z is k) o =
        let at : z ≡ x = first z x _ s (ap other_in (sym k) ∙ o) in
        absurd (false≢true (held-so b.peer In _ is (names-it z at)))

    comes : (f : Effect) (o : Option EndId) → f.other ≡ option_map changed_to o → f.reply.closed ≡ option_map reported o → f.other ≡ Some (x, s) → Shuts f.reply.closed x
    comes f o at closed e = let h = replaced-is o x s (sym at ∙ e) in (h.0, closed ∙ h.1)

    by-heard : (id : EndId) (fresh : ℕ) (d : End) (m : Message) (f : Effect) → Heard n id fresh d m f → f.other ≡ Some (x, s) → Shuts f.reply.closed x
    by-heard id fresh d m f (Closes say c cause k) o = absurd (nothing f x s (ap other_in k) o)
    by-heard id fresh d m f (Names nm flags c p un mm ok t) o = absurd (by-taken id (named_attempt nm flags c p fresh) f t o)
    by-heard id fresh d m f (Goes_on st b un ph mm go k) o = absurd (nothing f x s (ap other_in k) o)
    by-heard id fresh d m f (Insists b un ph mm k) o = absurd (nothing f x s (ap other_in k) o)
    by-heard id fresh d m f (Replies o0 r0 flags challenge c p b un ph mm sn fl k) o = absurd (nothing f x s (ap other_in k) o)
    by-heard id fresh d m f (Challenges b un ph mm k) o = absurd (nothing f x s (ap other_in k) o)
    by-heard id fresh d m f (Complements high c b un ph mm fl k) o = absurd (nothing f x s (ap other_in k) o)
    by-heard id fresh d m f (Acknowledged digest b un ph mm right k) o = comes f (replaced_by (entry_in n.ends b.peer)) (ap other_in k) (ap closed_in k) o
    by-heard id fresh d m f (Replied challenge digest b un ph mm right k) o = comes f (replaced_by (entry_in n.ends b.peer)) (ap other_in k) (ap closed_in k) o

    by-row : (v : Event) (fresh : ℕ) (f : Effect) → StepRow n v fresh f → f.other ≡ Some (x, s) → Shuts f.reply.closed x
    by-row v fresh f (Dials p o is idle sp full cr k) e = absurd (nothing f x s (ap other_in k) e)
    by-row v fresh f (Comes_in link is sp cr k) e = absurd (nothing f x s (ap other_in k) e)
    by-row v fresh f (Begins id link b is at ph sp k) e = absurd (nothing f x s (ap other_in k) e)
    by-row v fresh f (Ceases id link b is at ph sp k) e = absurd (nothing f x s (ap other_in k) e)
    by-row v fresh f (Loses id w d is at opened k) e = absurd (nothing f x s (ap other_in k) e)
    by-row v fresh f (Ticks id r is at sp k) e = absurd (nothing f x s (ap other_in k) e)
    by-row v fresh f (Fails id body d side y is at to sp says k) e = absurd (nothing f x s (ap other_in k) e)
    by-row v fresh f (Hears id body d side m is at to sp says h) e = by-heard id fresh d m f h e

  -- ---- its own end: it is as it was, where it is not reported as closed

  -- what stood at this place
  stood : (id : EndId) (d : End) → id ≡ x → slice_get n.ends id.0 ≡ Some d → d ≡ ends.Up kept
  stood id d same at =
      let both : Some d ≡ Some (ends.Up kept) = sym at ∙ ap (λ (z : EndId). slice_get n.ends z.0) same ∙ up in cc

  past : (id : EndId) → id.0 ≡ length n.ends → id ≡ x → ⊥
  past id at same =
      let none : slice_get n.ends id.0 ≡ None = slice_get_past n.ends id.0 (omega arith) in
      let bad : None ≡ Some (ends.Up kept) = sym none ∙ ap (λ (z : EndId). slice_get n.ends z.0) same ∙ up in
      absurd cc

  own-end : (v : Event) (fresh : ℕ) (f : Effect) → (Shuts f.reply.closed x → ⊥) → f.reply.end_ ≡ x → StepRow n v fresh f → f.this ≡ ends.Up kept
  own-end v fresh f unshut same (Dials p o is idle sp full cr k) =
      let at : f.reply.end_.0 ≡ length n.ends = ap (λ (g : Effect). g.reply.end_.0) k in
      absurd (past f.reply.end_ at same)
  own-end v fresh f unshut same (Comes_in link is sp cr k) =
      let at : f.reply.end_.0 ≡ length n.ends = ap (λ (g : Effect). g.reply.end_.0) k in
      absurd (past f.reply.end_ at same)
  own-end v fresh f unshut same (Begins id link b is at ph sp k) =
      let bad : ends.Attempt b ≡ ends.Up kept = stood id (ends.Attempt b) (sym (ap (λ (g : Effect). g.reply.end_) k) ∙ same) at in absurd cc
  own-end v fresh f unshut same (Ceases id link b is at ph sp k) =
      let bad : ends.Attempt b ≡ ends.Up kept = stood id (ends.Attempt b) (sym (ap (λ (g : Effect). g.reply.end_) k) ∙ same) at in absurd cc
  own-end v fresh f unshut same (Loses id w d is at opened k) =
      let own : id ≡ x = sym (ap (λ (g : Effect). g.reply.end_) k) ∙ same in
      absurd (unshut (w, ap closed_in k ∙ ap (λ (z : EndId). Some (z, w)) own))
  own-end v fresh f unshut same (Ticks id r is at sp k) =
      let own : ends.Up r ≡ ends.Up kept = stood id (ends.Up r) (sym (ap (λ (g : Effect). g.reply.end_) k) ∙ same) at in
      ap (λ (g : Effect). g.this) k ∙ own
  own-end v fresh f unshut same (Fails id body d side y is at to sp says k) =
      let own : d ≡ ends.Up kept = stood id d (sym (ap (λ (g : Effect). g.reply.end_) k) ∙ same) at in
      let bad : None ≡ Some side = sym (ap sender_to own) ∙ to in absurd cc
  own-end v fresh f unshut same (Hears id body d side m is at to sp says h) =
      let own : d ≡ ends.Up kept = stood id d (sym (heard-end n id fresh d m f h) ∙ same) at in
      let bad : None ≡ Some side = sym (ap sender_to own) ∙ to in absurd cc

  -- ---- the place afterwards

  module _ (v : Event) (fresh : ℕ) (f : Effect) (is : effect_of n v fresh ≡ Ok f) (unshut : Shuts f.reply.closed x → ⊥) where
    row : StepRow n v fresh f
    row = of_ok (StepRow n v fresh) (effect_of n v fresh) f is (row_of n v fresh)

    by-own : (b : Bool) → (f.reply.end_.0 == x.0) ≡ b → (if b then Some f.this else slice_get n.ends x.0) ≡ Some (ends.Up kept)
    by-own true same = ap (λ (d : End). Some d) (own-end v fresh f unshut (ap end_id (eqb-true f.reply.end_.0 x.0 same)) row)
    by-own false apart = up

    by-other : (o : Option (EndId × End)) → f.other ≡ o → other_view o (λ i. if f.reply.end_.0 == i then Some f.this else slice_get n.ends i) x.0 ≡ Some (ends.Up kept)
    by-other None none = by-own (f.reply.end_.0 == x.0) refl
    by-other (Some (y, s)) there = by (y.0 == x.0) refl
      where
        by : (b : Bool) → (y.0 == x.0) ≡ b → (if b then Some s else (if f.reply.end_.0 == x.0 then Some f.this else slice_get n.ends x.0)) ≡ Some (ends.Up kept)
        by true same = absurd (unshut (by-row s v fresh f row (there ∙ ap (λ (z : EndId). Some (z, s)) (ap end_id (eqb-true y.0 x.0 same)))))
        by false apart = by-own (f.reply.end_.0 == x.0) refl

    pub up-stays : slice_get (ends_after n.ends f) x.0 ≡ Some (ends.Up kept)
    up-stays = stands-after n v fresh f x.0 legal is ∙ by-other f.other refl
