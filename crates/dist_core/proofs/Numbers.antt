-- How many steps are counted, and how many ends there are: a step gives out no end above the limit.
use Rattle.dist_core.proofs.Words.{◌≡◌, ℕ, ◌+◌, ◌<◌, ◌≤◌, false, ◌||◌, List, length, slice_get, Some, Ok, sym, ap, subst, arith, or_parts, nat_tests}
use Rattle.dist_core.proofs.Words.{slice_get_within, EndId, put_end, End, NodeState, ends_after, is_given_out, is_spent, limits_of, Begins, Ceases, Comes_in}
use Rattle.dist_core.proofs.Words.{Dials, Fails, Hears, Loses, StepRow, Ticks, cost_of, effect_of, Effect, Event}
use Rattle.dist_core.proofs.{Closings.heard-end, Counts.length-other, Counts.length-within, Counts.length-after, Rows.row-in}

module _ (n : NodeState) where
  abbrev Most : Type 0
  Most = n.steps ≤ (let l = limits_of n in l.steps)

  abbrev Numbered : List End → Type 0
  Numbered es = length es ≤ (let l = limits_of n in l.ends)

  -- what an effect that counts as so many steps makes of the counts
  abbrev CountsAs : ℕ → Effect → Type 0
  CountsAs cost f = (n.steps + cost ≤ (let l = limits_of n in l.steps)) × (length (ends_after n.ends f) ≤ length n.ends + cost) × Numbered (ends_after n.ends f)

  -- an end that exists is changed
  same-length : (f : Effect) (id : EndId) (e : End) → f.reply.end_ ≡ id → slice_get n.ends id.0 ≡ Some e → length (ends_after n.ends f) ≡ length n.ends
  same-length f id e is at =
      let within : f.reply.end_.0 < length n.ends = let P : EndId → Type 0 = λ x. x.0 < length n.ends in subst P (sym is) (slice_get_within n.ends id.0 e at) in
      omega (arith, length-other (put_end n.ends f.reply.end_.0 f.this) f.other, length-within n.ends f.reply.end_.0 f.this within)

  pub stays : (f : Effect) (id : EndId) (e : End) → f.reply.end_ ≡ id → slice_get n.ends id.0 ≡ Some e → Numbered n.ends → Numbered (ends_after n.ends f)
  stays f id e is at h = omega (arith, h, same-length f id e is at)

  room : is_spent n ≡ false → n.steps + 1 ≤ (let l = limits_of n in l.steps)
  room h = grind (arith, nat_tests)

  keeps : (f : Effect) (id : EndId) (e : End) → f.reply.end_ ≡ id → slice_get n.ends id.0 ≡ Some e → is_spent n ≡ false → Numbered n.ends → CountsAs 1 f
  keeps f id e is at sp h = (room sp, length-after n.ends f, stays f id e is at h)

  -- one more end is given out
  gives : (f : Effect) → (is_spent n || is_given_out n) ≡ false → CountsAs 1 f
  gives f h =
      let left = or_parts (is_spent n) (is_given_out n) h in
      let given : is_given_out n ≡ false = left.1 in
      let less : length n.ends < (let l = limits_of n in l.ends) = grind (arith, nat_tests, given) in
      (room left.0, length-after n.ends f, omega (arith, less, length-after n.ends f))

  by-row : (v : Event) (fresh : ℕ) (f : Effect) → Most → Numbered n.ends → StepRow n v fresh f → CountsAs (cost_of v) f
  by-row v fresh f b h (Dials p o is idle sp full cr k) = subst (λ (v : Event). CountsAs (cost_of v) f) (sym is) (gives f sp)
  by-row v fresh f b h (Comes_in link is sp cr k) = subst (λ (v : Event). CountsAs (cost_of v) f) (sym is) (gives f sp)
  by-row v fresh f b h (Begins id link d is at ph sp k) = subst (λ (v : Event). CountsAs (cost_of v) f) (sym is) (keeps f id _ (ap (λ (f : Effect). f.reply.end_) k) at sp h)
  by-row v fresh f b h (Ceases id link d is at ph sp k) = subst (λ (v : Event). CountsAs (cost_of v) f) (sym is) (keeps f id _ (ap (λ (f : Effect). f.reply.end_) k) at sp h)
  by-row v fresh f b h (Loses id w e is at opened k) =
      let same = same-length f id e (ap (λ (f : Effect). f.reply.end_) k) at in
      subst (λ (v : Event). CountsAs (cost_of v) f) (sym is) (omega (arith, b), omega (arith, same), omega (arith, same, h))
  by-row v fresh f b h (Ticks id r is at sp k) = subst (λ (v : Event). CountsAs (cost_of v) f) (sym is) (keeps f id _ (ap (λ (f : Effect). f.reply.end_) k) at sp h)
  by-row v fresh f b h (Fails id body e side x is at to sp says k) = subst (λ (v : Event). CountsAs (cost_of v) f) (sym is) (keeps f id e (ap (λ (f : Effect). f.reply.end_) k) at sp h)
  by-row v fresh f b h (Hears id body e side m is at to sp says d) = subst (λ (v : Event). CountsAs (cost_of v) f) (sym is) (keeps f id e (heard-end n id fresh e m f d) at sp h)

  -- a step that the definition gives is one of those that are counted, and no end above the limit is given out
  pub counted : (v : Event) (fresh : ℕ) (f : Effect) → effect_of n v fresh ≡ Ok f → Most → Numbered n.ends → CountsAs (cost_of v) f
  counted v fresh f is b h = by-row v fresh f b h (row-in n v fresh f is)
