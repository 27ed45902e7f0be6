-- How many entries there are after a step: no more than the limit, where there were no more before.
use Rattle.std.specs.FinMap as map
use Rattle.dist_peers.specs.declared.entry.Entry.TheVariants as entry
use Rattle.dist_core_ends.specs.declared.known.End.TheVariants as ends
use Rattle.dist_core_ends.specs.declared.phase.Phase.TheVariants as phase
use Rattle.dist_core_ends.specs.declared.why.Why.TheVariants as why
use Rattle.dist_core_ends.proofs.Words.{◌-◌, is_some, order}
use Rattle.dist_core.specs.declared.{effect.Effect.Effect, event.Event.Event}
use Rattle.dist_core.proofs.{Closings.at-own, Closings.heard-end, Rows.row-in, Steps.fits}
use Rattle.dist_core.proofs.Words.{not, nat_lt, len-insert, len-remove, has_all, Flags, Message, with_entry, is_full, table_after_entry, Attempt, End, Kind}
use Rattle.dist_core.proofs.Words.{Phase, Why, In, Out, Up, table-legal, get-table, table-agreed, ◌≡◌, ℕ, ◌+◌, ◌<◌, ◌≤◌, Bool, true, false, cond, ◌||◌}
use Rattle.dist_core.proofs.Words.{slice_get, Some, None, Ok, Option, option_map, sym, refl, ap, ◌∙◌, subst, arith, nat_tests, false≢true, or_parts, Name}
use Rattle.dist_core.proofs.Words.{same_name, Table, is_waiting, left_by, EndId, Entry, AsksRaise, AsksShift, claim_at, table_after_rise, table_after_shift}
use Rattle.dist_core.proofs.Words.{AreLegal, Claim, claim_of, entry_in, kind_in, table_of, asks_name, is_allowed, is_good, is_refused, Setup, named_attempt}
use Rattle.dist_core.proofs.Words.{fresh_attempt, held_back, superseded_end, table_after_effect, NodeState, ends_after, is_full_for, limits_of, Accepts}
use Rattle.dist_core.proofs.Words.{Acknowledged, Asks_again, Asks_alive, Begins, Ceases, Challenges, Closes, Comes_again, Comes_in, Complements, Crosses}
use Rattle.dist_core.proofs.Words.{Declines, Dials, Fails, Goes_on, Heard, Hears, Insists, Loses, Names, Replied, Replies, StepRow, Taken, Ticks, effect_of}

-- ---- the entries of a table

one-more : (b : Bool) (n : ℕ) → cond b n (n + 1) ≤ n + 1
one-more true n = omega arith
one-more false n = omega arith

one-less : (b : Bool) (n : ℕ) → cond b (n - 1) n ≤ n
one-less true n = omega arith
one-less false n = omega arith

len-more : (t : Table) (p : Name) (e : Entry) → map.len (map.insert t p e) ≤ map.len t + 1
len-more t p e = omega (arith, len-insert order t p e, one-more (map.contains_key t p) (map.len t))

len-less : (t : Table) (p : Name) → map.len (map.remove t p) ≤ map.len t
len-less t p = omega (arith, len-remove order t p, one-less (map.contains_key t p) (map.len t))

-- a peer that has an entry gets another one: the count stays
len-over : (t : Table) (p : Name) (e d : Entry) → map.get t p ≡ Some d → map.len (map.insert t p e) ≤ map.len t
len-over t p e d h =
    let same : map.len (map.insert t p e) ≡ map.len t = len-insert order t p e ∙ ap (λ (o : Option Entry). cond (is_some o) (map.len t) (map.len t + 1)) h in
    omega (arith, same)

len-with : (t : Table) (p : Name) (o : Option Entry) (d : Entry) → map.get t p ≡ Some d → map.len (with_entry t p o) ≤ map.len t
len-with t p None d h = len-less t p
len-with t p (Some e) d h = len-over t p e d h

len-left : (t : Table) (id : EndId) (p : Name) → map.len (with_entry t p (left_by id (map.get t p))) ≤ map.len t
len-left t id p = by (map.get t p) refl
  where
    by : (o : Option Entry) → map.get t p ≡ o → map.len (with_entry t p (left_by id o)) ≤ map.len t
    by None h = len-less t p
    by (Some d) h = len-with t p (left_by id (Some d)) d h

len-waiting : (t : Table) (id : EndId) (p : Name) (e : Entry) → is_waiting id (map.get t p) ≡ true → map.len (map.insert t p e) ≤ map.len t
len-waiting t id p e = by (map.get t p) refl
  where
    by : (o : Option Entry) → map.get t p ≡ o → is_waiting id o ≡ true → map.len (map.insert t p e) ≤ map.len t
    by None h w = absurd (false≢true w)
    by (Some d) h w = len-over t p e d h

not-full : (b : Bool) → cond b false true ≡ false → b ≡ true
not-full true h = refl
not-full false h = sym h

len-entered : (most : ℕ) (t : Table) (p : Name) (e : Entry) → is_full most t (map.get t p) ≡ false → map.len t ≤ most → map.len (map.insert t p e) ≤ most
len-entered most t p e full h = by (map.get t p) refl full
  where
    by : (o : Option Entry) → map.get t p ≡ o → is_full most t o ≡ false → map.len (map.insert t p e) ≤ most
    by None is full =
        let less : nat_lt (map.len t) most ≡ true = not-full (nat_lt (map.len t) most) full in
        let room : map.len t < most = grind (arith, nat_tests, less) in
        omega (arith, room, len-more t p e)
    by (Some d) is full = omega (arith, h, len-over t p e d is)

-- a change of how an end holds its peer: where it begins to hold one, there is room
len-shifted : (most : ℕ) (t : Table) (me : Name) (id : EndId) (c d : Option Claim) → AsksShift t me id c d → ((q : Claim) → c ≡ None → d ≡ Some q → is_full most t (map.get t q.peer) ≡ false) → map.len t ≤ most → map.len (table_after_shift t me id c d) ≤ most
len-shifted most t me id None None asks room h = h
len-shifted most t me id None (Some q) asks room h = enters q.kind
  where
    enters : (k : Kind) → map.len (table_after_entry t me id q.peer k) ≤ most
    enters Out = len-entered most t q.peer _ (room q refl refl) h
    enters In = len-entered most t q.peer _ (room q refl refl) h
    enters Up = h
len-shifted most t me id (Some d) None asks room h = omega (arith, h, len-left t id d.peer)
len-shifted most t me id (Some d) (Some q) asks room h = rises d.kind q.kind asks
  where
    rises : (k l : Kind) → AsksRaise t id q.peer k l → map.len (table_after_rise t id q.peer k l) ≤ most
    rises Out Up w = omega (arith, h, len-waiting t id q.peer (entry.Up id) w)
    rises In Up w = omega (arith, h, len-waiting t id q.peer (entry.Up id) w)
    rises k l w = h

-- ---- the rows

not-refused : (s : Setup) (r : ℕ) (full : Bool) (f : Flags) (p : Name) → is_refused s r full f p ≡ false → full ≡ false
not-refused s r full f p h = (or_parts (asks_name f || not (has_all f.0 r) || not (is_good p) || same_name s.name p || not (is_allowed s.allow p)) full h).1

claimed : (b : Attempt) (ph : Phase) (k : Kind) → b.phase ≡ ph → kind_in ph ≡ Some k → claim_of (ends.Attempt b) ≡ Some (record { peer = b.peer; kind = k })
claimed b ph k e g = ap (λ (x : Option Kind). option_map {U = Claim} (λ l. record { peer = b.peer; kind = l }) x) (ap kind_in e ∙ g)

claims-peer : (b : Attempt) (q : Claim) → claim_of (ends.Attempt b) ≡ Some q → q.peer ≡ b.peer
claims-peer b q h = by (kind_in b.phase) h
  where
    by : (k : Option Kind) → option_map {U = Claim} (λ l. record { peer = b.peer; kind = l }) k ≡ Some q → q.peer ≡ b.peer
    by None h = let bad : ◌≡◌ {A = Option Claim} None (Some q) = h in absurd cc
    by (Some k) h = let reported : ◌≡◌ {A = Claim} (record { peer = b.peer; kind = k }) q = cc in ap (λ (c : Claim). c.peer) (sym reported)

module _ (n : NodeState) where
  -- where an end begins to hold a peer, there is room for its entry
  abbrev Finds : Effect → Type 0
  Finds f = (q : Claim) → claim_at (slice_get n.ends f.reply.end_.0) ≡ None → claim_of f.this ≡ Some q → is_full_for n (entry_in n.ends q.peer) ≡ false

  closed : (f : Effect) (w : Why) → f.this ≡ ends.Closed w → Finds f
  closed f w e q h is = let bad : ◌≡◌ {A = Option Claim} None (Some q) = sym (ap claim_of e) ∙ is in absurd cc

  -- an end that held a peer before
  keeps : (f : Effect) (id : EndId) (d : End) (c : Claim) → f.reply.end_ ≡ id → slice_get n.ends id.0 ≡ Some d → claim_of d ≡ Some c → Finds f
  keeps f id d c e at is q h g =
      let bad : ◌≡◌ {A = Option Claim} None (Some c) = sym h ∙ ap (λ (x : EndId). claim_at (slice_get n.ends x.0)) e ∙ ap claim_at at ∙ is in absurd cc

  -- an attempt whose peer finds room
  takes : (f : Effect) (b : Attempt) → f.this ≡ ends.Attempt b → is_full_for n (entry_in n.ends b.peer) ≡ false → Finds f
  takes f b e full q h is = subst (λ (p : Name). is_full_for n (entry_in n.ends p) ≡ false) (sym (claims-peer b q (ap claim_of (sym e) ∙ is))) full

  by-taken : (id : EndId) (b : Attempt) (f : Effect) → is_full_for n (entry_in n.ends b.peer) ≡ false → Taken n id b f → Finds f
  by-taken id b f full (Accepts is k) = takes f b (ap (λ (f : Effect). f.this) k) full
  by-taken id b f full (Crosses x is g k) = takes f b (ap (λ (f : Effect). f.this) k ∙ (at-own id _ b x (superseded_end (slice_get n.ends x.0))).1) full
  by-taken id b f full (Declines x is g k) = closed f why.Crossed (ap (λ (f : Effect). f.this) k)
  by-taken id b f full (Comes_again x is k) = takes f b (ap (λ (f : Effect). f.this) k) full
  by-taken id b f full (Asks_alive x is k) = takes f (held_back b) (ap (λ (f : Effect). f.this) k) full
  by-taken id b f full (Asks_again x z is k) = takes f (held_back b) (ap (λ (f : Effect). f.this) k) full

  by-heard : (id : EndId) (fresh : ℕ) (d : End) (m : Message) (f : Effect) → slice_get n.ends id.0 ≡ Some d → f.reply.end_ ≡ id → Heard n id fresh d m f → Finds f
  by-heard id fresh d m f at e (Closes say w cause k) = closed f w (ap (λ (f : Effect). f.this) k)
  by-heard id fresh d m f at e (Names o flags c p un mm ok t) = by-taken id (named_attempt o flags c p fresh) f (not-refused n.setup _ _ flags p ok) t
  by-heard id fresh d m f at e (Goes_on s b un ph mm go k) = keeps f id d _ e at (ap claim_of un ∙ claimed b phase.AwaitStatus Out ph refl)
  by-heard id fresh d m f at e (Insists b un ph mm k) = keeps f id d _ e at (ap claim_of un ∙ claimed b phase.AwaitStatus Out ph refl)
  by-heard id fresh d m f at e (Replies o r flags challenge c p b un ph mm sn fl k) = keeps f id d _ e at (ap claim_of un ∙ claimed b phase.AwaitChallenge Out ph refl)
  by-heard id fresh d m f at e (Challenges b un ph mm k) = keeps f id d _ e at (ap claim_of un ∙ claimed b phase.AwaitTrue In ph refl)
  by-heard id fresh d m f at e (Complements high c b un ph mm fl k) = keeps f id d _ e at (ap claim_of un ∙ claimed b phase.AwaitComplement In ph refl)
  by-heard id fresh d m f at e (Acknowledged digest b un ph mm right k) = keeps f id d _ e at (ap claim_of un ∙ claimed b phase.AwaitAck Out ph refl)
  by-heard id fresh d m f at e (Replied challenge digest b un ph mm right k) = keeps f id d _ e at (ap claim_of un ∙ claimed b phase.AwaitReply In ph refl)

  by-row : (v : Event) (fresh : ℕ) (f : Effect) → StepRow n v fresh f → Finds f
  by-row v fresh f (Dials p o is idle sp full cr k) = takes f (fresh_attempt p o) (ap (λ (f : Effect). f.this) k) (subst (λ (o : Option Entry). is_full_for n o ≡ false) (sym idle) full)
  by-row v fresh f (Comes_in link is sp cr k) = subst Finds (sym k) (λ q h g. let bad : ◌≡◌ {A = Option Claim} None (Some q) = g in absurd cc)
  by-row v fresh f (Begins id link b is at ph sp k) = keeps f id (ends.Attempt b) _ (ap (λ (f : Effect). f.reply.end_) k) at (claimed b phase.Dialing Out ph refl)
  by-row v fresh f (Ceases id link b is at ph sp k) = closed f why.Crossed (ap (λ (f : Effect). f.this) k)
  by-row v fresh f (Loses id w e is at opened k) = closed f w (ap (λ (f : Effect). f.this) k)
  by-row v fresh f (Ticks id r is at sp k) = keeps f id (ends.Up r) _ (ap (λ (f : Effect). f.reply.end_) k) at refl
  by-row v fresh f (Fails id body e side y is at to sp says k) = closed f why.Malformed (ap (λ (f : Effect). f.this) k)
  by-row v fresh f (Hears id body e side m is at to sp says d) = by-heard id fresh e m f at (heard-end n id fresh e m f d) d

  pub entries_after : (v : Event) (fresh : ℕ) (f : Effect) → AreLegal n.ends → map.len (table_of n.ends) ≤ (let l = limits_of n in l.entries) → effect_of n v fresh ≡ Ok f → map.len (table_of (ends_after n.ends f)) ≤ (let l = limits_of n in l.entries)
  entries_after v fresh f legal h is =
      let t : Table = table_of n.ends in
      let most : ℕ = (let l = limits_of n in l.entries) in
      let g = fits n t (table-legal n.ends legal) v fresh f is in
      let finds : Finds f = by-row v fresh f (row-in n v fresh f is) in
      let same : table_after_effect n t f ≡ table_of (ends_after n.ends f) = table-agreed (table_after_effect n t f) (ends_after n.ends f) g.agree in
      subst (λ (u : Table). map.len u ≤ most) same
      (len-shifted most t n.setup.name f.reply.end_ (claim_at (slice_get n.ends f.reply.end_.0)) (claim_of f.this) g.asks
      (λ q c d. subst (λ (o : Option Entry). is_full most t o ≡ false) (sym (get-table n.ends q.peer)) (finds q c d)) h)
