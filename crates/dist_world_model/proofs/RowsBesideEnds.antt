-- A step keeps each row beside its end.
use Rattle.dist_world_model.proofs.Words.{or-false, ◌≡◌, ℕ, Bool, true, false, eqb, List, [], slice_get, Some, None, Option, option_map, sym, refl, ap, ◌∙◌}
use Rattle.dist_world_model.proofs.Words.{subst, eqb-true, false_from_ne_true, false≢true, Name, Side, Acceptor, Dialler, replaced_by, EndId, Entry, AreLegal}
use Rattle.dist_world_model.proofs.Words.{entry_in, holds, holds_at, is_claim, is_held, names, Attempt, End, UpRecord, Kind, In, Out, Up, Why, comes_up}
use Rattle.dist_world_model.proofs.Words.{dooms_other, fresh_attempt, goes_on, shuts, shuts_other, NodeState, ends_after, new_id, Effect, Event, Reply}
use Rattle.dist_world_model.proofs.Words.{NodeLaws, EndRow, conn_behind, dooms, given_by, mark, new_row, row_after, rows_after, shuts_end}
use Rattle.dist_world_model.proofs.EndStates.{AreBeside, Fits, Stand, dialled_stand, named_stand, open-row, ready_stand, row_stand, stand_after, stand_claim}
use Rattle.dist_world_model.proofs.EndStates.{stand_in, stand_of}
use Rattle.dist_world_model.proofs.{EventEnds.gives, Places.eqb-self, RowMarks.closed-stand, RowMarks.end-claim, RowMarks.written-stand}
use Rattle.dist_world_model.proofs.StepEffects.{Comes_in, Deed, Dials, Dooms, Drops, Goes, Refuses, Rises, Says, Shuts, Takes, Takes_over, Work, Works}
use Rattle.dist_world_model.proofs.StepEffects.{is_given, own-not-given}
use Rattle.dist_world_model.proofs.UnchangedRows.{changed, given}
use Rattle.dist_peers.specs.declared.entry.Entry.TheVariants as entry
use Rattle.dist_core_ends.specs.declared.known.End.TheVariants as ends
use Rattle.dist_core_ends.specs.declared.why.Why.TheVariants as why
use Rattle.dist_core.specs.declared.reply.Note.TheVariants as note

-- what an entry names is there
some-held : (p : Name) (k : Kind) (o : Option End) → is_held p k o ≡ true → (e : End) × (o ≡ Some e)
some-held p k None h = absurd cc
some-held p k (Some e) h = (e, refl)

no-up : (p : Name) (side : Side) (b : Attempt) → stand_in b.peer b.phase ≡ ready_stand side b.peer → holds p Up (ends.Attempt b) ≡ false
no-up p side b s = ap (is_claim p Up) (end-claim side (ends.Attempt b) ∙ ap (λ z. stand_claim (Some z)) s) ∙ by side
  where
    by : (d : Side) → is_claim p Up (stand_claim (Some (ready_stand d b.peer))) ≡ false
    by Dialler = refl
    by Acceptor = refl

replaced-up : (o : Option Entry) (x : EndId) → replaced_by o ≡ Some x → names Up x.0 o ≡ true
replaced-up (Some (entry.Up y)) x is = let z : y ≡ x = cc in ap (λ (k : EndId). eqb k.0 x.0) z ∙ eqb-self x.0
replaced-up (Some (entry.Challenged u y)) x is = let z : u ≡ x = cc in ap (λ (k : EndId). eqb k.0 x.0) z ∙ eqb-self x.0
replaced-up o x is = absurd cc

up-stand : (side : Side) (p : Name) (r : UpRecord) (y : Reply) → r.peer ≡ p → y.note ≡ note.Nothing → y.up ≡ Some r
    → stand_of side (ends.Up r) ≡ option_map (stand_after true false y) (Some (ready_stand side p))
up-stand Dialler p r y e nt up = λ i. Some (stand_after true false (record y { note = sym nt i; up = sym up i }) (dialled_stand (e i) false true))
up-stand Acceptor p r y e nt up = λ i. Some (stand_after true false (record y { note = sym nt i; up = sym up i }) (named_stand (e i)))

ready-side : (side : Side) (p : Name) → (ready_stand side p).side ≡ side
ready-side Dialler p = refl
ready-side Acceptor p = refl

quiet-stand : (r : Reply) (o : Option Stand) → r.note ≡ note.Nothing → r.up ≡ None → option_map (stand_after true false r) o ≡ o
quiet-stand r None nt up = refl
quiet-stand r (Some s) nt up = (λ i. Some (stand_after true false (record r { note = nt i; up = up i }) s))
    ∙ (λ i. Some (record { side = s.side; peer = s.peer; named = or-false s.named i; doomed = or-false s.doomed i; replied = or-false s.replied i; rose = or-false s.rose i }))

module _ (c : ℕ) (r : Reply) (i : ℕ) where
  fit-open : (own doom : Bool) (e d : End) → eqb r.end_.0 i ≡ own → dooms r.note i ≡ doom → shuts_end r.closed i ≡ false
      → ((row : EndRow) → Fits e row → stand_of row.side d ≡ option_map (stand_after own doom r) (stand_of row.side e)) → (row : EndRow) → Fits e row → Fits d (mark c r i row)
  fit-open own doom e d a b s q row f =
      q row f ∙ ap (option_map (stand_after own doom r)) f ∙ sym (written-stand c own doom r row) ∙ (λ j. row_stand (row_after c (sym a j) (sym b j) (sym s j) r row))

  fit-shut : (w : Why) → shuts_end r.closed i ≡ true → (row : EndRow) → Fits (ends.Closed w) (mark c r i row)
  fit-shut w s row = sym (ap (λ b. row_stand (row_after c (eqb r.end_.0 i) (dooms r.note i) b r row)) s ∙ closed-stand c (eqb r.end_.0 i) (dooms r.note i) r row)

takes-name : (a : Attempt) (r : Reply) (x : Option EndId) → stand_in a.peer a.phase ≡ named_stand a.peer → r.note ≡ note.NameTaken a.peer x → r.up ≡ None
    → Some (stand_in a.peer a.phase) ≡ option_map (stand_after true false r) (Some (record { side = Acceptor; peer = None; named = false; doomed = false; replied = false; rose = false }))
takes-name a r x s nt up = ap Some s ∙ (λ j. Some (stand_after true false (record r { note = sym nt j; up = sym up j }) (record { side = Acceptor; peer = None; named = false; doomed = false; replied = false; rose = false })))

module _ (laws : NodeLaws) (n : NodeState) (legal : AreLegal n.ends) (rows : List EndRow) (c : ℕ) (h : AreBeside n.ends rows) where
  abbrev Kept : Event → Effect → Type 0
  Kept v f = AreBeside (ends_after n.ends f) (rows_after c v f.reply rows)

  module _ (p : Name) (k : Kind) (x : ℕ) (named : names k x (entry_in n.ends p) ≡ true) where
    -- the end that an entry names is there, and is none that does not hold the peer so
    holder : (e : End) × (slice_get n.ends x ≡ Some e)
    holder = some-held p k (slice_get n.ends x) (legal p k x ∙ named)

    not-same : (id : ℕ) → holds_at n.ends p k id ≡ false → eqb x id ≡ false
    not-same id g = false_from_ne_true (eqb x id) (λ b. false≢true (sym g ∙ ap (holds_at n.ends p k) (sym (eqb-true x id b)) ∙ legal p k x ∙ named))

    not-own : (id : ℕ) → holds_at n.ends p k id ≡ false → eqb id x ≡ false
    not-own id g = false_from_ne_true (eqb id x) (λ b. false≢true (sym g ∙ ap (holds_at n.ends p k) (eqb-true id x b) ∙ legal p k x ∙ named))

  module _ (v : Event) (g : is_given v ≡ false) (id : EndId) where
    -- a name is taken, and another end is closed
    ousts : (say : List ℕ) (a : Attempt) (x : EndId) (w : Why) (k : Kind) → slice_get n.ends id.0 ≡ Some ends.Unnamed → stand_in a.peer a.phase ≡ named_stand a.peer → names k x.0 (entry_in n.ends a.peer) ≡ true
        → Kept v (shuts_other id say (ends.Attempt a) x w (note.NameTaken a.peer None))
    ousts say a x w k at s nm =
        let f : Effect = shuts_other id say (ends.Attempt a) x w (note.NameTaken a.peer None) in
        let q = holder a.peer k x.0 nm in
        changed laws n rows c h v f ends.Unnamed g at
        (fit-open c f.reply id.0 true false ends.Unnamed (ends.Attempt a) (eqb-self id.0) refl (not-same a.peer k x.0 nm id.0 (ap (is_held a.peer k) at)) (λ row b. takes-name a f.reply None s refl refl))
        (q.0, q.1, λ row b. fit-shut c f.reply x.0 w (eqb-self x.0) row) (λ i b o. (refl, o))

    rise : (say : List ℕ) (b : Attempt) (r : UpRecord) (side : Side) → slice_get n.ends id.0 ≡ Some (ends.Attempt b) → stand_in b.peer b.phase ≡ ready_stand side b.peer → r.peer ≡ b.peer
        → (u : Option EndId) → ((x : EndId) → u ≡ Some x → names Up x.0 (entry_in n.ends b.peer) ≡ true) → Kept v (comes_up id say r u)
    rise say b r side at s p = by
      where
        own : (y : Reply) → y.note ≡ note.Nothing → y.up ≡ Some r → (row : EndRow) → Fits (ends.Attempt b) row → stand_of row.side (ends.Up r) ≡ option_map (stand_after true false y) (Some (stand_in b.peer b.phase))
        own y nt up row f =
            let o = open-row (stand_in b.peer b.phase) row f in
            let sd : side ≡ row.side = sym (ready-side side b.peer) ∙ ap (λ (z : Stand). z.side) (sym s ∙ o.1) in
            let P : Side → Type 0 = λ d. stand_of d (ends.Up r) ≡ option_map (stand_after true false y) (Some (stand_in b.peer b.phase)) in
            subst P sd (up-stand side b.peer r y p nt up ∙ ap (λ z. option_map (stand_after true false y) (Some z)) (sym s))

        by : (u : Option EndId) → ((x : EndId) → u ≡ Some x → names Up x.0 (entry_in n.ends b.peer) ≡ true) → Kept v (comes_up id say r u)
        by None m =
            let f : Effect = comes_up id say r None in
            changed laws n rows c h v f (ends.Attempt b) g at (fit-open c f.reply id.0 true false (ends.Attempt b) (ends.Up r) (eqb-self id.0) refl refl (own f.reply refl refl)) tt (λ i b o. (refl, refl))
        by (Some x) m =
            let f : Effect = comes_up id say r (Some x) in
            let q = holder b.peer Up x.0 (m x refl) in
            changed laws n rows c h v f (ends.Attempt b) g at
            (fit-open c f.reply id.0 true false (ends.Attempt b) (ends.Up r) (eqb-self id.0) refl (not-same b.peer Up x.0 (m x refl) id.0 (ap (is_held b.peer Up) at ∙ no-up b.peer side b s)) (own f.reply refl refl))
            (q.0, q.1, λ row b. fit-shut c f.reply x.0 why.Replaced (eqb-self x.0) row) (λ i b o. (refl, o))

    works : (e : End) (f : Effect) → slice_get n.ends id.0 ≡ Some e → Work n id e f → Kept v f
    works e f at (Shuts say w d) = let f : Effect = shuts id say w note.Nothing in changed laws n rows c h v f d g at (λ row b. fit-shut c f.reply id.0 w (eqb-self id.0) row) tt (λ i b o. (refl, b))
    works e f at (Goes say b d s) =
        let f : Effect = goes_on id say d note.Nothing in
        changed laws n rows c h v f b g at (fit-open c f.reply id.0 true false b d (eqb-self id.0) refl refl (λ row q. s row.side ∙ sym (quiet-stand f.reply (stand_of row.side b) refl refl))) tt (λ i b o. (refl, refl))
    works e f at (Says say b d s q) =
        let f : Effect = goes_on id say (ends.Attempt d) note.ReplySaid in
        changed laws n rows c h v f (ends.Attempt b) g at (fit-open c f.reply id.0 true false (ends.Attempt b) (ends.Attempt d) (eqb-self id.0) refl refl (λ row z. ap Some q ∙ (λ j. Some (stand_after true false f.reply (sym s j))))) tt (λ i b o. (refl, refl))
    works e f at (Rises say b r side s p) = rise say b r side at s p (replaced_by (entry_in n.ends b.peer)) (replaced-up (entry_in n.ends b.peer))
    works e f at (Takes say a s no-out no-in) =
        let f : Effect = goes_on id say (ends.Attempt a) (note.NameTaken a.peer None) in
        changed laws n rows c h v f ends.Unnamed g at (fit-open c f.reply id.0 true false ends.Unnamed (ends.Attempt a) (eqb-self id.0) refl refl (λ row z. takes-name a f.reply None s refl refl)) tt (λ i b o. (refl, refl))
    works e f at (Takes_over say a x s no-out is-in) = ousts say a x why.Replaced In at s (is-in x.0 ∙ eqb-self x.0)
    works e f at (Refuses say p x en gr) = let f : Effect = shuts id say why.Crossed (note.NameTaken p None) in changed laws n rows c h v f ends.Unnamed g at (λ row b. fit-shut c f.reply id.0 why.Crossed (eqb-self id.0) row) tt (λ i b o. (refl, b))
    works e f at (Dooms say a x b d s en gr atx sb sd) =
        let f : Effect = dooms_other id say (ends.Attempt a) a.peer x (ends.Attempt d) in
        let nm : names Out x.0 (entry_in n.ends a.peer) ≡ true = ap (names Out x.0) en ∙ eqb-self x.0 in
        let free = ap (is_held a.peer Out) at in
        changed laws n rows c h v f ends.Unnamed g at
        (fit-open c f.reply id.0 true false ends.Unnamed (ends.Attempt a) (eqb-self id.0) (not-same a.peer Out x.0 nm id.0 free) refl (λ row z. takes-name a f.reply (Some x) s refl refl))
        (ends.Attempt b, atx, fit-open c f.reply x.0 false true (ends.Attempt b) (ends.Attempt d) (not-own a.peer Out x.0 nm id.0 free) (eqb-self x.0) refl (λ row z. ap Some sd ∙ (λ j. Some (stand_after false true f.reply (sym sb j)))))
        (λ i b o. (o, refl))
    works e f at (Drops say a x s en gr) = ousts say a x why.Crossed Out at s (ap (names Out x.0) en ∙ eqb-self x.0)

  -- EACH DEED KEEPS ROWS BESIDE ENDS
  pub beside-deed : (v : Event) (f : Effect) → Deed n v f → Kept v f
  beside-deed v f (Dials p o is idle) = given laws n rows c h v (goes_on (new_id n) [] (ends.Attempt (fresh_attempt p o)) note.Nothing) (new_row Dialler (Some p) None c) (ap (given_by c) is) (gives n v _ (Dials p o is idle) (ap is_given is)) refl refl
  beside-deed v f (Comes_in link is) = given laws n rows c h v (goes_on (new_id n) [] ends.Unnamed note.Nothing) (new_row Acceptor None (conn_behind link) c) (ap (given_by c) is) (gives n v _ (Comes_in link is) (ap is_given is)) refl refl
  beside-deed v f (Works id e f' own at w) = works v (own-not-given v id own) id e f' at w
