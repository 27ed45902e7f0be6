-- All connections are wires, and what keeps them so: rows and ends that are quiet, connections that stay.
use Rattle.dist_world_model.proofs.Words.{◌≡◌, ℕ, ◌⊎◌, List, slice_get, Some, None, Option, sym, refl, ap, ◌∙◌, subst, inl, inr, same_Some, Side, Acceptor}
use Rattle.dist_world_model.proofs.Words.{Dialler, End, text_to, at_place, EndRow, Conn, Life}
use Rattle.dist_world_model.proofs.ConnectionRows.{Linked, SameEnds, Stays, VoiceStays, Was, end_of, life_of, linked-keeps, row_of}
use Rattle.dist_world_model.proofs.Lookups.{at-other, decide, end_in, far, life-there, placed, row_in, unplaced, voice_in, voice_of}
use Rattle.dist_world_model.proofs.{WholeFrames.on_way, Wires.Hushed, Wires.IsEnd, Wires.Quiet, Wires.Voice, Wires.end-quiet, Wires.quiet-refl}

-- one side of the connection k, and the far side
abbrev pub EndAt : List Life → Side → Side → Conn → Type 0
EndAt ls side far k = (own other : Voice) → voice_in ls (life_of side k) ≡ Some own → voice_in ls (life_of far k) ≡ Some other → IsEnd side own other (on_way (text_to far k)) (row_of ls side k) (row_of ls far k) (end_of ls side k)

abbrev pub WireAt : List Life → Conn → Type 0
WireAt ls k = EndAt ls Dialler Acceptor k × EndAt ls Acceptor Dialler k

-- EACH CONNECTION IS ONE WIRE
abbrev pub Wires : List Life → List Conn → Type 0
Wires ls cs = (c : ℕ) (k : Conn) → slice_get cs c ≡ Some k → WireAt ls k

abbrev pub AreWired : List Life → List Conn → Type 0
AreWired ls cs = Linked ls cs × Wires ls cs

-- the ends of a connection, its texts and what is accepted
pub record Alike (ls : List Life) (k h : Conn) : Type 0 where
  pub same : SameEnds k h
  pub texts : (side : Side) → on_way (text_to side h) ≡ on_way (text_to side k)
  pub accepted : (h.accepted ≡ k.accepted) ⊎ ((k.accepted ≡ None) × (y : ℕ) × (h.accepted ≡ Some y) × (row_in ls k.target y ≡ None) × (end_in ls k.target y ≡ None))

pub ends-refl : (k : Conn) → SameEnds k k
ends-refl k = record { life = refl; dialler = refl; target = refl }

pub alike-refl : (ls : List Life) (k : Conn) → Alike ls k k
alike-refl ls k = record { same = ends-refl k; texts = λ s. refl; accepted = inl refl }

life-same : (side : Side) (k h : Conn) → SameEnds k h → life_of side h ≡ life_of side k
life-same Dialler k h s = s.life
life-same Acceptor k h s = s.target

-- what a node says of itself it said before
pub voice-was : (ls ls' : List Life) (cs : List Conn) → ((i : ℕ) → VoiceStays (voice_in ls i) (voice_in ls' i)) → Linked ls cs → (c : ℕ) (k : Conn) → slice_get cs c ≡ Some k
    → (side : Side) (n : Voice) → voice_in ls' (life_of side k) ≡ Some n → voice_in ls (life_of side k) ≡ Some n
voice-was ls ls' cs stays l c k at side n h = by side h
  where
    was : (i : ℕ) (m : Voice) → voice_in ls i ≡ Some m → voice_in ls' i ≡ Some n → voice_in ls i ≡ Some n
    was i m e h = e ∙ sym (stays i m e) ∙ h

    by : (side : Side) → voice_in ls' (life_of side k) ≡ Some n → voice_in ls (life_of side k) ≡ Some n
    by Dialler h = let d = l.dialled c k at in let g = life-there ls k.life k.dialler d.row d.there in was k.life _ (ap voice_of g.1) h
    by Acceptor h = let t = l.target c k at in was k.target t.0 t.1 h

-- a row and an end that say the same
abbrev pub Loc : List Life → List Life → ℕ → ℕ → Type 0
Loc ls ls' i p = Quiet (row_in ls i p) (row_in ls' i p) × Hushed (end_in ls i p) (end_in ls' i p)

pub hush-refl : (o : Option End) → Hushed o o
hush-refl o a b h = h

-- A CONNECTION AT WHICH NOTHING IS SEEN STAYS A WIRE
module _ (ls ls' : List Life) (cs : List Conn) (stays : (i : ℕ) → VoiceStays (voice_in ls i) (voice_in ls' i)) (l : Linked ls cs) (w : Wires ls cs) (c : ℕ) (k h : Conn) (at : slice_get cs c ≡ Some k) (a : Alike ls k h)
    (near : Loc ls ls' k.life k.dialler) (away : (y : ℕ) → h.accepted ≡ Some y → Loc ls ls' k.target y) where
  abbrev At : Side → Type 0
  At side = Quiet (row_of ls side k) (row_of ls' side h) × Hushed (end_of ls side k) (end_of ls' side h)

  far-quiet : Quiet (far (row_in ls k.target) k.accepted) (far (row_in ls' k.target) h.accepted) × Hushed (far (end_in ls k.target) k.accepted) (far (end_in ls' k.target) h.accepted)
  far-quiet = by a.accepted
    where
      both : (o : Option ℕ) → h.accepted ≡ o → Quiet (far (row_in ls k.target) o) (far (row_in ls' k.target) o) × Hushed (far (end_in ls k.target) o) (far (end_in ls' k.target) o)
      both None e = (quiet-refl None, λ a b n. n)
      both (Some y) e = away y e

      by : (h.accepted ≡ k.accepted) ⊎ ((k.accepted ≡ None) × (y : ℕ) × (h.accepted ≡ Some y) × (row_in ls k.target y ≡ None) × (end_in ls k.target y ≡ None))
          → Quiet (far (row_in ls k.target) k.accepted) (far (row_in ls' k.target) h.accepted) × Hushed (far (end_in ls k.target) k.accepted) (far (end_in ls' k.target) h.accepted)
      by (inl e) = let P : Option ℕ → Type 0 = λ o. Quiet (far (row_in ls k.target) o) (far (row_in ls' k.target) h.accepted) × Hushed (far (end_in ls k.target) o) (far (end_in ls' k.target) h.accepted) in subst P e (both h.accepted refl)
      by (inr (none, y, some, no-row, no-end)) =
          let g = away y some in
          let P : Option ℕ → Option ℕ → Type 0 = λ o u. Quiet (far (row_in ls k.target) o) (far (row_in ls' k.target) u) × Hushed (far (end_in ls k.target) o) (far (end_in ls' k.target) u) in
          subst (P k.accepted) (sym some) (subst (λ o. P o (Some y)) (sym none) (subst (λ o. Quiet o (row_in ls' k.target y)) no-row g.0, subst (λ o. Hushed o (end_in ls' k.target y)) no-end g.1))

  all-quiet : (side : Side) → At side
  all-quiet Dialler = let s = a.same in let P : ℕ → ℕ → Type 0 = λ i p. Quiet (row_in ls k.life k.dialler) (row_in ls' i p) × Hushed (end_in ls k.life k.dialler) (end_in ls' i p) in
      subst (λ i. P i h.dialler) (sym s.life) (subst (P k.life) (sym s.dialler) near)
  all-quiet Acceptor = let s = a.same in let P : ℕ → Type 0 = λ j. Quiet (far (row_in ls k.target) k.accepted) (far (row_in ls' j) h.accepted) × Hushed (far (end_in ls k.target) k.accepted) (far (end_in ls' j) h.accepted) in
      subst P (sym s.target) far-quiet

  pub wire-alike : WireAt ls' h
  wire-alike = let g = w c k at in (each Dialler Acceptor g.0, each Acceptor Dialler g.1)
    where
      each : (side far : Side) → EndAt ls side far k → EndAt ls' side far h
      each side far e own other ho hf =
          let was = voice-was ls ls' cs stays l c k at in
          let q = all-quiet side in let r = all-quiet far in
          let old = e own other (was side own (ap (voice_in ls') (sym (life-same side k h a.same)) ∙ ho)) (was far other (ap (voice_in ls') (sym (life-same far k h a.same)) ∙ hf)) in
          subst (λ x. IsEnd side own other x (row_of ls' side h) (row_of ls' far h) (end_of ls' side h)) (sym (a.texts far)) (end-quiet side own other (on_way (text_to far k)) _ _ _ _ _ _ q.0 r.0 q.1 old)

pub same-conn : (cs : List Conn) (c : ℕ) (k h : Conn) → slice_get cs c ≡ Some k → slice_get cs c ≡ Some h → k ≡ h
same-conn cs c k h a b = same_Some k h (sym a ∙ b)

-- connections that stay what they are, but for their texts
pub record ConnsStay (cs cs' : List Conn) : Type 0 where
  pub stay : (c : ℕ) (k : Conn) → slice_get cs c ≡ Some k → (h : Conn) × (slice_get cs' c ≡ Some h) × SameEnds k h × (h.accepted ≡ k.accepted)
  pub were : (c : ℕ) (h : Conn) → slice_get cs' c ≡ Some h → (k : Conn) × (slice_get cs c ≡ Some k) × SameEnds k h × (h.accepted ≡ k.accepted)

pub conns-same : (cs : List Conn) → ConnsStay cs cs
conns-same cs = record { stay = λ c k at. (k, at, ends-refl k, refl); were = λ c k at. (k, at, ends-refl k, refl) }

-- one connection is changed by g
pub conns-at : (c : ℕ) (g : Conn → Conn) (cs : List Conn) → ((k : Conn) → SameEnds k (g k) × ((g k).accepted ≡ k.accepted)) → ConnsStay cs (at_place c g cs)
conns-at c g cs same = record { stay = stay; were = were }
  where
    stay : (d : ℕ) (k : Conn) → slice_get cs d ≡ Some k → (h : Conn) × (slice_get (at_place c g cs) d ≡ Some h) × SameEnds k h × (h.accepted ≡ k.accepted)
    stay d k at = decide ((h : Conn) × (slice_get (at_place c g cs) d ≡ Some h) × SameEnds k h × (h.accepted ≡ k.accepted)) c d
        (λ e. let q = same k in (g k, ap (slice_get (at_place c g cs)) (sym e) ∙ placed c g cs k (ap (slice_get cs) e ∙ at), q.0, q.1))
        (λ n. (k, unplaced c g cs d n ∙ at, ends-refl k, refl))

    were : (d : ℕ) (h : Conn) → slice_get (at_place c g cs) d ≡ Some h → (k : Conn) × (slice_get cs d ≡ Some k) × SameEnds k h × (h.accepted ≡ k.accepted)
    were = at-other (λ d h. (k : Conn) × (slice_get cs d ≡ Some k) × SameEnds k h × (h.accepted ≡ k.accepted)) c g cs
        (λ k at. let q = same k in (k, at, q.0, q.1)) (λ d k n at. (k, at, ends-refl k, refl))

pub linked-same : (ls ls' : List Life) (cs cs' : List Conn) → ((i p : ℕ) → Stays (row_in ls i p) (row_in ls' i p)) → ((i p : ℕ) → Was (row_in ls i p) (row_in ls' i p)) → ((i : ℕ) → VoiceStays (voice_in ls i) (voice_in ls' i)) → ConnsStay cs cs' → Linked ls cs → Linked ls' cs'
linked-same ls ls' cs cs' rows was voices conns =
    linked-keeps ls ls' cs cs' rows voices
    (λ c k at. let g = conns.stay c k at in record { new = g.0; there = g.1; same = g.2; accepted = λ y e. g.3 ∙ e })
    (λ c h at. let g = conns.were c h at in inl (record { old = g.0; there = g.1; same = g.2 }))
    (λ c y k h ak ah e. let g = conns.were c h ah in let z = same-conn cs c g.0 k g.1 ak in inl (ap (λ (k : Conn). k.accepted) (sym z) ∙ sym g.3 ∙ e))
    (λ i p c x at on. let g = was i p c x at on in inl (record { row = g.0; there = g.1; side_is = g.2; conn = g.3 }))

-- a row that says the same of its connection
pub record RowKept (o u : Option EndRow) : Type 0 where
  pub stays : Stays o u
  pub was : Was o u
  pub quiet : Quiet o u

pub row-refl : (o : Option EndRow) → RowKept o o
row-refl o = record { stays = λ c x e h. (x, e, refl, h); was = λ c x e h. (x, e, refl, h); quiet = quiet-refl o }

pub voice-refl : (o : Option Voice) → VoiceStays o o
voice-refl o s e = e

-- ALL CONNECTIONS STAY WIRES where all rows and ends are quiet
pub quiet-wired : (ls ls' : List Life) (cs cs' : List Conn) → ((i : ℕ) → VoiceStays (voice_in ls i) (voice_in ls' i)) → ((i p : ℕ) → RowKept (row_in ls i p) (row_in ls' i p)) → ((i p : ℕ) → Hushed (end_in ls i p) (end_in ls' i p))
    → ConnsStay cs cs' → ((c : ℕ) (k h : Conn) → slice_get cs c ≡ Some k → slice_get cs' c ≡ Some h → (side : Side) → on_way (text_to side h) ≡ on_way (text_to side k)) → AreWired ls cs → AreWired ls' cs'
quiet-wired ls ls' cs cs' voices rows hush conns texts wired = (
  linked-same ls ls' cs cs' (λ i p. let r = rows i p in r.stays) (λ i p. let r = rows i p in r.was) voices conns wired.0,
  λ c h at. let g = conns.were c h at in wire-alike ls ls' cs voices wired.0 wired.1 c g.0 h g.1 (record { same = g.2; texts = texts c g.0 h g.1 at; accepted = inl g.3 }) (loc g.0.life g.0.dialler) (λ y e. loc g.0.target y),
)
  where
    loc : (i p : ℕ) → Loc ls ls' i p
    loc i p = let r = rows i p in (r.quiet, hush i p)
