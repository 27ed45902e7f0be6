-- Each connection has one dialled row and at most one accepted row, and each row with a connection is one of these.
use Rattle.dist_world_model.proofs.Words.{◌≡◌, ℕ, ◌⊎◌, List, slice_get, Some, None, Option, sym, refl, ap, ◌∙◌, subst, inl, inr, Side, Acceptor, Dialler, End}
use Rattle.dist_world_model.proofs.Words.{EndRow, Conn, Life, conn_behind}
use Rattle.dist_world_model.proofs.{Lookups.end_in, Lookups.far, Lookups.row_in, Lookups.voice_in, Wires.Voice}

-- the row of this end, which has this side and belongs to this connection
pub record RowOf (ls : List Life) (side : Side) (i p c : ℕ) : Type 0 where
  pub row : EndRow
  pub there : row_in ls i p ≡ Some row
  pub side_is : row.side ≡ side
  pub conn : row.conn ≡ Some c

abbrev pub IsEndOf : Side → Conn → ℕ → ℕ → Type 0
IsEndOf Dialler k i p = (i ≡ k.life) × (p ≡ k.dialler)
IsEndOf Acceptor k i p = (i ≡ k.target) × (k.accepted ≡ Some p)

-- the connection of which this is an end
pub record ConnOf (cs : List Conn) (side : Side) (i p c : ℕ) : Type 0 where
  pub conn : Conn
  pub there : slice_get cs c ≡ Some conn
  pub is_end : IsEndOf side conn i p

-- the incarnation, the row and the end on a side of a connection
abbrev pub life_of : Side → Conn → ℕ
life_of Dialler k = k.life
life_of Acceptor k = k.target

abbrev pub row_of : List Life → Side → Conn → Option EndRow
row_of ls Dialler k = row_in ls k.life k.dialler
row_of ls Acceptor k = far (row_in ls k.target) k.accepted

abbrev pub end_of : List Life → Side → Conn → Option End
end_of ls Dialler k = end_in ls k.life k.dialler
end_of ls Acceptor k = far (end_in ls k.target) k.accepted

pub record Linked (ls : List Life) (cs : List Conn) : Type 0 where
  pub dialled : (c : ℕ) (k : Conn) → slice_get cs c ≡ Some k → RowOf ls Dialler k.life k.dialler c
  pub target : (c : ℕ) (k : Conn) → slice_get cs c ≡ Some k → (m : Voice) × (voice_in ls k.target ≡ Some m)
  pub accepted : (c y : ℕ) (k : Conn) → slice_get cs c ≡ Some k → k.accepted ≡ Some y → RowOf ls Acceptor k.target y c
  pub only : (i p c : ℕ) (x : EndRow) → row_in ls i p ≡ Some x → x.conn ≡ Some c → ConnOf cs x.side i p c
  -- its number is that of a link
  pub behind : (c : ℕ) (k : Conn) → slice_get cs c ≡ Some k → conn_behind c ≡ Some c

-- ---- what keeps it

-- a row with a connection stays one of that side and connection
abbrev pub Stays : Option EndRow → Option EndRow → Type 0
Stays o u = (c : ℕ) (x : EndRow) → o ≡ Some x → x.conn ≡ Some c → (y : EndRow) × (u ≡ Some y) × (y.side ≡ x.side) × (y.conn ≡ Some c)

-- and was one
abbrev pub Was : Option EndRow → Option EndRow → Type 0
Was o u = (c : ℕ) (y : EndRow) → u ≡ Some y → y.conn ≡ Some c → (x : EndRow) × (o ≡ Some x) × (x.side ≡ y.side) × (x.conn ≡ Some c)

abbrev pub VoiceStays : Option Voice → Option Voice → Type 0
VoiceStays o u = (s : Voice) → o ≡ Some s → u ≡ Some s

pub record SameEnds (k h : Conn) : Type 0 where
  pub life : h.life ≡ k.life
  pub dialler : h.dialler ≡ k.dialler
  pub target : h.target ≡ k.target

-- this connection was there
pub record WasConn (cs : List Conn) (c : ℕ) (h : Conn) : Type 0 where
  pub old : Conn
  pub there : slice_get cs c ≡ Some old
  pub same : SameEnds old h

pub record NewConn (ls : List Life) (c : ℕ) (h : Conn) : Type 0 where
  pub dialled : RowOf ls Dialler h.life h.dialler c
  pub target : (m : Voice) × (voice_in ls h.target ≡ Some m)
  pub free : h.accepted ≡ None
  pub behind : conn_behind c ≡ Some c

-- this connection is there still
pub record StaysConn (cs : List Conn) (c : ℕ) (k : Conn) : Type 0 where
  pub new : Conn
  pub there : slice_get cs c ≡ Some new
  pub same : SameEnds k new
  pub accepted : (y : ℕ) → k.accepted ≡ Some y → new.accepted ≡ Some y

end-stays : (side : Side) (k h : Conn) (i p : ℕ) → SameEnds k h → ((y : ℕ) → k.accepted ≡ Some y → h.accepted ≡ Some y) → IsEndOf side k i p → IsEndOf side h i p
end-stays Dialler k h i p s a e = (e.0 ∙ sym s.life, e.1 ∙ sym s.dialler)
end-stays Acceptor k h i p s a e = (e.0 ∙ sym s.target, a p e.1)

row-stays : (ls ls' : List Life) (rows : (i p : ℕ) → Stays (row_in ls i p) (row_in ls' i p)) (side : Side) (i i' p p' c : ℕ) → i' ≡ i → p' ≡ p → RowOf ls side i p c → RowOf ls' side i' p' c
row-stays ls ls' rows side i i' p p' c e d r =
    let g = rows i p c r.row r.there r.conn in
    record { row = g.0; there = (λ n. row_in ls' (e n) (d n)) ∙ g.1; side_is = g.2 ∙ r.side_is; conn = g.3 }

pub linked-keeps : (ls ls' : List Life) (cs cs' : List Conn) → ((i p : ℕ) → Stays (row_in ls i p) (row_in ls' i p)) → ((i : ℕ) → VoiceStays (voice_in ls i) (voice_in ls' i))
    → ((c : ℕ) (k : Conn) → slice_get cs c ≡ Some k → StaysConn cs' c k)
    → ((c : ℕ) (h : Conn) → slice_get cs' c ≡ Some h → WasConn cs c h ⊎ NewConn ls' c h)
    → ((c y : ℕ) (k h : Conn) → slice_get cs c ≡ Some k → slice_get cs' c ≡ Some h → h.accepted ≡ Some y → (k.accepted ≡ Some y) ⊎ RowOf ls' Acceptor h.target y c)
    → ((i p c : ℕ) (x : EndRow) → row_in ls' i p ≡ Some x → x.conn ≡ Some c → RowOf ls x.side i p c ⊎ ConnOf cs' x.side i p c)
    → Linked ls cs → Linked ls' cs'
linked-keeps ls ls' cs cs' rows voices stays were accs backs l = record { dialled = dialled; target = target; accepted = accepted; only = only; behind = behind }
  where
    dialled : (c : ℕ) (h : Conn) → slice_get cs' c ≡ Some h → RowOf ls' Dialler h.life h.dialler c
    dialled c h at = by (were c h at)
      where
        by : WasConn cs c h ⊎ NewConn ls' c h → RowOf ls' Dialler h.life h.dialler c
        by (inl w) = let s = w.same in row-stays ls ls' rows Dialler _ _ _ _ c s.life s.dialler (l.dialled c w.old w.there)
        by (inr n) = n.dialled

    target : (c : ℕ) (h : Conn) → slice_get cs' c ≡ Some h → (m : Voice) × (voice_in ls' h.target ≡ Some m)
    target c h at = by (were c h at)
      where
        by : WasConn cs c h ⊎ NewConn ls' c h → (m : Voice) × (voice_in ls' h.target ≡ Some m)
        by (inl w) = let s = w.same in let g = l.target c w.old w.there in (g.0, ap (voice_in ls') s.target ∙ voices _ g.0 g.1)
        by (inr n) = n.target

    accepted : (c y : ℕ) (h : Conn) → slice_get cs' c ≡ Some h → h.accepted ≡ Some y → RowOf ls' Acceptor h.target y c
    accepted c y h at ac = by (were c h at)
      where
        by : WasConn cs c h ⊎ NewConn ls' c h → RowOf ls' Acceptor h.target y c
        by (inl w) = old (accs c y w.old h w.there at ac)
          where
            old : (let k = w.old in k.accepted ≡ Some y) ⊎ RowOf ls' Acceptor h.target y c → RowOf ls' Acceptor h.target y c
            old (inl e) = let s = w.same in row-stays ls ls' rows Acceptor _ _ _ _ c s.target refl (l.accepted c y w.old w.there e)
            old (inr r) = r
        by (inr n) = absurd (let z : Some y ≡ None = sym ac ∙ n.free in cc)

    behind : (c : ℕ) (h : Conn) → slice_get cs' c ≡ Some h → conn_behind c ≡ Some c
    behind c h at = by (were c h at)
      where
        by : WasConn cs c h ⊎ NewConn ls' c h → conn_behind c ≡ Some c
        by (inl w) = l.behind c w.old w.there
        by (inr n) = n.behind

    only : (i p c : ℕ) (x : EndRow) → row_in ls' i p ≡ Some x → x.conn ≡ Some c → ConnOf cs' x.side i p c
    only i p c x at on = by (backs i p c x at on)
      where
        by : RowOf ls x.side i p c ⊎ ConnOf cs' x.side i p c → ConnOf cs' x.side i p c
        by (inl r) =
            let g = l.only i p c r.row r.there r.conn in
            let s = stays c g.conn g.there in
            record { conn = s.new; there = s.there; is_end = end-stays x.side g.conn s.new i p s.same s.accepted (subst (λ d. IsEndOf d g.conn i p) r.side_is g.is_end) }
        by (inr q) = q
