-- The bytes of a reply go to the connection of the event's end.
use Rattle.dist_core.specs.declared.event.Event.TheVariants as event
use Rattle.dist_core_laws.specs.Laws.{IsOfItsEnd}
use Rattle.dist_world_model.proofs.Words.{append-nil, Event, Reply, Side, Acceptor, Dialler, ◌≡◌, ℕ, zero, suc, ◌+◌, List, [], ◌∷◌, slice_get, Some, None, Ok}
use Rattle.dist_world_model.proofs.Words.{Option, option_map, sym, refl, ap, ◌∙◌, EndId, NodeState, step, conns_after_saying, says, spoken_on, at_place, EndRow}
use Rattle.dist_world_model.proofs.Words.{mark, rows_after, Conn}
use Rattle.dist_world_lives.specs.{Notifying.event_wire, Stepping.wire_of, Stepping.conns_after}
use Rattle.dist_world_lives.proofs.Edits.{get_each}

-- each reply is of the end that its event names (a_reply_is_of_its_end)
abbrev pub AreOwn : Type 0
AreOwn = (n : NodeState) (v : Event) (fresh : ℕ) (r : Reply) (m : NodeState) → step n v fresh ≡ Ok (r, m) → IsOfItsEnd n v r

-- ---- where it is sent

says_nothing : (side : Side) (x : Conn) → says side [] x ≡ x
says_nothing Dialler x = λ i. record x { there = record { said = append-nil x.there.said i; come = x.there.come } }
says_nothing Acceptor x = λ i. record x { back = record { said = append-nil x.back.said i; come = x.back.come } }

pub nothing_said : (cs : List Conn) (side : Side) (i : ℕ) → at_place i (says side []) cs ≡ cs
nothing_said [] side i = refl
nothing_said (x ∷ cs) side zero = ap (λ y. y ∷ cs) (says_nothing side x)
nothing_said (x ∷ cs) side (suc i) = ap (λ ys. x ∷ ys) (nothing_said cs side i)

silent_on : (cs : List Conn) (o : Option ℕ) (side : Side) → spoken_on cs o side [] ≡ cs
silent_on cs None side = refl
silent_on cs (Some c) side = nothing_said cs side c

silent : (cs : List Conn) (o : Option EndRow) → conns_after_saying cs o [] ≡ cs
silent cs None = refl
silent cs (Some row) = silent_on cs row.conn row.side

module _ (t : ℕ) (r : Reply) (rows : List EndRow) (cs : List Conn) where
  on : (o : Option ℕ) (side : Side) → spoken_on cs o side r.say ≡ conns_after cs (option_map (λ c. (side, c)) o) r.say
  on None side = refl
  on (Some c) side = refl

  marked : (i : ℕ) (o : Option EndRow) → conns_after_saying cs (option_map (mark t r i) o) r.say ≡ conns_after cs (wire_of o) r.say
  marked i None = refl
  marked i (Some row) = on row.conn row.side

  own : (id : EndId) → r.end_ ≡ id → conns_after_saying cs (slice_get (rows_after t (event.Tick id) r rows) r.end_.0) r.say ≡ conns_after cs (wire_of (slice_get rows id.0)) r.say
  own id is = ap (λ (o : Option EndRow). conns_after_saying cs o r.say) (get_each (mark t r) rows 0 r.end_.0) ∙ (marked (0 + r.end_.0) (slice_get rows r.end_.0) ∙ ap (λ (x : EndId). conns_after cs (wire_of (slice_get rows x.0)) r.say) is)

  mute : (o : Option EndRow) → r.say ≡ [] → conns_after_saying cs o r.say ≡ cs
  mute o is = ap (conns_after_saying cs o) is ∙ silent cs o

  wired : (n : NodeState) (v : Event) → IsOfItsEnd n v r → conns_after_saying cs (slice_get (rows_after t v r rows) r.end_.0) r.say ≡ conns_after cs (event_wire rows v) r.say
  wired n (event.Dial p o) k = mute _ k.1
  wired n (event.Incoming link) k = mute _ k.1 ∙ sym (ap (λ s. conns_after cs (Some (Acceptor, link)) s) k.1 ∙ nothing_said cs Acceptor link)
  wired n (event.Opened id link) k = own id k
  wired n (event.Frame id body) k = own id k
  wired n (event.Lost id w) k = own id k
  wired n (event.Tick id) k = own id k

  -- the bytes of a reply go to the connection of the event's end
  pub as_wired : AreOwn → (n : NodeState) (v : Event) (fresh : ℕ) (m : NodeState) → step n v fresh ≡ Ok (r, m) → conns_after_saying cs (slice_get (rows_after t v r rows) r.end_.0) r.say ≡ conns_after cs (event_wire rows v) r.say
  as_wired are n v fresh m is = wired n v (are n v fresh r m is)
