-- A loss at one end of a node.
use Rattle.dist_drive.proofs.Words.{◌≡◌, ℕ, true, false, List, slice_get, Some, None, Ok, Err, Option, Result, sym, refl, ap, ◌∙◌, EndId, is_open, End, Why}
use Rattle.dist_drive.proofs.Words.{end_of, is_loss, NodeState, step, Event, Reply, StepError, HasRoom}
use Rattle.dist_core_ends.specs.declared.known.End.TheVariants as ends
use Rattle.dist_core.specs.declared.event.Event.TheVariants as event
use Rattle.dist_core.specs.declared.step_error.StepError.TheVariants as error

-- an end that is neither unknown nor closed is open
pub record IsOpenAt (es : List End) (id : EndId) : Type 0 where
  pub kept : End
  pub there : slice_get es id.0 ≡ Some kept
  pub opened : is_open kept ≡ true

open_in : (o : Option End) → (o ≡ None → ⊥) → ((w : Why) → o ≡ Some (ends.Closed w) → ⊥) → (e : End) × (o ≡ Some e) × (is_open e ≡ true)
open_in None none closed = absurd (none refl)
open_in (Some (ends.Closed w)) none closed = absurd (closed w refl)
open_in (Some e) none closed = (e, refl, refl)

abbrev good : Reply → Result Reply StepError
good r = Ok r

abbrev bad : StepError → Result Reply StepError
bad e = Err e

unlike : (r : Reply) (e : StepError) → good r ≡ bad e → ⊥
unlike r e h = cc

-- an event that was taken names an open end
pub taken_open : (es : List End) (id : EndId) (r : Reply)
    → (slice_get es id.0 ≡ None → good r ≡ bad error.NoSuchEnd)
    → ((w : Why) → slice_get es id.0 ≡ Some (ends.Closed w) → good r ≡ bad (error.Gone w))
    → IsOpenAt es id
taken_open es id r unknown gone =
    let o = open_in (slice_get es id.0) (λ h. unlike r error.NoSuchEnd (unknown h)) (λ w h. unlike r (error.Gone w) (gone w h)) in
    record { kept = o.0; there = o.1; opened = o.2 }

-- ---- after a loss the end is closed

-- a loss that is answered leaves its end closed
abbrev pub ClosesLost : Type 0
ClosesLost = (n : NodeState) (x : EndId) (w : Why) (fresh : ℕ) (r : Reply) (m : NodeState) → step n (event.Lost x w) fresh ≡ Ok (r, m) → slice_get m.ends x.0 ≡ Some (ends.Closed w)

shut : (o : Option End) (w : Why) (e : End) → o ≡ Some (ends.Closed w) → o ≡ Some e → is_open e ≡ true → ⊥
shut o w e closed at opened =
    let same : ends.Closed w ≡ e = (let s : Some (ends.Closed w) ≡ Some e = sym closed ∙ at in cc) in
    let not : is_open (ends.Closed w) ≡ true = ap is_open same ∙ opened in
    absurd cc

-- after a loss no room is needed
pub loss_room : ClosesLost → (n m : NodeState) (v : Event) (id : EndId) (fresh len capacity : ℕ) (r : Reply) (d : End) → is_loss v ≡ true → end_of v ≡ Some id → slice_get n.ends id.0 ≡ Some d → step n v fresh ≡ Ok (r, m) → HasRoom m id len capacity
loss_room closes n m (event.Lost x w) id fresh len capacity r d loss names at h =
    let same : x ≡ id = (let s : Some x ≡ Some id = names in cc) in
    λ e there opened.
    let there' : slice_get m.ends x.0 ≡ Some e = ap (λ (y : EndId). slice_get m.ends y.0) same ∙ there in
    absurd (shut (slice_get m.ends x.0) w e (closes n x w fresh r m h) there' opened)
loss_room closes n m _ id fresh len capacity r d loss names at h = absurd cc

pub by_loss : {P : Type 0} (v : Event) → (is_loss v ≡ true → P) → (is_loss v ≡ false → P) → P
by_loss {P = P} v loses keeps = elim (is_loss v) as (λ b. is_loss v ≡ b → P) [ true ↦ loses | false ↦ keeps ] refl
