-- What follows from a step that succeeds.
use Rattle.dist_core_ends.specs.declared.known.End.TheVariants as ends
use Rattle.dist_core.specs.declared.{effect.Effect.Effect, event.Event.Event, reply.Reply.Reply, step_error.StepError.StepError}
use Rattle.dist_core.specs.declared.event.Event.TheVariants as event
use Rattle.dist_core.proofs.{Closings.heard-end, Rows.loses, Rows.row-in, Steps.fits}
use Rattle.dist_core.proofs.Words.{cond_both, End, Why, get-after, get-put, table-legal, ◌≡◌, ℕ, ◌+◌, ◌<◌, ◌≤◌, true, cond, eqb, List, length, slice_get, Some}
use Rattle.dist_core.proofs.Words.{None, Ok, Err, count_by, Option, Result, sym, refl, ap, ◌∙◌, subst, arith, eq-eqb, eqb-true, slice_get_within, EndId}
use Rattle.dist_core.proofs.Words.{IsThere, other_view, put_end, view_after, AreLegal, is_open, table_of, is_loss, NodeState, ends_after, node_after, Begins}
use Rattle.dist_core.proofs.Words.{Ceases, Comes_in, Dials, Fails, Hears, Loses, StepRow, Ticks, after, effect_of, step, step_result}
use Rattle.dist_core_laws.specs.Laws.{HasEffect, IsOfItsEnd, closed_by, given_by}
use Rattle.dist_core_laws.proofs.{Legal.legal_step, OpenCounts.open_change, OpenCounts.loss_change}

-- ---- the effect

pub has-effect : (n : NodeState) (v : Event) (fresh : ℕ) (r : Reply) (m : NodeState) → step n v fresh ≡ Ok (r, m) → HasEffect n v fresh r m
has-effect n v fresh r m is = by (effect_of n v fresh) refl is
  where
    by : (s : Result Effect StepError) → effect_of n v fresh ≡ s → step_result n v s ≡ Ok (r, m) → HasEffect n v fresh r m
    by (Ok f) at e =
        let reported : ◌≡◌ {A = Reply × NodeState} (f.reply, after n v f) (r, m) = cc in
        record { effect = f; is = at; reply = ap (λ (x : Reply × NodeState). x.0) reported; node = sym (ap (λ (x : Reply × NodeState). x.1) reported) }
    by (Err x) at e = absurd cc

pub keeps-setup : (n : NodeState) (v : Event) (fresh : ℕ) (r : Reply) (m : NodeState) → step n v fresh ≡ Ok (r, m) → m.setup ≡ n.setup
keeps-setup n v fresh r m is = let h = has-effect n v fresh r m is in ap (λ (k : NodeState). k.setup) h.node

pub keeps-legal : (n : NodeState) (v : Event) (fresh : ℕ) (r : Reply) (m : NodeState) → AreLegal n.ends → step n v fresh ≡ Ok (r, m) → AreLegal m.ends
keeps-legal n v fresh r m legal is = subst (λ (s : Result (Reply × NodeState) StepError). AreLegal (node_after n s).ends) is (legal_step n v fresh legal)

-- ---- the places

pub places : (n : NodeState) (v : Event) (fresh : ℕ) (f : Effect) → AreLegal n.ends → effect_of n v fresh ≡ Ok f → (f.reply.end_.0 ≤ length n.ends) × IsThere n.ends f.other
places n v fresh f legal is = let g = fits n (table_of n.ends) (table-legal n.ends legal) v fresh f is in (g.place, g.other_there)

pub stands-after : (n : NodeState) (v : Event) (fresh : ℕ) (f : Effect) (i : ℕ) → AreLegal n.ends → effect_of n v fresh ≡ Ok f → slice_get (ends_after n.ends f) i ≡ view_after n.ends f.reply.end_ f.this f.other i
stands-after n v fresh f i legal is = let p = places n v fresh f legal is in get-after n.ends f.reply.end_ f.this f.other i p.0 p.1

-- what holds of each end that can stand at this place holds of the one that stands there afterwards
pub stands-as : (n : NodeState) (v : Event) (fresh : ℕ) (f : Effect) (i : ℕ) → AreLegal n.ends → effect_of n v fresh ≡ Ok f → (P : Option End → Type 0)
    → (f.reply.end_.0 ≡ i → P (Some f.this)) → ((x : EndId) (s : End) → f.other ≡ Some (x, s) → x.0 ≡ i → P (Some s)) → P (slice_get n.ends i) → P (slice_get (ends_after n.ends f) i)
stands-as n v fresh f i legal is P own other old = subst P (sym (stands-after n v fresh f i legal is)) (by f.other refl)
  where
    at-event : P (cond (eqb f.reply.end_.0 i) (Some f.this) (slice_get n.ends i))
    at-event = cond_both (eqb f.reply.end_.0 i) _ _ P (λ b. own (eqb-true f.reply.end_.0 i b)) (λ b. old)

    by : (o : Option (EndId × End)) → f.other ≡ o → P (other_view o (λ j. cond (eqb f.reply.end_.0 j) (Some f.this) (slice_get n.ends j)) i)
    by None o = at-event
    by (Some y) o = let x : EndId = y.0 in cond_both (eqb x.0 i) _ _ P (λ b. other x y.1 o (eqb-true x.0 i b)) (λ b. at-event)

-- ---- the end of a reply

abbrev end_in : Effect → EndId
end_in f = f.reply.end_

abbrev said_in : Effect → List ℕ
said_in f = f.reply.say

row-end : (n : NodeState) (v : Event) (fresh : ℕ) (f : Effect) → StepRow n v fresh f → IsOfItsEnd n v f.reply
row-end n v fresh f (Dials p o is e s u d k) = subst (λ (v : Event). IsOfItsEnd n v f.reply) (sym is) (ap end_in k, ap said_in k)
row-end n v fresh f (Comes_in link is s d k) = subst (λ (v : Event). IsOfItsEnd n v f.reply) (sym is) (ap end_in k, ap said_in k)
row-end n v fresh f (Begins id link b is e ph s k) = subst (λ (v : Event). IsOfItsEnd n v f.reply) (sym is) (ap end_in k)
row-end n v fresh f (Ceases id link b is e ph s k) = subst (λ (v : Event). IsOfItsEnd n v f.reply) (sym is) (ap end_in k)
row-end n v fresh f (Loses id w e is at op k) = subst (λ (v : Event). IsOfItsEnd n v f.reply) (sym is) (ap end_in k)
row-end n v fresh f (Ticks id r is at s k) = subst (λ (v : Event). IsOfItsEnd n v f.reply) (sym is) (ap end_in k)
row-end n v fresh f (Fails id body e side x is at to s rd k) = subst (λ (v : Event). IsOfItsEnd n v f.reply) (sym is) (ap end_in k)
row-end n v fresh f (Hears id body e side m is at to s rd h) = subst (λ (v : Event). IsOfItsEnd n v f.reply) (sym is) (heard-end n id fresh e m f h)

pub effect-end : (n : NodeState) (v : Event) (fresh : ℕ) (f : Effect) → effect_of n v fresh ≡ Ok f → IsOfItsEnd n v f.reply
effect-end n v fresh f is = row-end n v fresh f (row-in n v fresh f is)

pub reply-end : (n : NodeState) (v : Event) (fresh : ℕ) (r : Reply) (m : NodeState) → step n v fresh ≡ Ok (r, m) → IsOfItsEnd n v r
reply-end n v fresh r m is = let h = has-effect n v fresh r m is in subst (λ (q : Reply). IsOfItsEnd n v q) h.reply (effect-end n v fresh h.effect h.is)

-- ---- open ends

abbrev opens : List End → ℕ
opens es = count_by is_open es

one-given : (v : Event) → given_by v ≤ 1
one-given (event.Dial p o) = omega arith
one-given v = omega arith

pub open-exact : (n : NodeState) (v : Event) (fresh : ℕ) (r : Reply) (m : NodeState) → AreLegal n.ends → step n v fresh ≡ Ok (r, m) → opens m.ends + closed_by r ≡ opens n.ends + given_by v
open-exact n v fresh r m legal is =
    let h = has-effect n v fresh r m is in
    let count = open_change n legal v fresh h.effect h.is in
    omega (arith, count, ap (λ (k : NodeState). opens k.ends) h.node, ap (λ (q : Reply). closed_by q) h.reply)

pub open-most : (n : NodeState) (v : Event) (fresh : ℕ) (r : Reply) (m : NodeState) → AreLegal n.ends → step n v fresh ≡ Ok (r, m) → opens m.ends ≤ opens n.ends + 1
open-most n v fresh r m legal is = omega (arith, open-exact n v fresh r m legal is, one-given v)

pub open-lost : (n : NodeState) (v : Event) (fresh : ℕ) (r : Reply) (m : NodeState) → is_loss v ≡ true → step n v fresh ≡ Ok (r, m) → opens m.ends + 1 ≡ opens n.ends
open-lost n (event.Lost x w) fresh r m loss is =
    let h = has-effect n (event.Lost x w) fresh r m is in
    let count = (loss_change n x w fresh h.effect h.is).1 in
    omega (arith, count, ap (λ (k : NodeState). opens k.ends) h.node)
open-lost n v fresh r m loss is = absurd cc

pub lost-closed : (n : NodeState) (x : EndId) (w : Why) (fresh : ℕ) (r : Reply) (m : NodeState) → step n (event.Lost x w) fresh ≡ Ok (r, m) → slice_get m.ends x.0 ≡ Some (ends.Closed w)
lost-closed n x w fresh r m is =
    let h = has-effect n (event.Lost x w) fresh r m is in
    let was = (loses n x w fresh h.effect h.is).1 in
    let within : x.0 < length n.ends = slice_get_within n.ends x.0 was.0 was.1 in
    let put : m.ends ≡ put_end n.ends x.0 (ends.Closed w) = ap (λ (k : NodeState). k.ends) h.node ∙ (loss_change n x w fresh h.effect h.is).0 in
    ap (λ (es : List End). slice_get es x.0) put
    ∙ get-put n.ends x.0 (ends.Closed w) x.0 (omega (arith, within))
    ∙ ap (λ b. cond b (Some (ends.Closed w)) (slice_get n.ends x.0)) (eq-eqb x.0 x.0 refl)
