-- What still holds of the registrations that were lent.
use Rattle.dist_epmd_calls.proofs.Words.{◌≡◌, ℕ, true, false, not, List, Ok, Err, filter, Result, sym, ap, ◌∙◌, subst, inl, inr, ⊎_elim, arith, eq-eqb}
use Rattle.dist_epmd_calls.proofs.Words.{cond_both, position_or_len, StreamState, IsIn, Answer, NodeInfo, Request, Row, in_filter, in_insert, closed_legal}
use Rattle.dist_epmd_calls.proofs.Words.{request_legal, AfterCut, Serves, served_as, LookupError, Served}
use Rattle.dist_epmd.specs.Registrations.{Registrations, IsLegal, is_accepted, is_of, is_behind, with_registration, with_row, after_request, after_closed}
use Rattle.dist_epmd.specs.Registrations.{answer_to}
use Rattle.dist_epmd.specs.declared.message.Request.TheVariants as request
use Rattle.dist_epmd_calls.specs.Mapping.{Allows, Leaves}
use Rattle.dist_epmd_calls.specs.declared.serve.Served.TheVariants as served

-- ---- how a request ends

abbrev well : Served → Result Served LookupError
well how = Ok how

-- what holds of the registrations that were lent, and after an answer that was written whole or not, holds at the end
serves_so : (P : Registrations → Type 0) (conn limit : ℕ) (old new : StreamState) (before after : Registrations) (result : Result Served LookupError) → P before
    → ((asked : Request) (given : Answer) → Allows before conn asked given after → result ≡ Ok (served_as asked given) → P after)
    → ((asked : Request) (given : Answer) (between : Registrations) → Allows before conn asked given between → AfterCut Leaves asked conn between after → P after)
    → Serves Allows Leaves conn limit old new before after result → P after
serves_so P conn limit old new before after (Ok how) same whole cut s = elim (s.outcome) [
  | inl none ↦ subst P (sym none.same) same
  | inr came ↦ whole came.request came.replies.answer came.replies.allowed (ap well came.replies.how_is)
]
serves_so P conn limit old new before after (Err why) same whole cut s = elim (s.outcome) [
  | inl none ↦ subst P (sym none.same) same
  | inr came ↦ ⊎_elim (λ lacks. subst P (sym lacks.3) same) (λ part. cut came.request part.answer part.between part.allowed part.closed) came.replies
]

-- ---- the invariant

allowed_legal : (before after : Registrations) (conn : ℕ) (asked : Request) (given : Answer) → Allows before conn asked given after → IsLegal before → IsLegal after
allowed_legal before after conn (request.Alive info) given h legal = subst IsLegal (sym h.1) (request_legal conn info before legal)
allowed_legal before after conn _ given h legal = subst IsLegal (sym h.1) legal

cut_legal : (asked : Request) (conn : ℕ) (between after : Registrations) → AfterCut Leaves asked conn between after → IsLegal between → IsLegal after
cut_legal (request.Alive info) conn between after h legal = subst IsLegal (sym h) (closed_legal conn between legal)
cut_legal _ conn between after h legal = subst IsLegal (sym h) legal

pub serves_legal : (conn limit : ℕ) (old new : StreamState) (before after : Registrations) (result : Result Served LookupError) → Serves Allows Leaves conn limit old new before after result → IsLegal before → IsLegal after
serves_legal conn limit old new before after result s legal =
    serves_so IsLegal conn limit old new before after result legal
    (λ asked given h is. allowed_legal before after conn asked given h legal)
    (λ asked given between h closed. cut_legal asked conn between after closed (allowed_legal before between conn asked given h legal)) s

-- ---- which registrations are new

abbrev IsOld : Registrations → Registrations → Type 0
IsOld before after = (row : Row) → IsIn row after.rows → IsIn row before.rows

-- the answer to an accepted registration has result 0, in either form
is_registered : (conn : ℕ) (info : NodeInfo) (registrations : Registrations) → is_accepted conn info registrations ≡ true → served_as (request.Alive info) (answer_to conn info registrations) ≡ served.Registered
is_registered conn info registrations e = grind arith

whole_old : (before after : Registrations) (conn : ℕ) (asked : Request) (given : Answer) → (served_as asked given ≡ served.Registered → ⊥) → Allows before conn asked given after → IsOld before after
whole_old before after conn (request.Alive info) given unless h =
    subst (IsOld before) (sym h.1)
    (cond_both (is_accepted conn info before) (with_registration conn info before) before (IsOld before) (λ e. absurd (unless (ap (served_as (request.Alive info)) h.0 ∙ is_registered conn info before e))) (λ e row m. m))
whole_old before after conn _ given unless h = subst (IsOld before) (sym h.1) (λ row m. m)

own_row : (conn : ℕ) (info : NodeInfo) (next : ℕ) (row : Row) → not (is_of conn row) ≡ true → row ≡ record { conn = conn; info = info; creation = next } → ⊥
own_row conn info next row kept e =
    let own : not (is_of conn row) ≡ false = ap not (eq-eqb row.conn conn (ap (λ (r : Row). r.conn) e)) in
    cc

closed_old : (conn : ℕ) (info : NodeInfo) (before : Registrations) → IsOld before (after_closed conn (after_request conn info before))
closed_old conn info before =
    let row : Row = record { conn = conn; info = info; creation = before.next } in
    let kept = λ (x : Row) (rows : List Row) (m : IsIn x (filter (λ r. not (is_of conn r)) rows)). in_filter (λ r. not (is_of conn r)) x rows m in
    cond_both (is_accepted conn info before) (with_registration conn info before) before (λ b. IsOld before (after_closed conn b))
    (λ e x m.
    let k = kept x (with_row row before.rows) m in
    ⊎_elim (λ same. absurd (own_row conn info before.next x k.1 same)) (λ there. there) (in_insert x row before.rows (position_or_len (is_behind info.name) before.rows) k.0))
    (λ e x m. (kept x before.rows m).0)

cut_old : (before between after : Registrations) (conn : ℕ) (asked : Request) (given : Answer) → Allows before conn asked given between → AfterCut Leaves asked conn between after → IsOld before after
cut_old before between after conn (request.Alive info) given h closed = subst (IsOld before) (sym (closed ∙ ap (after_closed conn) h.1)) (closed_old conn info before)
cut_old before between after conn _ given h closed = subst (IsOld before) (sym (closed ∙ h.1)) (λ row m. m)

pub serves_old : (conn limit : ℕ) (old new : StreamState) (before after : Registrations) (result : Result Served LookupError) → Serves Allows Leaves conn limit old new before after result → (result ≡ Ok served.Registered → ⊥) → IsOld before after
serves_old conn limit old new before after result s unless =
    serves_so (IsOld before) conn limit old new before after result (λ row m. m)
    (λ asked given h is. whole_old before after conn asked given (λ e. unless (is ∙ ap well e)) h)
    (λ asked given between h closed. cut_old before between after conn asked given h closed) s
