-- Registrations stand exactly while their clients are here.
use Rattle.std.proofs.Common.{◌≡◌, ℕ, zero, suc, Bool, true, false, not, ◌||◌, cond, List, [], ◌∷◌, Option, Some, None, is_some, refl, sym, ap, subst, ◌∙◌, ◌<◌, arith}
use Rattle.std.specs.Prelude.{◌≤◌, filter, find, insert, ◌==◌, nat_lt, IsSome, option_map}
use Rattle.std.specs.Cmp.{unsigned_tied}
use Rattle.dist_epmd_clients.proofs.Words.{list_any, position_or_len, nat_cmp, BTreeMap, get, Updates, and_parts, eq-eqb, eqb-true, not-false, not-true}
use Rattle.dist_epmd_clients.proofs.Words.{or_parts, NodeInfo, Request, served_as, Talk, Asking, Registered, Keeps, Client}
use Rattle.dist_epmd.specs.declared.row.Row.{Row}
use Rattle.dist_epmd.specs.Registrations.{Registrations, is_of, is_behind, after_closed, is_accepted, with_registration, registered_name, creation_answer, refusal_answer, short_creation}
use Rattle.dist_epmd.specs.declared.message.Request.TheVariants as request
use Rattle.dist_epmd.specs.declared.message.Answer.TheVariants as answer
use Rattle.dist_epmd_calls.specs.declared.serve.Served.TheVariants as served
use Rattle.dist_epmd_clients.specs.Replying.{answer_for, registrations_after, name_in, with_talk}
use Rattle.dist_epmd_clients.specs.Standing.{Stand, NumbersBelow, is_registered, is_registered_talk, talk_name, client_name}

-- ---- registrations of a connection

find_other : (p : Row → Bool) (rows : List Row) (i : ℕ) (y : Row) → p y ≡ false → find p (insert rows i y) ≡ find p rows
find_other p rows zero y other = ap (λ (b : Bool). cond b (Some y) (find p rows)) other
find_other p [] (suc i) y other = ap (λ (b : Bool). cond b (Some y) None) other
find_other p (x ∷ xs) (suc i) y other = ap (λ (r : Option Row). cond (p x) (Some x) r) (find_other p xs i y other)

find_new : (p : Row → Bool) (rows : List Row) (i : ℕ) (y : Row) → list_any p rows ≡ false → p y ≡ true → find p (insert rows i y) ≡ Some y
find_new p rows zero y none here = ap (λ (b : Bool). cond b (Some y) (find p rows)) here
find_new p [] (suc i) y none here = ap (λ (b : Bool). cond b (Some y) None) here
find_new p (x ∷ xs) (suc i) y none here =
    let n = or_parts (p x) (list_any p xs) none in
    ap (λ (b : Bool). cond b (Some x) (find p (insert xs i y))) n.0 ∙ find_new p xs i y n.1 here

-- another registration, of a connection that had none
name_registered : (conn q : ℕ) (info : NodeInfo) (registrations : Registrations) → list_any (is_of conn) registrations.rows ≡ false
    → registered_name q (with_registration conn info registrations) ≡ cond (conn == q) (Some info.name) (registered_name q registrations)
name_registered conn q info registrations none =
    let row : Row = record { conn = conn; info = info; creation = registrations.next } in
    let place : ℕ = position_or_len (is_behind info.name) registrations.rows in
    elim (conn == q) as (λ v. (conn == q) ≡ v → registered_name q (with_registration conn info registrations) ≡ cond v (Some info.name) (registered_name q registrations)) [
      | true ↦ λ e. ap (λ (o : Option Row). option_map (λ (r : Row). r.info.name) o)
          (find_new (is_of q) registrations.rows place row (subst (λ n. list_any (is_of n) registrations.rows ≡ false) (eqb-true conn q e) none) e)
      | false ↦ λ e. ap (λ (o : Option Row). option_map (λ (r : Row). r.info.name) o) (find_other (is_of q) registrations.rows place row e)
    ] refl

find_dropped : (p : Row → Bool) (rows : List Row) → find p (filter (λ row. not (p row)) rows) ≡ None
find_dropped p [] = refl
find_dropped p (x ∷ xs) =
    let rest = filter (λ row. not (p row)) xs in
    elim (p x) as (λ v. p x ≡ v → find p (cond (not v) (x ∷ rest) rest) ≡ None) [
      | true ↦ λ e. find_dropped p xs
      | false ↦ λ e. ap (λ (b : Bool). cond b (Some x) (find p rest)) e ∙ find_dropped p xs
    ] refl

find_kept : (p t : Row → Bool) (rows : List Row) → ((row : Row) → t row ≡ false → p row ≡ false) → find p (filter t rows) ≡ find p rows
find_kept p t [] other = refl
find_kept p t (x ∷ xs) other =
    elim (t x) as (λ v. t x ≡ v → find p (cond v (x ∷ filter t xs) (filter t xs)) ≡ cond (p x) (Some x) (find p xs)) [
      | true ↦ λ e. ap (λ (r : Option Row). cond (p x) (Some x) r) (find_kept p t xs other)
      | false ↦ λ e. find_kept p t xs other ∙ sym (ap (λ (b : Bool). cond b (Some x) (find p xs)) (other x e))
    ] refl

-- those of other connections
name_closed : (conn q : ℕ) (registrations : Registrations) → registered_name q (after_closed conn registrations) ≡ cond (conn == q) None (registered_name q registrations)
name_closed conn q registrations = elim (conn == q) as (λ v. (conn == q) ≡ v → registered_name q (after_closed conn registrations) ≡ cond v None (registered_name q registrations)) [
  | true ↦ λ e. subst (λ n. registered_name n (after_closed conn registrations) ≡ None) (eqb-true conn q e)
      (ap (λ (o : Option Row). option_map (λ (r : Row). r.info.name) o) (find_dropped (is_of conn) registrations.rows))
  | false ↦ λ e. ap (λ (o : Option Row). option_map (λ (r : Row). r.info.name) o)
      (find_kept (is_of q) (λ row. not (is_of conn row)) registrations.rows (λ row d. ap (λ n. n == q) (eqb-true row.conn conn (not-false (is_of conn row) d)) ∙ e))
] refl

-- a connection whose registration, or lack of one, is this
pub name_same : (conn q : ℕ) (registrations : Registrations) (name : Option (List ℕ)) → registered_name conn registrations ≡ name → registered_name q registrations ≡ cond (conn == q) name (registered_name q registrations)
name_same conn q registrations name here = elim (conn == q) as (λ v. (conn == q) ≡ v → registered_name q registrations ≡ cond v name (registered_name q registrations)) [
  | true ↦ λ e. subst (λ n. registered_name n registrations ≡ name) (eqb-true conn q e) here
  | false ↦ λ e. refl
] refl

-- a connection has a registration where it has a name
any_named : (conn : ℕ) (rows : List Row) → list_any (is_of conn) rows ≡ is_some (option_map (λ (row : Row). row.info.name) (find (is_of conn) rows))
any_named conn [] = refl
any_named conn (x ∷ xs) = elim (is_of conn x) as (λ v. (v || list_any (is_of conn) xs) ≡ is_some (option_map (λ (row : Row). row.info.name) (cond v (Some x) (find (is_of conn) xs)))) [
  | true ↦ refl
  | false ↦ any_named conn xs
]

-- where a connection has no registration, its end leaves the registry as it is
kept : (conn : ℕ) (rows : List Row) → list_any (is_of conn) rows ≡ false → filter (λ row. not (is_of conn row)) rows ≡ rows
kept conn [] none = refl
kept conn (row ∷ rows) none = elim (is_of conn row) as (λ v. (v || list_any (is_of conn) rows) ≡ false → cond (not v) (row ∷ filter (λ r. not (is_of conn r)) rows) (filter (λ r. not (is_of conn r)) rows) ≡ row ∷ rows) [
  | true ↦ λ h. cc
  | false ↦ λ h. ap (λ (l : List Row). row ∷ l) (kept conn rows h)
] none

pub closed_same : (conn : ℕ) (registrations : Registrations) → registered_name conn registrations ≡ None → registrations ≡ after_closed conn registrations
closed_same conn registrations none = ap (λ (l : List Row). record registrations { rows = l })
    (sym (kept conn registrations.rows (any_named conn registrations.rows ∙ ap (λ (o : Option (List ℕ)). is_some o) none)))

-- ---- clients

talk_known : (talk : Talk) → is_some (talk_name talk) ≡ is_registered_talk talk
talk_known (Asking said) = refl
talk_known (Registered name) = refl

talk_unknown : (talk : Talk) → is_registered_talk talk ≡ false → talk_name talk ≡ None
talk_unknown (Asking said) denied = refl
talk_unknown (Registered name) denied = absurd cc

module _ {S : Type 0} where
  known : (o : Option (Client S)) → is_some (client_name o) ≡ is_registered o
  known None = refl
  known (Some client) = talk_known client.talk

  unknown : (o : Option (Client S)) → is_registered o ≡ false → client_name o ≡ None
  unknown None denied = refl
  unknown (Some client) denied = talk_unknown client.talk denied

  -- a connection has a registration where its client is registered
  pub any_stand : (registrations : Registrations) (m : BTreeMap ℕ (Client S)) → Stand registrations m → (conn : ℕ) → list_any (is_of conn) registrations.rows ≡ is_registered (get nat_cmp m conn)
  any_stand registrations m stand conn = any_named conn registrations.rows ∙ ap (λ (o : Option (List ℕ)). is_some o) (stand conn) ∙ known (get nat_cmp m conn)

  chosen : (b : Bool) (w o : Option (Client S)) → client_name (cond b w o) ≡ cond b (client_name w) (client_name o)
  chosen true w o = refl
  chosen false w o = refl

  -- a connection has another client, or none, and the registry follows
  pub stand_with : (registrations next : Registrations) (m n : BTreeMap ℕ (Client S)) (conn : ℕ) (w : Option (Client S)) → Updates nat_cmp m n conn w → Stand registrations m
      → ((q : ℕ) → registered_name q next ≡ cond (conn == q) (client_name w) (registered_name q registrations)) → Stand next n
  stand_with registrations next m n conn w u stand rows q =
      rows q
      ∙ ap (λ (b : Option (List ℕ)). cond (conn == q) (client_name w) b) (stand q)
      ∙ sym (chosen (conn == q) w (get nat_cmp m q))
      ∙ ap (λ b. client_name (cond b w (get nat_cmp m q))) (sym (unsigned_tied conn q))
      ∙ ap (λ (o : Option (Client S)). client_name o) (sym (u.0 q))

  -- a connection is over
  pub stand_closed : (registrations : Registrations) (m n : BTreeMap ℕ (Client S)) (conn : ℕ) → Updates nat_cmp m n conn None → Stand registrations m → Stand (after_closed conn registrations) n
  stand_closed registrations m n conn u stand = stand_with registrations (after_closed conn registrations) m n conn None u stand (λ q. name_closed conn q registrations)

  -- a connection that has no registration goes on without one
  pub stand_without : (registrations : Registrations) (m n : BTreeMap ℕ (Client S)) (conn : ℕ) (w : Option (Client S)) → Updates nat_cmp m n conn w → is_registered w ≡ false → is_registered (get nat_cmp m conn) ≡ false → Stand registrations m → Stand registrations n
  stand_without registrations m n conn w u denied was stand = stand_with registrations registrations m n conn w u stand
      (λ q. name_same conn q registrations (client_name w) (stand conn ∙ unknown (get nat_cmp m conn) was ∙ sym (unknown w denied)))

-- ---- what the registry answers

filter_insert : (p : Row → Bool) (rows : List Row) (i : ℕ) (y : Row) → p y ≡ false → filter p (insert rows i y) ≡ filter p rows
filter_insert p rows zero y denied = ap (λ b. cond b (y ∷ filter p rows) (filter p rows)) denied
filter_insert p [] (suc i) y denied = ap (λ b. cond b (y ∷ []) []) denied
filter_insert p (x ∷ xs) (suc i) y denied = ap (λ (l : List Row). cond (p x) (x ∷ l) l) (filter_insert p xs i y denied)

-- what was registered on a connection goes with it again
pub rows_back : (conn : ℕ) (r : Request) (registrations : Registrations) → list_any (is_of conn) registrations.rows ≡ false → (after_closed conn (registrations_after conn r registrations)).rows ≡ registrations.rows
rows_back conn (request.Alive info) registrations none = elim (is_accepted conn info registrations) as (λ v. (after_closed conn (cond v (with_registration conn info registrations) registrations)).rows ≡ registrations.rows) [
  | true ↦ filter_insert (λ row. not (is_of conn row)) registrations.rows (position_or_len (is_behind info.name) registrations.rows) (record { conn = conn; info = info; creation = registrations.next }) (ap not (eq-eqb conn conn refl)) ∙ kept conn registrations.rows none
  | false ↦ kept conn registrations.rows none
]
rows_back conn _ registrations none = kept conn registrations.rows none

port_same : (conn : ℕ) (r : Request) (registrations : Registrations) → (registrations_after conn r registrations).port ≡ registrations.port
port_same conn (request.Alive info) registrations = elim (is_accepted conn info registrations) as (λ v. (cond v (with_registration conn info registrations) registrations).port ≡ registrations.port) [ true ↦ refl | false ↦ refl ]
port_same conn _ registrations = refl

next_rises : (conn : ℕ) (r : Request) (registrations : Registrations) → registrations.next ≤ (registrations_after conn r registrations).next
next_rises conn (request.Alive info) registrations = elim (is_accepted conn info registrations) as (λ v. registrations.next ≤ (cond v (with_registration conn info registrations) registrations).next) [ true ↦ omega arith | false ↦ omega arith ]
next_rises conn _ registrations = omega arith

-- what was registered on a connection and is dropped again leaves the registrations as they were
pub keeps_back : (conn : ℕ) (r : Request) (registrations : Registrations) → list_any (is_of conn) registrations.rows ≡ false → Keeps registrations (after_closed conn (registrations_after conn r registrations))
keeps_back conn r registrations none = record { port = port_same conn r registrations; rows = rows_back conn r registrations none; creations = next_rises conn r registrations }

unregistered : (conn : ℕ) (info : NodeInfo) (registrations : Registrations) → is_accepted conn info registrations ≡ true → list_any (is_of conn) registrations.rows ≡ false
unregistered conn info registrations ok =
    let a = and_parts _ _ ok in
    let b = and_parts _ _ a.1 in
    let c = and_parts _ _ b.1 in
    not-true (list_any (is_of conn) registrations.rows) c.0

-- an answer that registers a node does so
pub registers_row : (conn q : ℕ) (r : Request) (registrations : Registrations) → served_as r (answer_for conn r registrations) ≡ served.Registered → registered_name q (registrations_after conn r registrations) ≡ cond (conn == q) (Some (name_in r)) (registered_name q registrations)
registers_row conn q (request.Alive info) registrations granted = elim (is_accepted conn info registrations) as (λ v. is_accepted conn info registrations ≡ v → served_as (request.Alive info) (cond v (creation_answer info registrations.next) (refusal_answer info)) ≡ served.Registered → registered_name q (cond v (with_registration conn info registrations) registrations) ≡ cond (conn == q) (Some info.name) (registered_name q registrations)) [
  | true ↦ λ ok g. name_registered conn q info registrations (unregistered conn info registrations ok)
  | false ↦ λ ok g. elim (nat_lt info.highest 6) as (λ v. served_as (request.Alive info) (cond v (answer.Alive 1 0) (answer.AliveX 1 0)) ≡ served.Registered → registered_name q registrations ≡ cond (conn == q) (Some info.name) (registered_name q registrations)) [
    | true ↦ λ y. cc
    | false ↦ λ y. cc
  ] g
] refl granted
registers_row conn q _ registrations granted = cc

-- and no other changes the registry
pub refused_same : (conn : ℕ) (r : Request) (registrations : Registrations) → served_as r (answer_for conn r registrations) ≡ served.Answered → registrations_after conn r registrations ≡ registrations
refused_same conn (request.Alive info) registrations denied = elim (is_accepted conn info registrations) as (λ v. served_as (request.Alive info) (cond v (creation_answer info registrations.next) (refusal_answer info)) ≡ served.Answered → cond v (with_registration conn info registrations) registrations ≡ registrations) [
  | false ↦ λ g. refl
  | true ↦ λ g. elim (nat_lt info.highest 6) as (λ v. served_as (request.Alive info) (cond v (answer.Alive 0 (short_creation registrations.next)) (answer.AliveX 0 registrations.next)) ≡ served.Answered → with_registration conn info registrations ≡ registrations) [
    | true ↦ λ y. cc
    | false ↦ λ y. cc
  ] g
] denied
refused_same conn _ registrations denied = refl

module _ {S : Type 0} where
  talked : (name : List ℕ) (o : Option (Client S)) → IsSome o → client_name (option_map (with_talk (Registered name)) o) ≡ Some name
  talked name None some = cc
  talked name (Some client) some = refl

  -- a client stays that registered its node
  pub stand_stays : (name : List ℕ) (r : Request) (registrations next : Registrations) (m n : BTreeMap ℕ (Client S)) (conn : ℕ) → name ≡ name_in r → next ≡ registrations_after conn r registrations → served_as r (answer_for conn r registrations) ≡ served.Registered
      → IsSome (get nat_cmp m conn) → Updates nat_cmp m n conn (option_map (with_talk (Registered name)) (get nat_cmp m conn)) → Stand registrations m → Stand next n
  stand_stays name r registrations next m n conn same e granted some u stand = stand_with registrations next m n conn (option_map (with_talk (Registered name)) (get nat_cmp m conn)) u stand (λ q.
      ap (λ (b : Registrations). registered_name q b) e
      ∙ registers_row conn q r registrations granted
      ∙ ap (λ (o : Option (List ℕ)). cond (conn == q) o (registered_name q registrations)) (ap (λ (l : List ℕ). Some l) (sym same) ∙ sym (talked name (get nat_cmp m conn) some)))

  -- any other client leaves
  pub stand_leaves : (r : Request) (registrations next : Registrations) (m n : BTreeMap ℕ (Client S)) (conn : ℕ) → next ≡ registrations_after conn r registrations → served_as r (answer_for conn r registrations) ≡ served.Answered
      → is_registered (get nat_cmp m conn) ≡ false → Updates nat_cmp m n conn None → Stand registrations m → Stand next n
  stand_leaves r registrations next m n conn e denied was u stand =
      subst (λ (b : Registrations). Stand b n) (sym (e ∙ refused_same conn r registrations denied)) (stand_without registrations m n conn None u refl was stand)

  -- numbers stay below the next one
  pub numbered_with : (next : ℕ) (m n : BTreeMap ℕ (Client S)) (conn : ℕ) (w : Option (Client S)) → Updates nat_cmp m n conn w
      → (is_some w ≡ true → is_some (get nat_cmp m conn) ≡ true) → NumbersBelow next m → NumbersBelow next n
  numbered_with next m n conn w u keeps numbered q s =
      let g : get nat_cmp n q ≡ cond (conn == q) w (get nat_cmp m q) = u.0 q ∙ ap (λ b. cond b w (get nat_cmp m q)) (unsigned_tied conn q) in
      elim (conn == q) as (λ v. (conn == q) ≡ v → is_some (cond v w (get nat_cmp m q)) ≡ true → q < next) [
        | true ↦ λ e h. subst (λ k. k < next) (eqb-true conn q e) (numbered conn (keeps h))
        | false ↦ λ e h. numbered q h
      ] refl (ap (λ (o : Option (Client S)). is_some o) (sym g) ∙ s)
