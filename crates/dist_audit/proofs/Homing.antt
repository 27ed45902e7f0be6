-- A link comes to the node of its line: the connection of its number leads to the incarnation of that node.
use Rattle.dist_audit.proofs.Words.{◌≡◌, ℕ, zero, suc, ◌+◌, Bool, true, false, cond, not, ◌&&◌, ◌||◌, eqb, ltb, List, [], ◌∷◌, ◌++◌, length, is_none, IfSome}
use Rattle.dist_audit.proofs.Words.{slice_get, Some, None, Option, option_map, option_to_list, sym, refl, ap, ◌∙◌, subst, append_assoc, arith, w16, eq-eqb}
use Rattle.dist_audit.proofs.Words.{eqb-true, or_parts, list_any, Creation, first_body, Side, Acceptor, Dialler, EndId, is_dialing, Setup, step, Event}
use Rattle.dist_audit.proofs.Words.{after_delivery, body_taken, change_to, conns_after_saying, says, spoken_on, text_to, at_place, first_where, one_where, run}
use Rattle.dist_audit.proofs.Words.{Conn, Life, Text, World, empty, end_at, row_at, running, runs, runs_for, Happening, if_holds, if_ok, if_there, Closed}
use Rattle.dist_audit.proofs.Words.{AllApply, AreFollowed, AreOfOneWorld, ComeHome, ComesHere, EachLinkComesHome, UnlessOutside, after, is_unopened}
use Rattle.dist_audit.proofs.Words.{links_repeat, repeats, stands_twice, before, begins, own, reach, reach_first, setups_of, with_mentions, NodeLine}
use Rattle.dist_audit.proofs.Words.{acceptor_of, comes, comes_in, conn_of, dialled_end, dialled_in, dialler_of, inner_link, is_among, mention, mentions, opens, opens_in}
use Rattle.dist_audit.proofs.Words.{or_else, target_of}
use Rattle.dist_core.specs.declared.event.Event.TheVariants as event
use Rattle.dist_world_model.specs.Happenings.{accept, begin, deliver, is_outside, notify_opened, notify_outside, take_frame, reach as happening_reach}
use Rattle.dist_world_model.specs.Rows.{most_connections}
use Rattle.dist_world_model.specs.declared.happening.Happening.TheVariants as happening
use Rattle.dist_world_model.proofs.Words.{accepted_by, applied_at, conn_of as wire_number, happens, is_nonempty, is_open_end, life_after, new_conn, next_end}
use Rattle.dist_world_model.proofs.Words.{notify, notify_node, reached_life, ticked_on, without_closing, world_after, EndRow}
use Rattle.dist_audit.proofs.Outside.{unless}
use Rattle.dist_audit.specs.Audit as audit

-- ---- the incarnations that connections lead to

abbrev pub targets : List Conn → List ℕ
targets [] = []
targets (k ∷ ks) = k.target ∷ targets ks

targets-get : (cs : List Conn) (c : ℕ) → option_map (λ k. k.target) (slice_get cs c) ≡ slice_get (targets cs) c
targets-get [] c = refl
targets-get (k ∷ cs) zero = refl
targets-get (k ∷ cs) (suc c) = targets-get cs c

targets-more : (cs : List Conn) (k : Conn) → targets (cs ++ k ∷ []) ≡ targets cs ++ k.target ∷ []
targets-more [] k = refl
targets-more (x ∷ cs) k = ap (λ r. x.target ∷ r) (targets-more cs k)

targets-at : (c : ℕ) (f : Conn → Conn) → ((k : Conn) → (let x = f k in x.target) ≡ k.target) → (cs : List Conn) → targets (at_place c f cs) ≡ targets cs
targets-at c f keeps [] = refl
targets-at zero f keeps (k ∷ cs) = ap (λ n. n ∷ targets cs) (keeps k)
targets-at (suc c) f keeps (k ∷ cs) = ap (λ r. k.target ∷ r) (targets-at c f keeps cs)

says-target : (side : Side) (s : List ℕ) (k : Conn) → (let x = says side s k in x.target) ≡ k.target
says-target Dialler s k = refl
says-target Acceptor s k = refl

change-target : (side : Side) (f : Text → Text) (k : Conn) → (let x = change_to side f k in x.target) ≡ k.target
change-target Dialler f k = refl
change-target Acceptor f k = refl

targets-on : (cs : List Conn) (o : Option ℕ) (side : Side) (s : List ℕ) → targets (spoken_on cs o side s) ≡ targets cs
targets-on cs None side s = refl
targets-on cs (Some c) side s = targets-at c (says side s) (says-target side s) cs

targets-spoken : (cs : List Conn) (o : Option EndRow) (s : List ℕ) → targets (conns_after_saying cs o s) ≡ targets cs
targets-spoken cs None s = refl
targets-spoken cs (Some row) s = targets-on cs row.conn row.side s

-- ---- which incarnations run

first-at : (test : Life → Bool) (p : ℕ) (g : Life → Life) (ls : List Life) (l : Life) → slice_get ls p ≡ Some l → test (g l) ≡ test l → first_where test (at_place p g ls) ≡ first_where test ls
first-at test p g [] l at same = refl
first-at test zero g (x ∷ ls) l at same = let z : l ≡ x = cc in ap (λ b. cond b (Some 0) (option_map suc (first_where test ls))) (subst (λ (y : Life). test (g y) ≡ test y) z same)
first-at test (suc p) g (x ∷ ls) l at same = ap (λ o. cond (test x) (Some 0) (option_map suc o)) (first-at test p g ls l at same)

first-all : (test : Life → Bool) (p : ℕ) (g : Life → Life) → ((l : Life) → test (g l) ≡ test l) → (ls : List Life) → first_where test (at_place p g ls) ≡ first_where test ls
first-all test p g same [] = refl
first-all test zero g same (x ∷ ls) = ap (λ b. cond b (Some 0) (option_map suc (first_where test ls))) (same x)
first-all test (suc p) g same (x ∷ ls) = ap (λ o. cond (test x) (Some 0) (option_map suc o)) (first-all test p g same ls)

-- the same incarnations run, and the connections lead to the same
record SameFrame (w x : World) : Type 0 where
  run_same : (j : ℕ) → running x j ≡ running w j
  lead_same : targets x.conns ≡ targets w.conns

same-refl : (w : World) → SameFrame w w
same-refl w = record { run_same = λ j. refl; lead_same = refl }

module _ (w : World) where
  frame-noted : (i : ℕ) (v : Event) (fresh : ℕ) → IfSome (notify w i v fresh) (SameFrame w)
  frame-noted i v fresh =
      if_there (SameFrame w) (slice_get w.lives i) _ (λ l at.
      if_holds (SameFrame w) (runs l) _ (λ live.
      if_ok (SameFrame w) (step l.node v fresh) _ (λ x is.
      record {
        run_same = λ j. first-at (runs_for j) i (λ old. life_after w.clock v x.0 x.1 l) w.lives l at refl;
        lead_same = targets-spoken w.conns _ (let r = x.0 in r.say);
      })))

  frame-node : (node : ℕ) (v : Event) → IfSome (notify_node w node v) (SameFrame w)
  frame-node node v = if_there (SameFrame w) (running w node) _ (λ i at. frame-noted i v 0)

  frame-opened : (node : ℕ) (id : EndId) → IfSome (notify_opened w node id) (SameFrame w)
  frame-opened node id =
      if_there (SameFrame w) (running w node) _ (λ i at.
      if_there (SameFrame w) (wire_number (row_at w i id.0)) _ (λ c on.
      frame-noted i (event.Opened id c) 0))

  frame-outside : (node : ℕ) (v : Event) (fresh : ℕ) → IfSome (notify_outside w node v fresh) (SameFrame w)
  frame-outside node v fresh =
      if_there (SameFrame w) (running w node) _ (λ i at.
      if_holds (SameFrame w) (is_outside w i v) _ (λ out.
      frame-noted i v fresh))

-- an event given in a world whose connections lead to the same
frame-by : (w v : World) → ((j : ℕ) → running v j ≡ running w j) → targets v.conns ≡ targets w.conns → (o : Option World) → IfSome o (SameFrame v) → IfSome o (SameFrame w)
frame-by w v r t None q = tt
frame-by w v r t (Some x) q = record { run_same = λ j. q.run_same j ∙ r j; lead_same = q.lead_same ∙ t }

module _ (w : World) where
  frame-accepted : (c : ℕ) → IfSome (accept w c) (SameFrame w)
  frame-accepted c =
      if_there (SameFrame w) (slice_get w.conns c) _ (λ x at.
      if_holds (SameFrame w) (is_none x.accepted) _ (λ free.
      let first = next_end (slice_get w.lives x.target) in
      let v : World = record w { conns = at_place c (accepted_by first) w.conns } in
      frame-by w v (λ j. refl) (targets-at c (accepted_by first) (λ k. refl) w.conns) (notify v x.target (event.Incoming c) 0) (frame-noted v x.target (event.Incoming c) 0)))

  frame-deliver : (node : ℕ) (id : EndId) (n : ℕ) → IfSome (deliver w node id n) (SameFrame w)
  frame-deliver node id n =
      if_there (SameFrame w) (running w node) _ (λ i at.
      if_holds (SameFrame w) (is_open_end (end_at w i id.0)) _ (λ open_.
      if_there (SameFrame w) (row_at w i id.0) _ (λ row beside.
      if_there (SameFrame w) row.conn _ (λ c on.
      if_there (SameFrame w) (slice_get w.conns c) _ (λ x there.
      if_holds (SameFrame w) (ltb 0 n && is_nonempty (let t = text_to row.side x in t.said)) _ (λ some.
      record { run_same = λ j. refl; lead_same = targets-at c (change_to row.side (after_delivery n)) (change-target row.side (after_delivery n)) w.conns }))))))

  frame-take : (node : ℕ) (id : EndId) (fresh : ℕ) → IfSome (take_frame w node id fresh) (SameFrame w)
  frame-take node id fresh =
      if_there (SameFrame w) (running w node) _ (λ i at.
      if_there (SameFrame w) (row_at w i id.0) _ (λ row beside.
      if_there (SameFrame w) row.conn _ (λ c on.
      if_there (SameFrame w) (slice_get w.conns c) _ (λ x there.
      if_there (SameFrame w) (let t = text_to row.side x in first_body w16 t.come) _ (λ body first.
      let v : World = record w { conns = at_place c (change_to row.side body_taken) w.conns } in
      frame-by w v (λ j. refl) (targets-at c (change_to row.side body_taken) (change-target row.side body_taken) w.conns) (notify v i (event.Frame id body) fresh) (frame-noted v i (event.Frame id body) fresh))))))

-- ---- happenings

frame-settled : (w : World) (o : Option World) → IfSome o (SameFrame w) → SameFrame w (ticked_on w o)
frame-settled w None q = same-refl w
frame-settled w (Some x) q = record { run_same = q.run_same; lead_same = q.lead_same }

frame-happens : (w : World) (e : Happening) → IfSome (world_after (without_closing w) e) (SameFrame (without_closing w)) → SameFrame w (happens w e)
frame-happens w e q = frame-settled w (applied_at w e) (by (ltb w.clock 4611686018427387904))
  where
    off : (o : Option World) → IfSome o (SameFrame (without_closing w)) → IfSome o (SameFrame w)
    off None k = tt
    off (Some x) k = record { run_same = k.run_same; lead_same = k.lead_same }

    by : (b : Bool) → IfSome (cond b (world_after (without_closing w) e) None) (SameFrame w)
    by true = off (world_after (without_closing w) e) q
    by false = tt

-- a dialled end reaches a running node
record Leads (w x : World) (j : ℕ) : Type 0 where
  place : ℕ
  runs_there : running w j ≡ Some place
  run_same : (k : ℕ) → running x k ≡ running w k
  lead_more : targets x.conns ≡ targets w.conns ++ place ∷ []

leads-reached : (w : World) (node : ℕ) (id : EndId) (j : ℕ) → IfSome (happening_reach w node id j) (λ x. Leads w x j)
leads-reached w node id j = let P : World → Type 0 = λ x. Leads w x j in
    if_there P (running w node) _ (λ p at.
    if_there P (running w j) _ (λ q far.
    if_holds P (is_dialing (end_at w p id.0) && is_none (wire_number (row_at w p id.0)) && ltb (length w.conns) 281474976710656) _ (λ free.
    record {
      place = q;
      runs_there = far;
      run_same = λ k. first-all (runs_for k) p (reached_life id.0 (length w.conns)) (λ l. refl) w.lives;
      lead_more = targets-more w.conns (new_conn p id.0 q);
    })))

leads-settled : (w : World) (j : ℕ) (o : Option World) → IfSome o (λ x. Leads w x j) → one_where o + 0 ≡ 1 → Leads w (ticked_on w o) j
leads-settled w j None q e = absurd (omega (arith, e))
leads-settled w j (Some x) q e = record { place = q.place; runs_there = q.runs_there; run_same = q.run_same; lead_more = q.lead_more }

leads-happens : (w : World) (i : ℕ) (id : EndId) (j : ℕ) → AllApply (happening.Reach i id j ∷ []) w → Leads w (happens w (happening.Reach i id j)) j
leads-happens w i id j a = leads-settled w j (applied_at w (happening.Reach i id j)) (by (ltb w.clock 4611686018427387904)) a
  where
    off : (o : Option World) → IfSome o (λ x. Leads (without_closing w) x j) → IfSome o (λ x. Leads w x j)
    off None k = tt
    off (Some x) k = record { place = k.place; runs_there = k.runs_there; run_same = k.run_same; lead_more = k.lead_more }

    by : (b : Bool) → IfSome (cond b (world_after (without_closing w) (happening.Reach i id j)) None) (λ x. Leads w x j)
    by true = off (world_after (without_closing w) (happening.Reach i id j)) (leads-reached (without_closing w) i id j)
    by false = tt

-- ---- links and connections

-- each link's connection leads to the running incarnation of its node
abbrev Matches : (ℕ → Option ℕ) → (ℕ → ℕ) → List ℕ → List ℕ → Type 0
Matches r home [] [] = Unit {0}
Matches r home [] (p ∷ ps) = ⊥
Matches r home (k ∷ ks) [] = ⊥
Matches r home (k ∷ ks) (p ∷ ps) = (r (home k) ≡ Some p) × Matches r home ks ps

matches-same : (r s : ℕ → Option ℕ) (home : ℕ → ℕ) → ((j : ℕ) → s j ≡ r j) → (ks ps : List ℕ) → Matches r home ks ps → Matches s home ks ps
matches-same r s home e [] [] m = tt
matches-same r s home e [] (p ∷ ps) m = m
matches-same r s home e (k ∷ ks) [] m = m
matches-same r s home e (k ∷ ks) (p ∷ ps) m = (e (home k) ∙ m.0, matches-same r s home e ks ps m.1)

matches-more : (r : ℕ → Option ℕ) (home : ℕ → ℕ) (k p : ℕ) → r (home k) ≡ Some p → (ks ps : List ℕ) → Matches r home ks ps → Matches r home (ks ++ k ∷ []) (ps ++ p ∷ [])
matches-more r home k p e [] [] m = (e, tt)
matches-more r home k p e [] (q ∷ ps) m = absurd m
matches-more r home k p e (j ∷ ks) [] m = absurd m
matches-more r home k p e (j ∷ ks) (q ∷ ps) m = (m.0, matches-more r home k p e ks ps m.1)

-- the connection of a link that was mentioned
matches-at : (r : ℕ → Option ℕ) (home : ℕ → ℕ) (k : ℕ) (ks ps : List ℕ) → is_among k ks ≡ true → Matches r home ks ps → slice_get ps (conn_of k ks) ≡ r (home k)
matches-at r home k [] ps e m = absurd cc
matches-at r home k (j ∷ ks) [] e m = absurd m
matches-at r home k (j ∷ ks) (p ∷ ps) e m = elim (eqb j k) as (λ b. eqb j k ≡ b → (b || is_among k ks) ≡ true → slice_get (p ∷ ps) (cond b 0 (suc (conn_of k ks))) ≡ r (home k)) [
  | true ↦ λ b f. sym m.0 ∙ ap (λ n. r (home n)) (eqb-true j k b)
  | false ↦ λ b f. matches-at r home k ks ps f m.1
] refl e

among-last : (k : ℕ) (ks : List ℕ) → is_among k (ks ++ k ∷ []) ≡ true
among-last k [] = ap (λ b. b || false) (eq-eqb k k refl)
among-last k (j ∷ ks) = elim (eqb j k) as (λ b. (b || is_among k (ks ++ k ∷ [])) ≡ true) [ true ↦ refl | false ↦ among-last k ks ]

among-mention : (k : ℕ) (ks : List ℕ) → is_among k (mention ks (Some k)) ≡ true
among-mention k ks = by (is_among k ks) refl
  where
    by : (b : Bool) → is_among k ks ≡ b → is_among k (cond b ks (ks ++ k ∷ [])) ≡ true
    by true e = e
    by false e = among-last k ks

-- ---- pairs of lines

any-at : (test : NodeLine → Bool) (pre ts : List NodeLine) (t : NodeLine) → test t ≡ true → list_any test (pre ++ t ∷ ts) ≡ true
any-at test [] ts t e = ap (λ b. b || list_any test ts) e
any-at test (x ∷ pre) ts t e = elim (test x) as (λ b. (b || list_any test (pre ++ t ∷ ts)) ≡ true) [ true ↦ refl | false ↦ any-at test pre ts t e ]

abbrev pub HasDialler : List NodeLine → ℕ → Type 0
HasDialler all k = (x : ℕ × EndId) × (dialler_of k all ≡ Some x)

opens-dialled : (k : ℕ) (e : Event) → opens k e ≡ true → dialled_end k e ≡ None → ⊥
opens-dialled k (event.Opened id j) o n = by (eqb j k) o n
  where
    by : (b : Bool) → b ≡ true → cond b (Some id) None ≡ None → ⊥
    by true o n = absurd cc
    by false o n = absurd cc
opens-dialled k (event.Dial p o') o n = absurd cc
opens-dialled k (event.Incoming j) o n = absurd cc
opens-dialled k (event.Frame id body) o n = absurd cc
opens-dialled k (event.Lost id w) o n = absurd cc
opens-dialled k (event.Tick id) o n = absurd cc

has-dialler : (k : ℕ) (ts : List NodeLine) → list_any (opens_in k) ts ≡ true → HasDialler ts k
has-dialler k [] e = absurd cc
has-dialler k (t ∷ ts) e = by (λ h. has-dialler k ts h) (dialled_in k t) refl
  where
    by : (list_any (opens_in k) ts ≡ true → HasDialler ts k) → (o : Option EndId) → dialled_in k t ≡ o → HasDialler (t ∷ ts) k
    by more (Some id) d = ((t.node, id), ap (λ o. or_else t.node o (dialler_of k ts)) d)
    by more None d =
        let rest : HasDialler ts k = more (elim (opens_in k t) as (λ b. opens_in k t ≡ b → (b || list_any (opens_in k) ts) ≡ true → list_any (opens_in k) ts ≡ true) [
          | true ↦ λ h f. absurd (opens-dialled k (let l = t.line in l.event) h d)
          | false ↦ λ h f. f
        ] refl e) in
        (rest.0, ap (λ o. or_else t.node o (dialler_of k ts)) d ∙ rest.1)

-- an event in which this link comes
comes-incoming : (k : ℕ) (e : Event) → comes k e ≡ true → e ≡ event.Incoming k
comes-incoming k (event.Incoming j) o = ap (λ n. event.Incoming n) (eqb-true j k o)
comes-incoming k (event.Dial p o') o = absurd cc
comes-incoming k (event.Opened id j) o = absurd cc
comes-incoming k (event.Frame id body) o = absurd cc
comes-incoming k (event.Lost id w) o = absurd cc
comes-incoming k (event.Tick id) o = absurd cc

acceptor-mine : (k : ℕ) (pre ts : List NodeLine) (t : NodeLine) → stands_twice k (pre ++ t ∷ ts) ≡ false → comes_in k t ≡ true → acceptor_of k (pre ++ t ∷ ts) ≡ Some t.node
acceptor-mine k [] ts t once c = ap (λ b. cond b (Some t.node) (acceptor_of k ts)) c
acceptor-mine k (x ∷ pre) ts t once c = elim (comes_in k x) as (λ b. comes_in k x ≡ b → cond b (Some x.node) (acceptor_of k (pre ++ t ∷ ts)) ≡ Some t.node) [
  | true ↦ λ h.
      let is : (let l = x.line in l.event) ≡ event.Incoming k = comes-incoming k (let l = x.line in l.event) h in
      let rest = pre ++ t ∷ ts in
      let here : (repeats (let l = x.line in l.event) rest && mentions k (let l = x.line in l.event)) ≡ false = (or_parts (repeats (let l = x.line in l.event) rest && mentions k (let l = x.line in l.event)) (stands_twice k rest) once).0 in
      let both : (repeats (event.Incoming k) rest && mentions k (event.Incoming k)) ≡ false = ap (λ e. repeats e rest && mentions k e) (sym is) ∙ here in
      let so : (repeats (event.Incoming k) rest && mentions k (event.Incoming k)) ≡ true = (λ i. any-at (comes_in k) pre ts t c i && eq-eqb k k refl i) in
      absurd (let f : true ≡ false = sym so ∙ both in cc)
  | false ↦ λ h. acceptor-mine k pre ts t (or_parts (repeats (let l = x.line in l.event) (pre ++ t ∷ ts) && mentions k (let l = x.line in l.event)) (stands_twice k (pre ++ t ∷ ts)) once).1 c
] refl

-- ---- a line

abbrev home_of : List NodeLine → ℕ → ℕ → Option (ℕ × EndId) → ℕ
home_of all count k None = 0
home_of all count k (Some x) = target_of count x.0 (acceptor_of k all)

-- the node to which a link leads
abbrev home : List NodeLine → ℕ → ℕ → ℕ
home all count k = home_of all count k (dialler_of k all)

abbrev Goes : List NodeLine → ℕ → World → List ℕ → Type 0
Goes all count w ks = Matches (running w) (home all count) ks (targets w.conns)

abbrev Fine : List NodeLine → ℕ → Event → Type 0
Fine all i (event.Opened id k) = HasDialler all k
Fine all i (event.Incoming k) = HasDialler all k × (acceptor_of k all ≡ Some i)
Fine all i _ = Unit {0}

-- a link that comes has a dialler, and does not stand twice
abbrev pub IsKnown : List NodeLine → Event → Type 0
IsKnown all (event.Incoming k) = HasDialler all k × (stands_twice k all ≡ false)
IsKnown all _ = Unit {0}

-- so in each of these lines that nobody outside did
abbrev pub AllKnown : List NodeLine → List NodeLine → Type 0
AllKnown all [] = Unit {0}
AllKnown all (t ∷ ts) = UnlessOutside t.outside (IsKnown all (let l = t.line in l.event)) × AllKnown all ts

once-stands : (k : ℕ) (ts : List NodeLine) → links_repeat ts ≡ false → stands_twice k ts ≡ false
once-stands k [] e = refl
once-stands k (t ∷ ts) e =
    let l = t.line in
    let p = or_parts (repeats l.event ts) (links_repeat ts) e in
    (λ i. (p.0 i && mentions k l.event) || once-stands k ts p.1 i)

known-event : (all : List NodeLine) → links_repeat all ≡ false → (e : Event) → is_unopened all e ≡ false → IsKnown all e
known-event all once (event.Incoming k) none = (
  has-dialler k all (elim (list_any (opens_in k) all) as (λ b. not b ≡ false → b ≡ true) [ true ↦ λ q. refl | false ↦ λ q. absurd cc ] none),
  once-stands k all once,
)
known-event all once (event.Dial p o) none = tt
known-event all once (event.Opened id k) none = tt
known-event all once (event.Frame id body) none = tt
known-event all once (event.Lost id w) none = tt
known-event all once (event.Tick id) none = tt

-- where links are in pairs
pub all-known : (all ts : List NodeLine) → links_repeat all ≡ false → list_any (λ t. is_unopened all (let l = t.line in l.event)) ts ≡ false → AllKnown all ts
all-known all [] once e = tt
all-known all (t ∷ ts) once e =
    let l = t.line in
    let p = or_parts (is_unopened all l.event) (list_any (λ u. is_unopened all (let m = u.line in m.event)) ts) e in
    (unless t.outside (known-event all once l.event p.0), all-known all ts once p.1)

fine : (all pre ts : List NodeLine) (t : NodeLine) → all ≡ pre ++ t ∷ ts → (e : Event) → (let l = t.line in l.event) ≡ e → IsKnown all e → Fine all t.node e
fine all pre ts t is (event.Opened id k) e known =
    let mine : opens_in k t ≡ true = ap (opens k) e ∙ eq-eqb k k refl in
    has-dialler k all (ap (list_any (opens_in k)) is ∙ any-at (opens_in k) pre ts t mine)
fine all pre ts t is (event.Incoming k) e known =
    let here : comes_in k t ≡ true = ap (comes k) e ∙ eq-eqb k k refl in
    (known.0, ap (acceptor_of k) is ∙ acceptor-mine k pre ts t (ap (stands_twice k) (sym is) ∙ known.1) here)
fine all pre ts t is (event.Dial p o) e known = tt
fine all pre ts t is (event.Frame id body) e known = tt
fine all pre ts t is (event.Lost id w) e known = tt
fine all pre ts t is (event.Tick id) e known = tt

fine-unless : (all pre ts : List NodeLine) (t : NodeLine) → all ≡ pre ++ t ∷ ts → (b : Bool) → UnlessOutside b (IsKnown all (let l = t.line in l.event)) → UnlessOutside b (Fine all t.node (let l = t.line in l.event))
fine-unless all pre ts t is true known = tt
fine-unless all pre ts t is false known = fine all pre ts t is (let l = t.line in l.event) refl known

goes-frame : (all : List NodeLine) (count : ℕ) (w x : World) (ks : List ℕ) → SameFrame w x → Goes all count w ks → Goes all count x ks
goes-frame all count w x ks f g = subst (λ ps. Matches (running x) (home all count) ks ps) (sym f.lead_same) (matches-same (running w) (running x) (home all count) f.run_same ks (targets w.conns) g)

goes-ready : (all : List NodeLine) (count : ℕ) (w : World) (ks : List ℕ) (k : ℕ) (x : ℕ × EndId) → dialler_of k all ≡ Some x → (b : Bool) → Goes all count w ks
    → AllApply (option_to_list (cond b None (reach all count k (Some x)))) w → Goes all count (run (option_to_list (cond b None (reach all count k (Some x)))) w) (cond b ks (ks ++ k ∷ []))
goes-ready all count w ks k x e true g a = g
goes-ready all count w ks k x e false g a =
    let j = target_of count x.0 (acceptor_of k all) in
    let v = happens w (happening.Reach x.0 x.1 j) in
    let l = leads-happens w x.0 x.1 j a in
    let here : running v (home all count k) ≡ Some l.place = l.run_same (home all count k) ∙ (ap (λ o. running w (home_of all count k o)) e ∙ l.runs_there) in
    subst (λ ps. Matches (running v) (home all count) (ks ++ k ∷ []) ps) (sym l.lead_more) (matches-more (running v) (home all count) k l.place here ks (targets w.conns) (matches-same (running w) (running v) (home all count) l.run_same ks (targets w.conns) g))

goes-first : (all : List NodeLine) (count : ℕ) (w : World) (ks : List ℕ) (k : ℕ) → HasDialler all k → Goes all count w ks → AllApply (option_to_list (reach_first all count ks k)) w → Goes all count (run (option_to_list (reach_first all count ks k)) w) (mention ks (Some k))
goes-first all count w ks k d g = subst (λ o. AllApply (option_to_list (cond (is_among k ks) None (reach all count k o))) w → Goes all count (run (option_to_list (cond (is_among k ks) None (reach all count k o))) w) (mention ks (Some k))) (sym d.1) (goes-ready all count w ks k d.0 d.1 (is_among k ks) g)

line-goes : (all : List NodeLine) (count : ℕ) (w : World) (ks : List ℕ) (b : Bool) (i : ℕ) (e : Event) (fresh : ℕ) → UnlessOutside b (Fine all i e) → Goes all count w ks → AllApply (option_to_list (before all count ks b i e)) w
    → UnlessOutside b (ComesHere (run (option_to_list (before all count ks b i e)) w) (mention ks (inner_link b e)) i e)
    × Goes all count (run (own (mention ks (inner_link b e)) b i e fresh ∷ []) (run (option_to_list (before all count ks b i e)) w)) (mention ks (inner_link b e))
line-goes all count w ks true i (event.Dial p o) fresh f g a = (tt, goes-frame all count w _ ks (frame-happens w (happening.Dial i p o) (frame-node (without_closing w) i (event.Dial p o))) g)
line-goes all count w ks true i (event.Opened id k) fresh f g a = (tt, goes-frame all count w _ ks (frame-happens w (happening.Outside i (event.Opened id k) fresh) (frame-outside (without_closing w) i (event.Opened id k) fresh)) g)
line-goes all count w ks true i (event.Incoming k) fresh f g a = (tt, goes-frame all count w _ ks (frame-happens w (happening.Outside i (event.Incoming most_connections) fresh) (frame-outside (without_closing w) i (event.Incoming most_connections) fresh)) g)
line-goes all count w ks true i (event.Frame id body) fresh f g a = (tt, goes-frame all count w _ ks (frame-happens w (happening.Outside i (event.Frame id body) fresh) (frame-outside (without_closing w) i (event.Frame id body) fresh)) g)
line-goes all count w ks true i (event.Lost id y) fresh f g a = (tt, goes-frame all count w _ ks (frame-happens w (happening.Lose i id y) (frame-node (without_closing w) i (event.Lost id y))) g)
line-goes all count w ks true i (event.Tick id) fresh f g a = (tt, goes-frame all count w _ ks (frame-happens w (happening.Tick i id) (frame-node (without_closing w) i (event.Tick id))) g)
line-goes all count w ks false i (event.Dial p o) fresh f g a = (tt, goes-frame all count w _ ks (frame-happens w (happening.Dial i p o) (frame-node (without_closing w) i (event.Dial p o))) g)
line-goes all count w ks false i (event.Opened id k) fresh f g a =
    let x = run (option_to_list (reach_first all count ks k)) w in
    let q : Goes all count x (mention ks (Some k)) = goes-first all count w ks k f g a in
    (tt, goes-frame all count x _ (mention ks (Some k)) (frame-happens x (happening.Opened i id) (frame-opened (without_closing x) i id)) q)
line-goes all count w ks false i (event.Incoming k) fresh f g a =
    let x = run (option_to_list (reach_first all count ks k)) w in
    let js = mention ks (Some k) in
    let q : Goes all count x js = goes-first all count w ks k f.0 g a in
    let d = f.0 in
    let mine : home all count k ≡ i = ap (home_of all count k) d.1 ∙ ap (target_of count (let y = d.0 in y.0)) f.1 in (
      targets-get x.conns (conn_of k js) ∙ (matches-at (running x) (home all count) k js (targets x.conns) (among-mention k ks) q ∙ ap (running x) mine),
      goes-frame all count x _ js (frame-happens x (happening.Accept (conn_of k js)) (frame-accepted (without_closing x) (conn_of k js))) q,
    )
line-goes all count w ks false i (event.Frame id body) fresh f g a =
    let x = happens w (happening.Deliver i id (2 + length body)) in
    let s : SameFrame w x = frame-happens w (happening.Deliver i id (2 + length body)) (frame-deliver (without_closing w) i id (2 + length body)) in
    (tt, goes-frame all count x _ ks (frame-happens x (happening.Take i id fresh) (frame-take (without_closing x) i id fresh)) (goes-frame all count w x ks s g))
line-goes all count w ks false i (event.Lost id y) fresh f g a = (tt, goes-frame all count w _ ks (frame-happens w (happening.Lose i id y) (frame-node (without_closing w) i (event.Lost id y))) g)
line-goes all count w ks false i (event.Tick id) fresh f g a = (tt, goes-frame all count w _ ks (frame-happens w (happening.Tick i id) (frame-node (without_closing w) i (event.Tick id))) g)

-- ---- ALL LINES

come-home : (all : List NodeLine) (count : ℕ) (ks : List ℕ) (w : World) (pre ts : List NodeLine) → all ≡ pre ++ ts → AllKnown all ts → Goes all count w ks → AreFollowed all count ks w ts → ComeHome all count ks w ts
come-home all count ks w pre [] is known g f = tt
come-home all count ks w pre (t ∷ ts) is known g f =
    let h = f.0 in
    let l = t.line in
    let x = line-goes all count w ks t.outside t.node l.event l.fresh (fine-unless all pre ts t is t.outside known.0) g h.before in
    (x.0, come-home all count (with_mentions ks t) (after all count ks w t) (pre ++ t ∷ []) ts (is ∙ sym (append_assoc pre (t ∷ []) ts)) known.1 x.1 f.1)

same-conns : (w : World) (i : ℕ) (c : Creation) → IfSome (begin w i c) (λ x. x.conns ≡ w.conns)
same-conns w i c = let P : World → Type 0 = λ x. x.conns ≡ w.conns in
    if_there P (slice_get w.setups i) _ (λ s at.
    if_holds P (is_none (running w i)) _ (λ free.
    if_holds P (ltb (length w.lives) 281474976710656) _ (λ few.
    refl)))

conns-settled : (w : World) (o : Option World) → IfSome o (λ x. x.conns ≡ w.conns) → (let y = ticked_on w o in y.conns) ≡ w.conns
conns-settled w None q = refl
conns-settled w (Some x) q = q

conns-begins : (w : World) (i : ℕ) (ss : List Setup) → (let x = run (begins i ss) w in x.conns) ≡ w.conns
conns-begins w i [] = refl
conns-begins w i (s ∷ ss) =
    let e = happening.Begin i s.creation in
    let one : (let y = happens w e in y.conns) ≡ w.conns = conns-settled w (applied_at w e) (by (ltb w.clock 4611686018427387904)) in
    conns-begins (happens w (happening.Begin i s.creation)) (suc i) ss ∙ one
  where
    by : (b : Bool) → IfSome (cond b (world_after (without_closing w) (happening.Begin i s.creation)) None) (λ x. x.conns ≡ w.conns)
    by true = same-conns (without_closing w) i s.creation
    by false = tt

-- in histories of one world each link comes to the node of its line
pub all-come-home : (cs : List Closed) (all : List NodeLine) → AllKnown all all → AreOfOneWorld cs all → EachLinkComesHome cs all
all-come-home cs all known f =
    let none : targets (let x = audit.world_before_lines cs in x.conns) ≡ [] = ap targets (conns-begins (empty (setups_of cs)) 0 (setups_of cs)) in
    come-home all (length cs) [] (audit.world_before_lines cs) [] all refl known (subst (λ ps. Matches (running (audit.world_before_lines cs)) (home all (length cs)) [] ps) (sym none) tt) f.followed
