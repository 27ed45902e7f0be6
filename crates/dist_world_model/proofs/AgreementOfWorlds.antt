-- THE AGREEMENT OF EVERY WORLD.
use Rattle.dist_world_model.proofs.Words.{◌≡◌, ℕ, true, ◌≢◌, ◌⊎◌, List, slice_get, Some, Option, sym, refl, ap, ◌∙◌, subst, inl, inr, same_text, common, Side}
use Rattle.dist_world_model.proofs.Words.{End, UpRecord, announced_by, own_digest, Setup, Agreement, AllFit, AreAgreed, AreSetups, IsAgreed, IsUp, Joins}
use Rattle.dist_world_model.proofs.Words.{AllLives, OwnDigests, NodeLaws, EndRow, run, Conn, Life, World, empty, row_of_life, runs, Happening}
use Rattle.dist_world_model.proofs.{Digests.digest_lives, EndPairs.IsOpen, EndPairs.Seat, PastMoments.past-some, WholeFrames.joined}
use Rattle.dist_world_model.proofs.Lookups.{decide, end_in, far, row_in, voice_in, voice_of}
use Rattle.dist_world_model.proofs.{OneConnection.both-dialled, OneConnection.each-accepted, OneConnection.each-dialled, WorldFacts.IsKept, WorldFacts.kept}
use Rattle.dist_world_model.proofs.UpEnds.{LineOf, On_accepted, On_dialled, Sits, Stands_on, announced-is, conn-is, end-is, is-open, peer-is, rose-is}
use Rattle.dist_world_model.proofs.UpEnds.{running-is, setup-is, sits-life, sits-row, stands-on}
use Rattle.dist_world_model.proofs.Wires.{Noted, NotedAt, Voice, marks_of, voice}
use Rattle.std.proofs.lemmas.Nat.{and_comm}
use Rattle.dist_core_ends.specs.declared.known.End.TheVariants as ends

module _ (laws : NodeLaws) where
  module _ (w : World) (h : IsKept w) where
    -- ---- who stands at the other side

    name-of : (i j : ℕ) (l m : Life) → slice_get w.lives i ≡ Some l → slice_get w.lives j ≡ Some m → l.who ≡ m.who → l.node.setup.name ≡ m.node.setup.name
    name-of i j l m al am e =
        let o = h.owns i l al in let q = h.owns j m am in
        let z : Some o.setup ≡ Some q.setup = sym o.there ∙ ap (slice_get w.setups) e ∙ q.there in
        let s : o.setup ≡ q.setup = cc in
        o.name ∙ ap (λ (s : Setup). s.name) s ∙ sym q.name

    -- the incarnation whose name is that of node b is one of b
    who-by : (i b : ℕ) (l : Life) (s : Setup) → slice_get w.lives i ≡ Some l → slice_get w.setups b ≡ Some s → l.node.setup.name ≡ s.name → l.who ≡ b
    who-by i b l s al ab e = let o = h.owns i l al in let k = h.setups in k.distinct l.who b o.setup s o.there ab (sym o.name ∙ e)

    -- an incarnation of node a has a's name
    name-by : (i a : ℕ) (l : Life) (s : Setup) → slice_get w.lives i ≡ Some l → slice_get w.setups a ≡ Some s → l.who ≡ a → l.node.setup.name ≡ s.name
    name-by i a l s al aa e =
        let o = h.owns i l al in
        let z : Some o.setup ≡ Some s = sym o.there ∙ ap (slice_get w.setups) e ∙ aa in
        let q : o.setup ≡ s = cc in
        o.name ∙ ap (λ (r : Setup). r.name) q

    module _ {a b c : ℕ} (x : IsUp w a b c) where
      sits-who : {side : Side} {d : ℕ} (s : Seat w side d) → (Sits laws w h) x s → s.life.who ≡ a
      sits-who s g = ap (λ (l : Life). l.who) ((sits-life laws w h) x s g) ∙ (let r = (running-is laws w h) x in r.0)

      sits-runs : {side : Side} {d : ℕ} (s : Seat w side d) → (Sits laws w h) x s → runs s.life ≡ true
      sits-runs s g = ap runs ((sits-life laws w h) x s g) ∙ (let r = (running-is laws w h) x in r.1)

      sits-open : {side : Side} {d : ℕ} (s : Seat w side d) → (Sits laws w h) x s → IsOpen s.row
      sits-open s g = let o = (is-open laws w h) x in let e = (sits-row laws w h) x s g in record { doomed = ap (λ (r : EndRow). r.doomed) e ∙ o.doomed; closed = ap (λ (r : EndRow). r.closed) e ∙ o.closed }

      sits-rose : {side : Side} {d : ℕ} (s : Seat w side d) → (Sits laws w h) x s → (u : ℕ) × (s.row.rose ≡ Some u)
      sits-rose s g = let u = (rose-is laws w h) x in (u.0, ap (λ (r : EndRow). r.rose) ((sits-row laws w h) x s g) ∙ u.1)

      sits-peer : {side : Side} {d : ℕ} (s : Seat w side d) → (Sits laws w h) x s → s.row.peer ≡ Some x.other.name
      sits-peer s g = ap (λ (r : EndRow). r.peer) ((sits-row laws w h) x s g) ∙ (peer-is laws w h) x ∙ ap Some x.peer

      -- the other end belongs to node b
      far-who : {sa sb : Side} {d : ℕ} (s : Seat w sa d) (t : Seat w sb d) → (Sits laws w h) x s → s.row.peer ≡ Some t.life.node.setup.name → t.life.who ≡ b
      far-who s t g e = let z : Some t.life.node.setup.name ≡ Some x.other.name = sym e ∙ sits-peer s g in who-by t.place b t.life x.other t.at_ x.named cc

    seat-name : {sa sb : Side} {c d : ℕ} (s : Seat w sa c) (t : Seat w sb d) → s.life.who ≡ t.life.who → s.life.node.setup.name ≡ t.life.node.setup.name
    seat-name s t e = name-of s.place t.place s.life t.life s.at_ t.at_ e

    -- an end that is up on a line came up after the accepted one
    dialled-rose : {c : ℕ} (k : Conn) (ak : slice_get w.conns c ≡ Some k) (g : (LineOf laws w h) c k) (u : ℕ) → g.line.dialled.row.rose ≡ Some u → (v : ℕ) × (g.line.accepted.row.rose ≡ Some v)
    dialled-rose {c} k ak g u e =
        let L = g.line in let X = L.dialled in let Y = L.accepted in
        let wi = h.wired.1 c k ak in
        let x = wi.0 _ _ (ap (voice_in w.lives) (sym g.life_is) ∙ ap voice_of X.at_) (ap (voice_in w.lives) (sym g.target_is) ∙ ap voice_of Y.at_) in
        let near : row_in w.lives k.life k.dialler ≡ Some X.row = (λ n. row_in w.lives (let i = g.life_is in sym i n) (let i = g.id_is in sym i n)) ∙ ap (λ o. row_of_life o X.id) X.at_ ∙ X.there in
        let away : far (row_in w.lives k.target) k.accepted ≡ Some Y.row = ap (far (row_in w.lives k.target)) g.accepted_is ∙ ap (λ j. row_in w.lives j Y.id) (sym g.target_is) ∙ ap (λ o. row_of_life o Y.id) Y.at_ ∙ Y.there in
        let p = x.follows.1 u (ap (λ o. (marks_of o).rose) near ∙ e) in
        let q = past-some u (marks_of (far (row_in w.lives k.target) k.accepted)).rose p in
        (q.0, ap (λ o. (marks_of o).rose) (sym away) ∙ q.1)

    -- ---- ONE CONNECTION

    module _ (a b c d : ℕ) (x : IsUp w a b c) (y : IsUp w b a d) where
      one-conn : c ≢ d → (k m : Conn) → slice_get w.conns c ≡ Some k → slice_get w.conns d ≡ Some m → (Stands_on laws w h) x k → (Stands_on laws w h) y m → ⊥
      one-conn n k m ak am (On_dialled p i g s) (On_accepted q j f t) =
          let L = g.line in let M = f.line in
          let X = L.dialled in let Y = L.accepted in let Z = M.dialled in let V = M.accepted in
          let yb = far-who x X Y s L.peer_back in
          let za = far-who y V Z t M.peer_there in
          let u = sits-rose x X s in
          let v = dialled-rose k ak g u.0 u.1 in
          (both-dialled laws) w h n L M (za ∙ sym (sits-who x X s)) (yb ∙ sym (sits-who y V t)) _ _ L.peer_back (M.peer_back ∙ ap Some (seat-name V Y (sits-who y V t ∙ sym yb))) L.peer_there (M.peer_there ∙ ap Some (seat-name Z X (za ∙ sym (sits-who x X s))))
          (sits-runs x X s) (sits-open x X s) (sits-runs y V t) (sits-open y V t) v.0 v.1
      one-conn n k m ak am (On_accepted p i g s) (On_dialled q j f t) =
          let L = g.line in let M = f.line in
          let X = L.dialled in let Y = L.accepted in let Z = M.dialled in let V = M.accepted in
          let xb = far-who x Y X s L.peer_there in
          let va = far-who y Z V t M.peer_back in
          let u = sits-rose y Z t in
          let v = dialled-rose m am f u.0 u.1 in
          (both-dialled laws) w h (λ e. n (sym e)) M L (xb ∙ sym (sits-who y Z t)) (va ∙ sym (sits-who x Y s)) _ _ M.peer_back (L.peer_back ∙ ap Some (seat-name Y V (sits-who x Y s ∙ sym va))) M.peer_there (L.peer_there ∙ ap Some (seat-name X Z (xb ∙ sym (sits-who y Z t))))
          (sits-runs y Z t) (sits-open y Z t) (sits-runs x Y s) (sits-open x Y s) v.0 v.1
      one-conn n k m ak am (On_dialled p i g s) (On_dialled q j f t) =
          let L = g.line in let M = f.line in
          let X = L.dialled in let Y = L.accepted in let Z = M.dialled in let V = M.accepted in
          let yb = far-who x X Y s L.peer_back in
          let va = far-who y Z V t M.peer_back in
          let u = sits-rose x X s in let u' = dialled-rose k ak g u.0 u.1 in
          let v = sits-rose y Z t in let v' = dialled-rose m am f v.0 v.1 in
          (each-dialled laws) w h n L M (va ∙ sym (sits-who x X s)) (yb ∙ sym (sits-who y Z t)) _ _ L.peer_back (M.peer_there ∙ ap Some (seat-name Z Y (sits-who y Z t ∙ sym yb))) M.peer_back (L.peer_there ∙ ap Some (seat-name X V (sits-who x X s ∙ sym va)))
          (sits-runs x X s) (sits-open x X s) (sits-runs y Z t) (sits-open y Z t) u'.0 v'.0 u'.1 v'.1
      one-conn n k m ak am (On_accepted p i g s) (On_accepted q j f t) =
          let L = g.line in let M = f.line in
          let X = L.dialled in let Y = L.accepted in let Z = M.dialled in let V = M.accepted in
          let xb = far-who x Y X s L.peer_there in
          let za = far-who y V Z t M.peer_there in
          (each-accepted laws) w h n L M (za ∙ sym (sits-who x Y s)) (xb ∙ sym (sits-who y V t)) _ _ L.peer_there (M.peer_back ∙ ap Some (seat-name V X (sits-who y V t ∙ sym xb))) M.peer_there (L.peer_back ∙ ap Some (seat-name Y Z (sits-who x Y s ∙ sym za)))
          (sits-runs x Y s) (sits-open x Y s) (sits-runs y V t) (sits-open y V t)

      same-place : x.place ≡ y.place → a ≡ b
      same-place e =
          let z : Some x.life ≡ Some y.life = sym x.lives ∙ ap (slice_get w.lives) e ∙ y.lives in
          let l : x.life ≡ y.life = cc in
          sym (let r = (running-is laws w h) x in r.0) ∙ ap (λ (l : Life). l.who) l ∙ (let r = (running-is laws w h) y in r.0)

      module _ (digests : AllLives OwnDigests w) (other : a ≢ b) where
        digest-x : x.kept.digest_received ≡ own_digest x.life.node.setup x.kept.peer x.kept.challenge
        digest-x = same_text _ _ (sym (digests x.place x.life x.lives x.id x.kept x.is_up))

        digest-y : y.kept.digest_received ≡ own_digest y.life.node.setup y.kept.peer y.kept.challenge
        digest-y = same_text _ _ (sym (digests y.place y.life y.lives y.id y.kept y.is_up))

        abbrev sx : Setup
        sx = x.life.node.setup

        abbrev sy : Setup
        sy = y.life.node.setup

        agreed-by : (own away : Setup) (kept : UpRecord) → Noted (voice own) (voice away) (ends.Up kept) → kept.digest_received ≡ own_digest own kept.peer kept.challenge → IsAgreed own away kept
        agreed-by own away kept n e = record { flags = n.0 ∙ (λ i. common (announced-is own i) (announced-is away i)); creation = n.1; digest = e }

        shared-by : Noted (voice sx) (voice sy) (ends.Up x.kept) → Noted (voice sy) (voice sx) (ends.Up y.kept) → x.kept.common.0 ≡ y.kept.common.0
        shared-by n m = n.0 ∙ and_comm (announced_by sx) (announced_by sy) ∙ sym m.0

        name-x : x.life.node.setup.name ≡ y.other.name
        name-x = name-by x.place a x.life y.other x.lives y.named (let r = (running-is laws w h) x in r.0)

        name-y : y.life.node.setup.name ≡ x.other.name
        name-y = name-by y.place b y.life x.other y.lives x.named (let r = (running-is laws w h) y in r.0)

        agreed : c ≡ d → (k : Conn) → slice_get w.conns c ≡ Some k → Joins k x.place x.id y.place y.id ⊎ Joins k y.place y.id x.place x.id → Noted (voice sx) (voice sy) (ends.Up x.kept) → Noted (voice sy) (voice sx) (ends.Up y.kept) → AreAgreed w a b c d x y
        agreed e k ak joined nx ny = record { same = e; conn = k; there = ak; joined = joined; name_a = name-x; name_b = name-y; at_a = agreed-by sx sy x.kept nx digest-x; at_b = agreed-by sy sx y.kept ny digest-y; shared = shared-by nx ny }

        up-noted : (own other : Voice) (kept : UpRecord) (o : Option End) → o ≡ Some (ends.Up kept) → NotedAt own other o → Noted own other (ends.Up kept)
        up-noted own other kept o e n = subst (NotedAt own other) e n

        -- a dialled, and b accepted
        forth : c ≡ d → (k : Conn) → slice_get w.conns c ≡ Some k → x.place ≡ k.life → x.id ≡ k.dialler → y.place ≡ k.target → k.accepted ≡ Some y.id → AreAgreed w a b c d x y
        forth e k ak p i q j =
            let wi = h.wired.1 c k ak in
            let vx = setup-is laws w h x k.life p in let vy = setup-is laws w h y k.target q in
            let nx = wi.0 (voice sx) (voice sy) vx vy in let ny = wi.1 (voice sy) (voice sx) vy vx in
            agreed e k ak (inl (record { life = sym p; dialler = sym i; target = sym q; accepted = j }))
            (up-noted (voice sx) (voice sy) x.kept _ (end-is laws w h x k.life k.dialler p i) nx.noted)
            (up-noted (voice sy) (voice sx) y.kept _ (ap (far (end_in w.lives k.target)) j ∙ end-is laws w h y k.target y.id q refl) ny.noted)

        -- b dialled, and a accepted
        back : c ≡ d → (k : Conn) → slice_get w.conns c ≡ Some k → y.place ≡ k.life → y.id ≡ k.dialler → x.place ≡ k.target → k.accepted ≡ Some x.id → AreAgreed w a b c d x y
        back e k ak p i q j =
            let wi = h.wired.1 c k ak in
            let vy = setup-is laws w h y k.life p in let vx = setup-is laws w h x k.target q in
            let ny = wi.0 (voice sy) (voice sx) vy vx in let nx = wi.1 (voice sx) (voice sy) vx vy in
            agreed e k ak (inr (record { life = sym p; dialler = sym i; target = sym q; accepted = j }))
            (up-noted (voice sx) (voice sy) x.kept _ (ap (far (end_in w.lives k.target)) j ∙ end-is laws w h x k.target x.id q refl) nx.noted)
            (up-noted (voice sy) (voice sx) y.kept _ (end-is laws w h y k.life k.dialler p i) ny.noted)

        on-one : c ≡ d → (k m : Conn) → slice_get w.conns c ≡ Some k → slice_get w.conns d ≡ Some m → (Stands_on laws w h) x k → (Stands_on laws w h) y m → AreAgreed w a b c d x y
        on-one e k m ak am s t = by (same k m (let z : Some k ≡ Some m = sym ak ∙ ap (slice_get w.conns) e ∙ am in cc)) s t
          where
            same : (k m : Conn) → k ≡ m → k ≡ m
            same k m e = e

            by : k ≡ m → (Stands_on laws w h) x k → (Stands_on laws w h) y m → AreAgreed w a b c d x y
            by z (On_dialled p i g s) (On_accepted q j f t) = forth e k ak p i (q ∙ ap (λ (k : Conn). k.target) (sym z)) (ap (λ (k : Conn). k.accepted) z ∙ j)
            by z (On_accepted p i g s) (On_dialled q j f t) = back e k ak (q ∙ ap (λ (k : Conn). k.life) (sym z)) (j ∙ ap (λ (k : Conn). k.dialler) (sym z)) p i
            by z (On_dialled p i g s) (On_dialled q j f t) = absurd (other (same-place (p ∙ ap (λ (k : Conn). k.life) z ∙ sym q)))
            by z (On_accepted p i g s) (On_accepted q j f t) = absurd (other (same-place (p ∙ ap (λ (k : Conn). k.target) z ∙ sym q)))

        agree : AreAgreed w a b c d x y
        agree =
            let kx = (conn-is laws w h) x in let ky = (conn-is laws w h) y in
            let sx' = (stands-on laws w h) x kx.conn kx.there kx.is_end in
            let sy' = (stands-on laws w h) y ky.conn ky.there ky.is_end in
            decide (AreAgreed w a b c d x y) c d (λ e. on-one e kx.conn ky.conn kx.there ky.there sx' sy') (λ n. absurd (one-conn n kx.conn ky.conn kx.there ky.there sx' sy'))

  -- THE AGREEMENT
  pub agreement_holds : (ss : List Setup) (hs : List Happening) → AreSetups ss → AllFit hs → Agreement (run hs (empty ss))
  agreement_holds ss hs ok fit a b c d n x y = agree (run hs (empty ss)) (kept laws ss hs ok fit) a b c d x y (digest_lives laws ss hs) n
