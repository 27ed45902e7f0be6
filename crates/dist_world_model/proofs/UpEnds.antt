-- An end that counts its peer as up: its connection, and the record that it keeps.
use Rattle.dist_world_model.proofs.Words.{◌≡◌, ℕ, true, false, not, is_some, slice_get, Some, None, Option, sym, refl, ap, ◌∙◌, subst, false≢true, Side}
use Rattle.dist_world_model.proofs.Words.{Acceptor, Dialler, End, announced_in, Setup, IsUp, NodeLaws, EndRow, past, Conn, Life, World, end_of_life}
use Rattle.dist_world_model.proofs.Words.{row_of_life, runs}
use Rattle.dist_world_model.proofs.ConnectionRows.{ConnOf, IsEndOf, RowOf, end_of, row_of}
use Rattle.dist_world_model.proofs.{EndPairs.IsOpen, EndPairs.Line, EndPairs.Seat, HappeningEffects.is-running, PastMoments.past-is, PastMoments.past-some}
use Rattle.dist_world_model.proofs.{EndStates.Beside, EndStates.Fits, EndStates.Stand, EndStates.is_dialler, EndStates.open-row, WholeFrames.on_way}
use Rattle.dist_world_model.proofs.Lookups.{end_in, far, life-there, row_in, voice-there, voice_in, voice_of}
use Rattle.dist_world_model.proofs.{Wires.IsEnd, Wires.Voice, Wires.marks_of, Wires.peer_of, Wires.voice, WithEvent.up-open, WorldFacts.IsKept}
use Rattle.dist_core_ends.specs.declared.known.End.TheVariants as ends
use Rattle.dist_core_setup.specs.Rules.{announced_by}

pub announced-is : (s : Setup) → announced_by s ≡ announced_in s.version s.flags.0
unfolding announced_by
announced-is s = refl

is-some : (o : Option ℕ) → is_some o ≡ true → (n : ℕ) × (o ≡ Some n)
is-some None h = absurd (false≢true h)
is-some (Some n) h = (n, refl)

one-some : (o : Option ℕ) (i j : ℕ) → o ≡ Some i → o ≡ Some j → i ≡ j
one-some o i j a b = let z : Some i ≡ Some j = sym a ∙ b in cc

module _ (laws : NodeLaws) where
  module _ (w : World) (h : IsKept w) where
    -- ---- the line of a connection on which a reply was sent

    pub record LineOf (c : ℕ) (k : Conn) : Type 0 where
      pub line : Line w c
      pub life_is : line.dialled.place ≡ k.life
      pub id_is : line.dialled.id ≡ k.dialler
      pub target_is : line.accepted.place ≡ k.target
      pub accepted_is : k.accepted ≡ Some line.accepted.id

    line-of : (c : ℕ) (k : Conn) → slice_get w.conns c ≡ Some k → (r : ℕ) → (marks_of (row_in w.lives k.life k.dialler)).replied ≡ Some r → LineOf c k
    line-of c k ak r e = by k.accepted refl (near.follows.0 r e)
      where
        d : RowOf w.lives Dialler k.life k.dialler c
        d = h.wired.0.dialled c k ak

        li : (l : Life) × (slice_get w.lives k.life ≡ Some l) × (slice_get l.rows k.dialler ≡ Some d.row)
        li = let g = d in life-there w.lives k.life k.dialler g.row g.there

        target : (m : Voice) × (voice_in w.lives k.target ≡ Some m)
        target = h.wired.0.target c k ak

        lj : (l : Life) × (slice_get w.lives k.target ≡ Some l) × (voice l.node.setup ≡ target.0)
        lj = let g = target in voice-there w.lives k.target g.0 g.1

        near : IsEnd Dialler (voice li.0.node.setup) (voice lj.0.node.setup) (on_way k.there) (row_of w.lives Dialler k) (row_of w.lives Acceptor k) (end_of w.lives Dialler k)
        near = let g = h.wired.1 c k ak in g.0 _ _ (ap voice_of li.1) (ap voice_of lj.1)

        away-end : IsEnd Acceptor (voice lj.0.node.setup) (voice li.0.node.setup) (on_way k.back) (row_of w.lives Acceptor k) (row_of w.lives Dialler k) (end_of w.lives Acceptor k)
        away-end = let g = h.wired.1 c k ak in g.1 _ _ (ap voice_of lj.1) (ap voice_of li.1)

        by : (o : Option ℕ) → k.accepted ≡ o → past r (marks_of (far (row_in w.lives k.target) k.accepted)).named ≡ true → LineOf c k
        by None a p = absurd (false≢true (ap (λ o. past r (marks_of (far (row_in w.lives k.target) o)).named) (sym a) ∙ p))
        by (Some y) a p =
            let q : RowOf w.lives Acceptor k.target y c = (h.wired.0.accepted c y k ak a) in
            let far-is : far (row_in w.lives k.target) k.accepted ≡ Some q.row = ap (far (row_in w.lives k.target)) a ∙ q.there in
            let p' : past r q.row.named ≡ true = ap (λ o. past r (marks_of o).named) (sym far-is) ∙ p in
            let nm = past-some r q.row.named p' in
            let gi = li in let gj = lj in let gd = d in
            let at-near : row_in w.lives k.life k.dialler ≡ Some gd.row = gd.there in
            record {
              line = record {
                dialled = record { place = k.life; id = k.dialler; life = gi.0; row = gd.row; at_ = gi.1; there = gi.2; side_is = gd.side_is; conn = gd.conn };
                accepted = record { place = k.target; id = y; life = gj.0; row = q.row; at_ = gj.1; there = ap (λ o. row_of_life o y) (sym gj.1) ∙ q.there; side_is = q.side_is; conn = q.conn };
                named = nm.0;
                replied = r;
                named_is = nm.1;
                replied_is = ap (λ o. (marks_of o).replied) (sym at-near) ∙ e;
                first = nm.2;
                rises = λ u ro. past-is u r (ap (past u) (sym e) ∙ away-end.follows u (ap (λ o. (marks_of o).rose) far-is ∙ ro));
                peer_back = ap peer_of (sym at-near) ∙ near.peer (ap is_some e);
                peer_there = ap peer_of (sym far-is) ∙ away-end.peer (ap (λ o. is_some (marks_of o).named) far-is ∙ ap is_some nm.1);
              };
              life_is = refl;
              id_is = refl;
              target_is = refl;
              accepted_is = a;
            }

    -- ---- an end that is up

    module _ {a b c : ℕ} (x : IsUp w a b c) where
      abbrev own : Life
      own = x.life

      pub running-is : (own.who ≡ a) × (runs own ≡ true)
      running-is = is-running w a x.place x.life x.runs x.lives

      fits : Fits (ends.Up x.kept) x.row
      fits =
          let s = h.seen x.place x.life x.lives in let l = s.0 in
          let b : Beside (slice_get own.node.ends x.id) (slice_get own.rows x.id) = (let r = running-is in l.beside r.1 x.id) in
          let P : Option End → Option EndRow → Type 0 = λ o q. Beside o q in
          subst (P (Some (ends.Up x.kept))) x.beside (subst (λ o. P o (slice_get own.rows x.id)) x.is_up b)

      pub is-open : IsOpen x.row
      is-open = let g = up-open x.kept x.row fits in record { doomed = g.0; closed = g.1 }

      stand-is : ◌≡◌ {A = Stand} (record { side = x.row.side; peer = Some x.kept.peer; named = not (is_dialler x.row.side); doomed = false; replied = is_dialler x.row.side; rose = true }) (record { side = x.row.side; peer = x.row.peer; named = is_some x.row.named; doomed = is_some x.row.doomed; replied = is_some x.row.replied; rose = is_some x.row.rose })
      stand-is = let g = open-row _ x.row fits in g.1

      pub peer-is : x.row.peer ≡ Some x.kept.peer
      peer-is = sym (ap (λ (s : Stand). s.peer) stand-is)

      pub rose-is : (u : ℕ) × (x.row.rose ≡ Some u)
      rose-is = is-some x.row.rose (sym (ap (λ (s : Stand). s.rose) stand-is))

      pub conn-is : ConnOf w.conns x.row.side x.place x.id c
      conn-is = h.wired.0.only x.place x.id c x.row (ap (λ o. row_of_life o x.id) x.lives ∙ x.beside) x.on

      row-is : (j p : ℕ) → x.place ≡ j → x.id ≡ p → row_in w.lives j p ≡ Some x.row
      row-is j p e q = (λ n. row_in w.lives (sym e n) (sym q n)) ∙ ap (λ o. row_of_life o x.id) x.lives ∙ x.beside

      pub end-is : (j p : ℕ) → x.place ≡ j → x.id ≡ p → end_in w.lives j p ≡ Some (ends.Up x.kept)
      end-is j p e q = (λ n. end_in w.lives (sym e n) (sym q n)) ∙ ap (λ o. end_of_life o x.id) x.lives ∙ x.is_up

      pub setup-is : (j : ℕ) → x.place ≡ j → voice_in w.lives j ≡ Some (voice own.node.setup)
      setup-is j e = ap (voice_in w.lives) (sym e) ∙ ap voice_of x.lives

      -- the seat of this end
      pub record Sits {side : Side} {d : ℕ} (s : Seat w side d) : Type 0 where
        pub place_is : s.place ≡ x.place
        pub id_is : s.id ≡ x.id

      pub sits-life : {side : Side} {d : ℕ} (s : Seat w side d) → Sits s → s.life ≡ x.life
      sits-life s g = let e : Some s.life ≡ Some x.life = sym s.at_ ∙ ap (slice_get w.lives) g.place_is ∙ x.lives in cc

      pub sits-row : {side : Side} {d : ℕ} (s : Seat w side d) → Sits s → s.row ≡ x.row
      sits-row s g = let e : Some s.row ≡ Some x.row = sym s.there ∙ (λ n. let l = sits-life s g n in slice_get l.rows (let i = g.id_is in i n)) ∙ x.beside in cc

      -- WHERE THE END STANDS on its connection
      pub data Stands_on (k : Conn) : Type 0 where
        On_dialled : x.place ≡ k.life → x.id ≡ k.dialler → (g : LineOf c k) → (let l = g.line in Sits l.dialled) → Stands_on k
        On_accepted : x.place ≡ k.target → k.accepted ≡ Some x.id → (g : LineOf c k) → (let l = g.line in Sits l.accepted) → Stands_on k

      stand-dialled : (k : Conn) → x.place ≡ k.life → x.id ≡ k.dialler → LineOf c k → Stands_on k
      stand-dialled k p i g = On_dialled p i g (record { place_is = g.life_is ∙ sym p; id_is = g.id_is ∙ sym i })

      stand-accepted : (k : Conn) → x.place ≡ k.target → k.accepted ≡ Some x.id → LineOf c k → Stands_on k
      stand-accepted k p a g = On_accepted p a g (record { place_is = g.target_is ∙ sym p; id_is = one-some k.accepted _ _ g.accepted_is a })

      pub stands-on : (k : Conn) → slice_get w.conns c ≡ Some k → IsEndOf x.row.side k x.place x.id → Stands_on k
      stands-on k ak e = by x.row.side refl e
        where
          by : (s : Side) → x.row.side ≡ s → IsEndOf s k x.place x.id → Stands_on k
          by Dialler s e =
              let rp : is_some x.row.replied ≡ true = sym (ap (λ (z : Stand). z.replied) stand-is) ∙ ap is_dialler s in
              let r = is-some x.row.replied rp in
              let g = line-of c k ak r.0 (ap (λ o. (marks_of o).replied) (row-is k.life k.dialler e.0 e.1) ∙ r.1) in
              stand-dialled k e.0 e.1 g
          by Acceptor s e =
              let d = h.wired.0.dialled c k ak in
              let li = life-there w.lives k.life k.dialler d.row d.there in
              let wi = h.wired.1 c k ak in
              let away = wi.1 _ _ (setup-is k.target e.0) (ap voice_of li.1) in
              let u = rose-is in
              let far-is : far (row_in w.lives k.target) k.accepted ≡ Some x.row = ap (far (row_in w.lives k.target)) e.1 ∙ row-is k.target x.id e.0 refl in
              let far-rose : (marks_of (far (row_in w.lives k.target) k.accepted)).rose ≡ Some u.0 = ap (λ o. (marks_of o).rose) far-is ∙ u.1 in
              let r = past-some u.0 (marks_of (row_in w.lives k.life k.dialler)).replied (away.follows u.0 far-rose) in
              let g = line-of c k ak r.0 r.1 in
              stand-accepted k e.0 e.1 g
