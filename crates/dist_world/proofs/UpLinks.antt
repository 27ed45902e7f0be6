-- What is found of two nodes that count each other as up.
use Rattle.std.specs.Prelude.{Bool, IsTrue, ◌↔◌}
use Rattle.dist_core_ends.specs.declared.known.End.TheVariants as ends
use Rattle.dist_core.proofs.Words.{UpRecord, ◌≡◌, ℕ, ◌≢◌, slice_get, Some, None, Option, sym, refl, ap, ◌∙◌, Setup}
use Rattle.dist_world_model.specs.{Agreement.Counts, Agreement.IsFooled, Agreement.IsUp, Happenings.conn_of, Rows.EndRow, World.Life, World.World, World.running}
use Rattle.dist_world_lives.specs.Links.{up_on, FindsLink, IsFooledBy}
use Rattle.dist_world.specs.Ups.{FindsPeer, FindsBoth, agreement_on, both_agreement}

-- an end with a connection has a row
row_there : (o : Option EndRow) (c : ℕ) → conn_of o ≡ Some c → (row : EndRow) × (o ≡ Some row) × (row.conn ≡ Some c)
row_there None c e = absurd cc
row_there (Some row) c e = (row, refl, e)

module _ (w : World) (a b place : ℕ) (life : Life) (other : Setup) (runs : running w a ≡ Some place) (lives : slice_get w.lives place ≡ Some life) (named : slice_get w.setups b ≡ Some other) where
  pub peer_found : (o : Option (ℕ × UpRecord)) → FindsLink life other.name o → FindsPeer w a b o
  peer_found None k = tt
  peer_found (Some x) k =
      let id = k.0 in
      let r = row_there (slice_get life.rows id.0) x.0 k.2 in
      let up = k.1 in
      (record { place = place; life = life; id = id.0; kept = x.1; row = r.0; other = other; runs = runs; lives = lives; is_up = up.0; beside = r.1; on = r.2; named = named; peer = up.1 }, refl)

  pub peer_only : (o : Option (ℕ × UpRecord)) → ((i c : ℕ) (kept : UpRecord) → slice_get life.node.ends i ≡ Some (ends.Up kept) → kept.peer ≡ other.name → conn_of (slice_get life.rows i) ≡ Some c → o ≡ up_on c kept) → (c : ℕ) (u : IsUp w a b c) → o ≡ up_on c u.kept
  peer_only o only c u =
      let at : Some u.place ≡ Some place = sym u.runs ∙ runs in
      let same_place : u.place ≡ place = cc in
      let here : Some u.life ≡ Some life = sym u.lives ∙ (ap (slice_get w.lives) same_place ∙ lives) in
      let same : u.life ≡ life = cc in
      let whose : Some u.other ≡ Some other = sym u.named ∙ named in
      let same_other : u.other ≡ other = cc in
      only u.id c u.kept
      (sym (ap (λ (l : Life). slice_get l.node.ends u.id) same) ∙ u.is_up)
      (u.peer ∙ ap (λ (s : Setup). s.name) same_other)
      (sym (ap (λ (l : Life). conn_of (slice_get l.rows u.id)) same) ∙ (ap conn_of u.beside ∙ u.on))

pub both_found : (w : World) (a b : ℕ) → a ≢ b → (o q : Option (ℕ × UpRecord)) → FindsPeer w a b o → FindsPeer w b a q → FindsBoth w a b (both_agreement o q)
both_found w a b apart None q k m = tt
both_found w a b apart (Some x) None k m = tt
both_found w a b apart (Some x) (Some y) k m = (apart, (y.0, k.0, m.0, λ i. agreement_on x.0 (sym k.1 i) (sym m.1 i)))

pub both_only : (o q : Option (ℕ × UpRecord)) (c d : ℕ) (here there : UpRecord) → o ≡ up_on c here → q ≡ up_on d there → both_agreement o q ≡ Some (agreement_on c here there)
both_only o q c d here there e f = λ i. both_agreement (e i) (f i)

-- ---- a node that takes somebody outside for another

module _ (w : World) (a b : ℕ) where
  pub fooled_as : (place : ℕ) (life : Life) (other : Setup) → running w a ≡ Some place → slice_get w.lives place ≡ Some life → slice_get w.setups b ≡ Some other → (v : Bool) → (IsTrue v ↔ IsFooledBy life other.name) → IsTrue v ↔ IsFooled w a b
  fooled_as place life other runs lives named v by = (
    λ e. (let k = by.0 e in (record { place = place; life = life; id = k.id; kept = k.kept; other = other; runs = runs; lives = lives; is_up = k.is_up; named = named; peer = k.peer }, k.unlinked)),
    λ k. by.1 (
        let u : Counts w a b = k.0 in
        let at : Some u.place ≡ Some place = sym u.runs ∙ runs in
        let same_place : u.place ≡ place = cc in
        let here : Some u.life ≡ Some life = sym u.lives ∙ (ap (slice_get w.lives) same_place ∙ lives) in
        let same : u.life ≡ life = cc in
        let whose : Some u.other ≡ Some other = sym u.named ∙ named in
        let same_other : u.other ≡ other = cc in
        record {
          id = u.id;
          kept = u.kept;
          is_up = sym (ap (λ (l : Life). slice_get l.node.ends u.id) same) ∙ u.is_up;
          peer = u.peer ∙ ap (λ (s : Setup). s.name) same_other;
          unlinked = sym (ap (λ (l : Life). conn_of (slice_get l.rows u.id)) same) ∙ k.1;
        }),
  )
