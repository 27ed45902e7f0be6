-- What an event does to all rows and ends but its own.
use Rattle.dist_world_model.proofs.Words.{◌≡◌, ℕ, Bool, true, false, cond, eqb, ◌≢◌, List, is_some, slice_get, Some, None, Ok, Option, sym, refl, ap, ◌∙◌}
use Rattle.dist_world_model.proofs.Words.{subst, ne_eqb, eqb-true, false≢true, Side, Acceptor, Dialler, EndId, other_view, AreLegal, End, NodeState, ends_after}
use Rattle.dist_world_model.proofs.Words.{effect_of, Effect, Event, IsOther, NodeLaws, EndRow, dooms, mark, new_row, row_after, rows_after, shuts_end}
use Rattle.dist_world_model.proofs.{EventEnds.gives, EventEnds.other-spent, Places.eqb-self, RowMarks.once-false}
use Rattle.dist_world_model.proofs.StepEffects.{Deed, deed_of, is_given}
use Rattle.dist_world_model.proofs.UnchangedRows.{Came, Fresh, Old, came, given-is, given-mark, row-then}
use Rattle.dist_world_model.proofs.Wires.{Hushed, NotedAt, Quiet, marks_of, pledged, quiet-refl}

module _ (laws : NodeLaws) (n : NodeState) (legal : AreLegal n.ends) (v : Event) (fresh : ℕ) (f : Effect) (ok : effect_of n v fresh ≡ Ok f) where
  deed : Deed n v f
  deed = deed_of laws n v fresh f ok

  pub end-after : (p : ℕ) → slice_get (ends_after n.ends f) p ≡ other_view f.other (λ i. cond (eqb f.reply.end_.0 i) (Some f.this) (slice_get n.ends i)) p
  end-after p = let g = laws.places n v fresh f legal ok in laws.after n.ends f p g.0 g.1

  -- the event's own end is then what the effect says
  pub own-after : slice_get (ends_after n.ends f) f.reply.end_.0 ≡ Some f.this
  own-after = end-after f.reply.end_.0 ∙ by f.other refl
    where
      mine : cond (eqb f.reply.end_.0 f.reply.end_.0) (Some f.this) (slice_get n.ends f.reply.end_.0) ≡ Some f.this
      mine = ap (λ c. cond c (Some f.this) (slice_get n.ends f.reply.end_.0)) (eqb-self f.reply.end_.0)

      by : (o : Option (EndId × End)) → f.other ≡ o → other_view o (λ i. cond (eqb f.reply.end_.0 i) (Some f.this) (slice_get n.ends i)) f.reply.end_.0 ≡ Some f.this
      by None e = mine
      by (Some x) e =
          let g : IsOther n f.reply.end_ x.0 = laws.other n v fresh f x.0 x.1 legal ok e in
          let d : (let y = x.0 in y.0) ≢ f.reply.end_.0 = λ q. g.apart (ap (λ i. record { 0 = i }) q) in
          ap (λ c. cond c (Some x.1) (cond (eqb f.reply.end_.0 f.reply.end_.0) (Some f.this) (slice_get n.ends f.reply.end_.0))) (ne_eqb _ _ d) ∙ mine

  module _ (p : ℕ) (h : f.reply.end_.0 ≡ p → is_given v ≡ true) where
    pub end-hushed : Hushed (slice_get n.ends p) (slice_get (ends_after n.ends f) p)
    end-hushed a b =
        let P : Option End → Type 0 = λ o. NotedAt a b (slice_get n.ends p) → NotedAt a b o in
        subst P (sym (end-after p)) (by f.other refl)
      where
        own : NotedAt a b (slice_get n.ends p) → NotedAt a b (cond (eqb f.reply.end_.0 p) (Some f.this) (slice_get n.ends p))
        own k = elim (eqb f.reply.end_.0 p) as (λ c. eqb f.reply.end_.0 p ≡ c → NotedAt a b (cond c (Some f.this) (slice_get n.ends p))) [
          | true ↦ λ c. let g = gives n v f deed (h (eqb-true f.reply.end_.0 p c)) in g.hush a b
          | false ↦ λ c. k
        ] refl

        by : (o : Option (EndId × End)) → f.other ≡ o → NotedAt a b (slice_get n.ends p) → NotedAt a b (other_view o (λ i. cond (eqb f.reply.end_.0 i) (Some f.this) (slice_get n.ends i)) p)
        by None e k = own k
        by (Some x) e k = elim (eqb (let y = x.0 in y.0) p) as (λ c. NotedAt a b (cond c (Some x.1) (cond (eqb f.reply.end_.0 p) (Some f.this) (slice_get n.ends p)))) [
          | true ↦ other-spent n v f deed x.0 x.1 e a b
          | false ↦ own k
        ]

    module _ (rows : List EndRow) (t : ℕ) where
      -- a mark writes nothing of what a connection rests on
      mark-quiet : (row : EndRow) → Quiet (Some row) (Some (mark t f.reply p row))
      mark-quiet row = by (eqb f.reply.end_.0 p) refl
        where
          by : (b : Bool) → eqb f.reply.end_.0 p ≡ b → Quiet (Some row) (Some (row_after t b (dooms f.reply.note p) (shuts_end f.reply.closed p) f.reply row))
          by true e = let P : EndRow → Type 0 = λ m. Quiet (Some row) (Some m) in
              subst P (sym (given-mark n f (gives n v f deed (h (eqb-true f.reply.end_.0 p e))) t p row) ∙ (λ j. row_after t (e j) (dooms f.reply.note p) (shuts_end f.reply.closed p) f.reply row)) (quiet-refl (Some row))
          by false e = record { marks = (λ j. record { named = once-false t row.named j; replied = once-false t row.replied j; rose = once-false t row.rose j }); peer = λ s h. refl }

      pub row-quiet : Quiet (slice_get rows p) (slice_get (rows_after t v f.reply rows) p)
      row-quiet = by (slice_get rows p) (slice_get (rows_after t v f.reply rows) p) refl refl
        where
          by : (o q : Option EndRow) → slice_get rows p ≡ o → slice_get (rows_after t v f.reply rows) p ≡ q → Quiet o q
          by None None a b = quiet-refl None
          by (Some x) q a b = let z : Some (mark t f.reply p x) ≡ q = sym (row-then t v f.reply rows p x a) ∙ b in subst (Quiet (Some x)) z (mark-quiet x)
          by None (Some y) a b = at (came t v f.reply rows p y b)
            where
              unpledged : (s : Side) → is_some (pledged s (marks_of None)) ≡ true → ⊥
              unpledged Dialler h = false≢true h
              unpledged Acceptor h = false≢true h

              at : Came t v f.reply rows p y → Quiet None (Some y)
              at (Old x ax e) = absurd (let z : None ≡ Some x = sym a ∙ ax in cc)
              at (Fresh side r c long g e) = let P : EndRow → Type 0 = λ m. Quiet None (Some m) in
                  subst P (sym (e ∙ given-mark n f (gives n v f deed (given-is v side r c t g)) t p (new_row side r c t))) (record { marks = refl; peer = λ s h. absurd (unpledged s h) })
