-- What a reply writes into the rows, row by row.
use Rattle.std.proofs.Common.{◌==◌, if◌then◌else◌, take, take_all, take_at}
use Rattle.dist_core.specs.declared.reply.{Note.Note, Reply.Reply}
use Rattle.dist_core.specs.declared.reply.Note.TheVariants as note
use Rattle.dist_core.proofs.Words.{Why, ◌≡◌, ℕ, ◌+◌, Bool, true, false, ◌&&◌, List, [], ◌∷◌, length, slice_get, Some, None, Option, option_map, sym, refl, ap}
use Rattle.dist_core.proofs.Words.{◌∙◌, arith, Name, EndId}
use Rattle.dist_world_model.specs.{Happenings.shut_row, Lists.at_each, Lists.add_some, Lists.at_place}
use Rattle.dist_world_model.specs.Rows.{is_end, EndRow, once, takes_name, says_reply, peer_by, rises, dooms, shuts_end, row_after, mark}
use Rattle.dist_world_lives.specs.Stepping.{own_row, doomed_row, rows_shut, rows_doomed, doomed_end}
use Rattle.dist_world_lives.proofs.Edits.{changed_if, get_at, get_each, unchanged, same_places}

stays : (t : ℕ) (o : Option ℕ) → o ≡ once false t o
stays t None = refl
stays t (Some n) = refl

peer_stays : (n : Note) (old : Option Name) → peer_by n old ≡ (if takes_name n then peer_by n old else old)
peer_stays note.Nothing old = refl
peer_stays (note.NameTaken p x) old = refl
peer_stays note.ReplySaid old = refl

module _ (t : ℕ) (r : Reply) where
  own_part : (own : Bool) (row : EndRow) → changed_if own (own_row t r.note (rises r.up)) row ≡ record row {
    peer = (if own && takes_name r.note then peer_by r.note row.peer else row.peer);
    named = once (own && takes_name r.note) t row.named;
    replied = once (own && says_reply r.note) t row.replied;
    rose = once (own && rises r.up) t row.rose;
  }
  own_part true row = λ i. record row { peer = peer_stays r.note row.peer i; named = once (takes_name r.note) t row.named; replied = once (says_reply r.note) t row.replied; rose = once (rises r.up) t row.rose }
  own_part false row = λ i. record row { named = stays t row.named i; replied = stays t row.replied i; rose = stays t row.rose i }

  doomed_part : (doomed : Bool) (row : EndRow) → changed_if doomed (doomed_row t) row ≡ record row { doomed = once doomed t row.doomed }
  doomed_part true row = refl
  doomed_part false row = λ i. record row { doomed = stays t row.doomed i }

  shut_part : (closed : Bool) (row : EndRow) → changed_if closed (shut_row t) row ≡ record row { closed = once closed t row.closed }
  shut_part true row = refl
  shut_part false row = λ i. record row { closed = stays t row.closed i }

  all_parts : (own doomed closed : Bool) (row : EndRow) → changed_if own (own_row t r.note (rises r.up)) (changed_if doomed (doomed_row t) (changed_if closed (shut_row t) row)) ≡ row_after t own doomed closed r row
  all_parts own doomed closed row =
      ap (λ x. changed_if own (own_row t r.note (rises r.up)) (changed_if doomed (doomed_row t) x)) (shut_part closed row)
      ∙ (ap (changed_if own (own_row t r.note (rises r.up))) (doomed_part doomed _) ∙ own_part own _)

  in_option : (own doomed closed : Bool) (o : Option EndRow) → option_map (changed_if own (own_row t r.note (rises r.up))) (option_map (changed_if doomed (doomed_row t)) (option_map (changed_if closed (shut_row t)) o)) ≡ option_map (row_after t own doomed closed r) o
  in_option own doomed closed None = refl
  in_option own doomed closed (Some row) = ap (λ x. Some x) (all_parts own doomed closed row)

  get_shut : (closed : Option (EndId × Why)) (rows : List EndRow) (j : ℕ) → slice_get (rows_shut t closed rows) j ≡ option_map (changed_if (shuts_end closed j) (shut_row t)) (slice_get rows j)
  get_shut None rows j = unchanged (shut_row t) (slice_get rows j)
  get_shut (Some x) rows j = get_at (shut_row t) rows (let y = x.0 in y.0) j

  get_doomed : (x : Option EndId) (rows : List EndRow) (j : ℕ) → slice_get (rows_doomed t x rows) j ≡ option_map (changed_if (is_end j x) (doomed_row t)) (slice_get rows j)
  get_doomed None rows j = unchanged (doomed_row t) (slice_get rows j)
  get_doomed (Some x) rows j = get_at (doomed_row t) rows x.0 j

  is_doomed : (n : Note) (j : ℕ) → is_end j (doomed_end n) ≡ dooms n j
  is_doomed note.Nothing j = refl
  is_doomed (note.NameTaken p x) j = refl
  is_doomed note.ReplySaid j = refl

  -- the rows of the event's own end, of the doomed one and of the closed one are all that a reply changes
  pub as_marked : (rows : List EndRow) → at_place r.end_.0 (own_row t r.note (rises r.up)) (rows_doomed t (doomed_end r.note) (rows_shut t r.closed rows)) ≡ at_each 0 (mark t r) rows
  as_marked rows = same_places _ _ (λ j.
      let first : 0 + j ≡ j = omega arith in
      get_at (own_row t r.note (rises r.up)) (rows_doomed t (doomed_end r.note) (rows_shut t r.closed rows)) r.end_.0 j
      ∙ (ap (option_map (changed_if (r.end_.0 == j) (own_row t r.note (rises r.up)))) (get_doomed (doomed_end r.note) (rows_shut t r.closed rows) j ∙ ((λ i. option_map (changed_if (is_doomed r.note j i) (doomed_row t)) (get_shut r.closed rows j i))))
      ∙ (in_option (r.end_.0 == j) (dooms r.note j) (shuts_end r.closed j) (slice_get rows j)
      ∙ sym (get_each (mark t r) rows 0 j ∙ ap (λ n. option_map (mark t r n) (slice_get rows j)) first))))

-- what was given out is taken back
pub taken_back : {A : Type 0} (xs : List A) (o : Option A) → take (length xs) (add_some xs o) ≡ xs
taken_back xs None = take_all (length xs) xs (omega arith)
taken_back xs (Some x) = take_at xs (x ∷ []) (length xs) refl
