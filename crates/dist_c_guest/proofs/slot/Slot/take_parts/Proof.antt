-- `take_parts` reads the pointer, and what the slot owned goes with it.
use Rattle.dist_c_guest.proofs.Walks.{flft, ftrue, full_share, SProp, emp, ent, fst∗, id⊢, never, fact, fact_i, tables, yes, Is, shows, cell_at, layout, owns}
use Rattle.dist_c_guest.proofs.Walks.{Ptr, block_ptr, in_a_block, null_ptr, plain, types_at, closes, heard, nothing, opens, peeks, Goes-dropped, Goes-ref}
use Rattle.dist_c_guest.proofs.Walks.{Stays, stay_dropped, stay_ref, walk_of, WpFn, alloc_all, free_all, get, look_at, pass_all, sets, through, !, by, fjoin}
use Rattle.dist_c_guest.proofs.Walks.{fjoin3, fsplit, fsplit3, join, keep, move, qed, raw, rewrite, split, suffices, use0, use1, ‵, ◌$◌, ◌∵◌, ◌⊛◌, sem, agg}
use Rattle.dist_c_guest.proofs.Walks.{look_in, sub, whole, and_then, enter, fld, load, no_more, of_opd, returns, stop, ◌≡◌, List, [], ◌∷◌, ◌++◌, Some, None}
use Rattle.dist_c_guest.proofs.Walks.{Option, sym, refl, ap, ◌∙◌, subst, leaves, proved_at, handle_tells, token, D, box_typed, word, box_in}
use mir.{Raw.raw as bare, Val.Val, Val.vptr, Val.vstruct, Val.vcons, Val.vnil}
use Rattle.std_heap.specs.contracts.Global as Heap
use Rattle.dist_c_guest.specs.{Kept.owns_guest, contracts.slot.Slot.the_row as R, declared.guest.Guest.Guest}
use Rattle.dist_c_guest.specs.contracts.slot.Slot.take_parts as f
use Rattle.dist_c_guest.proofs.{AsBox.E, AsBox.Whole, slot.Slot.TheLaws.lowers, slot.Slot.take_parts.Statement.statement}
use Rattle.dist_c_guest.proofs.slot.Slot.take_parts.Code as code

abbrev stayed : Stays f.ended.signature.params f.ended.kept
stayed = (stay_ref (0 ∷ []) tt (plain (λ _. R)), (stay_dropped (plain (λ _. Heap.the_row)) yes, tt))

pub take_parts_spec : {M : Type 1} → statement M
take_parts_spec 𝓤 𝓛 𝓜 𝓡 wired =
    let H = 𝓛.H in let c = f.clauses 𝓛 𝓜.mem 𝓡.returns in let 𝓣 = tables 𝓤 𝓛.H 𝓜 𝓡 𝓡.env in
    proved_at 𝓛 f.ended stayed c 𝓜 𝓡 (Goes-ref 𝓛 1 0 tt (plain (λ _. R)), (Goes-dropped 𝓛 1 (plain (λ _. Heap.the_row)) yes (λ κs x w. refl), tt))
    f.Key.name code.function (code.unfolded 𝓤 𝓛.H 𝓜 𝓡 wired) (λ z are.
    let κs = z.0.0 in let qs = z.0.1 in let s = z.0.3.0 in let a = z.0.3.1.0 in let b = s.ref_ptr.0 in let o = s.ref_ptr.1 in let h = s.now in
    let Post : Val → SProp 𝓤 = (walk_of 𝓛 f.ended stayed c).post z in let Run : List Val → SProp 𝓤 = λ ws. WpFn 𝓤 H 𝓣.C 𝓣.Λ code.function ws Post in
    let Had : Type 0 = (x : Guest) × (h.guest ≡ Some x) in
    qed 𝓛 (((‵ (flft κs.0 qs.0) ⊛ ‵ ftrue) ⊛ ‵ (owns (types_at f.ended.signature.params κs) z.0.3 z.0.4)) ∷ raw (fact 𝓤 Had) ∷ []) ∵
    move ! (1 ∷ []) $ heard ! Had (λ some. let x = some.0 in split ! $ split ! $ move ! (2 ∷ []) $ fsplit ! $ move ! (1 ∷ []) $ fsplit ! $
    -- [the handle; nothing; the reference; the token; nothing]
    handle_tells E.al ! a z.0.4.1.0 (λ hv eh fa. keep ! (2 ∷ 3 ∷ 0 ∷ []) $
    let Vs : List Val = vptr b o ∷ hv ∷ [] in
    suffices ! (Run Vs) (subst (λ (ws : List Val). ent 𝓤 (Run Vs) (Run ws)) (sym (λ i. are.0.0 i ++ (eh i ++ []))) (id⊢ 𝓤 (Run Vs))) $
    enter ! 𝓣.C 𝓣.Λ code.function Vs Post $ alloc_all ! (λ l. pass_all ! refl ((tt, tt), (fa, tt)) $
    fsplit3 ! $ move ! (1 ∷ 2 ∷ 3 ∷ []) $ opens ! tt R b o (λ us. move ! (1 ∷ []) $ peeks ! R (Is R) (shows 𝓛 R) h us (λ is. fsplit ! $ move ! (1 ∷ []) $
    -- [what is kept; the fields; the cell; the open borrow, in three entries; the reference's first part; the handle]
    rewrite ! 0 (λ (t : Option Guest). ‵ (owns_guest h.at t)) some.1 refl $
    in_a_block ! h.at (λ p. owns_guest p (Some x)) (fst∗ 𝓤 (never 𝓤) (sem 𝓛 (token E.al a (bare (layout E.row)) null_ptr))) (λ b' o' e. fsplit ! $
    let W : Val = vstruct (vcons (vptr b' o') vnil) in
    let is_word : us ≡ W ∷ [] = lowers.val_is h us is ∙ ap (λ (p : Ptr). lowers.lowered (record h { at = p }) ∷ []) e in
    let Cell = λ (ws : List Val). ‵ (cell_at full_share R.mir ws b o) in
    rewrite ! 3 Cell is_word refl $
    sets ! (of_opd ! (load ! (through ! refl (fld ! refl (stop !))) (look_in ! 3 (sub ! 0 refl (whole !))))) refl (tt, tt) $
    sets ! (of_opd ! (get ! refl)) refl (tt, tt) $
    sets ! (agg ! (and_then ! (get ! refl) (and_then ! (get ! refl) (no_more !)))) refl (box_typed E hv b' o' fa) $
    -- [the state; the right to free; the fields; the cell; the open borrow, in three entries; the first part; the handle]
    let d : D E = record { ptr = block_ptr b' o'; alloc = a; value = x } in let made : Whole.Denot = record { ptr = block_ptr b' o'; alloc = a; value = x } in
    let h' : R.Denot = record h { guest = None } in
    move ! (0 ∷ 1 ∷ 8 ∷ []) $ box_in E ! d b' o' x refl refl $ use1 𝓛 (‵ (Whole.own_val made (word E hv b' o' ∷ []))) (id⊢ 𝓤 _) $
    -- [the parts; the fields; the cell; the open borrow; the first part]
    rewrite ! 2 Cell (sym is_word) refl $ nothing ! $ move ! (2 ∷ 0 ∷ []) $ fjoin ! $
    move ! (2 ∷ 0 ∷ 3 ∷ 4 ∷ 5 ∷ []) $ closes ! tt R h' us b o $
    returns ! (look_at ! 0 refl) $ free_all ! refl $
    -- [two parts of the reference; the token; the parts; the first part]
    move ! (4 ∷ 0 ∷ 1 ∷ []) $ fjoin3 ! $ nothing ! $ nothing ! $ fjoin ! $ move ! (1 ∷ 0 ∷ []) $ fjoin ! $
    nothing ! $ move ! (2 ∷ 0 ∷ []) $ join ! $
    let Said : Type 0 = (h.guest ≡ Some x) × (h'.guest ≡ None) in
    use0 𝓛 (raw (fact 𝓤 Said)) (fact_i 𝓤 Said (emp 𝓤) (some.1, refl)) $ keep ! (1 ∷ 2 ∷ 3 ∷ 0 ∷ []) $
    by ! (leaves 𝓛 f.ended stayed c z (word E hv b' o') made (h', (tt, tt)) (tt, (tt, tt))))))))))
