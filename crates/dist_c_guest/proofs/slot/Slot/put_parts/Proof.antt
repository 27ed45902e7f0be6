-- `put_parts` writes the pointer, and what the parts owned goes with it.
use Rattle.dist_c_guest.proofs.Walks.{flft, ftrue, full_share, SProp, emp, ent, id⊢, fact, fact_i, tables, yes, Is, shows, cell_at, Valss, owns, block_ptr}
use Rattle.dist_c_guest.proofs.Walks.{plain, types_at, closes, nothing, opens, peeks, shape, Goes-dropped, Goes-ref, Stays, stay_dropped, stay_ref, walk_of}
use Rattle.dist_c_guest.proofs.Walks.{WpFn, alloc_all, free_all, get, get_in, look_at, pass_all, sets, through, drop, !, by, feq_i, fjoin, fjoin3, fpack}
use Rattle.dist_c_guest.proofs.Walks.{fsplit, fsplit3, join, keep, move, qed, raw, rewrite, split, suffices, use0, use1, ‵, ◌$◌, ◌∵◌, ◌⊛◌, store_in, sub, whole}
use Rattle.dist_c_guest.proofs.Walks.{assigns, enter, fld, of_opd, returns, stop, unit_lit, ◌≡◌, List, [], ◌∷◌, ◌++◌, Some, None, sym, refl, subst, leaves}
use Rattle.dist_c_guest.proofs.Walks.{proved_at, D, box_typed, word, box_out}
use denote.{Builtin.RawPtr, Struct.Struct.within}
use mir.Val.{Val, vptr, vunit, vstruct, vcons, vnil}
use Rattle.dist_c_guest.specs.{Kept.owns_guest, contracts.slot.Slot.the_row as R}
use Rattle.dist_c_guest.specs.contracts.slot.Slot as slot
use Rattle.dist_c_guest.specs.contracts.slot.Slot.put_parts as f
use Rattle.dist_c_guest.proofs.{AsBox.E, AsBox.Whole, slot.Slot.TheLaws.lowers, slot.Slot.put_parts.Statement.statement}
use Rattle.dist_c_guest.proofs.slot.Slot.put_parts.Code as code

abbrev stayed : Stays f.ended.signature.params f.ended.kept
stayed = (stay_ref (0 ∷ []) tt (plain (λ _. R)), (stay_dropped (plain (λ _. Whole)) yes, tt))

pub put_parts_spec : {M : Type 1} → statement M
put_parts_spec 𝓤 𝓛 𝓜 𝓡 wired =
    let H = 𝓛.H in let c = f.clauses 𝓛 𝓜.mem 𝓡.returns in let 𝓣 = tables 𝓤 𝓛.H 𝓜 𝓡 𝓡.env in
    proved_at 𝓛 f.ended stayed c 𝓜 𝓡 (Goes-ref 𝓛 1 0 tt (plain (λ _. R)), (Goes-dropped 𝓛 1 (plain (λ _. Whole)) yes (λ κs x w. refl), tt))
    f.Key.name code.function (code.unfolded 𝓤 𝓛.H 𝓜 𝓡 wired) (λ z are.
    let κs = z.0.0 in let qs = z.0.1 in let s = z.0.3.0 in let w = z.0.3.1.0 in let b = s.ref_ptr.0 in let o = s.ref_ptr.1 in let h = s.now in
    let Post : Val → SProp 𝓤 = (walk_of 𝓛 f.ended stayed c).post z in let Run : List Val → SProp 𝓤 = λ ws. WpFn 𝓤 H 𝓣.C 𝓣.Λ code.function ws Post in
    let v : D E = record { ptr = w.ptr; alloc = w.alloc; value = w.value } in
    qed 𝓛 (((‵ (flft κs.0 qs.0) ⊛ ‵ ftrue) ⊛ ‵ (owns (types_at f.ended.signature.params κs) z.0.3 z.0.4)) ∷ raw (fact 𝓤 (h.guest ≡ None)) ∷ []) ∵
    split ! $ split ! $ move ! (2 ∷ []) $ fsplit ! $ move ! (1 ∷ []) $ fsplit ! $
    -- [the parts; nothing; the reference; the token; nothing; what it requires]
    box_out E ! v z.0.4.1.0 (λ b' o' hv e ws fa. keep ! (4 ∷ 5 ∷ 0 ∷ 1 ∷ []) $
    -- [the reference; the token; the state; the right to free]
    let W : Val = vstruct (vcons (vptr b' o') vnil) in let Vs : List Val = vptr b o ∷ word E hv b' o' ∷ [] in
    let Cell = λ (ts : List Val). ‵ (cell_at full_share R.mir ts b o) in
    suffices ! (Run Vs) (subst (λ (ts : List Val). ent 𝓤 (Run Vs) (Run ts)) (sym (λ i. are.0.0 i ++ (ws i ++ []))) (id⊢ 𝓤 (Run Vs))) $
    enter ! 𝓣.C 𝓣.Λ code.function Vs Post $ alloc_all ! (λ l. pass_all ! refl ((tt, tt), (box_typed E hv b' o' fa, tt)) $
    fsplit3 ! $ move ! (1 ∷ 2 ∷ 3 ∷ []) $ opens ! tt R b o (λ us. move ! (1 ∷ []) $ peeks ! R (Is R) (shows 𝓛 R) h us (λ is. drop ! $
    -- [the cell; the open borrow, in three entries; the first part; the state; the right to free]
    rewrite ! 0 Cell (lowers.val_is h us is) refl $
    sets ! (of_opd ! (get_in ! (fld ! refl (stop !)) (sub ! 0 refl (whole !)))) refl (tt, tt) $
    sets ! (of_opd ! (get ! refl)) refl (tt, tt) $
    assigns ! (of_opd ! (get ! refl)) (through ! refl (fld ! refl (stop !))) (store_in ! 0 (sub ! 0 refl (whole !)) (tt, tt)) $
    sets ! (of_opd ! (unit_lit !)) refl (tt, tt) $
    let h' : R.Denot = record { at = block_ptr b' o'; guest = Some w.value } in
    -- [the cell; the open borrow, in three entries; the first part; the state; the right to free]
    move ! (5 ∷ 6 ∷ []) $ fjoin ! $ use1 𝓛 (‵ (owns_guest (block_ptr b' o') (Some w.value))) (id⊢ 𝓤 _) $
    nothing ! $ feq_i ! (List Val) (vptr b' o' ∷ []) (vptr b' o' ∷ []) refl $ fjoin ! $ feq_i ! (List Val) (W ∷ []) (W ∷ []) refl $ fjoin ! $
    fpack ! (Valss (RawPtr ∷ [])) (within (shape slot.the_type) (block_ptr b' o', tt) (W ∷ [])) (vptr b' o' ∷ [], tt) $ fjoin ! $
    move ! (1 ∷ 0 ∷ 2 ∷ 3 ∷ 4 ∷ []) $ closes ! tt R h' (W ∷ []) b o $
    returns ! (look_at ! 0 refl) $ free_all ! refl $
    -- [two parts of the reference; the token; the first part]
    move ! (3 ∷ 0 ∷ 1 ∷ []) $ fjoin3 ! $ nothing ! $ nothing ! $ fjoin ! $ move ! (1 ∷ 0 ∷ []) $ fjoin ! $
    nothing ! $ move ! (2 ∷ 0 ∷ []) $ join ! $
    feq_i ! (List Val) (vunit ∷ []) (vunit ∷ []) refl $
    let Said : Type 0 = h'.guest ≡ Some w.value in
    use0 𝓛 (raw (fact 𝓤 Said)) (fact_i 𝓤 Said (emp 𝓤) refl) $ keep ! (2 ∷ 3 ∷ 1 ∷ 0 ∷ []) $
    by ! (leaves 𝓛 f.ended stayed c z vunit tt (h', (tt, tt)) (tt, (tt, tt))))))))
