-- `lend` lends the guest at the pointer, and the slot follows it.
use Rattle.dist_c_guest.proofs.Walks.{Fml, GName, flft, fsep, ftrue, full_share, ent, fst∗, id⊢, never, sep, fact, tables, no, Is, shows, cell_at, lone, mem}
use Rattle.dist_c_guest.proofs.Walks.{part_at, Ptr, block_ptr, in_a_block, null_ptr, plain, heard, nothing, opens, peeks, shape, to, Goes-spent_ref, Stays}
use Rattle.dist_c_guest.proofs.Walks.{ends_at, says, stay_dropped, walk_of, Ura, alloc_all, env, free_all, get, look_at, pass_all, sets, sets_last, through, ! }
use Rattle.dist_c_guest.proofs.Walks.{at_ret, await, by, done, fjoin, fpack, frame, fsplit, fsplit3, group, join, keep, later, move, pick, qed, raw, rewrite}
use Rattle.dist_c_guest.proofs.Walks.{some, split, suffices, use1, ‵, ◌$◌, ◌∵◌, ◌⊛◌, Logic, sem, look_in, sub, whole, addr, blocks, enter, exec, first, fld}
use Rattle.dist_c_guest.proofs.Walks.{load, of_opd, returns, stop, ◌≡◌, ℕ, List, [], ◌∷◌, Some, Option, sym, refl, ap, ◌∙◌, MutBor, proved, chunk}
use denote.{Follow.follows, Follow.Part, Follow.lends_Part, Memory.part_of, Ref.MutRef, Ref.mut_vals, Ref.mut_Tells, Signature.mut_ref_to, Struct.Struct.Struct}
use mir.{Raw.raw as bare, Syntax.named, Val.Val, Val.vptr, Val.vstruct, Val.vcons, Val.vnil}
use Rattle.dist_c_guest.specs.{Kept.owns_guest, Lending.holding, contracts.guest.Guest.the_row as G, declared.guest.Guest.Guest, declared.slot.Slot.Slot}
use Rattle.dist_c_guest.specs.contracts.slot.Slot.{the_row as R, the_type}
use Rattle.dist_c_guest.specs.contracts.slot.Slot.lend as f
use Rattle.dist_c_guest.proofs.slot.Slot.{TheLaws.lowers, lend.Statement.statement}
use Rattle.dist_c_guest.proofs.slot.Slot.lend.Code as code

abbrev stayed : Stays f.ended.signature.params f.ended.kept
stayed = (stay_dropped (mut_ref_to (0 ∷ []) tt (plain (λ _. R))) no, tt)

-- all of the slot but its guest
abbrev Rest : Slot → ℕ → ℕ → ℕ → ℕ → List Val → Fml
Rest h b o b' o' us = fsep (chunk (bare (lone G.mir)) (block_ptr b' o')) (fsep ((Struct (shape the_type)).own_val (to the_type h) us) (cell_at full_share R.mir us b o))

module _ {M : Type 1} {𝓤 : Ura M} (𝓛 : Logic 𝓤) (h : Slot) (b o b' o' : ℕ) (us : List Val) where
  back : h.at ≡ block_ptr b' o' → (w : Guest) → ent 𝓤 (sep 𝓤 (sem 𝓛 ((mem G).own_at w b' o')) (sem 𝓛 (Rest h b o b' o' us))) (sem 𝓛 ((mem R).own_at (holding h w) b o))
  unfolding part_of
  back e w =
      qed 𝓛 (‵ (part_at G full_share w b' o') ∷ ‵ (Rest h b o b' o' us) ∷ []) ∵ move ! (1 ∷ []) $ fsplit ! $ move ! (1 ∷ []) $ fsplit ! $
      -- [the fields; the cell; the right to free; the state]
      move ! (3 ∷ 2 ∷ []) $ fjoin ! $ use1 𝓛 (‵ (owns_guest (block_ptr b' o') (Some w))) (id⊢ 𝓤 _) $
      rewrite ! 0 (λ (p : Ptr). ‵ (owns_guest p (Some w))) (sym e) refl $
      move ! (1 ∷ 0 ∷ []) $ fjoin ! $ move ! (1 ∷ 0 ∷ []) $ fjoin ! $
      fpack ! (List Val) (λ vs. fsep (cell_at full_share R.mir vs b o) (R.own_val (holding h w) vs)) us $ done !

pub lend_spec : {M : Type 1} → statement M
lend_spec 𝓤 𝓛 𝓜 𝓡 wired =
    let c = f.clauses 𝓛 𝓜.mem 𝓡.returns in let V = walk_of 𝓛 f.ended stayed c in let 𝓣 = tables 𝓤 𝓛.H 𝓜 𝓡 𝓡.env in
    proved 𝓛 f.ended stayed c 𝓜 𝓡 (Goes-spent_ref 𝓛 1 (0 ∷ []) tt (plain (λ _. R)), tt)
    f.Key.name code.function (code.unfolded 𝓤 𝓛.H 𝓜 𝓡 wired)
    (λ κs. (mut_vals, tt)) (λ κs. (mut_Tells (named 0) κs.0 R, tt)) (λ κs qs bounds a g are.
    let κ = κs.0 in let q = qs.0 in let b = a.0.ref_ptr.0 in let o = a.0.ref_ptr.1 in let γ = a.0.ghost_name in let h = a.0.now in let vs = mut_vals a.0 in
    let y : V.Ghost = ((κs, qs, bounds, a, (vs, tt)), g) in
    let Had : Type 0 = (x : Guest) × (h.guest ≡ Some x) in
    qed 𝓛 (((‵ (flft κ q) ⊛ ‵ ftrue) ⊛ ‵ ((MutRef (named 0) κ R).own_val a.0 vs) ⊛ ‵ ftrue) ∷ raw (fact 𝓤 Had) ∷ []) ∵
    move ! (1 ∷ []) $ heard ! Had (λ had. let x = had.0 in split ! $ split ! $ move ! (2 ∷ []) $ split ! $ keep ! (0 ∷ 2 ∷ []) $
    -- [the reference; the token]
    enter ! _ _ _ _ _ $ alloc_all ! (λ l. pass_all ! refl ((tt, tt), tt) $
    fsplit3 ! $ move ! (1 ∷ 2 ∷ 3 ∷ []) $ opens ! tt R b o (λ us. move ! (1 ∷ []) $ peeks ! R (Is R) (shows 𝓛 R) h us (λ is. fsplit ! $ move ! (1 ∷ []) $
    -- [what is kept; the fields; the cell; the open borrow, in three entries; the reference's first part]
    rewrite ! 0 (λ (t : Option Guest). ‵ (owns_guest h.at t)) had.1 refl $
    in_a_block ! h.at (λ p. owns_guest p (Some x)) (fst∗ 𝓤 (never 𝓤) (sem 𝓛 (chunk (bare (lone G.mir)) null_ptr))) (λ b' o' e. fsplit ! $
    let W : Val = vstruct (vcons (vptr b' o') vnil) in
    let is_word : us ≡ W ∷ [] = lowers.val_is h us is ∙ ap (λ (p : Ptr). lowers.lowered (record h { at = p }) ∷ []) e in
    let Cell = λ (ws : List Val). ‵ (cell_at full_share R.mir ws b o) in
    rewrite ! 3 Cell is_word refl $
    first ! $ blocks ! $
    sets ! (of_opd ! (load ! (through ! refl (fld ! refl (stop !))) (look_in ! 3 (sub ! 0 refl (whole !))))) refl (tt, tt) $
    sets ! (of_opd ! (get ! refl)) refl (tt, tt) $
    sets_last ! (addr ! (through ! refl (stop !))) refl (tt, tt) $
    exec ! 𝓣.C 𝓣.Λ (env code.Mir.locals l) code.Mir.t-2 (at_ret _ (V.post y)) $
    sets ! (of_opd ! (get ! refl)) refl (tt, tt) $
    rewrite ! 3 Cell (sym is_word) refl $
    -- [the state; the right to free; the fields; the cell; the open borrow, in three entries; the first part]
    move ! (2 ∷ 3 ∷ []) $ fjoin ! $ move ! (2 ∷ 0 ∷ []) $ fjoin ! $ move ! (2 ∷ 3 ∷ 4 ∷ 1 ∷ 0 ∷ []) $ group ! 5 $
    use1 𝓛 (later (some (λ (γ' : GName). raw (Part 𝓛 R G (holding h) (named 0) κ q b o b' o' γ (sem 𝓛 (Rest h b o b' o' us)) (back 𝓛 h b o b' o' us e) x γ'))))
    (lends_Part 𝓛 R G (holding h) (named 0) κ q b o b' o' γ (sem 𝓛 (Rest h b o b' o' us)) (back 𝓛 h b o b' o' us e) (R.coded.code h) (R.coded.code h) x) $ await ! tt $ pick ! (λ γ'.
    returns ! (look_at ! 0 refl) $ free_all ! refl $ keep ! (0 ∷ []) $
    let r : MutBor Guest = record { ref_ptr = (b', o'); ghost_name = γ'; now = x } in
    by ! (qed 𝓛 (‵ ((MutRef (named 0) κ G).own_val r (vptr b' o' ∷ [])) ∷ ‵ (flft κ q) ∷ ‵ (follows R G γ γ' (holding h)) ∷ []) ∵
    suffices ! _ (ends_at 𝓛 f.ended stayed c y (vptr b' o') r (tt, tt) (tt, tt)) $
    nothing ! $ nothing ! $ fjoin ! $ join ! $ nothing ! $ move ! (2 ∷ 0 ∷ []) $ join ! $ join ! $ frame ! $ says ! had.1 $ done !))))))))
