-- The words of the logic that walks through a body cite, passed on from one place.
pub use base.{Fml.Fml, Fml.GName, Fml.flft, Fml.fsep, Fml.ftrue, Fraction.full_share, Shift.Keyless}
pub use base.Logic.{SProp, emp, ent, fst∗, id⊢, never, sep}
pub use contract.{Monad.fact, Monad.fact_i, Running.tables}
pub use denote.{Exit.no, Exit.yes, Laws.Is, Laws.shows, Memory.cell_at, Memory.lone, Memory.mem, Memory.part_at, Param.bounded, Param.layout}
pub use denote.{RattleType.RattleType, RattleType.Valss, RattleType.owns, Signature.plain, Signature.types_at, Struct.Tuple.Tuple, Triple.Spec.triple_of}
pub use denote.{RawPtr.Ptr, RawPtr.RawPtr, RawPtr.block_ptr, RawPtr.in_a_block, RawPtr.null_ptr, RawPtr.ptr_val, Triple.Clauses.Clauses, Triple.Clauses.Ended}
pub use denote.{Steps.closes, Steps.heard, Steps.nothing, Steps.only, Steps.opens, Steps.peeks, Struct.Owning.fields, Struct.Owning.shape, Struct.Owning.to}
pub use denote.Triple.{Call.calls_at, Call.calls_at_last, Statement.Contract, Statement.Triple, Table.entered}
pub use denote.Triple.Walked.{Goes-dropped, Goes-ref, Goes-spent_ref, Stays, ends_at, says, stay_dropped, stay_ref, walk_Meets, walk_of}
pub use mir.MapTy.{inst_fn}
pub use prog.{Memory.Memory, Routine.Routine, Wp.Tables, Wp.WpFn}
pub use seplogic.Ra.Ura.{Ura}
pub use types.ByLocal.{alloc_all, env, free_all, get, get_in, lands_as, lands_last, look_at, pass_all, sets, sets_last, through}
pub use types.Kit.{drop, !, Item, at_ret, await, by, done, feq_i, feq_l, fjoin, fjoin3, fpack, fpick, frame, fsplit, fsplit3, group, join, keep, later, move}
pub use types.Kit.{pick, qed, raw, rewrite, some, split, split3, suffices, use0, use1, ‵, ◌$◌, ◌∵◌, ◌⊛◌}
pub use types.{Logic.Logic, Logic.sem, Part.agg, Part.look_in, Part.store_in, Part.sub, Part.whole}
pub use types.Run.{addr, and_then, assigns, blocks, enter, exec, first, fld, load, no_more, of_opd, returns, stop, unit_lit}
pub use Rattle.std.proofs.Common.{◌≡◌, ℕ, T, List, [], ◌∷◌, ◌++◌, Some, None, Option, sym, refl, ap, ◌∙◌, subst, MutBor}
pub use Rattle.std.proofs.raw_atomic.Walks.{leaves, proved, proved_at}
pub use Rattle.core.proofs.alloc.Calls.{Goes-blank, handle_tells, token}
pub use Rattle.libc.specs.Heap.{chunk, chunk-Keyless}
pub use Rattle.std_alloc.specs.Box.Ownership.{box_owns}
pub use Rattle.std_alloc.proofs.BoxSteps.Form.{B, Bx, D, P, R, args, box_ty, box_typed, word, τ}
pub use Rattle.std_alloc.proofs.{BoxSteps.Steps.box_in, BoxSteps.Steps.box_out, SendSync.lies, SendSync.quiet}
