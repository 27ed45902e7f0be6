-- The words of other crates and of the definitions here that proofs cite, passed on from one place.
pub use mathlib.Core.Bool.{and-false, and-true}
pub use Rattle.std.proofs.Common.{◌≡◌, ℕ, zero, suc, ◌+◌, ◌-◌, ◌^◌, ◌<◌, ◌≤◌, min, Bool, true, false, cond, ◌&&◌, ◌||◌, eqb, ltb, leb, ◌≢◌, ◌⊎◌, List, [], ◌∷◌}
pub use Rattle.std.proofs.Common.{◌++◌, length, get_or, take, drop, set, replicate, is_some, IfSome, OnOk, OnErr, IsSome, IsOk, nat_eq, ◌==◌, slice_get, Some}
pub use Rattle.std.proofs.Common.{None, Ok, Err, count_by, filter, Option, Result, option_map, filter_map, option_and_then, sym, refl, ap, ◌∙◌, subst, inl, inr}
pub use Rattle.std.proofs.Common.{append_assoc, arith, length-append, length-set, rules, eq-eqb, eqb-true, le-leb}
pub use Rattle.std.proofs.{Math.Dec.eqb-suc-suc, Math.Dec.eqb-suc-zero, Math.Dec.eqb-zero-suc, lemmas.Bool.Decides.leb_tells, lemmas.Bool.Decides.nat_tests}
pub use Rattle.std.proofs.lemmas.{Bool.and_parts, Bool.cases_eq, Bool.eqb-false, Bool.false≢true, Bool.lt-leb, Bool.or_parts, List.Sums.sum_by-cons}
pub use Rattle.std.proofs.lemmas.{Map.Made.filter_same_pairs, Option.slice_get-get_or, Option.slice_get_past, Option.slice_get_read, Option.slice_get_within}
pub use Rattle.std.specs.{Cmp.nat_eq_equiv, FinMap.get-empty, FinMap.get-from_entries, FinMap.get-insert, FinMap.same_map, FinMap.Entries.find}
pub use Rattle.std.specs.{HashMap.Updates, HashMap.get, List.cons_option, Map.keys_of, Map.lookup}
pub use Rattle.dist_names.specs.Order.{Name, name_cmp, same_name}
pub use Rattle.dist_names.proofs.Orders.{itself_lem, one_lem}
pub use Rattle.dist_peers.specs.{Table.Table, Table.entry_of, Table.is_waiting, Table.left_by, Table.replaced_by, Verdicts.is_greater, Verdicts.ruling}
pub use Rattle.dist_peers.specs.declared.entry.{EndId.EndId, Entry.Entry}
pub use Rattle.dist_peers.proofs.Maps.{exact, get-with, order}
pub use Rattle.dist_core_ends.specs.Change.{Fits, AsksRaise, AsksShift, HasEntry, IsThere, OtherStaysClosed, StaysClosed, claim_at, one_if, other_view, put_end}
pub use Rattle.dist_core_ends.specs.Change.{put_other, table_after, table_after_rise, table_after_shift, view_after, with_change}
pub use Rattle.dist_core_ends.specs.Ends.{Agree, AreLegal, Claim, FindsUp, claim_of, end_id, entry_from, entry_in, first_of, holds, holds_at, is_claim, is_held}
pub use Rattle.dist_core_ends.specs.Ends.{is_open, is_pending, is_unnamed, kind_in, names, record_in, row_in, same_kind, table_of, up_from, up_id, up_pair}
pub use Rattle.dist_core_ends.specs.{Forgetting.without_cause, Forgetting.without_causes_below, Progress.CanRise, Progress.at_stage, Progress.replaced_end}
pub use Rattle.dist_core_ends.specs.Keeping.{AreKept, AreSettled, GivesRow, IsFull, IsPast, KeepsEnds, Puts, RoomyEnds, Slots, end_of_row, ends_of_rows}
pub use Rattle.dist_core_ends.specs.Keeping.{finds_sought, found_end, in_slot, is_sought, rows_forgotten, without_row_cause}
pub use Rattle.dist_core_ends.specs.Places.{AreWithin, IsSlot, RowList, all_causes, causes_forgotten, is_slot, kept_row, row_by, rows_from, stays_kept}
pub use Rattle.dist_core_ends.specs.declared.{known.Attempt.Attempt, known.End.End, known.Stage.Stage, known.UpRecord.UpRecord, phase.Kind.Kind, why.Why.Why}
pub use Rattle.dist_core_ends.specs.declared.phase.{Kind.TheVariants.In, Kind.TheVariants.Out, Kind.TheVariants.Up, Phase.Phase}
pub use Rattle.dist_core_ends.specs.declared.slots.{EndPlace.EndPlace, Sought.Sought}
