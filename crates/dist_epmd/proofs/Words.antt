-- The words of other crates and of the definitions here that proofs cite, passed on from one place.
pub use Rattle.std.proofs.Common.{◌≡◌, ℕ, zero, suc, ◌+◌, ◌-◌, ◌^◌, ◌<◌, ◌≤◌, Bool, true, false, cond, not, ◌&&◌, ◌||◌, eqb, ltb, ◌≢◌, ◌⊎◌, List, [], ◌∷◌, ◌++◌}
pub use Rattle.std.proofs.Common.{length, take, drop, is_some, IfOk, IfErr, Some, None, Ok, Err, filter, Option, Result, Vec, option_map, insert, find}
pub use Rattle.std.proofs.Common.{flat_map, bytes_eq, nat_cmp, is_eq, sym, refl, ap, ◌∙◌, subst, ap₂, inl, inr, ⊎_elim, append_assoc, append-nil, one-add}
pub use Rattle.std.proofs.Common.{arith, length-append, take-append-drop, w16, w32, rules, ltb-false, ltb-true, ne_eqb, eqb-true}
pub use Rattle.std.proofs.lemmas.Bool.{and_left, and_parts, and_right, both_ways, cases_Bool, cond-false, cond_both, eqb-false, not-true, or_cases, or_from}
pub use Rattle.std.proofs.lemmas.Bool.{or_left, or_parts}
pub use Rattle.std.proofs.lemmas.{Cmp.nat_list_cmp_total, Grind.common_steps, List.length-replicate, List.Edits.insert_end, List.Elements.filter-append}
pub use Rattle.std.proofs.lemmas.{Map.Made.filter_same_pairs, Map.Text.is_eq-slice_cmp, Slice.Eq.bytes_eq-Decides}
pub use Rattle.std.specs.{BTreeMap.insert_entry, BTreeMap.values, Cmp.Lexicographic.slice_cmp, Int.Width, Int.byte_len, Int.from_be_bytes, Int.to_be_bytes}
pub use Rattle.std.specs.{List.AllByRecursion, List.list_any, List.position_or_len, Map.lookup, Map.remove_entry, Map.values_of, Option.option_map_or}
pub use Rattle.std.specs.{Ordering.match_ordering, Ordering.ordering_reverse, declared.cmp.Ordering.Ordering}
pub use Rattle.dist_names.specs.{Bytes.IsBytes, Fields.Taken, Fields.bytes_at, Fields.number_at}
pub use Rattle.dist_names.proofs.Bytes.{IsBytes-append, IsBytes-rest, IsBytes-zeros, zeros}
pub use Rattle.dist_epmd.specs.{Answering.Answers, Named.IsAtItsName, Named.StandAtNames, Refusing.RefusesBytes, declared.epmd_error.EpmdError.EpmdError}
pub use Rattle.dist_epmd.specs.Layout.{AnswerFits, InfoFits, RequestFits, SpellsAnswer, SpellsRequest, TextsFit, answer_text, asks_for, info_text, is_spelled}
pub use Rattle.dist_epmd.specs.Layout.{request_text, text_field, written_answer, written_request}
pub use Rattle.dist_epmd.specs.Registrations.{InOrder, IsGiven, IsLegal, Precedes, Registrations, after_closed, after_closed_as, after_request, is_accepted}
pub use Rattle.dist_epmd.specs.Registrations.{is_behind, is_named, is_of, is_own, line_of, registered_name, with_registration, with_row}
pub use Rattle.dist_epmd.specs.declared.{message.Answer.Answer, message.Asked.Asked, message.NodeInfo.NodeInfo, message.Request.Request, row.Row.Row}
