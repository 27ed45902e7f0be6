-- The words of the crates below and of the definitions here that most proofs cite, passed on from one place.
pub use Rattle.std.proofs.Common.{◌-◌, map, get_or, IfErr, OnOk, IsTrue, ◌==◌, All, IsPermutation, option_to_list, option_and_then, nat_cmp, BTreeMap, BTreeSet}
pub use Rattle.std.proofs.Common.{unwrap_or, add_assoc, drop-cons, take_at, rules, ltb-true}
pub use Rattle.std.proofs.lemmas.{Bool.not-false, List.Elements.All-from_recursion, List.Elements.recursion_from_All, Result.IfOk-weaker}
pub use Rattle.std.specs.{BTreeMap.get, BTreeMap.is_at, BTreeSet.contains, FinMap.len-entries, List.IsDistinct, List.Sorted.IsNonDecreasingBy}
pub use Rattle.dist_frames.specs.Stream.{after_first}
pub use Rattle.dist_world_model.specs.{Run.count_applied, Run.one_where, declared.happening.Happening.Happening}
pub use Rattle.dist_world_model.proofs.Conditions.{holds, if_holds, if_ok, if_there, there}
pub use Rattle.dist_world_model.proofs.{HappeningEffects.run-append, Lookups.place-twice, Lookups.placed, Places.at-more, Places.at-one}
pub use Rattle.dist_world_model.proofs.Words.{or-false, or-true, ◌^◌, take, is_some, is_none, IfSome, if◌then◌else◌, append_assoc, w16, lt-ltb, and_parts}
pub use Rattle.dist_world_model.proofs.Words.{cases_lt, same_Some, to_be_bytes, AllByRecursion, body_frame, first_body, is_dialing, Event, not, ne_eqb}
pub use Rattle.dist_world_model.proofs.Words.{list_any, Creation, Side, Acceptor, Dialler, ◌≡◌, ℕ, zero, suc, ◌+◌, ◌<◌, ◌≤◌, Bool, true, false, cond, ◌&&◌}
pub use Rattle.dist_world_model.proofs.Words.{◌||◌, eqb, ltb, ◌⊎◌, List, [], ◌∷◌, ◌++◌, length, drop, slice_get, Some, None, Option, option_map, sym, refl, ap}
pub use Rattle.dist_world_model.proofs.Words.{◌∙◌, subst, inl, inr, arith, length-append, eq-eqb, eqb-true, nat_tests, or_parts, slice_get_past, EndId}
pub use Rattle.dist_world_model.proofs.Words.{table_of, Setup, NodeState, step, run, after_delivery, body_taken, change_to, conns_after_saying, says, spoken_on}
pub use Rattle.dist_world_model.proofs.Words.{text_to, AllLives, at_place, first_where, Conn, Life, Text, World, empty, end_at, row_at, running, runs, runs_for}
pub use Rattle.dist_world.specs.{Asking.node_of, Asking.said_to, Asking.undelivered_text, Setups.names_repeat}
pub use Rattle.dist_locked_book.specs.declared.{closing.Closed.Closed, line.Line.Line}
pub use Rattle.dist_audit.specs.Audit.{AllApply, AreFollowed, AreOfOneWorld, AreRefused, AreTold, BeginsWith, ComeHome, ComesHere, EachLinkComesHome, HasTables, IsAlike}
pub use Rattle.dist_audit.specs.Audit.{IsFront, IsNext, PlayUpTo, RefusesLine, Reports, StopsAt, TakeTheirs, UnlessOutside, UnlessShort, after, come_of, entry_at, record_at}
pub use Rattle.dist_audit.specs.Audit.{world_before_lines, world_of}
pub use Rattle.dist_audit.specs.Faults.{falls, IsFault, Unpairs, comes_unopened, fault_of, has_ticket, has_ticket_in, is_unopened, is_unpaired, links_repeat}
pub use Rattle.dist_audit.specs.Faults.{links_unpaired, nodes_unpaired, repeats, rises, rises_in, starts_above, twice}
pub use Rattle.dist_audit.specs.Happenings.{ahead, before, begins, happenings, itself, of_lines, own, reach, reach_first, setups_of, with_mentions}
pub use Rattle.dist_audit.specs.{Kept.AreNumbers, Kept.Knows, Kept.is_again, Kept.is_unknown, Kept.number_of, declared.audit_error.AuditError.AuditError}
pub use Rattle.dist_audit.specs.Lines.{AreLinesOf, NodeLine, line_of_node, lines_at, lines_by_node, lines_from, ticket_of}
pub use Rattle.dist_audit.specs.Links.{acceptor_of, comes, comes_in, conn_of, dialled_end, dialled_in, dialler_of, inner_link, is_among, link_in, mention, mentions, opens, opens_in}
pub use Rattle.dist_audit.specs.Links.{or_else, target_of}
pub use Rattle.dist_audit.specs.Outside.{end_number, is_done_outside, is_paired, is_strange, is_strange_at, with_marks, marked_line, marked_lines, stands_twice}
pub use Rattle.dist_audit.specs.Outside.{meets_stranger, strangers}
