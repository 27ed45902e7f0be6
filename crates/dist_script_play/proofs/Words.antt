-- The words of other crates and of the definitions here that proofs cite, passed on from one place.
pub use Rattle.std.proofs.Common.{◌↔◌, IsErrAnd, codes, decimal, nat_cmp, is_eq, is_gt, BTreeMap, BTreeSet, ⊎_elim}
pub use Rattle.std.proofs.KnownBytes.{Appends-kept, Appends-nil, Appends-trans, Keeps-refl, starts_with_rest}
pub use Rattle.std.proofs.lemmas.List.{at_drop_more, get_or_past, length_push}
pub use Rattle.std.specs.{BTreeMap.get, BTreeSet.IsLowerBound, BTreeSet.Updates, BTreeSet.contains, Io.StartsWith, List.concat}
pub use Rattle.std.specs.{Io.KnownBytes.Appends, Io.KnownBytes.Consumes, Io.KnownBytes.IsAtEnd, Io.KnownBytes.Keeps, declared.alloc.AllocError.AllocError}
pub use Rattle.dist_frames.specs.Reader.{Reader, as_linked, next_body, to_come, unreported, without_count, without_next}
pub use Rattle.dist_core_ends.proofs.Words.{◌-◌, get_or, take, replicate, is_some, OnOk, IsSome, option_and_then, append_assoc, find, itself_lem, one_lem}
pub use Rattle.dist_core.proofs.Words.{IfOk, IfErr, at_drop_all, set-get_or, list_any, End, UpRecord, Why, get-table, ◌≡◌, ℕ, zero, suc, ◌+◌, ◌<◌, ◌≤◌, Bool}
pub use Rattle.dist_core.proofs.Words.{true, false, cond, ◌≢◌, ◌⊎◌, List, [], ◌∷◌, ◌++◌, length, drop, set, IsOk, slice_get, Some, None, Ok, Err, Option}
pub use Rattle.dist_core.proofs.Words.{Result, option_map, sym, refl, ap, ◌∙◌, subst, inl, inr, arith, nat_tests, slice_get_within, Name, name_cmp, same_name}
pub use Rattle.dist_core.proofs.Words.{EndId, Entry, end_id, entry_from, entry_in, first_of, holds, table_of, Setup, Refuses, NodeState, step}
pub use Rattle.dist_world_model.specs.{Run.count_applied, Run.one_where, declared.happening.Happening.Happening}
pub use Rattle.dist_world_model.proofs.Words.{append-nil, w16, le-ltb, lt-ltb, nil_from_length, Reply, StepError, Counts, IsFooled, run, Life, World, empty}
pub use Rattle.dist_world.specs.{Asking.node_of, Setups.names_repeat, declared.agreement.Agreement.Agreement}
pub use Rattle.dist_script.specs.{Scripts.Says.Events, Scripts.Says.Happenings, Texts.PutsFront, Texts.flags_text, Texts.text_of, Words.lines_of}
pub use Rattle.dist_script.specs.declared.fault.ScriptFault.{ScriptFault}
pub use Rattle.dist_script.specs.declared.fault.ScriptFault.TheVariants.{NoMemory, SameName, TooLong, WriteFailed}
pub use Rattle.dist_script.proofs.Fronts.{PutSoFar, all_put, front_of_front, more_put, starts, there}
pub use Rattle.dist_script_play.specs.Later.{AreLater, ArePlaces, HasAllFrom, IsRowFrom, later_at, place_behind, place_of}
pub use Rattle.dist_script_play.specs.Lines.{applied_line, creation_text, found_text, node_text, refused_line, rows_text, table_lines, table_text}
pub use Rattle.dist_script_play.specs.Pages.{BreaksOff, IsOfSystem, Puts, PutsPart}
pub use Rattle.dist_script_play.specs.Played.{IsEnd, IsFront, IsPrinted, IsPrintedFrom, Readers, Received, Standing, after_frame, after_line, after_received}
pub use Rattle.dist_script_play.specs.Played.{after_step, at_first, behind_text, closed_by, closed_now, fault_in, fault_said, frame_received, happenings_text}
pub use Rattle.dist_script_play.specs.Played.{is_said, line_text, lines_text, open_readers, packets_text, reader_of, readers_to, received, received_frames}
pub use Rattle.dist_script_play.specs.Played.{received_text, step_text, steps_text, up_in, with_reader, with_received, without_frame}
pub use Rattle.dist_script_play.specs.Scenes.{BreaksOne, IsBad, IsCut, Plays, PutsOne, PutsOneOn, PutsOnePart, Receives, Stops, StopsWorld, closed_after}
pub use Rattle.dist_script_play.specs.Worlds.{AreLinesOf, IsReported, PutsAgreements, PutsFooled, nodes_from, nodes_text, pairs, places_from, reported_line, with_each}
