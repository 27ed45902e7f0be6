-- The words of other crates and of the definitions here that proofs cite, passed on from one place.
pub use Rattle.std.proofs.Common.{map, get_or, IsErrAnd, bit_and, bit_or, length-drop, length-take, drop-drop}
pub use Rattle.std.proofs.lemmas.{Bool.not-true, Bool.or_cases, Fn.filter_same, Nat.and_assoc, Nat.and_mask, Nat.and_mod}
pub use Rattle.std.specs.{Int.byte_len, Int.Bits.and_zero_r, Int.Bits.or_add_and, Option.option_or}
pub use Rattle.dist_names.proofs.{Fields.IsWide, Fields.number_again, Fields.wide32, Fields.wide64, Orders.itself_lem}
pub use Rattle.dist_frames.specs.Stream.{bodies}
pub use Rattle.dist_messages.proofs.Words.{◌-◌, ◌==◌, w32, w64, Width, bytes_at, number_at, canonical, written_version, Fits}
pub use Rattle.dist_core_ends.specs.Ends.{is_pending, oldest_pending, oldest_unnamed}
pub use Rattle.dist_core.specs.declared.changing.Change.TheVariants.{Allow}
pub use Rattle.dist_core.proofs.{Closings.heard-end, Counts.of_ok, Replies.other-of, Rows.row_of}
pub use Rattle.dist_core.proofs.Words.{IsTrue, MessageError, IsOk, count_by, rules, same_name, end_id, first_of, is_open, is_unnamed, Act, Changes}
pub use Rattle.dist_core.proofs.Words.{Forgets, Renews, Steps, act, run_acts, GivesReply, Refuses, reply_of, is_spent, at_end, framed_from}
pub use Rattle.dist_world_model.specs.{Frames.Announces, Frames.AreCanonical, Frames.IsCanonical, declared.happening.Happening.Happening}
pub use Rattle.dist_world_model.proofs.{HappeningEffects.run-append, Places.eqb-self}
pub use Rattle.dist_world_model.proofs.Words.{◌^◌, is_some, if◌then◌else◌, lit<, w16, and_parts, to_be_bytes, behind, first_body, front, has_first, head}
pub use Rattle.dist_world_model.proofs.Words.{Status, announced_by, Effect, Event, Reply, StepError, not, ne_eqb, has_all, low_half, Message, Side, End}
pub use Rattle.dist_world_model.proofs.Words.{UpRecord, Why, ◌≡◌, ℕ, zero, suc, ◌+◌, ◌<◌, ◌≤◌, Bool, true, false, cond, ◌&&◌, ◌||◌, eqb, ltb, ◌≢◌, List, []}
pub use Rattle.dist_world_model.proofs.Words.{◌∷◌, ◌++◌, length, drop, slice_get, Some, None, Ok, Err, Option, Result, option_map, sym, refl, ap, ◌∙◌, subst}
pub use Rattle.dist_world_model.proofs.Words.{inl, inr, arith, eq-eqb, eqb-true, false≢true, Name, EndId, AreLegal, entry_in, is_held, names, Setup, changed_or}
pub use Rattle.dist_world_model.proofs.Words.{NodeState, ends_after, node_after, opening, after, effect_of, sender_to, step, step_result, Agreement, AllFit}
pub use Rattle.dist_world_model.proofs.Words.{AreSetups, Counts, IsFooled, IsReached, IsUp, run, body_taken, change_to, text_to, at_place, Conn, Life, World, empty}
pub use Rattle.dist_world_model.proofs.Words.{row_at, running}
pub use Rattle.dist_c_guest.specs.{Calls.IsCall, Calls.answer_after, Calls.answer_to, Calls.frame_to, Calls.node_letting, Forms.allowed_names}
pub use Rattle.dist_c_guest.specs.{Reading.digest_25, Reading.expansion, Reading.plain, Reading.with_field, Statuses.status_in, Statuses.status_of}
pub use Rattle.dist_c_guest.specs.{Newcomers.MakesRoom, Newcomers.first_to_go, Newcomers.gives_way, Newcomers.room_for, declared.guest.Guest.Guest}
pub use Rattle.dist_c_guest.specs.{Whole.HasWhole, Whole.Hold, Whole.are_whole, Whole.is_whole, Whole.mandatory_25, declared.reading.Reading.Reading}
