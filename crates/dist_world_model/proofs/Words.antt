-- The words of the crates below and of the definitions here that most proofs cite, passed on from one place.
pub use mathlib.Core.Bool.{or-false, or-true}
pub use Rattle.std.proofs.Common.{◌^◌, take, is_some, is_none, IfSome, if◌then◌else◌, append_assoc, append-nil, lit<, w16, le-ltb, lt-ltb}
pub use Rattle.std.proofs.lemmas.Bool.{and_parts, and_right, both_ways, cases_lt, cases_order, or_left, or_right, true_from_ne_false}
pub use Rattle.std.proofs.lemmas.{List.drop-append-le, List.nil_from_length, List.take-append-le, Option.same_Some}
pub use Rattle.std.specs.{Cmp.Lexicographic.same_text, Int.from_be_bytes, Int.to_be_bytes, List.AllByRecursion, Result.result_ok}
pub use Rattle.dist_names.specs.{Flags.common, Flags.handshake_23, Flags.high_half, NodeName.IsNodeName}
pub use Rattle.dist_frames.specs.Stream.{behind, body_frame, first_body, front, has_first, head}
pub use Rattle.dist_messages.specs.{Spelling.is_said_by, declared.message.Status.Status}
pub use Rattle.dist_core_ends.specs.Ends.{holds_at, is_dialing, waits_in}
pub use Rattle.dist_core_setup.specs.Rules.{announced_by, announced_in}
pub use Rattle.dist_core.specs.{Changing.setup_after, Effects.dooms_other, Rows.Closing}
pub use Rattle.dist_core.specs.declared.{changing.Change.Change, effect.Effect.Effect, event.Event.Event, reply.Reply.Reply, step_error.StepError.StepError}
pub use Rattle.dist_core.proofs.Words.{not, ne_eqb, false_from_ne_true, some_pair_parts, list_any, has_all, low_half, of_halves, Creation, Flags, read, Form}
pub use Rattle.dist_core.proofs.Words.{Message, Side, Acceptor, Dialler, Opening, Attempt, End, UpRecord, Kind, Phase, Why, In, Out, Up, ◌≡◌, ℕ, zero, suc, ◌+◌}
pub use Rattle.dist_core.proofs.Words.{◌<◌, ◌≤◌, Bool, true, false, cond, ◌&&◌, ◌||◌, eqb, ltb, ◌≢◌, ◌⊎◌, List, [], ◌∷◌, ◌++◌, length, drop, slice_get, Some}
pub use Rattle.dist_core.proofs.Words.{None, Ok, Err, Option, Result, option_map, sym, refl, ap, ◌∙◌, subst, inl, inr, arith, length-append, eq-eqb, eqb-true}
pub use Rattle.dist_core.proofs.Words.{nat_tests, false≢true, or_parts, slice_get_past, slice_get_within, Name, replaced_by, is_greater, EndId, Entry, IsThere}
pub use Rattle.dist_core.proofs.Words.{other_view, AreLegal, Claim, claim_of, entry_in, holds, is_claim, is_held, kind_in, names, table_of, knows_six}
pub use Rattle.dist_core.proofs.Words.{own_digest, same_bytes, Setup, complete_flags, named_attempt, changed_or, after_change, change, finds_no_room, has_usual}
pub use Rattle.dist_core.proofs.Words.{is_in_use, closes, comes_up, fresh_attempt, goes_on, held_back, moves, reply_phase, shuts, shuts_other, superseded_end}
pub use Rattle.dist_core.proofs.Words.{superseded_in, supersedes, NodeState, ends_after, new_id, node_after, opening, Heard, IsChallenge, IsName, StepRow}
pub use Rattle.dist_core.proofs.Words.{Taken, after, effect_of, sender_in, sender_to, step, step_result}
pub use Rattle.dist_core_laws.specs.{Laws.IsOther, Records.AreRight}
pub use Rattle.dist_world_model.specs.Agreement.{Fits, Agreement, AllFit, AreAgreed, AreSetups, Counts, IsAgreed, IsFooled, IsReached, IsUp, Joins, NoImpostors, OpenAgreement, bare}
pub use Rattle.dist_world_model.specs.{Crossing.Crosses, Crossing.lesser, Holders.AreApart, Holders.claim_in, Holders.get_along, Holders.held_before, Run.run}
pub use Rattle.dist_world_model.specs.Delivery.{after_delivery, body_taken, change_to, conns_after_saying, more_said, says, spoken_on, text_to}
pub use Rattle.dist_world_model.specs.Happenings.{accepted_by, applied_at, conn_of, happens, is_nonempty, is_open_end, life_after, life_after_end, most_applied}
pub use Rattle.dist_world_model.specs.Happenings.{most_begins, new_conn, new_life, next_end, notify, notify_node, reached_life, reached_row}
pub use Rattle.dist_world_model.specs.Happenings.{is_outside, shut_all, shut_row, ticked_on, with_node, without_closing, world_after, ◌>>=◌, ◌>>◌}
pub use Rattle.dist_world_model.specs.{Laws.AllLives, Laws.Alone, Laws.Apart, Laws.Decided, Laws.InTurn, Laws.OwnDigests, Laws.UpsAreLinked, NodeLaws.NodeLaws}
pub use Rattle.dist_world_model.specs.{Lists.add_some, Lists.at_each, Lists.at_place, Lists.first_where, declared.happening.Happening.Happening}
pub use Rattle.dist_world_model.specs.Order.{Accepted, AreAbove, AreInOrder, InOrder, Numbers, OnlyLastRuns}
pub use Rattle.dist_world_model.specs.Rows.{EndRow, claim_before, claim_when, conn_behind, dooms, given_by, holds_peer, kind_by, mark, new_row, once, past, peer_by, rises}
pub use Rattle.dist_world_model.specs.Rows.{most_connections, row_after, rows_after, says_reply, shuts_end, takes_name}
pub use Rattle.dist_world_model.specs.Stones.{DialsIdle, Replaces, RisesFirst, TakesOver, entered_before, left_before}
pub use Rattle.dist_world_model.specs.World.{Conn, Life, Text, World, empty, end_at, end_of_life, row_at, row_of_life, running, runs, runs_for}
