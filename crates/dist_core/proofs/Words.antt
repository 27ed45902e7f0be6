-- The words of the crates below and of the definitions here that most proofs cite, passed on from one place.
pub use Rattle.std.proofs.Common.{not, IfOk, IfErr, IsTrue, nat_lt, take-append-drop, ne_eqb}
pub use Rattle.std.proofs.lemmas.{Bool.cond_both, Bool.false_from_ne_true, List.at_drop_all, List.length-map, List.map-append, List.map-set, List.set-get_or}
pub use Rattle.std.proofs.lemmas.Option.{get_or_from_slice_get, slice_get-map, some_pair_parts}
pub use Rattle.std.specs.{FinMap.get-entries, FinMap.len-empty, FinMap.len-entries, FinMap.len-insert, FinMap.len-remove, List.list_any}
pub use Rattle.dist_names.specs.{Flags.has_all, Flags.low_half, Flags.of_halves, declared.creation.Creation.Creation, declared.flags.Flags.Flags}
pub use Rattle.dist_messages.specs.{Reading.read, Views.message_of}
pub use Rattle.dist_messages.specs.declared.{form.Form.Form, message.Message.Message, message.Side.Side, message_error.MessageError.MessageError}
pub use Rattle.dist_messages.specs.declared.{message.Side.TheVariants.Acceptor, message.Side.TheVariants.Dialler, opening.Opening.Opening}
pub use Rattle.dist_secret.specs.Cookies.{rekeys}
pub use Rattle.dist_peers.specs.{Table.up_id, Table.with_entry, Verdicts.is_full, declared.entry.Verdict.Verdict}
pub use Rattle.dist_core_ends.specs.Change.{table_after_entry}
pub use Rattle.dist_core_ends.specs.declared.{known.Attempt.Attempt, known.End.End, known.UpRecord.UpRecord, phase.Kind.Kind, phase.Phase.Phase, why.Why.Why}
pub use Rattle.dist_core_ends.specs.declared.phase.Kind.TheVariants.{In, Out, Up}
pub use Rattle.dist_core_ends.proofs.{Agreement.entry-agreed, Changes.get-after, Changes.get-put, Legal.legal, Legal.none-legal, Legal.table-legal}
pub use Rattle.dist_core_ends.proofs.Tables.{agree-empty, get-table, table-agreed}
pub use Rattle.dist_core_ends.proofs.Words.{◌≡◌, ℕ, zero, suc, ◌+◌, ◌<◌, ◌≤◌, Bool, true, false, cond, ◌&&◌, ◌||◌, eqb, ltb, ◌≢◌, ◌⊎◌, List, [], ◌∷◌, ◌++◌}
pub use Rattle.dist_core_ends.proofs.Words.{length, drop, set, IsOk, slice_get, Some, None, Ok, Err, count_by, Option, Result, option_map, filter_map, sym}
pub use Rattle.dist_core_ends.proofs.Words.{refl, ap, ◌∙◌, subst, inl, inr, arith, length-append, length-set, rules, eq-eqb, eqb-true, nat_tests, false≢true}
pub use Rattle.dist_core_ends.proofs.Words.{or_parts, slice_get_past, slice_get_within, cons_option, Name, name_cmp, same_name, Table, is_waiting, left_by}
pub use Rattle.dist_core_ends.proofs.Words.{replaced_by, is_greater, ruling, EndId, Entry, AsksRaise, AsksShift, IsThere, claim_at, one_if, other_view, put_end}
pub use Rattle.dist_core_ends.proofs.Words.{put_other, table_after_rise, table_after_shift, view_after, with_change, Agree, AreLegal, Claim, claim_of, end_id}
pub use Rattle.dist_core_ends.proofs.Words.{entry_from, entry_in, first_of, holds, is_claim, is_held, is_open, is_unnamed, kind_in, names, row_in, same_kind}
pub use Rattle.dist_core_ends.proofs.Words.{table_of, without_cause, without_causes_below}
pub use Rattle.dist_core_setup.specs.Rules.{asks_name, form_of_old, is_allowed, is_good, is_refused, knows_six, opens_new, own_digest, required_of, same_bytes}
pub use Rattle.dist_core_setup.specs.Saying.{ack_text, greeting_text, name_text, reply_text, status_text, tick_text}
pub use Rattle.dist_core_setup.specs.declared.setup.Setup.{Setup}
pub use Rattle.dist_core.specs.Accepted.{complete_flags, in_await_name, in_await_reply, name_came, name_taken, named_attempt, verdict_in}
pub use Rattle.dist_core.specs.{Acts.Act, Acts.Changes, Acts.Forgets, Acts.Renews, Acts.Steps, Acts.act, Acts.changed_or, Acts.run_acts, Dialled.in_await_ack}
pub use Rattle.dist_core.specs.{Answers.GivesReply, Answers.IsStep, Answers.Refuses, Answers.reply_of, Doing.CanDo, Keeping.KeepsDone, Keeping.KeepsStep}
pub use Rattle.dist_core.specs.Changing.{after_change, change, finds_no_room, has_usual, is_in_use, is_up, is_usual_row}
pub use Rattle.dist_core.specs.{Clauses.ClosesOnReply, Clauses.IsFrame, Clauses.IsRightReply, Clauses.end_of, Clauses.loss_reply, declared.effect.Effect.Effect}
pub use Rattle.dist_core.specs.Effects.{closes, comes_up, fresh_attempt, goes_on, held_back, moves, record_of, reply_phase, shuts, shuts_other, superseded_end}
pub use Rattle.dist_core.specs.Effects.{superseded_in, supersedes}
pub use Rattle.dist_core.specs.{Fitting.FitsNodeTable, Fitting.table_after_effect, Losses.IsGone, Losses.IsSilent, Losses.is_loss, declared.event.Event.Event}
pub use Rattle.dist_core.specs.Node.{NodeState, ends_after, is_crowded, is_full_for, is_given_out, is_spent, limits_of, new_id}
pub use Rattle.dist_core.specs.{Progress.CanProgress, Progress.HoldsOn, Progress.effect_by, Runs.node_after, Runs.opening, Runs.run, declared.reply.Note.Note}
pub use Rattle.dist_core.specs.Rows.{Accepts, Acknowledged, Asks_again, Asks_alive, Begins, Ceases, Challenges, Closes, Comes_again, Comes_in, Complements}
pub use Rattle.dist_core.specs.Rows.{Crosses, Declines, Dials, Fails, Goes_on, Heard, Hears, Insists, IsChallenge, IsName, Loses, Names, Replied, Replies}
pub use Rattle.dist_core.specs.Rows.{StepRow, Taken, Ticks}
pub use Rattle.dist_core.specs.Step.{after, at_end, came_in, cost_of, dial_effect, effect_of, framed_from, in_attempt, in_end, message_effect, opened_in}
pub use Rattle.dist_core.specs.Step.{opening_effect, sender_in, sender_to, step, step_result, tick_effect, unless_spent}
pub use Rattle.dist_core.specs.declared.changing.{Change.Change, Change.TheVariants.Allow, Change.TheVariants.Cookie, Change.TheVariants.UsualCookie}
pub use Rattle.dist_core.specs.declared.{progress.Progress.Progress, reply.Reply.Reply, step_error.StepError.StepError}
