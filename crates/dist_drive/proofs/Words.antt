-- The words of the crates below and of the definitions here that several proofs cite, passed on from one place.
pub use Rattle.std.proofs.Common.{◌*◌, map, IsErrAnd, if◌then◌else◌, OnOk, OnErr, vec_len, vec_capacity, position, le_refl}
pub use Rattle.std.proofs.{KnownBytes.prepend_known-nil, Math.Seq.take-append_seam, Math.Seq.take-length, lemmas.List.take-append-le}
pub use Rattle.std.proofs.lemmas.{List.Concat.flat_map-append, List.Folds.position_or_len_push, Result.IfErr-weaker, Result.IfOk-weaker}
pub use Rattle.dist_frames.specs.{History.Accounts, History.IsBytes, Stream.after_first, Stream.bodies, Stream.body_frame, Stream.first_body}
pub use Rattle.dist_frames.specs.Reader.{Linked, Reader, Short, as_linked, next_body, rest_of, to_come, with_bytes, without_count, without_next}
pub use Rattle.dist_core.specs.declared.{event.Event.Event, reply.Reply.Reply, step_error.StepError.StepError}
pub use Rattle.dist_core.proofs.Words.{IfErr, nat_lt, take-append-drop, length-map, map-append, End, UpRecord, Why, ◌≡◌, ℕ, suc, ◌+◌, ◌<◌, ◌≤◌, Bool, true}
pub use Rattle.dist_core.proofs.Words.{false, cond, ◌||◌, eqb, ◌⊎◌, List, [], ◌∷◌, ◌++◌, length, drop, slice_get, Some, None, Ok, Err, Option, Result}
pub use Rattle.dist_core.proofs.Words.{option_map, sym, refl, ap, ◌∙◌, subst, inl, inr, arith, length-append, rules, eq-eqb, eqb-true, slice_get_past, EndId}
pub use Rattle.dist_core.proofs.Words.{is_open, end_of, IsGone, is_loss, NodeState, step}
pub use Rattle.dist_stream.specs.{Stream.StreamState, Turns.Hears, Turns.IsWriteFault, Turns.Rises, Turns.Says, Turns.SaysFront, Turns.Spends}
pub use Rattle.dist_stream.specs.declared.turn_error.TurnError.{TurnError}
pub use Rattle.dist_epmd.proofs.Words.{◌-◌, take, is_some, flat_map, ⊎_elim, append_assoc, append-nil, w16, position_or_len}
pub use Rattle.dist_drive.specs.{Desks.DeskFacts, Desks.IsOther, Desks.Step, Desks.event_of, Desks.last_reply, Desks.number_of, Desks.reply_of, Memory.HasRoom}
pub use Rattle.dist_drive.specs.Driven.{Carries, Course, Does, Finish, HandsOnAll, HasCause, IsFront, IsOnlyGone, LeavesUnread, Marks, ReportsLoss, SetsNoMark}
pub use Rattle.dist_drive.specs.Driven.{Start, WritesAll, events_of, frames_of, is_of_end, is_of_failed_read, is_up, next_frame, text_of, through, whole_course}
pub use Rattle.dist_drive.specs.{Numbers.DrawsAll, Numbers.DrawsOneAtMost, Numbers.Gives, declared.outcome.Ending.Ending}
pub use Rattle.dist_drive.specs.Running.{EndsSo, Goes, GoesOn, HandsOn, HearsPiece, Keeps, KeepsLinked, KeepsShort, Place, Runs, RunsOn, SaysReply, TakesFrame}
pub use Rattle.dist_drive.specs.Running.{after_reply, after_step, ending_of_refusal, ending_of_stream, own_why}
