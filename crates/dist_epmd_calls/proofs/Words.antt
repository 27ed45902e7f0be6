-- The words of the crates below and of the definitions here that several proofs cite, passed on from one place.
pub use Rattle.std.proofs.Common.{get_or, IsErrAnd, IsOk, IsErr, le_refl, length-drop, length-take, length-take-le, take_all, take_at, le-ltb, eq-eqb}
pub use Rattle.std.proofs.KnownBytes.{prepend_known-nil}
pub use Rattle.dist_names.specs.{Answer.RefusedBut, declared.creation.Creation.Creation}
pub use Rattle.dist_frames.specs.Stream.{body_frame}
pub use Rattle.dist_stream.specs.{Stream.StreamState, declared.turn_error.TurnError.TurnError}
pub use Rattle.dist_stream.specs.Turns.{Hears, HearsFront, IsReadFault, IsWriteFault, Says, SaysFront, Spends}
pub use Rattle.dist_stream.proofs.Talks.{Hears-trans, Says-none, Spends-none, Spends-trans, append_known-none}
pub use Rattle.dist_epmd.specs.{Answering.LacksText, Answering.is_want, History.IsIn, Reading.read_answer}
pub use Rattle.dist_epmd.specs.declared.{epmd_error.EpmdError.EpmdError, message.Answer.Answer, message.NodeInfo.NodeInfo, message.Request.Request, row.Row.Row}
pub use Rattle.dist_epmd.proofs.{Histories.in_filter, Histories.in_insert, Legal.closed_legal, Legal.request_legal}
pub use Rattle.dist_epmd.proofs.Words.{◌≡◌, ℕ, suc, ◌+◌, ◌-◌, ◌^◌, ◌<◌, ◌≤◌, Bool, true, false, cond, not, eqb, ltb, ◌≢◌, List, [], ◌∷◌, ◌++◌, length, take}
pub use Rattle.dist_epmd.proofs.Words.{drop, Some, None, Ok, Err, filter, Option, Result, sym, refl, ap, ◌∙◌, subst, inl, inr, ⊎_elim, append-nil, arith}
pub use Rattle.dist_epmd.proofs.Words.{length-append, take-append-drop, w16, rules, cond-false, cond_both, common_steps, from_be_bytes, to_be_bytes}
pub use Rattle.dist_epmd.proofs.Words.{position_or_len, Answers, request_text, written_answer, written_request}
pub use Rattle.dist_epmd_calls.specs.Asking.{Asks, AsksFor, IfItFits, Registers, RegistersFor, ReportsBy, ReportsWhole, Settles, Talks, answer_len, creation_in}
pub use Rattle.dist_epmd_calls.specs.Asking.{creation_meant, info_meant, names_meant, question_of, rest_len}
pub use Rattle.dist_epmd_calls.specs.{Bodies.HearsFrame, Refusals.lookup_error, Refusals.whole_refusal, declared.lookup_error.LookupError.LookupError}
pub use Rattle.dist_epmd_calls.specs.Serving.{AfterCut, BringsRequest, Came, IsSaid, Replies, Serves, served_as}
pub use Rattle.dist_epmd_calls.specs.{Steps.HearsAnswer, Steps.HearsLen, Steps.HearsSo, Steps.IsFrameOf, Steps.SaysSo, declared.serve.Served.Served}
