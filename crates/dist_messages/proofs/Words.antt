-- The words of other crates and of the definitions here that proofs cite, passed on from one place.
pub use Rattle.std.proofs.Common.{◌≡◌, ℕ, ◌-◌, ◌^◌, ◌<◌, ◌≤◌, Bool, true, false, cond, eqb, ltb, ◌⊎◌, ◌↔◌, List, [], ◌∷◌, ◌++◌, length, take, drop, IfSome}
pub use Rattle.std.proofs.Common.{is_ok, IfOk, IfErr, OnOk, IsOk, IsTrue, ◌==◌, Some, None, Ok, Err, Option, Result, sym, refl, ap, ◌∙◌, subst, inl, inr}
pub use Rattle.std.proofs.Common.{append_assoc, append-nil, arith, lit<, lit≤, length-append, take-append-drop, length-take-le, take_at, drop_at, w16, w32, w64}
pub use Rattle.std.proofs.Common.{ltb-false, ltb-true, le-ltb, lt-ltb, ne_eqb, eqb-true}
pub use Rattle.std.proofs.lemmas.{Bool.and_parts, Bool.cases_lt, Bool.eqb-false, List.length-replicate, List.nil_from_length}
pub use Rattle.std.specs.{Cmp.Lexicographic.pointwise, Cmp.Lexicographic.same_text, Int.Width, Int.from_be_bytes, Int.to_be_bytes}
pub use Rattle.dist_names.specs.{Bytes.IsBytes, Fields.bytes_at, Fields.number_at}
pub use Rattle.dist_names.proofs.{Bytes.IsBytes-append, Bytes.IsBytes-front, Bytes.IsBytes-rest, Bytes.IsBytes-zeros, Bytes.zeros, Naming.found-passes}
pub use Rattle.dist_messages.specs.{Canonical.canonical, Canonical.own_spelling, Canonical.spelling_with_name, Canonical.written_version, Views.message_of}
pub use Rattle.dist_messages.specs.Spelling.{Fits, Spells, is_said_by, text_of}
pub use Rattle.dist_messages.specs.declared.message.{Message.Message, Side.Side, Side.TheVariants.Acceptor, Side.TheVariants.Dialler, Status.Status}
pub use Rattle.dist_messages.specs.declared.message_error.{MessageError.MessageError, MessageError.TheVariants.Long, MessageError.TheVariants.Short}
