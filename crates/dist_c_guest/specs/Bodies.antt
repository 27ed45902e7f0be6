-- The contracts of the exports that take, hold or foresee a frame or its body, and of those that give bodies without their lengths.
use Rattle.std.specs.Prelude.{◌≡◌, ℕ, ◌+◌, ◌⊎◌, List, length, nat_le, Bool, true, false, Option, Some, None, Result, Ok, Err}
use Rattle.dist_peers.specs.declared.entry.EndId.{EndId}
use Rattle.dist_core.specs.{declared.reply.Reply.Reply, declared.step_error.StepError.StepError, Node.NodeState}
use Rattle.dist_c_guest.specs.{Calls.answer_to, Calls.frame_to, Codes.step_code, Guard.held_reply, Replies.reply_of}
use Rattle.dist_c_guest.specs.Steps.{Copies, Keeps, Makes, Silent}
use Rattle.dist_c_guest.specs.declared.{guest.Guest.Guest, replies.DnReply.DnReply}

-- a frame can have this body: its length fits two bytes
abbrev pub is_short : List ℕ → Bool
is_short body = nat_le (length body) 65535

-- the step of a body, as the guest reads it, or no frame can have it (8)
abbrev pub TakesBody : Bool → List ℕ → EndId → ℕ → ℕ → Guest → Option Guest → DnReply → DnReply → Type 0
TakesBody true body id fresh code s new was is = Makes (frame_to s id body) (answer_to s id body fresh) (length body) code s new was is
TakesBody false body id fresh code s new was is = Keeps 8 code (Some s) new was is

-- ---- under the guard

-- the frame is held (17), nothing changes, and the reply is reported that the step would have; or its step is made
abbrev pub Guards : Option Reply → List ℕ → EndId → ℕ → ℕ → Guest → Option Guest → DnReply → DnReply → Type 0
Guards (Some r) body id fresh code s new was is = ((code ≡ 17) × (new ≡ Some s) × (is ≡ reply_of r (length body))) ⊎ Keeps 3 code (Some s) new was is
Guards None body id fresh code s new was is = Makes (frame_to s id body) (answer_to s id body fresh) (length body) code s new was is

-- the same of a body, or no frame can have it (8)
abbrev pub GuardsBody : Bool → List ℕ → EndId → ℕ → ℕ → Guest → Option Guest → DnReply → DnReply → Type 0
GuardsBody true body id fresh code s new was is = Guards (held_reply s.node (answer_to s id body fresh)) body id fresh code s new was is
GuardsBody false body id fresh code s new was is = Keeps 8 code (Some s) new was is

-- ---- foreseen, which changes no node

-- the reply of a step is reported, or its refusal, or memory ran out for the answer (3)
abbrev pub Foresees : Result (Reply × NodeState) StepError → ℕ → ℕ → DnReply → DnReply → Type 0
Foresees (Ok x) taken code was is = ((code ≡ 0) × (is ≡ reply_of x.0 taken)) ⊎ Silent 3 code was is
Foresees (Err e) taken code was is = Silent (step_code e) code was is

-- the same of the step of the frame at the front of bytes, or none has come whole (5)
abbrev pub ForeseesFront : Option (List ℕ) → EndId → ℕ → ℕ → Guest → DnReply → DnReply → Type 0
ForeseesFront None id fresh code s was is = Silent 5 code was is
ForeseesFront (Some body) id fresh code s was is = Foresees (answer_to s id body fresh) (2 + length body) code was is

-- the same of the step of a body, or no frame can have it (8)
abbrev pub ForeseesBody : Bool → List ℕ → EndId → ℕ → ℕ → Guest → DnReply → DnReply → Type 0
ForeseesBody true body id fresh code s was is = Foresees (answer_to s id body fresh) (length body) code was is
ForeseesBody false body id fresh code s was is = Silent 8 code was is

-- ---- bodies that are said

-- a body is copied, or there is none at this place (6)
abbrev pub CopiesAt : Option (List ℕ) → ℕ → ℕ → ℕ → List ℕ → List ℕ → Type 0
CopiesAt None code had len old new = Keeps 6 code had len old new
CopiesAt (Some body) code had len old new = Copies body code len old new
