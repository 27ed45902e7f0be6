-- What the exports do, in the words of the definition's step.
use Rattle.std.specs.Prelude.{◌≡◌, ℕ, ◌+◌, ◌⊎◌, List, ◌++◌, length, drop, nat_le, ◌==◌}
use Rattle.std.specs.Prelude.{if◌then◌else◌, Bool, true, false, [], Option, Some, None, Result, Ok, Err}
use Rattle.dist_peers.specs.declared.entry.EndId.{EndId}
use Rattle.dist_core.specs.{declared.event.Event.Event, declared.reply.Reply.Reply, declared.step_error.StepError.StepError, Node.NodeState, Step.step}
use Rattle.dist_core.specs.declared.event.Event.TheVariants as event
use Rattle.dist_c_guest.specs.{Calls.answer_to, Calls.frame_to, Statuses.status_received, Codes.step_code, Codes.why_number, Replies.reply_of}
use Rattle.dist_c_guest.specs.declared.{guest.Guest.Guest, replies.DnReply.DnReply}
use Rattle.dist_messages.specs.declared.opening.Opening.{Opening, TheVariants.Old, TheVariants.New}
use Rattle.dist_core_ends.specs.declared.why.Why.{Why}

-- nothing changed, neither of the one nor of the other, and the call answered so
abbrev pub Keeps : {X Y : Type 0} → ℕ → ℕ → X → X → Y → Y → Type 0
Keeps wanted code old new was is = (code ≡ wanted) × (new ≡ old) × (is ≡ was)

-- the same of one thing
abbrev pub Silent : {X : Type 0} → ℕ → ℕ → X → X → Type 0
Silent wanted code was is = (code ≡ wanted) × (is ≡ was)

-- WHAT IS SAID OF THE GUEST THAT A NODE HOLDS; or it holds none (1), and neither of two things changed
abbrev pub IfHeld : {X Y : Type 0} → Option Guest → (Guest → Type 0) → ℕ → X → X → Y → Y → Type 0
IfHeld None says code old new was is = Keeps 1 code old new was is
IfHeld (Some s) says code old new was is = says s

-- THE STEP OF AN EVENT, as C has it: the node and the reply are the definition's, and the status that was received is kept; or
-- its refusal is returned; where it refuses nothing memory may run out (3)
abbrev pub Makes : Event → Result (Reply × NodeState) StepError → ℕ → ℕ → Guest → Option Guest → DnReply → DnReply → Type 0
Makes v (Ok x) taken code s new was is =
    ((code ≡ 0) × (new ≡ Some (record s { node = x.1; last = Some x.0; received_status = status_received v })) × (is ≡ reply_of x.0 taken))
    ⊎ Keeps 3 code (Some s) new was is
Makes v (Err e) taken code s new was is = Keeps (step_code e) code (Some s) new was is

-- the same at a node that may hold no guest (1)
abbrev pub Steps : Event → ℕ → ℕ → Option Guest → Option Guest → DnReply → DnReply → Type 0
Steps v fresh code None new was is = Keeps 1 code None new was is
Steps v fresh code (Some s) new was is = Makes v (step s.node v fresh) 0 code s new was is

-- the step of the frame at the front of bytes, as the guest reads it, or none where it has not come whole (5)
abbrev pub Takes : Option (List ℕ) → EndId → ℕ → ℕ → Guest → Option Guest → DnReply → DnReply → Type 0
Takes None id fresh code s new was is = Keeps 5 code (Some s) new was is
Takes (Some body) id fresh code s new was is = Makes (frame_to s id body) (answer_to s id body fresh) (2 + length body) code s new was is

-- whether there is room (4 where there is too little), and what stands in it then
abbrev pub CopiesIf : Bool → List ℕ → ℕ → List ℕ → List ℕ → Type 0
CopiesIf false text code old new = (code ≡ 4) × (new ≡ old)
CopiesIf true text code old new = (code ≡ 0) × (new ≡ text ++ drop (length text) old)

-- a text is copied to the front of room where it fits, and its length is reported in any case
abbrev pub Copies : List ℕ → ℕ → ℕ → List ℕ → List ℕ → Type 0
Copies text code len old new = (len ≡ length text) × CopiesIf (nat_le (length text) (length old)) text code old new

-- the bytes that the newest reply sends
abbrev pub sent_bytes : Option Reply → List ℕ
sent_bytes None = []
sent_bytes (Some r) = r.say

-- the opening of a number
abbrev pub opening_of : ℕ → Opening
opening_of n = if n == 0 then Old else New

-- the step of a loss with the cause of the number, or there is no such cause (6)
abbrev pub Loses : EndId → ℕ → ℕ → Option Guest → Option Guest → DnReply → DnReply → Type 0
Loses id number code old new was is =
    ((w : Why) × (why_number w ≡ number) × Steps (event.Lost id w) 0 code old new was is) ⊎ Keeps 6 code old new was is
