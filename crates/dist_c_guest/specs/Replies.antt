-- What is reported to C of a reply.
use Rattle.std.specs.{Prelude.ℕ, Prelude.Option, Prelude.Some, Prelude.None, Prelude.length, Prelude.option_and_then, Option.option_map_or}
use Rattle.dist_names.specs.declared.creation.Creation.{Creation}
use Rattle.dist_core.specs.declared.reply.Reply.{Reply}
use Rattle.dist_c_guest.specs.{declared.replies.DnReply.DnReply, Codes.why_number}

-- the number of a creation, and 0 where it is unknown
abbrev pub creation_number : Option Creation → ℕ
creation_number None = 0
creation_number (Some c) = c.0

-- 1 where a creation is known
abbrev pub is_known : Option Creation → ℕ
is_known None = 0
is_known (Some c) = 1

-- a reply, to bytes of which this many were taken: 0 stands for what there is not
abbrev pub reply_of : Reply → ℕ → DnReply
reply_of r n = record {
  say = length r.say;
  taken = n;
  common = option_map_or (λ u. u.common.0) r.up 0;
  id = r.end_.0;
  closed = option_map_or (λ x. why_number x.1) r.closed 0;
  closed_id = option_map_or (λ x. x.0.0) r.closed 0;
  up = option_map_or (λ u. 1) r.up 0;
  creation = creation_number (option_and_then (λ u. u.creation) r.up);
  has_creation = is_known (option_and_then (λ u. u.creation) r.up);
}
