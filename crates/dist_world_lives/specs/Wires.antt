-- What is read off a connection, and how what is undelivered of it changes.
use Rattle.std.specs.Prelude.{ℕ, Bool, false, ◌&&◌, nat_lt, if◌then◌else◌, List, [], Option, Some, None, is_some}
use Rattle.std.specs.{Option.option_map, Int.w16}
use Rattle.dist_messages.specs.declared.message.Side.{Side, TheVariants.Dialler, TheVariants.Acceptor}
use Rattle.dist_frames.specs.Stream.{first_body}
use Rattle.dist_world_model.specs.{World.Text, World.Conn, Delivery.text_to, Happenings.is_nonempty}

-- the incarnation to which a connection leads, if it was not accepted yet
abbrev pub unaccepted_target : Option Conn → Option ℕ
unaccepted_target None = None
unaccepted_target (Some x) = if is_some x.accepted then None else Some x.target

-- what was sent to this side of a connection and is undelivered
abbrev pub undelivered_to : Side → Option Conn → Option (List ℕ)
undelivered_to side o = option_map (λ c. (let t = text_to side c in t.said)) o

-- a delivery of at most k bytes to this side of a connection moves at least one
abbrev pub can_come : Option Conn → Side → ℕ → Bool
can_come None side k = false
can_come (Some x) side k = nat_lt 0 k && is_nonempty (let t = text_to side x in t.said)

-- the first body that came to this side of a connection
abbrev pub front_at : Option Conn → Side → Option (List ℕ)
front_at None side = None
front_at (Some x) side = first_body w16 (let t = text_to side x in t.come)

-- what this side of a connection sends
abbrev pub text_from : Side → Conn → Text
text_from Dialler c = c.there
text_from Acceptor c = c.back

-- what this side of a connection sent and is undelivered; nothing where there is no connection
abbrev pub undelivered_by : Side → Option Conn → List ℕ
undelivered_by side None = []
undelivered_by side (Some c) = let t = text_from side c in t.said

-- these bytes are all that this side sent and is undelivered
abbrev pub with_undelivered : Side → List ℕ → Conn → Conn
with_undelivered Dialler bytes c = record c { there = record (c.there) { said = bytes } }
with_undelivered Acceptor bytes c = record c { back = record (c.back) { said = bytes } }
