-- What is read off a world.
use Rattle.std.specs.Prelude.{◌≡◌, ℕ, Bool, false, List, ◌++◌, Option, Some, None, slice_get, IsTrue, ◌↔◌}
use Rattle.std.specs.Option.{option_map, option_and_then}
use Rattle.dist_peers.specs.declared.entry.EndId.{EndId}
use Rattle.dist_messages.specs.declared.message.Side.{Side}
use Rattle.dist_core_ends.specs.declared.why.Why.{Why}
use Rattle.dist_core.specs.Node.{NodeState}
use Rattle.dist_world_model.specs.{World.World, World.Life, World.running, World.row_at, Delivery.text_to}
use Rattle.dist_world_lives.specs.Stepping.{wire_of}

-- the running incarnation of a node, itself
abbrev pub running_life : World → ℕ → Option Life
running_life w i = option_and_then (slice_get w.lives) (running w i)

-- its node
abbrev pub node_of : World → ℕ → Option NodeState
node_of w i = option_map (λ l. l.node) (running_life w i)

-- what was sent to this side of a connection and is undelivered
abbrev pub undelivered_text : World → Option (Side × ℕ) → Option (List ℕ)
undelivered_text w None = None
undelivered_text w (Some x) = option_map (λ c. (let t = text_to x.0 c in t.said)) (slice_get w.conns x.1)

-- the text that is on its way to an end of the running incarnation of a node, where it has a connection
abbrev pub said_to : World → ℕ → EndId → Option (List ℕ)
said_to w i id = option_and_then (λ place. undelivered_text w (wire_of (row_at w place id.0))) (running w i)

-- the answer is whether there is a text that begins with these bytes
abbrev pub SaidNext : Bool → Option (List ℕ) → List ℕ → Type 0
SaidNext b None bytes = b ≡ false
SaidNext b (Some s) bytes = IsTrue b ↔ ((rest : List ℕ) × (bytes ++ rest ≡ s))

-- the same three in one row
abbrev pub flat_closed : ℕ × (EndId × Why) → ℕ × EndId × Why
flat_closed x = (x.0, (let y = x.1 in y.0), (let y = x.1 in y.1))
