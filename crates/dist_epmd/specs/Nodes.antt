-- What a node says of itself when it registers (ERTS User's Guide, Distribution Protocol, Register a Node in EPMD).
use Rattle.std.specs.Prelude.{ℕ, Bool, true, false, List, []}
use Rattle.dist_epmd.specs.declared.message.NodeInfo.{NodeInfo}

-- 77 is the type of a normal node, and 72 that of a hidden node
abbrev pub type_of : Bool → ℕ
type_of false = 77
type_of true = 72

-- WHAT A NODE SAYS when this is its name before the `@` and its port: it knows versions 5 to 6 of the handshake, over TCP and
-- IPv4, and adds nothing
abbrev pub info_of_node : List ℕ → ℕ → Bool → NodeInfo
info_of_node short port hidden = record { port = port; node_type = type_of hidden; protocol = 0; highest = 6; lowest = 5; name = short; extra = [] }
