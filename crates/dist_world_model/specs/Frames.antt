-- THE FRAMES OF A WORLD: how their bodies are spelled.
use Rattle.std.specs.Prelude.{◌≡◌, ◌⊎◌}
use Rattle.dist_world_model.specs.Words.{ℕ, List, [], Some, Side, slice_get, Setup, w16, first_body, low_half, Message, Fits, canonical, announced_by}
use Rattle.dist_world_model.specs.{Words.Happening, OwnSetups.BeginsWith, OwnSetups.applied_as}
use Rattle.dist_world_model.specs.{World.World, World.Conn, World.empty, Delivery.text_to}
use Rattle.dist_messages.specs.declared.message.Message.TheVariants as message

-- the body has no byte, as half a tick has none, or it is the canonical spelling of such a message, whose fields fit
abbrev pub IsCanonical : (Message → Type 0) → List ℕ → Type 0
IsCanonical P body = (body ≡ []) ⊎ ((m : Message) × (body ≡ canonical m) × Fits m × P m)

-- the flags of the message, where it has any, are those that a node of this setup announces, or the lower half of them
abbrev pub Announces : Setup → Message → Type 0
Announces s (message.NewName flags c p) = flags.0 ≡ announced_by s
Announces s (message.NewChallenge flags n c p) = flags.0 ≡ announced_by s
Announces s (message.OldName flags p) = flags ≡ low_half (announced_by s)
Announces s (message.OldChallenge flags n p) = flags ≡ low_half (announced_by s)
Announces s m = Unit {0}

-- EACH BODY THAT CAN BE TAKEN NEXT is such a spelling of a message with the flags of a setup with which one of the nodes began
abbrev pub AreCanonical : List Setup → List Happening → World → Type 0
AreCanonical setups happenings w =
    (c : ℕ) (k : Conn) (side : Side) (body : List ℕ) → slice_get w.conns c ≡ Some k → (let t = text_to side k in first_body w16 t.come) ≡ Some body
    → (b : ℕ) × (s : Setup) × (t : ℕ) × BeginsWith setups (applied_as happenings (empty setups) t) b s × IsCanonical (Announces s) body
