-- WHAT A SIDE SAYS OF ITSELF in a handshake: its name, its flags and its creation (ERTS User's Guide, Distribution Protocol, Distribution
-- Handshake: `send_name`, `send_challenge`, `send_complement`).
use Rattle.std.specs.Prelude.{ℕ, List, [], ◌∷◌, Option, Some, None, option_map}
use Rattle.dist_messages.specs.declared.message.Message.TheVariants as message
use Rattle.dist_messages.specs.declared.message.Side.{Side}
use Rattle.dist_names.specs.{Flags.low_half, Flags.of_halves, declared.flags.Flags.Flags, declared.creation.Creation.Creation}
use Rattle.dist_talk.specs.{Handshake.said_by, Opened.complement_behind, Opened.first_of, declared.described.NodeDescription.NodeDescription}
use Rattle.dist_talk.specs.declared.handshake.{Handshake.Handshake, SentContent.SentContent, SentMessage.SentMessage}
use Rattle.dist_talk.specs.declared.handshake.SentContent.TheVariants as content

-- a name, flags, and a creation, if it was said
abbrev pub Description : Type 0
Description = List ℕ × Flags × Option Creation

-- what a name or a challenge says; an older one has the lower half of the flags, and no creation
abbrev pub description_in : SentContent → Option Description
description_in (content.Message (message.NewName flags creation name)) = Some (name, flags, Some creation)
description_in (content.Message (message.NewChallenge flags challenge creation name)) = Some (name, flags, Some creation)
description_in (content.Message (message.OldName low name)) = Some (name, record { 0 = low }, None)
description_in (content.Message (message.OldChallenge low challenge name)) = Some (name, record { 0 = low }, None)
description_in other = None

-- the upper half and the creation stand in the complement behind an older name
abbrev pub completed : Option (ℕ × Creation) → Description → Description
completed (Some (high, creation)) (name, flags, None) = (name, record { 0 = of_halves high (low_half flags.0) }, Some creation)
completed complement description = description

-- what the first name or challenge of these messages says, with its complement
abbrev pub first_description : List SentMessage → Option Description
first_description [] = None
first_description (s ∷ behind) = first_of (option_map (completed (complement_behind behind)) (description_in s.content)) (first_description behind)

abbrev pub description_of : Side → Handshake → Option Description
description_of side h = first_description (said_by side h)

-- the same as the code has it
abbrev pub view_of : NodeDescription → Description
view_of d = (d.name.now, d.flags, d.creation)
