-- What a handshake shows of the node that was dialled.
use Rattle.std.specs.Prelude.{Option, Some, None}
use Rattle.dist_messages.specs.declared.message.Side.{Side}
use Rattle.dist_talk.specs.Described.{Description, description_of}
use Rattle.dist_talk.specs.declared.handshake.Handshake.{Handshake}

-- what a side says of itself, if anything was said
abbrev pub described_in : Side → Option Handshake → Option Description
described_in side None = None
described_in side (Some h) = description_of side h
