-- What a message that is read in place says.
use Rattle.std.specs.Prelude.{Bool, true, false}
use Rattle.dist_messages.specs.declared.{message.Message.Message, message_view.MessageView.MessageView}
use Rattle.dist_messages.specs.declared.message.Message.TheVariants as message
use Rattle.dist_messages.specs.declared.message_view.MessageView.TheVariants as view

-- the same message, with a name of its own
abbrev pub message_of : MessageView → Message
message_of (view.OldName flags name) = message.OldName flags name.now
message_of (view.NewName flags creation name) = message.NewName flags creation name.now
message_of (view.Status s) = message.Status s
message_of (view.OldChallenge flags challenge name) = message.OldChallenge flags challenge name.now
message_of (view.NewChallenge flags challenge creation name) = message.NewChallenge flags challenge creation name.now
message_of (view.Complement high creation) = message.Complement high creation
message_of (view.Reply challenge digest) = message.Reply challenge digest
message_of (view.Ack digest) = message.Ack digest

-- the message has a name, which may have no bytes
abbrev pub has_name : Message → Bool
has_name (message.OldName flags name) = true
has_name (message.NewName flags creation name) = true
has_name (message.OldChallenge flags challenge name) = true
has_name (message.NewChallenge flags challenge creation name) = true
has_name _ = false
