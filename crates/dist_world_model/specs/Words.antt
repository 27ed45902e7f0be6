-- The words of the crates below that the definitions use, passed on from one place.
pub use Rattle.std.specs.Prelude.{ℕ, zero, suc, Bool, if◌then◌else◌, List, [], ◌∷◌, ◌++◌, Option, Some, None, ◌==◌, true, false, not, ◌&&◌, ◌||◌, nat_lt}
pub use Rattle.std.specs.Prelude.{is_some, slice_get, take, drop, ◌+◌, length, is_none, option_and_then, ◌≡◌, ◌≢◌, ◌<◌, ◌^◌, ◌⊎◌, ◌≤◌, Ok}
pub use Rattle.std.specs.{Int.w16, List.AllByRecursion, Option.option_map}
pub use Rattle.dist_core.specs.{Changing.change, Changing.setup_after, Node.NodeState, Node.ends_after, Runs.opening, Runs.node_after, Step.step}
pub use Rattle.dist_core.specs.{Step.effect_of, declared.changing.Change.Change, declared.event.Event.Event, declared.reply.Reply.Reply}
pub use Rattle.dist_core_ends.specs.Ends.{Claim, is_open, is_dialing, is_claim, AreLegal}
pub use Rattle.dist_core_ends.specs.declared.phase.Kind.TheVariants.{Out, In, Up}
pub use Rattle.dist_core_ends.specs.declared.{known.End.End, known.UpRecord.UpRecord, phase.Kind.Kind, why.Why.Why}
pub use Rattle.dist_core_setup.specs.Rules.{own_digest, same_bytes, announced_in, knows_six, announced_by}
pub use Rattle.dist_core_setup.specs.declared.setup.Setup.{Setup}
pub use Rattle.dist_frames.specs.Stream.{after_first, first_body}
pub use Rattle.dist_messages.specs.{Canonical.canonical, Spelling.Fits, Spelling.is_said_by}
pub use Rattle.dist_messages.specs.declared.message.{Message.Message, Side.Side, Side.TheVariants.Dialler, Side.TheVariants.Acceptor}
pub use Rattle.dist_names.specs.Flags.{common, low_half, has_all, handshake_23}
pub use Rattle.dist_names.specs.{NodeName.IsNodeName, Order.Name, Order.same_name, declared.creation.Creation.Creation}
pub use Rattle.dist_peers.specs.declared.entry.EndId.{EndId}
pub use Rattle.dist_world_model.specs.declared.happening.Happening.{Happening}
