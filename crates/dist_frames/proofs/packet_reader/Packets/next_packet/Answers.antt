use Rattle.std.proofs.Common.{Some, Ok, ap, sym, ◌∙◌, option_copied}
use Rattle.dist_frames.proofs.LinkFronts.{none_comes, first_comes}
use Rattle.dist_frames.proofs.packet_reader.Packets.next_packet.Goals as goal

pub returns-in_default-clause-first : goal.returns-in_default-clause-first
returns-in_default-clause-first c = none_comes c.args.self.now (option_copied c.in_ok-packet.field-0) c.in_ok-packet.ensures.ok (ap option_copied c.in_default.is)

pub returns-clause-first : goal.returns-clause-first
returns-clause-first c = first_comes c.args.self.now c.drop_front.new.self (option_copied c.in_ok-packet.field-0) _ c.in_ok-packet.ensures.ok (ap option_copied c.in-Some.is ∙ ap Some (sym c.in-Ok.ensures.items)) c.drop_front.ensures

pub returns-in_default-from_slice-clause-fails : goal.returns-in_default-from_slice-clause-fails
returns-in_default-from_slice-clause-fails c = (c.in-Some.packet.now, c.in_ok-packet.ensures.ok ∙ ap Ok (ap option_copied c.in-Some.is))
