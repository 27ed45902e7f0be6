use Rattle.dist_c_guest.proofs.Frames.{same_refusal}
use Rattle.dist_c_guest.proofs.guest.Guest.refusal.Goals as goal

pub returns : goal.returns
returns c = λ body fresh. same_refusal c.args.self.now c.args.id c.new.result body fresh c.refusal_without_memory.result c.refusal_without_memory.ensures
