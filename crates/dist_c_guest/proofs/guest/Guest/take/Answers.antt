use Rattle.dist_c_guest.proofs.{Common.refl, GivenBack.took-plain, GivenBack.took-wider}
use Rattle.dist_c_guest.proofs.guest.Guest.take.Goals as goal

pub returns-in_default : goal.returns-in_default
returns-in_default c = (c.refusal.ensures c.args.body.now c.args.fresh, refl)

pub returns-in_default-names : goal.returns-in_default-names
returns-in_default-names c =
    took-plain c.args.self.now c.args.id c.args.body.now c.args.fresh c.in-Ok.body c.in-Ok.names c.step.result c.step.new.self c.in-Ok.ensures c.in_default-names.is c.step.ensures.step

pub returns : goal.returns
returns c =
    took-wider c.args.self.now c.args.id c.args.body.now c.args.fresh c.in-Ok.body c.in-Ok.names c.in-Some.widened c.set_allow-before.new.self c.in-Ok.ensures c.in-Some.is
    c.set_allow-before.ensures.changed c.step-result.result c.set_allow-before.result c.step-result.new.self c.set_allow.new.self c.set_allow-before.ensures.before
    c.set_allow.ensures.changed c.step-result.ensures.step
