use Rattle.dist_c_guest.proofs.{GivenBack.foresaw-plain, GivenBack.foresaw-wider}
use Rattle.dist_c_guest.proofs.guest.Guest.foresee.Goals as goal

pub returns-in_default-clause-reply : goal.returns-in_default-clause-reply
returns-in_default-clause-reply c = c.refusal.ensures c.args.body.now c.args.fresh

pub returns-in_default-names-clause-reply : goal.returns-in_default-names-clause-reply
returns-in_default-names-clause-reply c =
    foresaw-plain c.args.self.now c.args.id c.args.body.now c.args.fresh c.in-Ok.body c.in-Ok.names c.answer.result c.in-Ok.ensures c.in_default-names.is c.answer.ensures.answer

pub returns-clause-reply : goal.returns-clause-reply
returns-clause-reply c =
    foresaw-wider c.args.self.now c.args.id c.args.body.now c.args.fresh c.in-Ok.body c.in-Ok.names c.in-Some.widened c.set_allow-before.new.self c.in-Ok.ensures c.in-Some.is
    c.set_allow-before.ensures.changed c.answer-result.result c.answer-result.ensures.answer
