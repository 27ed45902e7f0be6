use Rattle.distping.proofs.Halves.{half_comes}
use Rattle.distping.proofs.probing.half_of_node.Goals as goal

pub returns-clause-comes : goal.returns-clause-comes
returns-clause-comes g c = half_comes c.make_dial-dial.result _ _ c.make_dial-dial.ensures.node c.make_dial-dial.ensures.cookie c.dial_silently.result
    c.dial_silently.ensures.node c.dial_silently.ensures.comes
