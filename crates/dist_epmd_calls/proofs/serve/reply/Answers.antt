use Rattle.dist_epmd_calls.proofs.Words.{[], None, refl, inl, Says-none}
use Rattle.dist_epmd_calls.proofs.serve.reply.Goals as goal

pub returns-in_default-clause-says : goal.returns-in_default-clause-says
returns-in_default-clause-says g c = record { said = []; stop = None; says = Says-none _ _; means = inl (refl, refl, refl, c.in_default.ensures.err) }
