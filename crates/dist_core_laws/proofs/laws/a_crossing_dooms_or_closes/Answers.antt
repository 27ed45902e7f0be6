use Rattle.dist_core.proofs.Words.{Out, slice_get, refl, ap, ◌∙◌, eq-eqb, names}
use Rattle.dist_core_laws.proofs.Crossings.{by-end}
use Rattle.dist_core_laws.proofs.laws.a_crossing_dooms_or_closes.Goals as goal

pub returns : goal.returns
returns c n id say b x f legal is k = by-end n id say b x f (slice_get n.ends x.0) refl (legal b.peer Out x.0 ∙ ap (names Out x.0) is ∙ eq-eqb x.0 x.0 refl) k
