use Rattle.std.proofs.Common.{inl, inr}
use Rattle.joining.proofs.ping.is_tag.Goals as goal

pub returns-in-None-clause-no : goal.returns-in-None-clause-no
returns-in-None-clause-no c = λ h. elim h [ inl r ↦ c.is_reference-in-None.ensures.no r | inr w ↦ absurd (c.in-None.ensures w.0 w.1) ]
