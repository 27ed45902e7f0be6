use Rattle.distping.proofs.Ends.{spoken_only}
use Rattle.distping.proofs.links.speaking.speak_over.Goals as goal

pub returns-then-not-is_tunnelled : goal.returns-then-not-is_tunnelled
returns-then-not-is_tunnelled c = spoken_only _ _ _ _ _ c.speak-handshake.ensures

pub returns : goal.returns
returns c = spoken_only _ _ _ _ _ c.speak-handshake-2.ensures
