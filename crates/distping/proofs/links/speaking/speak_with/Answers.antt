use Rattle.distping.proofs.Ends.{spoken_on}
use Rattle.distping.proofs.links.speaking.speak_with.Goals as goal

pub returns : goal.returns
returns c = spoken_on _ _ _ _ c.speak_over-handshake.ensures c.note_end.ensures
