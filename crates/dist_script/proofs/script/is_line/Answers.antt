use Rattle.dist_script.specs.Words.{words_of}
use Rattle.dist_script.proofs.Scripts.{an_event, no_event}
use Rattle.dist_script.proofs.script.is_line.Goals.{in-Ok, in-Err-Bad, in-Err-NoMemory}
use Rattle.dist_script.proofs.script.is_line.Goals as goal

pub returns : goal.returns
returns c =
    let words = words_of c.args.text.now in
    elim c.match-line_of.branch [
      | in-Ok w ↦ rw w.result-is (an_event words _ (rw c.new.ensures at w.in-Ok.ensures))
      | in-Err-Bad w ↦ rw w.result-is (no_event w.is_happening.result words (rw c.new.ensures at w.in-Err-Bad.ensures w.in-Err-Bad.field-0-is) w.is_happening.ensures)
      | in-Err-NoMemory w ↦ rw w.result-is (λ bad. absurd cc)
    ]
