use Rattle.std.specs.Io.KnownBytes.{Appends}
use Rattle.std.proofs.{KnownBytes.Appends-trans, lemmas.Result.on_ok_weaker}
use Rattle.distnode.specs.RunPrinted.{closed_text, refused_line}
use Rattle.distnode.proofs.run.print_refusal.Goals as goal

pub returns : goal.returns
returns g c =
    let before = g.W.Write.contents c.args.out.now in
    let between = g.W.Write.contents c.print_closed.new.out in
    let after = g.W.Write.contents c.print_error.new.out in
    let all = closed_text c.args.all.now in
    let line = refused_line c.args.error in
    on_ok_weaker c.print_error.result (λ (put : Appends between after line). Appends-trans before between after all line c.in_ok-print_closed.ensures put) c.print_error.ensures
