-- What is written of the line that counts those left out is a front of it.
use Rattle.distmapd.specs.Lines.{left_out_line}
use Rattle.distmapd.proofs.log.Log.write_left_out.Goals as goal

pub returns-then-count-gt0-clause-reports : goal.returns-then-count-gt0-clause-reports
returns-then-count-gt0-clause-reports g c =
    let count = c.take_left_out-count.result in
    (count, c.put_for.ensures.puts (left_out_line c.args.self.now.form c.args.round.now count) c.left_out_line-line.ensures)
