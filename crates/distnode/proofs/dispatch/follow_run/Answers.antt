use Rattle.distnode.proofs.Followed.{run_ended, run_refused, run_unopened}
use Rattle.distnode.proofs.dispatch.follow_run.Goals as goal

-- what the run of the file that was opened came to
pub returns-in-Ok-clause-ended : goal.returns-in-Ok-clause-ended
returns-in-Ok-clause-ended g c = λ one. run_ended _ _ _ _ _ _ _ c.in-Ok.ensures (c.run_file.ensures.ended one)

pub returns-in-Ok-clause-refused : goal.returns-in-Ok-clause-refused
returns-in-Ok-clause-refused g c =
    λ two. run_refused _ _ _ _ _ _ _ c.in-Ok.ensures (c.run_file.ensures.bad two) (c.run_file.ensures.bad_out two) (c.run_file.ensures.bad_line two)

-- it could not be opened
pub returns-in-Err-clause-ended : goal.returns-in-Err-clause-ended
returns-in-Err-clause-ended g c = λ one. run_unopened _ _ _ _ c.report_to.ensures.line
