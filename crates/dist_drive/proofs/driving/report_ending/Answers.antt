use Rattle.dist_drive.proofs.Words.{◌≡◌, List, ◌++◌, sym, refl, subst, Step, ReportsLoss, Ending}
use Rattle.dist_drive.proofs.Shown.{notes}
use Rattle.dist_drive.proofs.driving.report_ending.Goals as goal

pub returns-in-Fault-clause-noted : goal.returns-in-Fault-clause-noted
returns-in-Fault-clause-noted g c =
    let P : Ending → Type 0 = λ e. (losses : List Step) × (g.D.Desk.facts.list c.step.new.self ≡ g.D.Desk.facts.list c.args.desk.now ++ losses) × ReportsLoss g.D.Desk.facts c.args.end_ c.args.desk.now e losses in
    subst P (sym c.in-Fault.is) (notes g.D.Desk.facts c.args.end_ c.args.desk.now c.step.new.self c.in-Fault.why c.step.result c.step.ensures.ok c.step.ensures.err c.step.ensures.refused (c.step.ensures.loss refl))
