use Rattle.dist_core_ends.proofs.{Words.set, Words.ap, Words.◌∙◌, Progress.put-there}
use Rattle.dist_core_ends.proofs.slots.EndList.rise.Goals as goal
use Rattle.dist_core_ends.specs.declared.known.End.TheVariants as ends
use Rattle.dist_core_ends.specs.declared.why.Why.TheVariants as why

pub returns-in-Some : goal.returns-in-Some
returns-in-Some c =
    let up = put-there c.args.self.now.items _ c.args.id.0 _ (ends.Up c.args.kept.now) c.requires.attempt.1 c.come_up.ensures in
    rw c.in-Some.is (c.close-closed.ensures.ends ∙ ap (λ es. set es c.in-Some.x.0 (ends.Closed why.Replaced)) up)

pub returns-in_default : goal.returns-in_default
returns-in_default c =
    rw c.in_default.is (put-there c.args.self.now.items _ c.args.id.0 _ (ends.Up c.args.kept.now) c.requires.attempt.1 c.come_up.ensures)
