use Rattle.dist_drive.proofs.Words.{inr, rules}
use Rattle.dist_drive.proofs.{Shown.says_as, Steps.newest}
use Rattle.dist_drive.proofs.driving.hand_on.Goals as goal

pub returns-clause-hands : goal.returns-clause-hands
returns-clause-hands g c =
    let made = c.in-Ok.ensures.ok in
    let same = newest _ _ _ _ made.1 c.in-Some.ensures in
    inr (record { number = _; reply = made.0; number_is = search rules; list_is = made.1; says = says_as _ _ same c.say_reply.ensures.says })
