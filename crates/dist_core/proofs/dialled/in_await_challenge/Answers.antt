use Rattle.dist_core.proofs.Words.{◌≡◌, true, false, sym, ◌∙◌, knows_six, opens_new}
use Rattle.dist_core.proofs.dialled.in_await_challenge.Goals as goal

pub returns-in-NewChallenge-clause-effect : goal.returns-in-NewChallenge-clause-effect
returns-in-NewChallenge-clause-effect c es id =
    let six : knows_six c.args.setup.now ≡ true = sym c.knows_six.ensures ∙ c.if-knows_six.true in
    rw (c.in-NewChallenge.is, six, ← c.required_of.ensures) (c.answer_challenge.ensures.effect es id)

pub returns-in-OldChallenge-clause-effect : goal.returns-in-OldChallenge-clause-effect
returns-in-OldChallenge-clause-effect c es id =
    let old : opens_new c.args.setup.now c.args.attempt.now.form ≡ false = sym c.opens_new.ensures ∙ c.if-not-opens_new.true in
    rw (c.in-OldChallenge.is, old, ← c.required_of-in-OldChallenge.ensures) (c.answer_challenge-in-OldChallenge.ensures.effect es id)
