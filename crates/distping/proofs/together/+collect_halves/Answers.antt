use Rattle.distping.proofs.together.+collect_halves.Goals as goal

pub returns-clause-printed : goal.returns-clause-printed
returns-clause-printed g t c = λ start old. c.in_ok-collect_halves.ensures.printed start
    (c.in_ok-status.ensures.printed start old)
