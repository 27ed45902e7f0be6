use Rattle.dist_core_ends.proofs.{Words.◌≡◌, Words.IfSome, Words.Option, Words.sym, Words.◌∙◌, Words.subst, Words.Why, Naming.found, Naming.every}
use Rattle.dist_core_ends.proofs.why.Why.of_name.Goals as goal
use Rattle.dist_core_ends.specs.Words.{why_word, why_of}

pub returns-clause-found : goal.returns-clause-found
unfolding why_of
returns-clause-found c =
    let P : Option Why → Type 0 = λ o. IfSome o (λ w. why_word w ≡ c.args.word.now) in
    subst P (sym c.first_with_word.ensures) (found c.args.word.now)

pub returns-clause-every : goal.returns-clause-every
unfolding why_of
returns-clause-every c why same = c.first_with_word.ensures ∙ every c.args.word.now why same
