use Rattle.std.proofs.Common.{◌≡◌, ◌∙◌, subst, sym, Option, IfSome}
use Rattle.dist_flags.specs.{Names.name_of, Names.flag_named, declared.dflag.Dflag.Dflag}
use Rattle.dist_flags.proofs.Naming.{found, every}
use Rattle.dist_flags.proofs.dflag.Dflag.of_name.Goals as goal

pub returns-clause-found : goal.returns-clause-found
unfolding flag_named
returns-clause-found c =
    let P : Option Dflag → Type 0 = λ o. IfSome o (λ w. name_of w ≡ c.args.word.now) in
    subst P (sym c.flag_named.ensures) (found c.args.word.now)

pub returns-clause-every : goal.returns-clause-every
unfolding flag_named
returns-clause-every c why same = c.flag_named.ensures ∙ every c.args.word.now why same
