-- The names of flags: no two flags have the same name.
use Rattle.std.proofs.Common.{◌≡◌, ℕ, List, Some, refl, subst, IfSome}
use Rattle.dist_names.proofs.Naming as naming
use Rattle.dist_flags.specs.{Names.name_of, Names.flag_named, Names.all_flags, declared.dflag.Dflag.Dflag}
use Rattle.dist_flags.specs.declared.dflag.Dflag.TheVariants as flag

pub found : (word : List ℕ) → IfSome (flag_named word) (λ w. name_of w ≡ word)
unfolding flag_named
found word = naming.found name_of all_flags word

own : (w : Dflag) → flag_named (name_of w) ≡ Some w
unfolding flag_named
own flag.Published = refl
own w = refl

pub every : (word : List ℕ) (w : Dflag) → name_of w ≡ word → flag_named word ≡ Some w
every word w e = subst (λ (x : List ℕ). flag_named x ≡ Some w) e (own w)
