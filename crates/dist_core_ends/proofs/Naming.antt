-- The words of causes: no two causes have the same word.
use Rattle.dist_core_ends.proofs.Words.{◌≡◌, ℕ, List, IfSome, Some, refl, subst, Why}
use Rattle.dist_names.proofs.Naming as naming
use Rattle.dist_core_ends.specs.Words.{why_word, why_of, all_whys}
use Rattle.dist_core_ends.specs.declared.why.Why.TheVariants as why

pub found : (word : List ℕ) → IfSome (why_of word) (λ w. why_word w ≡ word)
unfolding why_of
found word = naming.found why_word all_whys word

own : (w : Why) → why_of (why_word w) ≡ Some w
unfolding why_of
own why.Ended = refl
own w = refl

pub every : (word : List ℕ) (w : Why) → why_word w ≡ word → why_of word ≡ Some w
every word w e = subst (λ (x : List ℕ). why_of x ≡ Some w) e (own w)
