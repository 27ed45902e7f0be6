-- What a registration makes of an answer that was read, or of its refusal.
use Rattle.dist_epmd_calls.proofs.Words.{ℕ, Bool, true, false, cond, eqb, Ok, Err, Result, sym, refl, ap, subst, Creation, Answers, LacksText, EpmdError}
use Rattle.dist_epmd_calls.proofs.Words.{Answer, Settles, creation_in, LookupError}
use Rattle.dist_epmd.specs.declared.epmd_error.EpmdError.TheVariants as epmd
use Rattle.dist_epmd.specs.declared.message.Answer.TheVariants as answer
use Rattle.dist_epmd_calls.specs.declared.lookup_error.LookupError.TheVariants as error

abbrev taken_if : Bool → ℕ → ℕ → Result Creation LookupError
taken_if taken code creation = cond taken (Ok (record { 0 = creation })) (Err (error.Refused code))

taken_so : (code creation : ℕ) (read : Result Answer EpmdError) → Settles (taken_if (eqb code 0) code creation) (taken_if (eqb code 0) code creation) read
taken_so code creation read = elim (eqb code 0) as (λ v. Settles (taken_if v code creation) (taken_if v code creation) read) [ true ↦ refl | false ↦ refl ]

-- where an answer was read, memory did not run out
read_so : (a : Answer) (read : Result Answer EpmdError) → Settles (creation_in (Ok a)) (creation_in (Ok a)) read
read_so (answer.AliveX code creation) read = taken_so code creation read
read_so (answer.Alive code creation) read = taken_so code creation read
read_so _ read = refl

pub creation_settles : (r read : Result Answer EpmdError) → Answers (λ a. a) r read → LacksText r read → Settles (creation_in r) (creation_in read) read
creation_settles (Ok a) read given lacks = subst (λ (x : Result Answer EpmdError). Settles (creation_in (Ok a)) (creation_in x) read) (sym given) (read_so a read)
creation_settles (Err epmd.NoMemory) read given lacks = lacks
creation_settles (Err _) read given lacks = sym (ap creation_in given)
