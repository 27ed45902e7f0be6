-- What a call returns that makes a name, where not only the name takes memory.
use Rattle.std.proofs.Common.{ℕ, Bool, true, false, List, Result, Ok, Err}
use Rattle.dist_names.specs.Answer.{AnswersName, RefusedBut, is_name_memory_error}
use Rattle.dist_names.specs.{NodeName.name_of_bytes, declared.name_error.NameError.NameError}
use Rattle.dist_cluster.specs.Targets.{Names, RefusedOr}

refused : (is_memory : Bool) (error : NameError) (expected : Result (List ℕ) NameError) → RefusedBut is_memory error expected → RefusedOr is_memory error expected
refused true error expected h = tt
refused false error expected h = h

-- the expected name or refusal, also where memory ran out elsewhere
pub named : (result : Result (List ℕ) NameError) (bytes : List ℕ) → AnswersName result (name_of_bytes bytes) → Names result bytes
named (Ok name) bytes h = h
named (Err error) bytes h = refused (is_name_memory_error error) error (name_of_bytes bytes) h
