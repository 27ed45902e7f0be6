-- What was read of an input until a fault.
use Rattle.std.proofs.Common.{◌≡◌, ◌<◌, ◌⊎◌, inl, inr, ℕ, List, [], ◌++◌, Option, length, refl}
use Rattle.std.proofs.KnownBytes.{Consumes-nil, Consumes-trans, Consumes-kept}
use Rattle.std.specs.Io.KnownBytes.{Consumes, Keeps}
use Rattle.dist_script.specs.{Fault.StopsReading, declared.fault.ScriptFault.ScriptFault}
use Rattle.dist_script.specs.declared.fault.ScriptFault.TheVariants.{TooLong, ReadFailed, NoMemory}

-- a read that failed reads nothing
pub none_read : (a b : Option (List ℕ)) → Keeps a b → (piece : List ℕ) × Consumes a b piece
none_read a b keeps = ([], Consumes-kept a a b [] (Consumes-nil a) keeps)

-- too much was read
pub too_long : (a b : Option (List ℕ)) (text : List ℕ) → Consumes a b text → 1048576 < length text → StopsReading a b TooLong
too_long a b text taken long = record { read = text; taken = taken; cause = inl (refl, long) }

-- the next piece could not be read, or not be kept
pub not_read : (a b c : Option (List ℕ)) (text : List ℕ) (fault : ScriptFault) → Consumes a b text → (piece : List ℕ) × Consumes b c piece → (fault ≡ ReadFailed) ⊎ (fault ≡ NoMemory) → StopsReading a c fault
not_read a b c text fault taken last cause = record { read = text ++ last.0; taken = Consumes-trans a b c text last.0 taken last.1; cause = inr cause }
