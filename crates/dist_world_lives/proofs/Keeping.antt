-- A number that is kept beside whether it was written.
use Rattle.dist_world_model.proofs.Words.{◌≡◌, ℕ, Bool, true, false, Some, None, Option, refl, once}
use Rattle.dist_world_lives.specs.Keeping.{number_if}

abbrev some : ℕ → Option ℕ
some n = Some n

abbrev none : Option ℕ
none = None

pub is_written : (b : Bool) (n : ℕ) → b ≡ true → some n ≡ number_if b n
is_written true n e = refl
is_written false n e = absurd cc

pub is_unwritten : (b : Bool) (n : ℕ) → b ≡ false → none ≡ number_if b n
is_unwritten true n e = absurd cc
is_unwritten false n e = refl

-- what was not written is written now
pub first_written : (b : Bool) (t n : ℕ) → b ≡ false → some t ≡ once true t (number_if b n)
first_written true t n e = absurd cc
first_written false t n e = refl

-- what was written stays
pub stays_written : (b : Bool) (t n : ℕ) → b ≡ true → number_if b n ≡ once true t (number_if b n)
stays_written true t n e = refl
stays_written false t n e = absurd cc
