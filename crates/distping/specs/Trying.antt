-- THE RESULT OF SEVERAL ADDRESSES.
use Rattle.std.specs.Prelude.{◌≡◌, ℕ, ◌≤◌, ◌⊎◌, ◌++◌, ◌∷◌, [], List, true, false, length}
use Rattle.std.specs.List.{All, IsFirstBest, slice_index_or}
use Rattle.dist_talk.specs.{Reaching.is_found, Reaching.is_further, declared.verdict.HandshakeVerdict.HandshakeVerdict}
use Rattle.distping.specs.declared.links.tries.Tries.{Tries}
use Rattle.distping_report.specs.declared.found.{Found.Found, ProbeOutcome.ProbeOutcome}

-- The result is what was found out at one address, and the verdict on it: the first of those that got furthest.
pub record IsFurthest (all : Tries) (outcome : ProbeOutcome) : Type 0 where
  pub place : ℕ
  pub best : IsFirstBest is_further all.verdicts.items (length all.verdicts.items) place
  pub verdict : (d : HandshakeVerdict) → outcome.verdict ≡ slice_index_or all.verdicts.items place d
  pub found : (d : Found) → outcome.found ≡ slice_index_or all.found.items place d

-- no node was found at an address
abbrev pub IsMissed : HandshakeVerdict → Type 0
IsMissed v = is_found v ≡ false

-- the node was found at the last of the addresses that were tried, and at none before
pub record IsFoundLast (verdicts : List HandshakeVerdict) : Type 0 where
  pub missed : List HandshakeVerdict
  pub found : HandshakeVerdict
  pub all : verdicts ≡ missed ++ found ∷ []
  pub before : All IsMissed missed
  pub last : is_found found ≡ true

-- OF SO MANY ADDRESSES, tries were made until one found the node, or as many tries as addresses
pub record AreTried (addresses : ℕ) (verdicts : List HandshakeVerdict) : Type 0 where
  pub few : length verdicts ≤ addresses
  pub until : IsFoundLast verdicts ⊎ (All IsMissed verdicts × (length verdicts ≡ addresses))
