-- The record of each end that is up fits the cookie that its node has now for the end's peer. The laws say that this stays so.
use Rattle.std.specs.Prelude.{◌≡◌, ℕ, Some, slice_get}
use Rattle.dist_core_ends.specs.declared.known.UpRecord.{UpRecord}
use Rattle.dist_core_ends.specs.declared.known.End.TheVariants as ends
use Rattle.dist_core_setup.specs.Rules.{own_digest}
use Rattle.dist_core.specs.Node.{NodeState}

-- the record of each end that is up holds the digest of the cookie that the node has for the end's peer, and of the end's own
-- challenge
abbrev pub AreRight : NodeState → Type 0
AreRight n = (i : ℕ) (r : UpRecord) → slice_get n.ends i ≡ Some (ends.Up r) → r.digest_received ≡ own_digest n.setup r.peer r.challenge
