-- LAWS OF EVERY INCARNATION of a world.
use Rattle.std.specs.Prelude.{◌≡◌}
use Rattle.dist_world_model.specs.Words.{ℕ, Some, true, UpRecord, slice_get, own_digest, same_bytes}
use Rattle.dist_world_model.specs.Stones.{SaysAlone, RisesAlone, RisesUndialled, DialsIdle, RisesFirst, TakesOver, Replaces}
use Rattle.dist_world_model.specs.{Rows.EndRow, World.World, World.Life, World.runs, Holders.AreApart, Crossing.AreDecided}
use Rattle.dist_core_ends.specs.declared.known.End.TheVariants as ends

-- every incarnation of the world is so
abbrev pub AllLives : (Life → Type 0) → World → Type 0
AllLives P w = (i : ℕ) (l : Life) → slice_get w.lives i ≡ Some l → P l

-- the holders of each peer get along, at every moment
abbrev pub Apart : Life → Type 0
Apart l = AreApart l.rows

-- crossings are decided
abbrev pub Decided : Life → Type 0
Decided l = AreDecided l.node.setup.name l.rows

-- replies are sent, and ends come up, alone
abbrev pub Alone : Life → Type 0
Alone l = SaysAlone l.rows × RisesAlone l.rows × RisesUndialled l.rows

-- ends are given out, take names and come up in turn
abbrev pub InTurn : Life → Type 0
InTurn l = DialsIdle l.rows × RisesFirst l.rows × TakesOver l.rows × Replaces l.rows

-- every end of a running incarnation that is up has a row with a connection
abbrev pub UpsAreLinked : Life → Type 0
UpsAreLinked l =
    runs l ≡ true → (i : ℕ) (r : UpRecord) → slice_get l.node.ends i ≡ Some (ends.Up r)
    → (row : EndRow) × (c : ℕ) × (slice_get l.rows i ≡ Some row) × (row.conn ≡ Some c)

-- every end that is up holds the digest of the own cookie and its own challenge
abbrev pub OwnDigests : Life → Type 0
OwnDigests l =
    (i : ℕ) (r : UpRecord) → slice_get l.node.ends i ≡ Some (ends.Up r)
    → same_bytes r.digest_received (own_digest l.node.setup r.peer r.challenge) ≡ true
