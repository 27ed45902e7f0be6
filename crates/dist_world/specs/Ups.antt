-- Which nodes count each other as up.
use Rattle.std.specs.Prelude.{◌≡◌, ◌≢◌, ℕ, Option, Some, None}
use Rattle.dist_core_ends.specs.declared.known.UpRecord.{UpRecord}
use Rattle.dist_world_model.specs.{World.World, Agreement.IsUp, Agreement.AreAgreed, Agreement.known_creation}
use Rattle.dist_names.specs.Flags.{common}
use Rattle.dist_core_setup.specs.{declared.setup.Setup.Setup, Rules.announced_in}
use Rattle.dist_world.specs.declared.agreement.Agreement.{Agreement}

-- what was found is a connection on which node a counts node b as up, and the record there
abbrev pub FindsPeer : World → ℕ → ℕ → Option (ℕ × UpRecord) → Type 0
FindsPeer w a b None = Unit {0}
FindsPeer w a b (Some x) = (u : IsUp w a b x.0) × (u.kept ≡ x.1)

-- what is returned of two records
abbrev pub agreement_on : ℕ → UpRecord → UpRecord → Agreement
agreement_on c here there = record { conn = c; common = here.common; creation_a = there.creation; creation_b = here.creation }

abbrev pub both_agreement : Option (ℕ × UpRecord) → Option (ℕ × UpRecord) → Option Agreement
both_agreement None there = None
both_agreement (Some x) None = None
both_agreement (Some x) (Some y) = Some (agreement_on x.0 x.1 y.1)

-- what was found is that two different nodes each count the other as up: the connection of the first one's end, and the
-- values of the two records
abbrev pub FindsBoth : World → ℕ → ℕ → Option Agreement → Type 0
FindsBoth w a b None = Unit {0}
FindsBoth w a b (Some g) = (a ≢ b) × ((d : ℕ) × (x : IsUp w a b g.conn) × (y : IsUp w b a d) × (g ≡ agreement_on g.conn x.kept y.kept))

-- the setup of the incarnation that runs
abbrev pub setup_of : {w : World} {a b c : ℕ} → IsUp w a b c → Setup
setup_of x = let s = x.life in s.node.setup

-- the flags that it announces
abbrev pub flags_of : {w : World} {a b c : ℕ} → IsUp w a b c → ℕ
flags_of x = let s = x.life in announced_in s.node.setup.version s.node.setup.flags.0

-- what was returned is what the two nodes agree on: both ends are those of that connection, both records have the flags that
-- both announced, each the other's creation where known, and each holds the digest of its own cookie for the other and its
-- own challenge
abbrev pub FindsAgreed : World → ℕ → ℕ → Option Agreement → Type 0
FindsAgreed w a b None = Unit {0}
FindsAgreed w a b (Some g) = (d : ℕ) × (x : IsUp w a b g.conn) × (y : IsUp w b a d) × AreAgreed w a b g.conn d x y
    × (g.common.0 ≡ common (flags_of x) (flags_of y))
    × (g.creation_a ≡ known_creation (setup_of y) (setup_of x)) × (g.creation_b ≡ known_creation (setup_of x) (setup_of y))

-- these two records were returned, on whatever connection
abbrev pub IsReported : Option Agreement → UpRecord → UpRecord → Type 0
IsReported o here there = (c : ℕ) × (o ≡ Some (agreement_on c here there))
