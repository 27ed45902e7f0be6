-- AGREEMENT: what two running nodes have in common that each count the other as up.
use Rattle.std.specs.Prelude.{if◌then◌else◌, ◌&&◌, ◌≡◌, ◌≢◌, ◌<◌, ◌^◌, ◌⊎◌}
use Rattle.dist_world_model.specs.Words.{ℕ, List, [], Option, Some, None, UpRecord, slice_get, Setup, Creation, Happening, own_digest, AllByRecursion}
use Rattle.dist_world_model.specs.Words.{IsNodeName, common, announced_in, knows_six}
use Rattle.dist_world_model.specs.{Rows.EndRow, World.World, World.Life, World.Conn, World.running, World.empty, Run.run, Happenings.conn_of}
use Rattle.dist_world_model.specs.declared.happening.Happening.TheVariants as happening
use Rattle.dist_core_ends.specs.declared.known.End.TheVariants as ends

-- NODE a COUNTS NODE b AS UP on connection c: the running incarnation of a has an end of c that is up with b as its peer
pub record IsUp (w : World) (a b c : ℕ) : Type 0 where
  pub place : ℕ
  pub life : Life
  pub id : ℕ
  pub kept : UpRecord
  pub row : EndRow
  pub other : Setup
  pub runs : running w a ≡ Some place
  pub lives : slice_get w.lives place ≡ Some life
  pub is_up : slice_get life.node.ends id ≡ Some (ends.Up kept)
  pub beside : slice_get life.rows id ≡ Some row
  pub on : row.conn ≡ Some c
  pub named : slice_get w.setups b ≡ Some other
  pub peer : kept.peer ≡ other.name

-- the same, on whatever connection
pub record Counts (w : World) (a b : ℕ) : Type 0 where
  pub place : ℕ
  pub life : Life
  pub id : ℕ
  pub kept : UpRecord
  pub other : Setup
  pub runs : running w a ≡ Some place
  pub lives : slice_get w.lives place ≡ Some life
  pub is_up : slice_get life.node.ends id ≡ Some (ends.Up kept)
  pub named : slice_get w.setups b ≡ Some other
  pub peer : kept.peer ≡ other.name

-- NODE a TAKES SOMEBODY OUTSIDE FOR NODE b: it counts b as up on an end that has no connection of this world
abbrev pub IsFooled : World → ℕ → ℕ → Type 0
IsFooled w a b = (u : Counts w a b) × (conn_of (slice_get u.life.rows u.id) ≡ None)

-- NO IMPOSTOR IS UP: no node takes somebody outside for a node
abbrev pub NoImpostors : World → Type 0
NoImpostors w = (a b : ℕ) → IsFooled w a b → ⊥

-- A SETUP WITHOUT ITS COOKIES AND ITS ALLOW LIST, which a node may change while it runs
abbrev pub bare : Setup → Setup
bare s = record s { cookies = record { usual = []; own = [] }; allow = None }

-- THE OTHER'S CREATION WHERE KNOWN: where both know version 6
abbrev pub known_creation : Setup → Setup → Option Creation
known_creation own other = if knows_six own && knows_six other then Some other.creation else None

-- the record has the flags that both announced, the other's creation where known, and the digest of the own cookie for the
-- other and the own challenge
pub record IsAgreed (own other : Setup) (kept : UpRecord) : Type 0 where
  pub flags : kept.common.0 ≡ common (announced_in own.version own.flags.0) (announced_in other.version other.flags.0)
  pub creation : kept.creation ≡ known_creation own other
  pub digest : kept.digest_received ≡ own_digest own kept.peer kept.challenge

-- the connection was dialled by end x of incarnation i, leads to incarnation j, and its end y was accepted there
pub record Joins (k : Conn) (i x j y : ℕ) : Type 0 where
  pub life : k.life ≡ i
  pub dialler : k.dialler ≡ x
  pub target : k.target ≡ j
  pub accepted : k.accepted ≡ Some y

-- WHAT THEY HAVE IN COMMON: both ends are those of one connection, and each record agrees with the incarnations that run
pub record AreAgreed (w : World) (a b c d : ℕ) (x : IsUp w a b c) (y : IsUp w b a d) : Type 0 where
  pub same : c ≡ d
  pub conn : Conn
  pub there : slice_get w.conns c ≡ Some conn
  pub joined : Joins conn x.place x.id y.place y.id ⊎ Joins conn y.place y.id x.place x.id
  -- each incarnation has its node's name
  pub name_a : x.life.node.setup.name ≡ y.other.name
  pub name_b : y.life.node.setup.name ≡ x.other.name
  pub at_a : IsAgreed x.life.node.setup y.life.node.setup x.kept
  pub at_b : IsAgreed y.life.node.setup x.life.node.setup y.kept
  -- the two records have the same common flags
  pub shared : x.kept.common.0 ≡ y.kept.common.0

-- THE AGREEMENT of a world: any two nodes that each count the other as up
abbrev pub Agreement : World → Type 0
Agreement w = (a b c d : ℕ) → a ≢ b → (x : IsUp w a b c) (y : IsUp w b a d) → AreAgreed w a b c d x y

-- THE AGREEMENT WITH STRANGERS ABOUT: any two nodes that each count the other as up, on whatever, and take nobody outside for it
abbrev pub OpenAgreement : World → Type 0
OpenAgreement w = (a b : ℕ) → a ≢ b → (IsFooled w a b → ⊥) → (IsFooled w b a → ⊥) → (u : Counts w a b) (v : Counts w b a)
    → (c d : ℕ) × (x : IsUp w a b c) × (y : IsUp w b a d) × (x.kept ≡ u.kept) × (y.kept ≡ v.kept) × AreAgreed w a b c d x y

-- ---- what is asked of a world: the nodes' names are names, and distinct; numbers fit their types

-- the setup's name is a name, and its flags fit 64 bits
pub record IsSetup (s : Setup) : Type 0 where
  pub name : IsNodeName s.name
  pub flags : s.flags.0 < 2 ^ 64

-- setups of distinct nodes
pub record AreSetups (setups : List Setup) : Type 0 where
  pub each : (i : ℕ) (s : Setup) → slice_get setups i ≡ Some s → IsSetup s
  pub distinct : (i j : ℕ) (s r : Setup) → slice_get setups i ≡ Some s → slice_get setups j ≡ Some r → s.name ≡ r.name → i ≡ j

-- a creation or a challenge fits 32 bits
abbrev pub Fits : Happening → Type 0
Fits (happening.Begin i c) = c.0 < 2 ^ 32
Fits (happening.BeginAs i s) = let c = s.creation in c.0 < 2 ^ 32
Fits (happening.Take i id fresh) = fresh < 2 ^ 32
Fits (happening.Outside i v fresh) = fresh < 2 ^ 32
Fits h = Unit {0}

-- each of them fits
abbrev pub AllFit : List Happening → Type 0
AllFit = AllByRecursion Fits

-- A WORLD THAT CAN BE: that of distinct nodes after a list of happenings
pub record IsReached (w : World) : Type 0 where
  pub setups : List Setup
  pub happenings : List Happening
  pub good : AreSetups setups
  pub fit : AllFit happenings
  pub is : w ≡ run happenings (empty setups)
