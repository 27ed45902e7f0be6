-- What holds of the judgement as time goes on.
use Rattle.std.specs.Prelude.{◌≡◌, ℕ, ◌≤◌, Bool, true, false, List, [], ◌∷◌, ◌++◌, length, Some}
use Rattle.std.specs.{Int.w16, Int.w32, Int.from_be_bytes, List.list_all}
use Rattle.dist_conformance.specs.{declared.outcomes.Passage.Passage, declared.patterns.Pattern.Pattern, declared.steps.Demand.Demand, Judging.Observation}
use Rattle.dist_conformance.specs.declared.shapes.Shape.{Shape}
use Rattle.dist_conformance.specs.declared.patterns.Pattern.TheVariants as pattern
use Rattle.dist_conformance.specs.declared.shapes.FieldForm.TheVariants as form
use Rattle.dist_conformance.specs.declared.shapes.Framing.TheVariants as framing

-- ONE OBSERVATION IS LATER than another, at which the connection had not ended: more may have come, it may have ended, time went on.
pub record IsLater (o later : Observation) : Type 0 where
  pub more : List ℕ
  pub came : later.came ≡ o.came ++ more
  pub was_open : o.ended ≡ false
  pub time : o.elapsed ≤ later.elapsed
  pub limit : later.limit ≡ o.limit
  pub learned : later.learned ≡ o.learned
  pub cookie : later.cookie ≡ o.cookie

-- the pattern looks at bytes alone, and neither at the end nor at the time
abbrev pub looks_at_bytes : Pattern → Bool
looks_at_bytes pattern.End = false
looks_at_bytes (pattern.Silence ms) = false
looks_at_bytes (pattern.Open ms) = false
looks_at_bytes (pattern.Packets which) = false
looks_at_bytes (pattern.Names which) = false
looks_at_bytes other = true

-- the pattern fails by what came alone, and not by the time in which nothing came
abbrev pub never_stalls : Pattern → Bool
never_stalls (pattern.Packets which) = false
never_stalls other = true

-- A DEMAND WITHOUT PAUSES: none of its patterns is `packets`
abbrev pub WithoutPackets : Demand → Type 0
WithoutPackets demand = (list_all (list_all never_stalls) demand.wanted ≡ true) × (list_all (list_all never_stalls) demand.loose ≡ true)

-- THE SHAPE OF A CHALLENGE: in a frame the tag `N`, 8, 4 and 4 bytes, bytes behind their number, and what is left; the number is learned
pub record IsOfChallenges (shape : Shape) : Type 0 where
  pub framed : shape.framing ≡ framing.Frame
  pub fields : shape.fields.now ≡ form.Tag 0x4e ∷ form.Fixed 8 ∷ form.Fixed 4 ∷ form.Fixed 4 ∷ form.Sized ∷ form.Rest ∷ []
  pub number : shape.number ≡ Some 2

-- A CHALLENGE CAME, as the ERTS User's Guide has it (Distribution Handshake): in front stands a frame, a body behind its length in 2 bytes;
-- the body is `N`, flags in 8 bytes, a challenge in 4, a creation in 4, the length of a name in 2, the name, and something behind; this
-- challenge was learned.
pub record IsChallenge (came : List ℕ) (p : Passage) : Type 0 where
  pub size : List ℕ
  pub body : List ℕ
  pub rest : List ℕ
  pub frame : came ≡ size ++ body ++ rest
  pub size_bytes : length size ≡ 2
  pub counted : from_be_bytes w16 size ≡ length body
  pub flags : List ℕ
  pub challenge : List ℕ
  pub creation : List ℕ
  pub name_size : List ℕ
  pub name : List ℕ
  pub behind : List ℕ
  pub spelled : body ≡ 0x4e ∷ flags ++ challenge ++ creation ++ name_size ++ name ++ behind
  pub flags_bytes : length flags ≡ 8
  pub challenge_bytes : length challenge ≡ 4
  pub creation_bytes : length creation ≡ 4
  pub name_bytes : length name_size ≡ 2
  pub name_counted : from_be_bytes w16 name_size ≡ length name
  pub learned : p.number ≡ Some (from_be_bytes w32 challenge)
